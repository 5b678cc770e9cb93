-- The space that a path takes. Assumes nothing.
use Rattle.std.specs.Prelude.{ℕ, ◌+◌, Bool, cond, ◌&&◌, length, Some, None, Option, nat_le, nat_lt}
use Rattle.path.specs.declared.state.Used.{Used}
use Rattle.path.specs.declared.state.Stream.{Stream}
use Rattle.path.specs.declared.state.Stream.TheVariants.{PathTags, PathData}
use Rattle.path.specs.Rules.{Path}

-- the entries that a path uses
abbrev pub used_by : Path → Used
used_by m = record { tags = length m.own.tags; words = length m.own.words }

-- the lowest stream of so many entries that they pass
abbrev pub lacks : Used → ℕ → ℕ → Option Stream
lacks u t w = cond (nat_lt t u.tags) (Some PathTags) (cond (nat_lt w u.words) (Some PathData) None)

-- space for the most that a call adds
abbrev pub roomy : Used → ℕ → ℕ → Bool
roomy u t w = nat_le (u.tags + 3) t && nat_le (u.words + 8) w
