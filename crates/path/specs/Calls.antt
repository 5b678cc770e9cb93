-- What a call on an open path answers and leaves. Assumes nothing.
use Rattle.std.specs.Prelude.{◌≡◌, ℕ, Bool, List, length, take, Some, None, Ok, Err, Option, Result}
use Rattle.monoid.specs.declared.path.PathTag.{PathTag}
use Rattle.path.specs.declared.open_path.OpenPath.{OpenPath}
use Rattle.path.specs.declared.state.Call.{Call}
use Rattle.path.specs.declared.state.Call.TheVariants.{Finish}
use Rattle.path.specs.declared.state.Used.{Used}
use Rattle.path.specs.declared.state.Stream.{Stream}
use Rattle.path.specs.declared.state.Declined.{Declined}
use Rattle.path.specs.declared.state.Declined.TheVariants.{Short, Full}
use Rattle.path.specs.declared.state.Finished.{Finished}
use Rattle.path.specs.Rules.{Path, leave, finish, call}
use Rattle.path.specs.Space.{used_by, lacks}
use Rattle.path.specs.View.{Lent, lent, view, Does}

-- the entries in use
abbrev pub in_use : OpenPath → Used
in_use p = record { tags = p.tags; words = p.words }

-- the lowest stream that lacks some of them
abbrev pub lacking : Used → Lent → Option Stream
lacking u a = lacks u (length a.tags) (length a.words)

abbrev pub or_else : (Stream → Declined) → Option Stream → Option Declined → Option Declined
or_else f None o = o
or_else f (Some s) o = Some (f s)

-- why a call is declined: a stream is shorter than what is in use, or has no space for what the call leaves
unfoldable pub declined : Call → Lent → Option Declined
declined c a = or_else Short (lacking (in_use a.path) a) (or_else Full (lacking (used_by (call c (view a))) a) None)

abbrev pub answer : {V : Type 0} → Option Declined → V → Result V Declined
answer None v = Ok v
answer (Some d) v = Err d

abbrev pub said : Option Declined → Result (Unit {0}) Declined
said o = answer o tt

-- an accepted call follows its rule, and a declined one changes nothing
abbrev pub After : Option Declined → Call → Lent → Lent → Type 0
After None c a b = Does (call c) a b
After (Some d) c a b = b ≡ a

pub record Answered (c : Call) (a : Lent) (r : Result (Unit {0}) Declined) (b : Lent) : Type 0 where
  pub says : r ≡ said (declined c a)
  pub after : After (declined c a) c a b

-- what a call would leave in use
abbrev pub needs : Call → Lent → Result Used Declined
needs c a = answer (or_else Short (lacking (in_use a.path) a) None) (used_by (call c (view a)))

-- a finished path: the entries are its own, as many as it says, and each segment is a tag but for the path's
abbrev pub finished_by : Bool → Path → Finished
finished_by mark m = record { used = used_by (finish mark m); segments = length (leave m).own.tags }

pub record Done (mark : Bool) (a : Lent) (f : Finished) (ts : List PathTag) (ws : List ℕ) : Type 0 where
  pub accepted : declined (Finish mark) a ≡ None
  pub says : f ≡ finished_by mark (view a)
  pub tags : take f.used.tags ts ≡ (finish mark (view a)).own.tags
  pub words : take f.used.words ws ≡ (finish mark (view a)).own.words

-- a declined finish gives the path back
abbrev pub Ended : Bool → Lent → Result Finished (OpenPath × Declined) → List PathTag → List ℕ → Type 0
Ended mark a (Ok f) ts ws = Done mark a f ts ws
Ended mark a (Err e) ts ws = (declined (Finish mark) a ≡ Some e.1) × (lent e.0 ts ws ≡ a)
