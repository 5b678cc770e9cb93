-- An open path with the entries that it is lent, and how calls follow the rules over them. Assumes nothing.
use Rattle.std.specs.Prelude.{◌≡◌, ℕ, ◌≤◌, List, length, take}
use Rattle.monoid.specs.declared.path.PathTag.{PathTag}
use Rattle.path.specs.declared.open_path.OpenPath.{OpenPath}
use Rattle.path.specs.Rules.{Path}

pub record Lent : Type 0 where
  pub path : OpenPath
  pub tags : List PathTag
  pub words : List ℕ

abbrev pub lent : OpenPath → List PathTag → List ℕ → Lent
lent p ts ws = record { path = p; tags = ts; words = ws }

-- the path that it stands for: its own entries are the first ones, as many as it uses
abbrev pub view : Lent → Path
view a = record {
  state = a.path.state;
  moved = a.path.moved;
  fill = a.path.is_fill;
  first = a.path.first_point;
  tangent = a.path.first_start_tangent_end;
  own = record { tags = take a.path.tags a.tags; words = take a.path.words a.words };
}

-- the entries that it uses are there, so that it uses as many as its own
pub record Held (a : Lent) : Type 0 where
  pub tags : a.path.tags ≤ length a.tags
  pub words : a.path.words ≤ length a.words

-- so many entries have space for a path
pub record Room (m : Path) (t w : ℕ) : Type 0 where
  pub tags : length m.own.tags ≤ t
  pub words : length m.own.words ≤ w

-- a rule can be followed
pub record Ready (f : Path → Path) (a : Lent) : Type 0 where
  pub held : Held a
  pub room : Room (f (view a)) (length a.tags) (length a.words)

-- and was
pub record Does (f : Path → Path) (a b : Lent) : Type 0 where
  pub shows : view b ≡ f (view a)
  pub kept : Held b
