-- What a call's rule says, and what the call promises of it. Assumes nothing.
use Rattle.std.specs.Prelude.{◌≡◌, ℕ, List, [], ◌∷◌, drop, Some, None, Ok, Err, Option, Result}
use Rattle.monoid.specs.declared.path.PathTag.{PathTag}
use Rattle.monoid.specs.declared.draw.DrawTag.{DrawTag}
use Rattle.path.specs.declared.open_path.OpenPath.{OpenPath}
use Rattle.path.specs.Rules.{Path}
use Rattle.path.specs.View.{lent, view}
use Rattle.encoding.specs.declared.encoding.Encoding.{Encoding}
use Rattle.encoding.specs.declared.path_encoder.PathEncoder.{PathEncoder}
use Rattle.values.specs.declared.transform.Transform.{Transform}
use Rattle.values.specs.declared.style.Style.{Style}
use Rattle.values.specs.declared.error.Stream.{Stream}
use Rattle.values.specs.declared.error.EncodeError.{EncodeError}
use Rattle.values.specs.declared.room.Room.{Room}
use Rattle.values.specs.Streams.{room}
use Rattle.values.specs.Errors.{short, full, or_else, told}
use Rattle.encoding.specs.Sheet.{Streams, Sheet, sheet, used_in, space_in, with_draws, with_styles, with_transforms, with_tags, with_paths, with_open}

-- A call: the streams that it works on, lowest first; its own reason to decline (3, 4, 5); what it
-- answers and what it leaves if it is accepted.
pub record Rule (V : Type 0) : Type 0 where
  pub on : List Stream
  pub own : Sheet → Option EncodeError
  pub answer : Sheet → V
  pub next : Sheet → Sheet

abbrev pub rooms : List Stream → Sheet → Streams → List Room
rooms [] s m = []
rooms (x ∷ xs) s m = room x (used_in s x) (space_in m x) ∷ rooms xs s m

-- why a call is declined, if it is: 1; 3, 4, 5; 2, in this order, and 2 by what it would leave
abbrev pub reason : {V : Type 0} → Rule V → Sheet → Streams → Option EncodeError
reason k s m = or_else (short (rooms k.on s m)) (or_else (k.own s) (full (rooms k.on (k.next s) m)))

-- an accepted call leaves what its rule says, and a declined one what was there
abbrev pub left_by : {S : Type 0} → Option EncodeError → S → S → S
left_by None was next = next
left_by (Some e) was next = was

-- what every call promises, with the sheet before it and after it: its whole answer, and all that is
-- used, counted and flagged then
pub record Answered {V : Type 0} (k : Rule V) (s : Sheet) (m : Streams) (r : Result V EncodeError) (s' : Sheet) : Type 0 where
  pub says : r ≡ told (reason k s m) (k.answer s)
  pub leaves : s' ≡ left_by (reason k s m) s (k.next s)

-- a call that is brought two streams promises it whatever the other four hold

abbrev pub OnDraws : {V : Type 0} → Rule V → Encoding → List DrawTag → List ℕ → Result V EncodeError → Encoding → List DrawTag → List ℕ → Type 0
OnDraws k e ts ws r e' ts' ws' = (m : Streams) → Answered k (sheet e (with_draws m ts ws)) (with_draws m ts ws) r (sheet e' (with_draws m ts' ws'))

abbrev pub OnStyles : {V : Type 0} → Rule V → Encoding → List PathTag → List Style → Result V EncodeError → Encoding → List PathTag → List Style → Type 0
OnStyles k e ts xs r e' ts' xs' = (m : Streams) → Answered k (sheet e (with_styles m ts xs)) (with_styles m ts xs) r (sheet e' (with_styles m ts' xs'))

abbrev pub OnTransforms : {V : Type 0} → Rule V → Encoding → List PathTag → List Transform → Result V EncodeError → Encoding → List PathTag → List Transform → Type 0
OnTransforms k e ts xs r e' ts' xs' = (m : Streams) → Answered k (sheet e (with_transforms m ts xs)) (with_transforms m ts xs) r (sheet e' (with_transforms m ts' xs'))

abbrev pub OnTags : {V : Type 0} → Rule V → Encoding → List PathTag → List DrawTag → Result V EncodeError → Encoding → List PathTag → List DrawTag → Type 0
OnTags k e ts ds r e' ts' ds' = (m : Streams) → Answered k (sheet e (with_tags m ts ds)) (with_tags m ts ds) r (sheet e' (with_tags m ts' ds'))

-- an open path's own entries are those behind the ones that the Encoding uses
abbrev pub own_path : Encoding → OpenPath → Streams → Path
own_path e o m = view (lent o (drop e.path_tags m.path_tags) (drop e.path_data m.path_data))

abbrev pub open_sheet : Encoding → OpenPath → Streams → Sheet
open_sheet e o m = with_open (Some (record { path = own_path e o m; tags = o.tags; words = o.words })) (sheet e m)

-- what a PathEncoder and the six streams stand for: the sheet at `encode_path`, and the open path
abbrev pub path_sheet : PathEncoder → Streams → Sheet
path_sheet p m = open_sheet p.encoding p.path m

abbrev pub OnPath : {V : Type 0} → Rule V → PathEncoder → List PathTag → List ℕ → Result V EncodeError → PathEncoder → List PathTag → List ℕ → Type 0
OnPath k p ts ws r p' ts' ws' = (m : Streams) → Answered k (path_sheet p (with_paths m ts ws)) (with_paths m ts ws) r (path_sheet p' (with_paths m ts' ws'))

-- a finish answers a count with the Encoding, or a refusal with the PathEncoder

abbrev pub count_of : Result (Encoding × ℕ) (EncodeError × PathEncoder) → Result ℕ EncodeError
count_of (Ok x) = Ok x.1
count_of (Err x) = Err x.0

abbrev pub sheet_of : Result (Encoding × ℕ) (EncodeError × PathEncoder) → Streams → Sheet
sheet_of (Ok x) m = sheet x.0 m
sheet_of (Err x) m = path_sheet x.1 m

abbrev pub OnFinish : Rule ℕ → PathEncoder → List PathTag → List ℕ → Result (Encoding × ℕ) (EncodeError × PathEncoder) → List PathTag → List ℕ → Type 0
OnFinish k p ts ws r ts' ws' = (m : Streams) → Answered k (path_sheet p (with_paths m ts ws)) (with_paths m ts ws) (count_of r) (sheet_of r (with_paths m ts' ws'))
