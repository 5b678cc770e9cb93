-- How much a list of sources can count, for each kind. Assumes nothing.
use Rattle.std.specs.Prelude.{◌≡◌, ℕ, ◌+◌, ◌*◌, ◌≤◌, Bool, true, false, cond, not, List, [], ◌∷◌, length, ◌==◌, refl}
use Rattle.std.proofs.Common.{arith}
use mir.Val.{bool_byte}
use Rattle.std.proofs.lemmas.Nat.{mul-le}
use Rattle.monoid.specs.Laws.{reduced}
use Rattle.monoid.specs.DrawTags as draw
use Rattle.monoid.specs.Clips as clip
use Rattle.monoid.specs.PathTags as tags
use Rattle.monoid.specs.declared.draw.DrawTag.{DrawTag}
use Rattle.monoid.specs.declared.path.PathTag.{PathTag}

cond_le : (b : Bool) → cond b 0 1 ≤ 1
cond_le true = omega arith
cond_le false = omega arith

-- a test as the code counts it, and as the rules do
pub counted : (zero : Bool) → bool_byte (not zero) ≡ cond zero 0 1
counted true = refl
counted false = refl

abbrev drawn : List DrawTag → draw.Draws
drawn = reduced draw.none draw.plus draw.from_tag

pub draws_few : (ss : List DrawTag) →
    ((drawn ss).paths ≤ length ss) × ((drawn ss).clips ≤ length ss) × ((drawn ss).words ≤ 7 * length ss) × ((drawn ss).info ≤ 15 * length ss)
draws_few [] = (omega arith, omega arith, omega arith, omega arith)
draws_few (s ∷ ss) = let h = draws_few ss in let one = cond_le (s.0 == 0) in (omega arith, omega arith, omega arith, omega arith)

abbrev clipped : List DrawTag → clip.Bic
clipped = reduced clip.still clip.after clip.from_tag

either : (begins ends : Bool) →
    let x = cond begins (clip.bic 0 1) (cond ends (clip.bic 1 0) clip.still) in x.pops + x.pushes ≤ 1
either true ends = omega arith
either false true = omega arith
either false false = omega arith

pub clips_few : (ss : List DrawTag) → (clipped ss).pops + (clipped ss).pushes ≤ length ss
clips_few [] = omega arith
clips_few (s ∷ ss) = let h = clips_few ss in let one = either (s.0 == 0x49) (s.0 == 0x21) in omega arith

-- each count is at most that of n tags
abbrev pub OfTags : ℕ → tags.Counts → Type 0
OfTags n x = (x.transforms ≤ n) × (x.segments ≤ n) × (x.words ≤ 8 * n) × (x.styles ≤ 2 * n) × (x.paths ≤ n)

pub tag_few : (t : PathTag) → OfTags 1 (tags.from_tag t)
tag_few t =
    let one = cond_le (tags.segment_type t == 0) in
    let words = mul-le (tags.segment_type t + tags.bit 2 t) (1 + tags.bit 3 t) 4 2 (omega arith) (omega arith) in
    (omega arith, omega arith, omega arith, omega arith, omega arith)

pub plus_few : (m n : ℕ) (x y : tags.Counts) → OfTags m x → OfTags n y → OfTags (m + n) (tags.plus x y)
plus_few m n x y h k = (omega arith, omega arith, omega arith, omega arith, omega arith)

pub tags_few : (ts : List PathTag) → OfTags (length ts) (reduced tags.none tags.plus tags.from_tag ts)
tags_few [] = (omega arith, omega arith, omega arith, omega arith, omega arith)
tags_few (t ∷ ts) =
    let h = tags_few ts in
    let k = tag_few t in
    (omega arith, omega arith, omega arith, omega arith, omega arith)

pub words_few : (ws : List ℕ) → OfTags (4 * length ws) (reduced tags.none tags.plus tags.from_word ws)
words_few [] = (omega arith, omega arith, omega arith, omega arith, omega arith)
words_few (w ∷ ws) =
    let h = words_few ws in
    let k = tags_few (tags.tags_of w) in
    (omega arith, omega arith, omega arith, omega arith, omega arith)
