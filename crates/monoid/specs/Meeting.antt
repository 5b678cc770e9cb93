-- Which begin an end meets. Assumes nothing.
use Rattle.std.specs.Prelude.{◌≡◌, ℕ, suc, ◌+◌, ◌-◌, ◌<◌, cond, List, [], ◌∷◌, take, drop, Some, None, Option, ◌==◌, slice_index_or}
use Rattle.monoid.specs.Clips.{still, after, from_tag}
use Rattle.monoid.specs.Laws.{reduced}
use Rattle.monoid.specs.declared.draw.DrawTag.{DrawTag}

abbrev pub closing : List ℕ → List ℕ
closing [] = []
closing (i ∷ rest) = rest

-- the places of the begins that are open after the tag at place i, the latest first: a begin opens, and an end closes
-- the latest begin open
abbrev pub opened : ℕ → List ℕ → DrawTag → List ℕ
opened i held t = cond (t.0 == 0x49) (i ∷ held) (cond (t.0 == 0x21) (closing held) held)

-- and after a list of tags of which the first is at place i
abbrev pub open_after : ℕ → List ℕ → List DrawTag → List ℕ
open_after i held [] = held
open_after i held (t ∷ ts) = open_after (suc i) (opened i held t) ts

abbrev pub latest : List ℕ → Option ℕ
latest [] = None
latest (i ∷ rest) = Some i

abbrev nop : DrawTag
nop = record { 0 = 0 }

-- the begin that the tag at place j meets: if it is an end, the latest begin open before it
abbrev pub met_by : List DrawTag → ℕ → Option ℕ
met_by ts j = cond ((slice_index_or ts j nop).0 == 0x21) (latest (open_after 0 [] (take j ts))) None

-- r is the begin that the end at place j meets. A begin at place i before it is that one exactly when the tags between
-- them, as clip records, reduce to (0, 0)
abbrev pub MeetsByReduction : List DrawTag → ℕ → Option ℕ → Type 0
MeetsByReduction ts j r = (i : ℕ) → i < j → (slice_index_or ts i nop).0 ≡ 0x49 → (slice_index_or ts j nop).0 ≡ 0x21 →
    let between = reduced still after from_tag (take (j - (i + 1)) (drop (i + 1) ts)) in
    (r ≡ Some i → between ≡ still) × (between ≡ still → r ≡ Some i)
