-- What a call comes to on a copy of a path's last entries.
use Rattle.std.proofs.Common.{◌≡◌, ℕ, ◌+◌, ◌-◌, ◌≤◌, min, Bool, true, false, cond, ltb, List, ◌++◌, length, take, drop, Some, None, sym, refl, ap, ◌∙◌, arith, length-append, length-drop, take_at, ltb-false}
use Rattle.std.specs.List.{between}
use Rattle.std.proofs.lemmas.List.Edits.{length-between}
use Rattle.std.proofs.lemmas.List.{length-take-le, take-append-drop, take-take, take_all}
use Rattle.std.proofs.lemmas.Bool.{cond_above}
use Rattle.path.specs.declared.state.Call.{Call}
use Rattle.path.specs.declared.state.Used.{Used}
use Rattle.path.specs.declared.state.Stream.TheVariants.{PathTags, PathData}
use Rattle.path.specs.Rules.{Own, call}
use Rattle.path.specs.Space.{used_by, lacks}
use Rattle.path.specs.View.{Lent, view, Held, Room, Ready, Does}
use Rattle.path.proofs.Frame.{under, Sound, local}
use Rattle.path.proofs.Most.{most}

-- as many own entries as are in use
pub own-used : (a : Lent) → Held a → used_by (view a) ≡ record { tags = a.path.tags; words = a.path.words }
own-used a h =
    let t : length (take a.path.tags a.tags) ≡ a.path.tags = length-take-le a.path.tags a.tags h.tags in
    let w : length (take a.path.words a.words) ≡ a.path.words = length-take-le a.path.words a.words h.words in
    λ i. record { tags = t i; words = w i }

sound : (a : Lent) → Held a → Sound (view a)
sound a h =
    let u = own-used a h in
    record { point = omega (arith, a.path.holds_point, ap (λ (x : Used). x.words) u); segment = omega (arith, a.path.holds_tag, ap (λ (x : Used). x.tags) u) }

-- what a call leaves is within the most that it adds
within : (c : Call) (a : Lent) → Held a → Room (call c (view a)) (a.path.tags + 3) (a.path.words + 8)
within c a h =
    let u = own-used a h in
    let r : Room (call c (view a)) ((used_by (view a)).tags + 3) ((used_by (view a)).words + 8) = most c (view a) in
    record { tags = omega (arith, r.tags, ap (λ (x : Used). x.tags) u); words = omega (arith, r.words, ap (λ (x : Used). x.words) u) }

-- so it can be made where that has space, and nothing lacks
pub ready_most : (c : Call) (a : Lent) → Held a → a.path.tags + 3 ≤ length a.tags → a.path.words + 8 ≤ length a.words → Ready (call c) a
ready_most c a h p q = let r = within c a h in record { held = h; room = record { tags = omega (arith, r.tags); words = omega (arith, r.words) } }

pub spacious : (c : Call) (a : Lent) (t w : ℕ) → Held a → a.path.tags + 3 ≤ t → a.path.words + 8 ≤ w → lacks (used_by (call c (view a))) t w ≡ None
spacious c a t w h p q =
    let r = within c a h in
    sym (cond_above t (length (call c (view a)).own.tags) (Some PathTags) _ None (omega (arith, r.tags)) (cond_above w (length (call c (view a)).own.words) (Some PathData) None None (omega (arith, r.words)) refl))

-- the lengths by the copy's
pub lengths : (c : Call) (a s b : Lent) (front : Own) (t w : ℕ) → Does (call c) s b → view a ≡ under front (view s) → Held s → min 1 (length front.tags) ≤ s.path.tags →
    t ≡ length front.tags + b.path.tags → w ≡ length front.words + b.path.words → record { tags = t; words = w } ≡ used_by (call c (view a))
lengths c a s b front t w d e h k p q =
    let o = ap (λ (x : Used). x.tags) (own-used s h) in
    let x = own-used b d.kept in
    let g : call c (view a) ≡ under front (view b) = ap (call c) e ∙ local c front (view s) (sound s h) (omega (arith, o)) ∙ ap (under front) (sym d.shows) in
    let i : t ≡ length (front.tags ++ take b.path.tags b.tags) = omega (arith, length-append front.tags (take b.path.tags b.tags), ap (λ (y : Used). y.tags) x) in
    let j : w ≡ length (front.words ++ take b.path.words b.words) = omega (arith, length-append front.words (take b.path.words b.words), ap (λ (y : Used). y.words) x) in
    (λ n. record { tags = i n; words = j n }) ∙ ap used_by (sym g)

-- the copy is the end of the whole
pub whole : {X : Type 0} (from p q : List X) (k : ℕ) → k ≤ length from → p ≡ between (length from - k) (length from) from → take (length from - k) from ++ take k (p ++ q) ≡ from
whole {X = X} from p q k h e =
    let i : length from - (length from - k) ≡ k = omega arith in
    let m : length p ≡ k = ap length e ∙ length-between from (length from - k) (length from) (omega arith) ∙ i in
    let d : length (drop (length from - k) from) ≡ k = length-drop (length from - k) from ∙ i in
    let b : p ≡ drop (length from - k) from = e ∙ take_all (length from - (length from - k)) (drop (length from - k) from) (omega (arith, d)) in
    ap (λ (z : List X). take (length from - k) from ++ z) (take_at p q k m ∙ b) ∙ take-append-drop (length from - k) from

-- of the first so many
pub whole-take : {X : Type 0} (from to : List X) (n k : ℕ) → n ≤ length from → take (length (take n from) - k) (take n from) ++ take k to ≡ take n from → take (n - k) from ++ take k to ≡ take n from
whole-take {X = X} from to n k h e =
    let l : length (take n from) ≡ n = length-take-le n from h in
    let i : take (length (take n from) - k) (take n from) ≡ take (n - k) from = ap (λ m. take (m - k) (take n from)) l ∙ take-take (n - k) n from (omega arith) in
    ap (λ (z : List X). z ++ take k to) (sym i) ∙ e

-- nothing lacks where all has space
pub enough : (u : Used) (t w : ℕ) → lacks u t w ≡ None → (u.tags ≤ t) × (u.words ≤ w)
enough u t w = go (ltb t u.tags) (ltb w u.words) refl refl
  where
    go : (x y : Bool) → ltb t u.tags ≡ x → ltb w u.words ≡ y → cond x (Some PathTags) (cond y (Some PathData) None) ≡ None → (u.tags ≤ t) × (u.words ≤ w)
    go true y p q h = let z : ◌≡◌ {A = ℕ} 0 1 = cc in (omega arith, omega arith)
    go false true p q h = let z : ◌≡◌ {A = ℕ} 0 1 = cc in (omega arith, omega arith)
    go false false p q h = (ltb-false t u.tags p, ltb-false w u.words q)
