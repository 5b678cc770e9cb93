-- The segments that a row of path tags shows, one by one. Assumes nothing.
use Rattle.std.proofs.Common.{◌≡◌, ℕ, suc, ◌+◌, ◌/◌, ◌≤◌, Bool, true, false, cond, not, eqb, List, [], ◌∷◌, ◌++◌, map, length, Some, Option, sym, refl, ap, ◌∙◌, subst, arith, length-append}
use Rattle.std.specs.List.{slice_get, filter}
use Rattle.std.proofs.lemmas.Bool.{false≢true}
use Rattle.monoid.specs.declared.path.PathTag.{PathTag}
use Rattle.monoid.specs.Laws.{reduced}
use Rattle.monoid.specs.PathTags.{Counts, none, plus, from_tag, segment_type, is_segment}
use Rattle.monoid.proofs.Packs.{plus_laws}
use Rattle.path.specs.Turns.{reads}
use Rattle.values.specs.declared.transform.Transform.{Transform}
use Rattle.values.specs.declared.style.Style.{Style}
use Rattle.replay.specs.Calls.{Chosen}
use Rattle.replay.specs.Log.{Segment}
use Rattle.replay.specs.Wanted.{Shows, StyledAs, MovedAs, last_counted}
use Rattle.replay.proofs.Lists.{part_append, counted-append}

-- what tags count, one by one
abbrev pub total : List PathTag → Counts
total = reduced none plus from_tag

-- the words, transforms and styles that segments are shown by
pub record Store : Type 0 where
  pub words : List ℕ
  pub transforms : List Transform
  pub styles : List Style

abbrev pub At : Store → Counts → PathTag → Segment → Type 0
At r c t x = Shows r.words r.transforms r.styles c t x

-- a segment tag takes the first of xs, and any other none
abbrev Head : Bool → (List Segment → Type 0) → (Segment → Type 0) → List Segment → Type 0
Head false P Q xs = P xs
Head true P Q [] = ⊥
Head true P Q (x ∷ xs) = Q x × P xs

abbrev pub Reads : Store → Counts → List PathTag → List Segment → Type 0
Reads r c [] xs = xs ≡ []
Reads r c (t ∷ ts) xs = Head (is_segment t) (λ ys. Reads r (plus c (from_tag t)) ts ys) (λ x. At r c t x) xs

head_++ : (b : Bool) (P P' : List Segment → Type 0) (Q Q' : Segment → Type 0) (xs ys : List Segment) → ((zs : List Segment) → P zs → P' (zs ++ ys)) → ((x : Segment) → Q x → Q' x) → Head b P Q xs → Head b P' Q' (xs ++ ys)
head_++ false P P' Q Q' xs ys f q h = f xs h
head_++ true P P' Q Q' [] ys f q h = absurd h
head_++ true P P' Q Q' (x ∷ xs) ys f q h = (q x h.0, f xs h.1)

pub reads_++ : (r : Store) (c : Counts) (ts us : List PathTag) (xs ys : List Segment) → Reads r c ts xs → Reads r (plus c (total ts)) us ys → Reads r c (ts ++ us) (xs ++ ys)
reads_++ r c [] us xs ys h k = subst (λ zs. Reads r c us (zs ++ ys)) (sym h) (subst (λ d. Reads r d us ys) (plus_laws.right c) k)
reads_++ r c (t ∷ ts) us xs ys h k =
    head_++ (is_segment t) (λ zs. Reads r (plus c (from_tag t)) ts zs) (λ zs. Reads r (plus c (from_tag t)) (ts ++ us) zs) (λ x. At r c t x) (λ x. At r c t x) xs ys
    (λ zs h'. reads_++ r (plus c (from_tag t)) ts us zs ys h' (subst (λ d. Reads r d us ys) (sym (plus_laws.assoc c (from_tag t) (total ts))) k))
    (λ x q. q) h

head_map : (b : Bool) (P P' : List Segment → Type 0) (Q Q' : Segment → Type 0) (xs : List Segment) → ((zs : List Segment) → P zs → P' zs) → ((x : Segment) → Q x → Q' x) → Head b P Q xs → Head b P' Q' xs
head_map false P P' Q Q' xs f q h = f xs h
head_map true P P' Q Q' [] f q h = absurd h
head_map true P P' Q Q' (x ∷ xs) f q h = (q x h.0, f xs h.1)

-- entries are only added to

abbrev pub grown : Store → List ℕ → List Transform → List Style → Store
grown r ws tr st = record { words = r.words ++ ws; transforms = r.transforms ++ tr; styles = r.styles ++ st }

module _ (r : Store) (ws : List ℕ) (tr : List Transform) (st : List Style) where
  shows-grown : (c : Counts) (t : PathTag) (x : Segment) → At r c t x → At (grown r ws tr st) c t x
  shows-grown c t x h =
      let wl = length-append r.words ws in
      let sl = length-append r.styles st in
      let tl = length-append r.transforms tr in
      record {
        tag = h.tag;
        inside = omega (arith, h.inside, wl);
        points = part_append (reads t) c.words r.words ws h.inside ∙ h.points;
        styled = omega (arith, h.styled, sl);
        style = subst (λ o. StyledAs o x.style) (sym (counted-append r.styles st (c.styles / 2) h.styled)) h.style;
        moved = omega (arith, h.moved, tl);
        transform = subst (λ o. MovedAs o x.transform) (sym (counted-append r.transforms tr c.transforms h.moved)) h.transform;
      }

  pub reads-grown : (c : Counts) (ts : List PathTag) (xs : List Segment) → Reads r c ts xs → Reads (grown r ws tr st) c ts xs
  reads-grown c [] xs h = h
  reads-grown c (t ∷ ts) xs h =
      head_map (is_segment t) (λ ys. Reads r (plus c (from_tag t)) ts ys) (λ ys. Reads (grown r ws tr st) (plus c (from_tag t)) ts ys) (λ x. At r c t x) (λ x. At (grown r ws tr st) c t x) xs
      (λ zs. reads-grown (plus c (from_tag t)) ts zs) (λ x. shows-grown c t x) h

-- in order

kept_head : (b : Bool) (t : PathTag) (ts : List PathTag) (P : List Segment → Type 0) (Q : Segment → Type 0) (xs : List Segment) → ((x : Segment) → Q x → x.tag ≡ t) → ((zs : List Segment) → P zs → filter is_segment ts ≡ map (λ (x : Segment). x.tag) zs) → Head b P Q xs → cond b (t ∷ filter is_segment ts) (filter is_segment ts) ≡ map (λ (x : Segment). x.tag) xs
kept_head false t ts P Q xs q f h = f xs h
kept_head true t ts P Q [] q f h = absurd h
kept_head true t ts P Q (x ∷ xs) q f h = ap (λ u. u ∷ filter is_segment ts) (sym (q x h.0)) ∙ ap (λ l. x.tag ∷ l) (f xs h.1)

module _ (r : Store) where
  pub reads_kept : (c : Counts) (ts : List PathTag) (xs : List Segment) → Reads r c ts xs → filter is_segment ts ≡ map (λ (x : Segment). x.tag) xs
  reads_kept c [] xs h = sym (ap (map (λ (x : Segment). x.tag)) h)
  reads_kept c (t ∷ ts) xs h =
      kept_head (is_segment t) t ts (λ ys. Reads r (plus c (from_tag t)) ts ys) (λ x. At r c t x) xs (λ x q. q.tag) (λ zs. reads_kept (plus c (from_tag t)) ts zs) h

  abbrev pub Found : Counts → List PathTag → PathTag → List Segment → Type 0
  Found c before t xs = (x : Segment) × (slice_get xs (total before).segments ≡ Some x) × At r (plus c (total before)) t x

  found_here : (b : Bool) (c : Counts) (t : PathTag) (P : List Segment → Type 0) (xs : List Segment) → b ≡ true → Head b P (λ x. At r c t x) xs → Found c [] t xs
  found_here false c t P xs b h = absurd (false≢true b)
  found_here true c t P [] b h = absurd h
  found_here true c t P (x ∷ xs) b h = (x, refl, subst (λ d. At r d t x) (sym (plus_laws.right c)) h.0)

  found-later : (z : Bool) (c : Counts) (u t : PathTag) (before : List PathTag) (P : List Segment → Type 0) (Q : Segment → Type 0) (xs : List Segment) → eqb (segment_type u) 0 ≡ z → ((zs : List Segment) → P zs → Found (plus c (from_tag u)) before t zs) → Head (not z) P Q xs → Found c (u ∷ before) t xs
  found-later true c u t before P Q xs e f h =
      let k = f xs h in
      let none : (from_tag u).segments ≡ 0 = ap (λ z. cond z 0 1) e in
      let at : (from_tag u).segments + (total before).segments ≡ (total before).segments = omega arith in
      (k.0, ap (slice_get xs) at ∙ k.1, subst (λ d. At r d t k.0) (plus_laws.assoc c (from_tag u) (total before)) k.2)
  found-later false c u t before P Q [] e f h = absurd h
  found-later false c u t before P Q (x ∷ xs) e f h =
      let k = f xs h.1 in
      let one : (from_tag u).segments ≡ 1 = ap (λ z. cond z 0 1) e in
      let at : (from_tag u).segments + (total before).segments ≡ suc (total before).segments = omega arith in
      (k.0, ap (slice_get (x ∷ xs)) at ∙ k.1, subst (λ d. At r d t k.0) (plus_laws.assoc c (from_tag u) (total before)) k.2)

  pub reads-each : (c : Counts) (before : List PathTag) (t : PathTag) (later : List PathTag) (xs : List Segment) → is_segment t ≡ true → Reads r c (before ++ t ∷ later) xs → Found c before t xs
  reads-each c [] t later xs s h = found_here (is_segment t) c t (λ ys. Reads r (plus c (from_tag t)) later ys) xs s h
  reads-each c (u ∷ before) t later xs s h =
      found-later (eqb (segment_type u) 0) c u t before (λ ys. Reads r (plus c (from_tag u)) (before ++ t ∷ later) ys) (λ x. At r c u x) xs refl
      (λ zs. reads-each (plus c (from_tag u)) before t later zs s) h

  -- the style and the transform that are counted before a path

  pub record Around (st : Option Chosen) (tr : Option Transform) (c : Counts) : Type 0 where
    pub styled : c.styles / 2 ≤ length r.styles
    pub style : StyledAs (last_counted r.styles (c.styles / 2)) st
    pub moved : c.transforms ≤ length r.transforms
    pub transform : MovedAs (last_counted r.transforms c.transforms) tr

  pub around-on : (st : Option Chosen) (tr : Option Transform) (c d : Counts) → c.styles ≡ d.styles → c.transforms ≡ d.transforms → Around st tr c → Around st tr d
  around-on st tr c d es et h = record {
    styled = subst (λ n. n / 2 ≤ length r.styles) es h.styled;
    style = subst (λ n. StyledAs (last_counted r.styles (n / 2)) st) es h.style;
    moved = subst (λ n. n ≤ length r.transforms) et h.moved;
    transform = subst (λ n. MovedAs (last_counted r.transforms n) tr) et h.transform;
  }

  pub head-segment : (t : PathTag) (P : List Segment → Type 0) (Q : Segment → Type 0) (x : Segment) (xs : List Segment) (b : Bool) → b ≡ true → Q x → P xs → Head b P Q (x ∷ xs)
  head-segment t P Q x xs true e q p = (q, p)
  head-segment t P Q x xs false e q p = absurd (false≢true e)
