-- The draw commands of the log, one more at a time. Assumes nothing.
use Rattle.std.proofs.Common.{◌≡◌, ℕ, zero, suc, ◌+◌, ◌-◌, ◌%◌, ◌<◌, ◌≤◌, List, [], ◌∷◌, ◌++◌, map, length, take, drop, Some, None, sym, refl, ap, ◌∙◌, subst, inl, inr, arith, length-append, length-drop}
use Rattle.std.specs.List.{slice_get, flat_map}
use Rattle.std.proofs.lemmas.List.{length-map, map_push, flat_map_more, take_at, drop-append-le}
use Rattle.std.proofs.Math.Seq.{drop-append-add}
use Rattle.monoid.specs.declared.draw.DrawTag.{DrawTag}
use Rattle.monoid.specs.Clips.{Bic, bic, from_tag}
use Rattle.encoding.specs.Tags.{draw_tag}
use Rattle.replay.specs.Log.{Entry, entry}
use Rattle.replay.specs.Wanted.{clipped, begin_tag, end-tag, Meets, words_in, drawn_total}
use Rattle.replay.proofs.Lists.{part_append, nth_append, nth_snoc, nth_last}
use Rattle.replay.proofs.Clips.{Stack, Among, Depths, stack-none, stack_plain, stack-begin, stack-end, apart}

abbrev pub tags_of : List Entry → List DrawTag
tags_of xs = map (λ (x : Entry). x.tag) xs

pub tags_snoc : (xs : List Entry) (x : Entry) → tags_of (xs ++ x ∷ []) ≡ tags_of xs ++ x.tag ∷ []
tags_snoc xs x = map_push (λ (y : Entry). y.tag) xs x

length-tags : (xs : List Entry) → length (tags_of xs) ≡ length xs
length-tags xs = length-map xs (λ (y : Entry). y.tag)

abbrev pub EndsAt : List DrawTag → Entry → ℕ → Type 0
EndsAt ds x k = (b : ℕ) × (x.closes ≡ Some b) × Meets ds b k × ((i : ℕ) → Meets ds i k → i ≡ b)

module _ (ds : List DrawTag) (d : DrawTag) (i k : ℕ) (l : k < length ds) where
  same-between : i < k → take (k - (i + 1)) (drop (i + 1) (ds ++ d ∷ [])) ≡ take (k - (i + 1)) (drop (i + 1) ds)
  same-between h = part_append (k - (i + 1)) (i + 1) ds (d ∷ []) (omega arith)

  meets-up : Meets ds i k → Meets (ds ++ d ∷ []) i k
  meets-up h = record {
    before = h.before;
    begin = nth_append ds (d ∷ []) i (omega (arith, h.before)) ∙ h.begin;
    end = nth_append ds (d ∷ []) k l ∙ h.end;
    between = ap clipped (same-between h.before) ∙ h.between;
  }

  meets-down : Meets (ds ++ d ∷ []) i k → Meets ds i k
  meets-down h = record {
    before = h.before;
    begin = sym (nth_append ds (d ∷ []) i (omega (arith, h.before))) ∙ h.begin;
    end = sym (nth_append ds (d ∷ []) k l) ∙ h.end;
    between = sym (ap clipped (same-between h.before)) ∙ h.between;
  }

ends_on : (ds : List DrawTag) (d : DrawTag) (x : Entry) (k : ℕ) → k < length ds → EndsAt ds x k → EndsAt (ds ++ d ∷ []) x k
ends_on ds d x k l h = (h.0, h.1, meets-up ds d h.0 k l h.2, λ i m. h.3 i (meets-down ds d i k l m))

-- the tags from i to the end are those between i and a tag that comes next
next_between : (ds : List DrawTag) (d : DrawTag) (i : ℕ) → i < length ds → take (length ds - (i + 1)) (drop (i + 1) (ds ++ d ∷ [])) ≡ drop (i + 1) ds
next_between ds d i l =
    ap (take (length ds - (i + 1))) (drop-append-le (i + 1) ds (d ∷ []) (omega arith))
    ∙ take_at (drop (i + 1) ds) (d ∷ []) (length ds - (i + 1)) (length-drop (i + 1) ds)

among_deep : (ds : List DrawTag) (i n : ℕ) (bs : List ℕ) → Depths ds n bs → Among i bs → (m : ℕ) × (n ≤ m) × (clipped (drop (i + 1) ds) ≡ bic 0 m)
among_deep ds i n [] h a = absurd a
among_deep ds i n (b ∷ bs) h a =
    elim a [
      | inl e ↦ (n, omega arith, subst (λ k. clipped (drop (k + 1) ds) ≡ bic 0 n) (sym e) h.0.since)
      | inr c ↦ let r = among_deep ds i (n + 1) bs h.1 c in (r.0, omega (arith, r.1), r.2)
    ]

ends_new : (ds : List DrawTag) (b : ℕ) (bs : List ℕ) (x : Entry) → x.closes ≡ Some b → Stack ds (b ∷ bs) → EndsAt (ds ++ end-tag ∷ []) x (length ds)
ends_new ds b bs x e h =
    let top = h.standing.0 in (
      b,
      e,
      record {
        before = top.place;
        begin = nth_append ds (end-tag ∷ []) b top.place ∙ top.begin;
        end = nth_last ds end-tag;
        between = ap clipped (next_between ds end-tag b top.place) ∙ top.since;
      },
      λ i m.
          let none : clipped (drop (i + 1) ds) ≡ bic 0 0 = sym (ap clipped (next_between ds end-tag i m.before)) ∙ m.between in
          elim (h.others i (sym (nth_append ds (end-tag ∷ []) i m.before) ∙ m.begin)) [
            | inl a ↦ elim a [
              | inl same ↦ same
              | inr c ↦ let r = among_deep ds i 1 bs h.standing.1 c in let z : r.0 ≡ 0 = ap (λ (q : Bic). q.pushes) (sym r.2 ∙ none) in absurd (omega (arith, z, r.1))
            ]
            | inr c ↦ let z : (clipped (drop (i + 1) ds)).pops ≡ 0 = ap (λ (q : Bic). q.pops) none in absurd (omega (arith, z, c))
          ],
    )

-- every command has the words that its tag says
abbrev pub Sized : List Entry → Type 0
Sized [] = Unit {0}
Sized (x ∷ xs) = (length x.words ≡ words_in x.tag) × Sized xs

sized_snoc : (xs : List Entry) (x : Entry) → Sized xs → length x.words ≡ words_in x.tag → Sized (xs ++ x ∷ [])
sized_snoc [] x h k = (k, tt)
sized_snoc (y ∷ xs) x h k = (h.0, sized_snoc xs x h.1 k)

pub record Right (xs : List Entry) (bs : List ℕ) : Type 0 where
  pub stack : Stack (tags_of xs) bs
  pub sized : Sized xs
  pub ends : (k : ℕ) (x : Entry) → slice_get xs k ≡ Some x → x.tag ≡ end-tag → EndsAt (tags_of xs) x k

pub right-none : Right [] []
right-none = record { stack = stack-none; sized = tt; ends = λ k x h e. let bad : ◌≡◌ {A = ℕ} 0 1 = cc in absurd (omega arith) }

old_end : (xs : List Entry) (y : Entry) → ((k : ℕ) (x : Entry) → slice_get xs k ≡ Some x → x.tag ≡ end-tag → EndsAt (tags_of xs) x k) → (k : ℕ) (x : Entry) → k < length xs → slice_get xs k ≡ Some x → x.tag ≡ end-tag → EndsAt (tags_of (xs ++ y ∷ [])) x k
old_end xs y h k x l n e = subst (λ ds. EndsAt ds x k) (sym (tags_snoc xs y)) (ends_on (tags_of xs) y.tag x k (omega (arith, length-tags xs)) (h k x n e))

module _ (xs : List Entry) (y : Entry) (bs : List ℕ) (h : Right xs bs) (size : length y.words ≡ words_in y.tag) where
  right-other : (cs : List ℕ) → Stack (tags_of xs ++ y.tag ∷ []) cs → (y.tag ≡ end-tag → ⊥) → Right (xs ++ y ∷ []) cs
  right-other cs s ne = record {
    stack = subst (λ ds. Stack ds cs) (sym (tags_snoc xs y)) s;
    sized = sized_snoc xs y h.sized size;
    ends = λ k x n e. elim (nth_snoc xs y k x n) [
      | inl p ↦ old_end xs y h.ends k x p.0 p.1 e
      | inr p ↦ absurd (ne (ap (λ (z : Entry). z.tag) p.1 ∙ e))
    ];
  }

  pub right-plain : from_tag y.tag ≡ bic 0 0 → (y.tag ≡ begin_tag → ⊥) → (y.tag ≡ end-tag → ⊥) → Right (xs ++ y ∷ []) bs
  right-plain none nb ne = right-other bs (stack_plain (tags_of xs) bs y.tag none nb h.stack) ne

  pub right-begin : y.tag ≡ begin_tag → Right (xs ++ y ∷ []) (length xs ∷ bs)
  right-begin e =
      right-other (length xs ∷ bs)
      (subst (λ d. Stack (tags_of xs ++ d ∷ []) (length xs ∷ bs)) (sym e) (subst (λ n. Stack (tags_of xs ++ begin_tag ∷ []) (n ∷ bs)) (length-tags xs) (stack-begin (tags_of xs) bs h.stack)))
      (λ f. apart (sym f ∙ e))

pub right_end : (xs : List Entry) (b : ℕ) (bs : List ℕ) → Right xs (b ∷ bs) → Right (xs ++ entry 0x21 [] (Some b) ∷ []) bs
right_end xs b bs h =
    let y : Entry = entry 0x21 [] (Some b) in
    record {
      stack = subst (λ ds. Stack ds bs) (sym (tags_snoc xs y)) (stack-end (tags_of xs) b bs h.stack);
      sized = sized_snoc xs y h.sized refl;
      ends = λ k x n e. elim (nth_snoc xs y k x n) [
        | inl p ↦ old_end xs y h.ends k x p.0 p.1 e
        | inr p ↦
            let at = ends_new (tags_of xs) b bs x (ap (λ (z : Entry). z.closes) (sym p.1)) h.stack in
            subst (λ ds. EndsAt ds x k) (sym (tags_snoc xs y)) (subst (λ j. EndsAt (tags_of xs ++ end-tag ∷ []) x j) (length-tags xs ∙ sym p.0) at)
      ];
    }

-- the words, one after the other

abbrev pub words_of : List Entry → List ℕ
words_of xs = flat_map (λ (x : Entry). x.words) xs

pub words-total : (xs : List Entry) → Sized xs → (drawn_total (tags_of xs)).words ≡ length (words_of xs)
words-total [] h = refl
words-total (x ∷ xs) h = (λ i. sym h.0 i + words-total xs h.1 i) ∙ sym (length-append x.words (words_of xs))

pub words-at : (xs : List Entry) (k : ℕ) (x : Entry) → Sized xs → slice_get xs k ≡ Some x → (length x.words ≡ words_in x.tag) × (take (length x.words) (drop (drawn_total (take k (tags_of xs))).words (words_of xs)) ≡ x.words)
words-at [] k x s h = let bad : ◌≡◌ {A = ℕ} 0 1 = cc in absurd (omega arith)
words-at (y ∷ xs) zero x s h =
    let e : y ≡ x = cc in
    subst (λ (z : Entry). (length z.words ≡ words_in z.tag) × (take (length z.words) (y.words ++ words_of xs) ≡ z.words)) e (s.0, take_at y.words (words_of xs) (length y.words) refl)
words-at (y ∷ xs) (suc k) x s h =
    let r = words-at xs k x s.1 h in
    let n = (drawn_total (take k (tags_of xs))).words in
    (r.0, ap (take (length x.words)) (ap (λ j. drop (j + n) (y.words ++ words_of xs)) (sym s.0) ∙ drop-append-add y.words (words_of xs) n) ∙ r.1)

pub words_snoc : (xs : List Entry) (y : Entry) → words_of (xs ++ y ∷ []) ≡ words_of xs ++ y.words
words_snoc xs y = sym (flat_map_more (λ (x : Entry). x.words) [] xs y)

pub clips-total : (ds : List DrawTag) (d : DrawTag) → (drawn_total (ds ++ d ∷ [])).clips ≡ (drawn_total ds).clips + d.0 % 2
clips-total [] d = omega arith
clips-total (e ∷ ds) d = ap (λ n. e.0 % 2 + n) (clips-total ds d) ∙ omega arith

-- and the sheet's, one more at a time

pub record Drawings (ds : List DrawTag) (vs : List ℕ) (clips opens : ℕ) (xs : List Entry) (bs : List ℕ) : Type 0 where
  pub tags : ds ≡ tags_of xs
  pub words : vs ≡ words_of xs
  pub clip_count : (drawn_total ds).clips ≡ clips
  pub depth : opens ≡ length bs
  pub right : Right xs bs

pub drawings-none : Drawings [] [] 0 0 [] []
drawings-none = record { tags = refl; words = refl; clip_count = refl; depth = refl; right = right-none }

module _ (ds : List DrawTag) (vs : List ℕ) (clips opens : ℕ) (xs : List Entry) (bs : List ℕ) (h : Drawings ds vs clips opens xs bs) where
  add : (y : Entry) (c o : ℕ) (cs : List ℕ) → c ≡ clips + y.tag.0 % 2 → o ≡ length cs → Right (xs ++ y ∷ []) cs → Drawings (ds ++ y.tag ∷ []) (vs ++ y.words) c o (xs ++ y ∷ []) cs
  add y c o cs ec eo r = record {
    tags = ap (λ l. l ++ y.tag ∷ []) h.tags ∙ sym (tags_snoc xs y);
    words = ap (λ l. l ++ y.words) h.words ∙ sym (words_snoc xs y);
    clip_count = clips-total ds y.tag ∙ ap (λ k. k + y.tag.0 % 2) h.clip_count ∙ sym ec;
    depth = eo;
    right = r;
  }

  pub drawings-color : (c : ℕ) → Drawings (ds ++ draw_tag 0x44 ∷ []) (vs ++ c ∷ []) clips opens (xs ++ entry 0x44 (c ∷ []) None ∷ []) bs
  drawings-color c =
      let y : Entry = entry 0x44 (c ∷ []) None in
      add y clips opens bs (omega arith) h.depth (right-plain xs y bs h.right refl refl (λ e. let z = ap (λ (t : DrawTag). t.0) e in omega arith) (λ e. let z = ap (λ (t : DrawTag). t.0) e in omega arith))

  pub drawings-blurred : (c w ht r d : ℕ) → Drawings (ds ++ draw_tag 0x2d4 ∷ []) (vs ++ c ∷ w ∷ ht ∷ r ∷ d ∷ []) clips opens (xs ++ entry 0x2d4 (c ∷ w ∷ ht ∷ r ∷ d ∷ []) None ∷ []) bs
  drawings-blurred c w ht r d =
      let y : Entry = entry 0x2d4 (c ∷ w ∷ ht ∷ r ∷ d ∷ []) None in
      add y clips opens bs (omega arith) h.depth (right-plain xs y bs h.right refl refl (λ e. let z = ap (λ (t : DrawTag). t.0) e in omega arith) (λ e. let z = ap (λ (t : DrawTag). t.0) e in omega arith))

  pub drawings-begin : (b a : ℕ) → Drawings (ds ++ begin_tag ∷ []) (vs ++ b ∷ a ∷ []) (clips + 1) (opens + 1) (xs ++ entry 0x49 (b ∷ a ∷ []) None ∷ []) (length xs ∷ bs)
  drawings-begin b a =
      let y : Entry = entry 0x49 (b ∷ a ∷ []) None in
      add y (clips + 1) (opens + 1) (length xs ∷ bs) refl (omega (arith, h.depth)) (right-begin xs y bs h.right refl refl)

pub drawings-end : (ds : List DrawTag) (vs : List ℕ) (clips opens : ℕ) (xs : List Entry) (b : ℕ) (bs : List ℕ) → Drawings ds vs clips opens xs (b ∷ bs) → Drawings (ds ++ end-tag ∷ []) (vs ++ []) (clips + 1) (opens - 1) (xs ++ entry 0x21 ([]) (Some b) ∷ []) bs
drawings-end ds vs clips opens xs b bs h =
    let y : Entry = entry 0x21 ([]) (Some b) in
    add ds vs clips opens xs (b ∷ bs) h y (clips + 1) (opens - 1) bs refl (omega (arith, h.depth)) (right_end xs b bs h.right)
