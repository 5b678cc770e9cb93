-- The begins that are open after some draw tags, and where each stands. Assumes nothing.
use Rattle.std.proofs.Common.{◌≡◌, ℕ, ◌+◌, ◌<◌, ◌⊎◌, List, [], ◌∷◌, ◌++◌, length, drop, Some, sym, refl, ap, ◌∙◌, subst, inl, inr, arith, length-append, rules}
use Rattle.std.specs.List.{slice_get}
use Rattle.std.proofs.Math.Seq.{drop-append-add}
use Rattle.std.proofs.lemmas.List.{drop-append-le}
use Rattle.monoid.specs.declared.draw.DrawTag.{DrawTag}
use Rattle.monoid.specs.Laws.{Laws}
use Rattle.monoid.specs.Clips.{Bic, bic, still, after, from_tag}
use Rattle.monoid.proofs.Reducing.{reduced-append, reduced-one}
use Rattle.replay.specs.Wanted.{clipped, begin_tag, end-tag}
use Rattle.replay.proofs.Lists.{nth_append, nth_snoc, nth_last}

pub same-bic : {p q : Bic} → p.pops ≡ q.pops → p.pushes ≡ q.pushes → p ≡ q
same-bic a b = λ i. record { pops = a i; pushes = b i }

pub laws : Laws still after
laws = search rules

pub apart : end-tag ≡ begin_tag → ⊥
apart e = let z : ◌≡◌ {A = ℕ} 0x21 0x49 = ap (λ (t : DrawTag). t.0) e in omega arith

clips_snoc : (ds : List DrawTag) (d : DrawTag) → clipped (ds ++ d ∷ []) ≡ after (clipped ds) (from_tag d)
clips_snoc ds d = reduced-append laws from_tag ds (d ∷ []) ∙ ap (after (clipped ds)) (reduced-one laws from_tag d)

abbrev pub Among : ℕ → List ℕ → Type 0
Among i [] = ⊥
Among i (b ∷ bs) = (i ≡ b) ⊎ Among i bs

-- the begin at b is open, with n others open after it
pub record Begun (ds : List DrawTag) (n b : ℕ) : Type 0 where
  pub place : b < length ds
  pub begin : slice_get ds b ≡ Some begin_tag
  pub since : clipped (drop (b + 1) ds) ≡ bic 0 n

abbrev pub Depths : List DrawTag → ℕ → List ℕ → Type 0
Depths ds n [] = Unit {0}
Depths ds n (b ∷ bs) = Begun ds n b × Depths ds (n + 1) bs

-- bs are the places of the begins still open, the latest first
pub record Stack (ds : List DrawTag) (bs : List ℕ) : Type 0 where
  pub depth : clipped ds ≡ bic 0 (length bs)
  pub standing : Depths ds 0 bs
  pub others : (i : ℕ) → slice_get ds i ≡ Some begin_tag → Among i bs ⊎ (0 < (clipped (drop (i + 1) ds)).pops)

pub stack-depth : (ds : List DrawTag) (bs : List ℕ) → Stack ds bs → clipped ds ≡ bic 0 (length bs)
stack-depth ds bs h = h.depth

after_snoc : (ds : List DrawTag) (d : DrawTag) (b : ℕ) → b < length ds → clipped (drop (b + 1) (ds ++ d ∷ [])) ≡ after (clipped (drop (b + 1) ds)) (from_tag d)
after_snoc ds d b h = ap clipped (drop-append-le (b + 1) ds (d ∷ []) (omega arith)) ∙ clips_snoc (drop (b + 1) ds) d

module _ (ds : List DrawTag) (d : DrawTag) (a b : ℕ) (step : (k : ℕ) → after (bic 0 (k + a)) (from_tag d) ≡ bic 0 (k + b)) where
  depths-snoc : (n : ℕ) (bs : List ℕ) → Depths ds (n + a) bs → Depths (ds ++ d ∷ []) (n + b) bs
  depths-snoc n [] h = tt
  depths-snoc n (c ∷ bs) h =
      let one : (n + a) + 1 ≡ (n + 1) + a = omega arith in
      let two : (n + 1) + b ≡ (n + b) + 1 = omega arith in (
        record {
          place = omega (arith, h.0.place, length-append ds (d ∷ []));
          begin = nth_append ds (d ∷ []) c h.0.place ∙ h.0.begin;
          since = after_snoc ds d c h.0.place ∙ ap (λ p. after p (from_tag d)) h.0.since ∙ step n;
        },
        subst (λ k. Depths (ds ++ d ∷ []) k bs) two (depths-snoc (n + 1) bs (subst (λ k. Depths ds k bs) one h.1)),
      )

-- what was closed stays closed
still-closed : (ds : List DrawTag) (d : DrawTag) (i : ℕ) → i < length ds → 0 < (clipped (drop (i + 1) ds)).pops → 0 < (clipped (drop (i + 1) (ds ++ d ∷ []))).pops
still-closed ds d i l h =
    let p = clipped (drop (i + 1) ds) in
    let q = from_tag d in
    let more : 0 < (after p q).pops = omega arith in
    subst (λ c. 0 < c.pops) (sym (after_snoc ds d i l)) more

pub stack-none : Stack [] []
stack-none = record { depth = refl; standing = tt; others = λ i h. let bad : ◌≡◌ {A = ℕ} 0 1 = cc in absurd (omega arith) }

pub stack_plain : (ds : List DrawTag) (bs : List ℕ) (d : DrawTag) → from_tag d ≡ bic 0 0 → (d ≡ begin_tag → ⊥) → Stack ds bs → Stack (ds ++ d ∷ []) bs
stack_plain ds bs d e ne h = record {
  depth = clips_snoc ds d ∙ (λ i. after (h.depth i) (e i)) ∙ laws.right (bic 0 (length bs));
  standing = depths-snoc ds d 0 0 (λ k. ap (after (bic 0 (k + 0))) e ∙ laws.right (bic 0 (k + 0))) 0 bs h.standing;
  others = λ i n. elim (nth_snoc ds d i begin_tag n) [
    | inl p ↦ elim (h.others i p.1) [ inl a ↦ inl a | inr c ↦ inr (still-closed ds d i p.0 c) ]
    | inr p ↦ absurd (ne p.1)
  ];
}

pub stack-begin : (ds : List DrawTag) (bs : List ℕ) → Stack ds bs → Stack (ds ++ begin_tag ∷ []) (length ds ∷ bs)
stack-begin ds bs h = record {
  depth = clips_snoc ds begin_tag ∙ ap (λ p. after p (bic 0 1)) h.depth ∙ same-bic (omega arith) (omega arith);
  standing = (
    record {
      place = omega (arith, length-append ds (begin_tag ∷ []));
      begin = nth_last ds begin_tag;
      since = ap clipped (drop-append-add ds (begin_tag ∷ []) 1);
    },
    depths-snoc ds begin_tag 0 1 (λ k. same-bic (omega arith) (omega arith)) 0 bs h.standing,
  );
  others = λ i n. elim (nth_snoc ds begin_tag i begin_tag n) [
    | inl p ↦ elim (h.others i p.1) [ inl a ↦ inl (inr a) | inr c ↦ inr (still-closed ds begin_tag i p.0 c) ]
    | inr p ↦ inl (inl p.0)
  ];
}

pub stack-end : (ds : List DrawTag) (b : ℕ) (bs : List ℕ) → Stack ds (b ∷ bs) → Stack (ds ++ end-tag ∷ []) bs
stack-end ds b bs h = record {
  depth = clips_snoc ds end-tag ∙ ap (λ p. after p (bic 1 0)) h.depth ∙ same-bic (omega arith) (omega arith);
  standing = depths-snoc ds end-tag 1 0 (λ k. same-bic (omega arith) (omega arith)) 0 bs h.standing.1;
  others = λ i n. elim (nth_snoc ds end-tag i begin_tag n) [
    | inl p ↦ elim (h.others i p.1) [
      | inl a ↦ elim a [ inl e ↦ inr (closed-now i e) | inr c ↦ inl c ]
      | inr c ↦ inr (still-closed ds end-tag i p.0 c)
    ]
    | inr p ↦ absurd (apart p.1)
  ];
}
  where
    closed-now : (i : ℕ) → i ≡ b → 0 < (clipped (drop (i + 1) (ds ++ end-tag ∷ []))).pops
    closed-now i e =
        let top = h.standing.0 in
        let one : clipped (drop (b + 1) (ds ++ end-tag ∷ [])) ≡ bic 1 0 = after_snoc ds end-tag b top.place ∙ ap (λ p. after p (bic 1 0)) top.since in
        let good : 0 < (bic 1 0).pops = omega arith in
        subst (λ k. 0 < (clipped (drop (k + 1) (ds ++ end-tag ∷ []))).pops) (sym e) (subst (λ c. 0 < c.pops) (sym one) good)
