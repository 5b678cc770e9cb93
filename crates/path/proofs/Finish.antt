-- The tags of a path at its finish.
use Rattle.std.proofs.Common.{◌≡◌, ℕ, ◌+◌, ◌<◌, ◌≤◌, Bool, true, false, cond, eqb, List, [], ◌∷◌, ◌++◌, length, take, drop, sym, refl, ap, ◌∙◌, arith, length-append, length-drop, eq-eqb, ne_eqb, eqb-true}
use borrow.Author.Tests.{eqb-false}
use Rattle.std.proofs.Math.Seq.{take-append_seam}
use Rattle.std.proofs.lemmas.List.{length-take-le}
use Rattle.monoid.specs.declared.path.PathTag.{PathTag}
use Rattle.path.specs.Entries.{end_last, finished, path_tag}
use Rattle.path.proofs.Lists.{length-end_last}

pub finished-none : (mark : Bool) (ts : List PathTag) → length ts ≡ 0 → finished mark ts ≡ ts
unfolding finished
finished-none mark ts h = ap (λ b. cond b ts (cond mark (end_last ts ++ path_tag ∷ []) (end_last ts))) (eq-eqb (length ts) 0 h)

pub finished-some : (mark : Bool) (ts : List PathTag) → 0 < length ts → finished mark ts ≡ cond mark (end_last ts ++ path_tag ∷ []) (end_last ts)
unfolding finished
finished-some mark ts h = ap (λ b. cond b ts (cond mark (end_last ts ++ path_tag ∷ []) (end_last ts))) (ne_eqb (length ts) 0 (λ e. omega arith))

more : (mark : Bool) (ts : List PathTag) → length (cond mark (end_last ts ++ path_tag ∷ []) (end_last ts)) ≡ length ts + cond mark 1 0
more true ts = length-append (end_last ts) (path_tag ∷ []) ∙ ap (λ n. n + 1) (length-end_last ts)
more false ts = let h = length-end_last ts in omega arith

pub length_some : (mark : Bool) (ts : List PathTag) → 0 < length ts → length (finished mark ts) ≡ length ts + cond mark 1 0
length_some mark ts h = ap length (finished-some mark ts h) ∙ more mark ts

one : (mark : Bool) → cond mark 1 0 ≤ 1
one true = omega arith
one false = omega arith

-- at least as many tags, and at most one more
pub bounds : (mark : Bool) (ts : List PathTag) → (length ts ≤ length (finished mark ts)) × (length (finished mark ts) ≤ length ts + 1)
bounds mark ts = go (eqb (length ts) 0) refl
  where
    go : (b : Bool) → eqb (length ts) 0 ≡ b → (length ts ≤ length (finished mark ts)) × (length (finished mark ts) ≤ length ts + 1)
    go true e = let h : length ts ≡ 0 = eqb-true (length ts) 0 e in let q = ap length (finished-none mark ts h) in (omega arith, omega arith)
    go false e = let h : 0 < length ts = omega (arith, eqb-false (length ts) 0 e) in let q = length_some mark ts h in let o = one mark in (omega arith, omega arith)

-- what `end_path` leaves
pub record Ends (mark : Bool) (ts us : List PathTag) (n r : ℕ) : Type 0 where
  pub used : r ≡ length (finished mark (take n ts))
  pub holds : take r us ≡ finished mark (take n ts)

pub end_none : (mark : Bool) (ts : List PathTag) (n : ℕ) → n ≡ 0 → n ≤ length ts → Ends mark ts ts n 0
end_none mark ts n e h =
    let l : length (take n ts) ≡ n = length-take-le n ts h in
    let f : finished mark (take n ts) ≡ take n ts = finished-none mark (take n ts) (l ∙ e) in
    record { used = sym (ap length f ∙ l ∙ e); holds = ap (λ i. take i ts) (sym e) ∙ sym f }

pub end-room : (mark : Bool) (ts : List PathTag) (n : ℕ) → mark ≡ true → 0 < n → n ≤ length ts → length (finished mark (take n ts)) ≤ length ts → n < length ts
end-room mark ts n m p h r =
    let l : length (take n ts) ≡ n = length-take-le n ts h in
    let k : 0 < length (take n ts) = omega arith in
    let e : length (finished mark (take n ts)) ≡ length (take n ts) + 1 = length_some mark (take n ts) k ∙ ap (λ b. length (take n ts) + cond b 1 0) m in
    omega arith

pub end-tag : (mark : Bool) (ts us vs : List PathTag) (n r : ℕ) → mark ≡ true → 0 < n → n ≤ length ts → take n us ≡ end_last (take n ts) → r ≡ n + 1 → take r vs ≡ take n us ++ path_tag ∷ [] → Ends mark ts vs n r
end-tag mark ts us vs n r m p h e u v =
    let l : length (take n ts) ≡ n = length-take-le n ts h in
    let k : 0 < length (take n ts) = omega arith in
    let f : finished mark (take n ts) ≡ end_last (take n ts) ++ path_tag ∷ [] = finished-some mark (take n ts) k ∙ ap (λ b. cond b (end_last (take n ts) ++ path_tag ∷ []) (end_last (take n ts))) m in
    record {
      used = omega (arith, u, l, ap length f, length-append (end_last (take n ts)) (path_tag ∷ []), length-end_last (take n ts));
      holds = v ∙ ap (λ z. z ++ path_tag ∷ []) e ∙ sym f;
    }

pub end_plain : (mark : Bool) (ts us : List PathTag) (n : ℕ) → mark ≡ false → 0 < n → n ≤ length ts → take n us ≡ end_last (take n ts) → Ends mark ts us n n
end_plain mark ts us n m p h e =
    let l : length (take n ts) ≡ n = length-take-le n ts h in
    let k : 0 < length (take n ts) = omega arith in
    let f : finished mark (take n ts) ≡ end_last (take n ts) = finished-some mark (take n ts) k ∙ ap (λ b. cond b (end_last (take n ts) ++ path_tag ∷ []) (end_last (take n ts))) m in
    record { used = omega (arith, ap length f, length-end_last (take n ts)); holds = e ∙ sym f }

-- the first so many tags, whose last has its 04, and those behind
pub ended-front : (ts us : List PathTag) (n : ℕ) → n ≤ length ts → us ≡ end_last (take n ts) → (take n (us ++ drop n ts) ≡ end_last (take n ts)) × (length (us ++ drop n ts) ≡ length ts)
ended-front ts us n h e =
    let l : length us ≡ n = ap length e ∙ length-end_last (take n ts) ∙ length-take-le n ts h in
    (ap (λ i. take i (us ++ drop n ts)) (sym l) ∙ take-append_seam us (drop n ts) ∙ e, omega (arith, length-append us (drop n ts), length-drop n ts, l, h))
