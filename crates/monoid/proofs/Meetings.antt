-- An end meets a begin before it exactly when the tags between reduce to (0, 0). Assumes nothing.
use Rattle.std.proofs.Common.{◌≡◌, ℕ, zero, suc, ◌+◌, ◌-◌, ◌<◌, ◌≤◌, min, Bool, true, false, cond, eqb, List, [], ◌∷◌, ◌++◌, length, get_or, take, drop, Some, None, sym, refl, ap, ◌∙◌, subst, append_assoc, add-zero, zero-add, arith, length-append}
use Rattle.std.proofs.lemmas.List.{drop_all, drop_more, drop-take, take-take, take-append-drop, length-take-le}
use Rattle.std.proofs.ByRecursion.{All-push, All-weaker, All-drop}
use Rattle.std.specs.List.{AllByRecursion as All}
use Rattle.monoid.specs.Laws.{reduced}
use Rattle.monoid.specs.Clips.{Bic, bic, still, after, from_tag}
use Rattle.monoid.specs.Meeting.{closing, opened, open_after, latest}
use Rattle.monoid.specs.declared.draw.DrawTag.{DrawTag}

abbrev clipped : List DrawTag → Bic
clipped = reduced still after from_tag

-- what tags from place n on do to the begins that are open: some of the latest are closed, and others are opened, all from n on
record Effect (n : ℕ) (x : Bic) (held now : List ℕ) : Type 0 where
  new : List ℕ
  count : length new ≡ x.pushes
  late : All (λ k. n ≤ k) new
  left : now ≡ new ++ drop x.pops held

begin_effect : (n a b : ℕ) (held now : List ℕ) → Effect (suc n) (bic a b) (n ∷ held) now → Effect n (after (bic 0 1) (bic a b)) held now
begin_effect n zero b held now e = record {
  new = e.new ++ (n ∷ []);
  count = simp length-append (omega (arith, e.count));
  late = All-push (λ k. n ≤ k) e.new n (All-weaker (λ k. suc n ≤ k) (λ k. n ≤ k) (λ k h. omega arith) e.new e.late) (omega arith);
  left = e.left ∙ sym (append_assoc e.new (n ∷ []) held);
}
begin_effect n (suc a) b held now e = record {
  new = e.new;
  count = omega (arith, e.count);
  late = All-weaker (λ k. suc n ≤ k) (λ k. n ≤ k) (λ k h. omega arith) e.new e.late;
  left = let pops : 0 + suc a - min 1 (suc a) ≡ a = omega arith in e.left ∙ ap (λ m. e.new ++ drop m held) (sym pops);
}

closing-drop : (a : ℕ) (held : List ℕ) → drop a (closing held) ≡ drop (suc a) held
closing-drop a [] = drop_all a [] (omega arith)
closing-drop a (k ∷ held) = refl

end_effect : (n a b : ℕ) (held now : List ℕ) → Effect (suc n) (bic a b) (closing held) now → Effect n (after (bic 1 0) (bic a b)) held now
end_effect n a b held now e = record {
  new = e.new;
  count = omega (arith, e.count);
  late = All-weaker (λ k. suc n ≤ k) (λ k. n ≤ k) (λ k h. omega arith) e.new e.late;
  left =
      let pops : 1 + a - min 0 a ≡ suc a = omega arith in
      e.left ∙ ap (λ r. e.new ++ r) (closing-drop a held) ∙ ap (λ m. e.new ++ drop m held) (sym pops);
}

still_effect : (n a b : ℕ) (held now : List ℕ) → Effect (suc n) (bic a b) held now → Effect n (after still (bic a b)) held now
still_effect n a b held now e = record {
  new = e.new;
  count = omega (arith, e.count);
  late = All-weaker (λ k. suc n ≤ k) (λ k. n ≤ k) (λ k h. omega arith) e.new e.late;
  left = let pops : 0 + a - min 0 a ≡ a = omega arith in e.left ∙ ap (λ m. e.new ++ drop m held) (sym pops);
}

one_effect : (begins ends : Bool) (n : ℕ) (held : List ℕ) (x : Bic) (run : List ℕ → List ℕ) →
    ((h : List ℕ) → Effect (suc n) x h (run h)) →
    Effect n (after (cond begins (bic 0 1) (cond ends (bic 1 0) still)) x) held (run (cond begins (n ∷ held) (cond ends (closing held) held)))
one_effect true ends n held x run e = begin_effect n x.pops x.pushes held (run (n ∷ held)) (e (n ∷ held))
one_effect false true n held x run e = end_effect n x.pops x.pushes held (run (closing held)) (e (closing held))
one_effect false false n held x run e = still_effect n x.pops x.pushes held (run held) (e held)

effect : (n : ℕ) (held : List ℕ) (ts : List DrawTag) → Effect n (clipped ts) held (open_after n held ts)
effect n held [] = record { new = []; count = refl; late = tt; left = refl }
effect n held (t ∷ ts) =
    one_effect (eqb t.0 0x49) (eqb t.0 0x21) n held (clipped ts) (λ h. open_after (suc n) h ts) (λ h. effect (suc n) h ts)

-- the begins that are open after some tags stand among them
one_early : (begins ends : Bool) (n : ℕ) (held : List ℕ) → All (λ k. k < n) held →
    All (λ k. k < suc n) (cond begins (n ∷ held) (cond ends (closing held) held))
one_early true ends n held h = (omega arith, All-weaker (λ k. k < n) (λ k. k < suc n) (λ k l. omega arith) held h)
one_early false true n [] h = tt
one_early false true n (j ∷ held) h = All-weaker (λ k. k < n) (λ k. k < suc n) (λ k l. omega arith) held h.1
one_early false false n held h = All-weaker (λ k. k < n) (λ k. k < suc n) (λ k l. omega arith) held h

early : (n : ℕ) (held : List ℕ) (ts : List DrawTag) → All (λ k. k < n) held → All (λ k. k < n + length ts) (open_after n held ts)
early n held [] h = All-weaker (λ k. k < n) (λ k. k < n + 0) (λ k l. omega arith) held h
early n held (t ∷ ts) h =
    All-weaker (λ k. k < suc n + length ts) (λ k. k < n + suc (length ts)) (λ k l. omega arith) (open_after (suc n) (opened n held t) ts)
    (early (suc n) (opened n held t) ts (one_early (eqb t.0 0x49) (eqb t.0 0x21) n held h))

open-append : (n : ℕ) (held : List ℕ) (xs ys : List DrawTag) → open_after n held (xs ++ ys) ≡ open_after (n + length xs) (open_after n held xs) ys
open-append n held [] ys = ap (λ m. open_after m held ys) (sym (add-zero n))
open-append n held (x ∷ xs) ys =
    let e : suc n + length xs ≡ n + suc (length xs) = omega arith in
    open-append (suc n) (opened n held x) xs ys ∙ ap (λ m. open_after m (open_after (suc n) (opened n held x) xs) ys) e

latest_all : (P : ℕ → Type 0) (xs : List ℕ) (k : ℕ) → All P xs → latest xs ≡ Some k → P k
latest_all P [] k h e = let z : ◌≡◌ {A = ℕ} 0 1 = cc in absurd (omega arith)
latest_all P (x ∷ xs) k h e = let same : x ≡ k = cc in subst P same h.0

-- the place i of the begin is the latest that is open exactly when nothing before it was closed and nothing after it is open
only-still : (i a b : ℕ) (held new : List ℕ) → All (λ k. k < i) held → All (λ k. suc i ≤ k) new → length new ≡ b →
    latest (new ++ drop a (i ∷ held)) ≡ Some i → bic a b ≡ still
only-still i zero b held [] before late count e = ap (bic 0) (sym count)
only-still i (suc a) b held [] before late count e =
    let less = latest_all (λ k. k < i) (drop a held) i (All-drop (λ k. k < i) a held before) e in absurd (omega arith)
only-still i a b held (k ∷ new) before late count e = let same : k ≡ i = cc in absurd (omega (arith, late.0))

then_still : (i a b : ℕ) (held new : List ℕ) → length new ≡ b → a ≡ 0 → b ≡ 0 → latest (new ++ drop a (i ∷ held)) ≡ Some i
then_still i zero b held [] count p q = refl
then_still i (suc a) b held [] count p q = absurd (omega arith)
then_still i a b held (k ∷ new) count p q = absurd (omega arith)

pub meeting : (before : List DrawTag) (begin : DrawTag) (between : List DrawTag) → begin.0 ≡ 0x49 →
    (latest (open_after 0 [] (before ++ (begin ∷ between))) ≡ Some (length before) → clipped between ≡ still)
    × (clipped between ≡ still → latest (open_after 0 [] (before ++ (begin ∷ between))) ≡ Some (length before))
meeting before begin between is =
    let i = length before in
    let held = open_after 0 [] before in
    let begins : eqb begin.0 0x49 ≡ true = ap (λ n. eqb n 0x49) is in
    let whole : open_after 0 [] (before ++ (begin ∷ between)) ≡ open_after (suc i) (i ∷ held) between =
    open-append 0 [] before (begin ∷ between)
    ∙ ap (λ m. open_after m held (begin ∷ between)) (zero-add i)
    ∙ ap (λ p. open_after (suc i) (cond p (i ∷ held) (cond (eqb begin.0 0x21) (closing held) held)) between) begins in
    let h : All (λ k. k < i) held = subst (λ (m : ℕ). All (λ k. k < m) held) (zero-add i) (early 0 [] before tt) in
    let e = effect (suc i) (i ∷ held) between in
    let x = clipped between in (
      λ m. only-still i x.pops x.pushes held e.new h e.late e.count (ap latest (sym (whole ∙ e.left)) ∙ m),
      λ m. ap latest (whole ∙ e.left) ∙ then_still i x.pops x.pushes held e.new e.count (ap (λ y. y.pops) m) (ap (λ y. y.pushes) m),
    )

-- the tags before place i, the tag there, and m after it
cut : (ts : List DrawTag) (i m : ℕ) (d : DrawTag) → i < length ts → take (i + suc m) ts ≡ take i ts ++ (get_or ts i d ∷ take m (drop (i + 1) ts))
cut ts i m d h =
    sym (take-append-drop i (take (i + suc m) ts))
    ∙ ap (λ xs. xs ++ drop i (take (i + suc m) ts)) (take-take i (i + suc m) ts (omega arith))
    ∙ ap (λ xs. take i ts ++ xs) (drop-take i (suc m) ts ∙ ap (take (suc m)) (drop_more ts i d h))

-- the begin at place i is the latest open before place j exactly when the tags between reduce to (0, 0)
pub meeting_at : (ts : List DrawTag) (i j : ℕ) (d : DrawTag) → i < j → j ≤ length ts → (get_or ts i d).0 ≡ 0x49 →
    let between = clipped (take (j - (i + 1)) (drop (i + 1) ts)) in
    (latest (open_after 0 [] (take j ts)) ≡ Some i → between ≡ still) × (between ≡ still → latest (open_after 0 [] (take j ts)) ≡ Some i)
meeting_at ts i j d less within begins =
    let m = j - (i + 1) in
    let e : j ≡ i + suc m = omega arith in
    let split : take j ts ≡ take i ts ++ (get_or ts i d ∷ take m (drop (i + 1) ts)) = ap (λ n. take n ts) e ∙ cut ts i m d (omega arith) in
    let long : length (take i ts) ≡ i = length-take-le i ts (omega arith) in
    let both = meeting (take i ts) (get_or ts i d) (take m (drop (i + 1) ts)) begins in (
      λ h. both.0 (ap (λ xs. latest (open_after 0 [] xs)) (sym split) ∙ h ∙ ap Some (sym long)),
      λ h. ap (λ xs. latest (open_after 0 [] xs)) split ∙ both.1 h ∙ ap Some long,
    )

none_open : (a : ℕ) (new held : List ℕ) → length new ≡ 0 → held ≡ new ++ drop a [] → latest held ≡ None
none_open a [] held count left = ap latest (left ∙ drop_all a [] (omega arith))
none_open a (k ∷ new) held count left = absurd (omega arith)

-- tags that leave no clip open
pub none_left : (ts : List DrawTag) (a : ℕ) → clipped ts ≡ bic a 0 → None ≡ latest (open_after 0 [] ts)
none_left ts a h =
    let e = effect 0 [] ts in
    sym (none_open (clipped ts).pops e.new (open_after 0 [] ts) (e.count ∙ ap (λ x. x.pushes) h) e.left)

-- the latest begin open is looked for from the end back: before the tags behind `left` stands t, after `before`
module _ (whole left before : List DrawTag) (t : DrawTag) (all : left ++ drop (length left) whole ≡ whole) (last : left ≡ before ++ (t ∷ [])) where
  parted : whole ≡ before ++ (t ∷ drop (length left) whole)
  parted = sym all ∙ ap (λ xs. xs ++ drop (length left) whole) last ∙ append_assoc before (t ∷ []) (drop (length left) whole)

  pub found : t.0 ≡ 0x49 → clipped (drop (length left) whole) ≡ still → Some (length before) ≡ latest (open_after 0 [] whole)
  found begins h = sym ((meeting before t (drop (length left) whole) begins).1 h) ∙ ap (λ xs. latest (open_after 0 [] xs)) (sym parted)

abbrev nop : DrawTag
nop = record { 0 = 0 }

-- an end stands among the tags
pub end_within : (ts : List DrawTag) (j : ℕ) → (get_or ts j nop).0 ≡ 0x21 → j < length ts
end_within [] j h = absurd (omega arith)
end_within (t ∷ ts) zero h = omega arith
end_within (t ∷ ts) (suc j) h = let k = end_within ts j h in omega arith
