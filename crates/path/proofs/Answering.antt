-- Why a call is declined, and what it leaves.
use Rattle.std.proofs.Common.{◌≡◌, ℕ, ◌+◌, ◌≤◌, Bool, true, false, ◌&&◌, leb, length, Some, None, Ok, Err, Option, sym, refl, ap, ◌∙◌, subst, arith, leb-true}
use Rattle.path.specs.declared.state.Call.{Call}
use Rattle.path.specs.declared.state.Stream.{Stream}
use Rattle.path.specs.declared.state.Stream.TheVariants.{PathTags, PathData}
use Rattle.std.proofs.lemmas.Bool.{cond_above}
use Rattle.path.specs.declared.state.Used.{Used}
use Rattle.path.specs.declared.state.Declined.{Declined}
use Rattle.path.specs.declared.state.Declined.TheVariants.{Short, Full}
use Rattle.path.specs.Rules.{call}
use Rattle.path.specs.Space.{used_by, roomy}
use Rattle.path.specs.View.{Lent, view, Ready, Does}
use Rattle.path.specs.Calls.{in_use, lacking, or_else, declined, answer, said, After, Answered, needs}
use Rattle.path.proofs.Copy.{enough, spacious}

-- each check by itself
pub declined-short : (c : Call) (a : Lent) (s : Stream) → lacking (in_use a.path) a ≡ Some s → declined c a ≡ Some (Short s)
unfolding declined
declined-short c a s h = ap (λ (o : Option Stream). or_else Short o (or_else Full (lacking (used_by (call c (view a))) a) None)) h

pub declined-full : (c : Call) (a : Lent) (o : Option Stream) → lacking (in_use a.path) a ≡ None → lacking (used_by (call c (view a))) a ≡ o → declined c a ≡ or_else Full o None
unfolding declined
declined-full c a o h k =
    ap (λ (x : Option Stream). or_else Short x (or_else Full (lacking (used_by (call c (view a))) a) None)) h ∙ ap (λ (x : Option Stream). or_else Full x None) k

-- a call that is not declined can be made
accepted_both : (c : Call) (a : Lent) (o : Option Stream) → lacking (in_use a.path) a ≡ o → declined c a ≡ None → (lacking (in_use a.path) a ≡ None) × (lacking (used_by (call c (view a))) a ≡ None)
accepted_both c a None h e = go (lacking (used_by (call c (view a))) a) refl
  where
    go : (p : Option Stream) → lacking (used_by (call c (view a))) a ≡ p → (lacking (in_use a.path) a ≡ None) × (lacking (used_by (call c (view a))) a ≡ None)
    go None k = (h, k)
    go (Some s) k = let z : Some (Full s) ≡ None = sym (declined-full c a (Some s) h k) ∙ e in let y : ◌≡◌ {A = ℕ} 0 1 = cc in absurd (omega arith)
accepted_both c a (Some s) h e = let z : Some (Short s) ≡ None = sym (declined-short c a s h) ∙ e in let y : ◌≡◌ {A = ℕ} 0 1 = cc in absurd (omega arith)

pub ready_accepted : (c : Call) (a : Lent) → declined c a ≡ None → Ready (call c) a
ready_accepted c a e =
    let b = accepted_both c a (lacking (in_use a.path) a) refl e in
    let h = enough (in_use a.path) _ _ b.0 in
    let r = enough (used_by (call c (view a))) _ _ b.1 in
    record { held = record { tags = h.0; words = h.1 }; room = record { tags = r.0; words = r.1 } }

-- what the check answered
pub not-declined : (o : Option Declined) → Ok tt ≡ said o → o ≡ None
not-declined None h = refl
not-declined (Some d) h = cc

pub is-declined : (o : Option Declined) (d : Declined) → Err d ≡ said o → o ≡ Some d
is-declined None d h = cc
is-declined (Some e) d h = cc

pub ready_admitted : (c : Call) (a : Lent) → Ok tt ≡ said (declined c a) → Ready (call c) a
ready_admitted c a h = ready_accepted c a (not-declined (declined c a) h)

pub accepted : (c : Call) (a b : Lent) → Ok tt ≡ said (declined c a) → Does (call c) a b → Answered c a (Ok tt) b
accepted c a b h d = record { says = h; after = subst (λ (o : Option Declined). After o c a b) (sym (not-declined (declined c a) h)) d }

pub refused : (c : Call) (a : Lent) (d : Declined) → Err d ≡ said (declined c a) → Answered c a (Err d) a
refused c a d h = record { says = h; after = subst (λ (o : Option Declined). After o c a a) (sym (is-declined (declined c a) d h)) refl }

both_true : (x y : Bool) → (x && y) ≡ true → (x ≡ true) × (y ≡ true)
both_true true y h = (refl, h)
both_true false y h = let z : ◌≡◌ {A = ℕ} 0 1 = cc in absurd (omega arith)

-- the answers of the checks
lacking-none : (o : Option Stream) (u v : Used) → Ok v ≡ answer (or_else Short o None) u → (o ≡ None) × (v ≡ u)
lacking-none None u v h = (refl, cc)
lacking-none (Some s) u v h = let y : ◌≡◌ {A = ℕ} 0 1 = cc in absurd (omega arith)

lacking-some : (o : Option Stream) (u : Used) (d : Declined) → Err d ≡ answer (or_else Short o None) u → (s : Stream) × (o ≡ Some s) × (d ≡ Short s)
lacking-some None u d h = let y : ◌≡◌ {A = ℕ} 0 1 = cc in absurd (omega arith)
lacking-some (Some s) u d h = (s, refl, cc)

pub said-short : (c : Call) (a : Lent) (d : Declined) → Err d ≡ needs c a → Err d ≡ said (declined c a)
said-short c a d h =
    let q = lacking-some (lacking (in_use a.path) a) (used_by (call c (view a))) d h in
    ap (λ (x : Declined). said (Some x)) q.2 ∙ ap said (sym (declined-short c a q.0 q.1))

pub said-full : (c : Call) (a : Lent) (u : Used) (o : Option Stream) → Ok u ≡ needs c a → o ≡ lacking u a → said (or_else Full o None) ≡ said (declined c a)
said-full c a u o h k =
    let q = lacking-none (lacking (in_use a.path) a) (used_by (call c (view a))) u h in
    ap said (sym (declined-full c a o q.0 (sym (k ∙ ap (λ (x : Used). lacking x a) q.1))))

said_spacious : (c : Call) (a : Lent) → a.path.tags + 3 ≤ length a.tags → a.path.words + 8 ≤ length a.words → Ok tt ≡ said (declined c a)
said_spacious c a p q =
    let t : a.path.tags ≤ length a.tags = omega arith in
    let w : a.path.words ≤ length a.words = omega arith in
    let h : lacking (in_use a.path) a ≡ None = sym (cond_above (length a.tags) a.path.tags (Some PathTags) _ None t (cond_above (length a.words) a.path.words (Some PathData) None None w refl)) in
    ap said (sym (declined-full c a None h (spacious c a (length a.tags) (length a.words) (record { tags = t; words = w }) p q)))

pub said-roomy : (c : Call) (a : Lent) → true ≡ roomy (in_use a.path) (length a.tags) (length a.words) → Ok tt ≡ said (declined c a)
said-roomy c a h =
    let b = both_true (leb (a.path.tags + 3) (length a.tags)) (leb (a.path.words + 8) (length a.words)) (sym h) in
    said_spacious c a (leb-true (a.path.tags + 3) (length a.tags) b.0) (leb-true (a.path.words + 8) (length a.words) b.1)
