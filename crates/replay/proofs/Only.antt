-- The rules leave one sheet after a list of calls. Assumes nothing.
use Rattle.std.proofs.Common.{◌≡◌, Bool, true, false, List, [], ◌∷◌, Some, None, Option, sym, ap, ◌∙◌, subst}
use Rattle.encoding.specs.Sheet.{Opened, Sheet}
use Rattle.encoding.specs.Rules.{stroke_rule}
use Rattle.replay.specs.Calls.{Call, Made, taken, FromRest, FromPath, From, Leaves, Ruled, RuledBy}
use Rattle.replay.specs.Calls.Chosen.{Filled, Stroked}
use Rattle.replay.specs.Calls.Command.{Color, Blurred, BeginClip, EndClip}
use Rattle.replay.specs.Calls.Call.{Reset, ForceNext, SetTransform, SetStyle, Draw, EmptyShape, Elements, OpenPath, Take, Finish, Abandon}

one-at-rest : (c : Call) (s q r : Sheet) → FromRest c s q → FromRest c s r → q ≡ r
one-at-rest Reset s q r a b = a ∙ sym b
one-at-rest ForceNext s q r a b = a ∙ sym b
one-at-rest (SetTransform t) s q r a b = a.1 ∙ sym b.1
one-at-rest (SetStyle (Filled f)) s q r a b = a.1 ∙ sym b.1
one-at-rest (SetStyle (Stroked k)) s q r a b =
    let half = a.1.0.only b.0 b.1.0.rounds in
    a.2.1 ∙ ap (λ h. (stroke_rule k h).next s) (sym half) ∙ sym b.2.1
one-at-rest (Draw (Color c)) s q r a b = a.1 ∙ sym b.1
one-at-rest (Draw (Blurred c w h u d)) s q r a b = a.1 ∙ sym b.1
one-at-rest (Draw (BeginClip x y z)) s q r a b = a.1 ∙ sym b.1
one-at-rest (Draw EndClip) s q r a b = a.1 ∙ sym b.1
one-at-rest EmptyShape s q r a b = a.1 ∙ sym b.1
one-at-rest (Elements xs fill) s q r a b = a ∙ sym b
one-at-rest (OpenPath fill) s q r a b = a ∙ sym b
one-at-rest (Take x) s q r a b = absurd a
one-at-rest (Finish mark) s q r a b = absurd a
one-at-rest Abandon s q r a b = absurd a

one_in_path : (c : Call) (s q r : Sheet) → FromPath c s q → FromPath c s r → q ≡ r
one_in_path (Take x) s q r a b = a.1 ∙ sym b.1
one_in_path (Finish mark) s q r a b = a.1 ∙ sym b.1
one_in_path Abandon s q r a b = a ∙ sym b
one_in_path Reset s q r a b = absurd a
one_in_path ForceNext s q r a b = absurd a
one_in_path (SetTransform t) s q r a b = absurd a
one_in_path (SetStyle x) s q r a b = absurd a
one_in_path (Draw c) s q r a b = absurd a
one_in_path EmptyShape s q r a b = absurd a
one_in_path (Elements xs fill) s q r a b = absurd a
one_in_path (OpenPath fill) s q r a b = absurd a

one_from : (o : Option Opened) (c : Call) (s q r : Sheet) → From o c s q → From o c s r → q ≡ r
one_from None c s q r a b = one-at-rest c s q r a b
one_from (Some o) c s q r a b = one_in_path c s q r a b

one_by : (b : Bool) (c : Call) (xs : List Made) → ((s t : Sheet) → Ruled xs s → Ruled xs t → s ≡ t) → (q r : Sheet) → RuledBy b c (Ruled xs) q → RuledBy b c (Ruled xs) r → q ≡ r
one_by true c xs before q r x y = one_from x.0.open_path c x.0 q r x.2 (subst (λ (s : Sheet). Leaves c s r) (before y.0 x.0 y.1 x.1) y.2)
one_by false c xs before q r x y = before q r x y

pub one_ruled : (xs : List Made) (q r : Sheet) → Ruled xs q → Ruled xs r → q ≡ r
one_ruled [] q r x y = x ∙ sym y
one_ruled (x ∷ xs) q r a b = one_by (taken x.answer) x.call xs (one_ruled xs) q r a b
