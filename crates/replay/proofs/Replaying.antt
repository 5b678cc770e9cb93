-- One call more of a list that is replayed. Assumes nothing.
use Rattle.std.proofs.Common.{◌≡◌, ℕ, ◌+◌, ◌<◌, Bool, true, false, List, [], ◌∷◌, ◌++◌, map, reverse, length, get_or, take, drop, set, sym, refl, ap, ◌∙◌, arith}
use Rattle.std.proofs.lemmas.List.{map-append, reverse-append, take_more, take_more_set, drop-set-lt, drop_more}
use Rattle.monoid.specs.declared.path.PathTag.{PathTag}
use Rattle.monoid.specs.declared.draw.DrawTag.{DrawTag}
use Rattle.values.specs.declared.transform.Transform.{Transform}
use Rattle.values.specs.declared.style.Style.{Style}
use Rattle.encoding.specs.declared.encoding.Encoding.{Encoding}
use Rattle.encoding.specs.Sheet.{Streams, sheet, blank}
use Rattle.replay.specs.declared.calls.Answer.{Answer}
use Rattle.replay.specs.declared.calls.Plan.{Plan}
use Rattle.replay.specs.declared.calls.Plan.TheVariants.{Closed, Open}
use Rattle.replay.specs.declared.calls.Call as Value
use Rattle.replay.specs.Calls.{Call, Made, made, taken}
use Rattle.replay.specs.Runs.{Run, shown}
use Rattle.replay.specs.Runs.Run.{begun, brought, accepted, declined}
use Rattle.replay.specs.Meant.{meant, six, Called, Ran, ShownBy}
use Rattle.replay.proofs.Runs.{stays, same_over, runs_show}

-- an answered call is one more of the run, and the streams are those that it left
run_more : (b : Bool) {xs : List Made} (c : Call) (h : Plan) (m : Streams) (a : Answer) (h' : Plan) (m' : Streams) → taken a ≡ b → Run xs h m → Called c h m a h' m' → Run (made c a ∷ xs) h' m'
run_more true c h m a h' m' t r s = accepted c a h' m' r t s.so
run_more false c h m a h' m' t r s =
    let same = stays c h m a (shown h' m') t s.so in
    brought m' (declined c m a h' m' r t s.so) (same ∙ sym (same_over h h' m m' m same))

pub ran-none : (e : Encoding) (m : Streams) → ((n : Streams) → sheet e n ≡ blank) → Ran [] [] (Closed e) m
ran-none e m h = record { made = []; calls = refl; answered = refl; run = begun e m h }

-- after i calls, with their answers, and the other answers as they were
pub record Going (cs : List Value.Call) (was answers : List Answer) (i : ℕ) (h : Plan) (m : Streams) : Type 0 where
  pub ran : Ran (take i cs) (take i answers) h m
  pub rest : drop i answers ≡ drop i was

module _ (cs : List Value.Call) (was answers : List Answer) (i : ℕ) (k d : Value.Call) (h : Plan) (m : Streams) (a : Answer) (h' : Plan) (m' : Streams) where
  pub going_more : i < length cs → i < length answers → length answers ≡ length was → get_or cs i d ≡ k → Going cs was answers i h m → Called (meant k) h m a h' m' → Going cs was (set answers i a) (i + 1) h' m'
  going_more l n same at g s =
      let more : take (i + 1) cs ≡ take i cs ++ k ∷ [] = take_more cs i d l ∙ ap (λ x. take i cs ++ x ∷ []) at in
      record {
        ran = record {
          made = made (meant k) a ∷ g.ran.made;
          calls =
              ap (λ xs. meant k ∷ xs) g.ran.calls
              ∙ sym (reverse-append (map meant (take i cs)) (meant k ∷ []))
              ∙ ap reverse (sym (map-append meant (take i cs) (k ∷ [])))
              ∙ ap (λ xs. reverse (map meant xs)) (sym more);
          answered =
              ap (λ xs. a ∷ xs) g.ran.answered
              ∙ sym (reverse-append (take i answers) (a ∷ []))
              ∙ ap reverse (sym (take_more_set answers i a n));
          run = run_more (taken a) (meant k) h m a h' m' refl g.ran.run s;
        };
        rest = drop-set-lt (i + 1) answers i a (omega arith) ∙ tail (drop_more answers i a n) (drop_more was i a (omega arith)) g.rest;
      }
    where
      tail : {xs ys us vs : List Answer} {x y : Answer} → xs ≡ x ∷ us → ys ≡ y ∷ vs → xs ≡ ys → us ≡ vs
      tail p q e = cc

pub shown_by : (h : Plan) (cs : List Value.Call) (answers : List Answer) (m : Streams) (r : Ran cs answers h m) → ShownBy h r.made m
shown_by (Closed e) cs answers m r = runs_show r.made e m r.run
shown_by (Open p) cs answers m r = tt

pub six_alike : {a a' : List PathTag} {b b' : List ℕ} {c c' : List DrawTag} {d d' : List ℕ} {e e' : List Transform} {f f' : List Style} → a ≡ a' → b ≡ b' → c ≡ c' → d ≡ d' → e ≡ e' → f ≡ f' → six a b c d e f ≡ six a' b' c' d' e' f'
six_alike p q r s t u = cc
