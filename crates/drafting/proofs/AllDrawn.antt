-- A list of calls that was replayed to its end is a plan that was drawn. Assumes nothing.
use Rattle.std.proofs.Common.{◌≡◌, min, List, ◌∷◌, map, reverse, length, take, vec_items, sym, refl, ap, ◌∙◌, subst, arith}
use Rattle.std.proofs.lemmas.List.{take_all}
use Rattle.encoding.specs.declared.encoding.Encoding.{Encoding}
use Rattle.encoding.specs.Sheet.{Streams, sheet}
use Rattle.replay.specs.declared.calls.Answer.{Answer}
use Rattle.replay.specs.declared.calls.Answer.TheVariants.{Done}
use Rattle.replay.specs.declared.calls.Call as Value
use Rattle.replay.specs.declared.calls.Plan.{Plan}
use Rattle.replay.specs.declared.calls.Plan.TheVariants.{Closed, Open}
use Rattle.replay.specs.Calls.{Made, made}
use Rattle.replay.specs.Calls.Call.{Abandon}
use Rattle.replay.specs.Runs.{Run, RunsShow}
use Rattle.replay.specs.Runs.Run.{accepted}
use Rattle.replay.specs.Wanted.{Whole}
use Rattle.replay.specs.Meant.{meant, Ran, Replayed}
use Rattle.drafting.specs.declared.drawing.Drawn.{Drawn}
use Rattle.drafting.specs.Drawing.{streams_of, all_made, Left, DrawnAs}

-- with as many places for answers as there are calls, all of them were made
all_ran : (cs : List Value.Call) (was answers : List Answer) (h : Plan) (m : Streams) → length was ≡ length cs → length answers ≡ length was → Replayed cs was answers h m → Ran cs answers h m
all_ran cs was answers h m p q r =
    let n = min (length cs) (length was) in
    let calls : take n cs ≡ cs = take_all n cs (omega arith) in
    let answered : take n answers ≡ answers = take_all n answers (omega arith) in
    record {
      made = r.ran.made;
      calls = r.ran.calls ∙ ap (λ xs. reverse (map meant xs)) calls;
      answered = r.ran.answered ∙ ap reverse answered;
      run = r.ran.run;
    }

-- a path that is still open is abandoned, and then the streams show what was drawn
all_shown : RunsShow → (xs : List Made) (h : Plan) (m : Streams) (e : Encoding) → Run xs h m → Left h e → Whole (all_made h xs) (sheet e m)
all_shown always xs (Closed f) m e r l = subst (λ (x : Encoding). Whole xs (sheet x m)) (sym l) (always xs f m r)
all_shown always xs (Open p) m e r l = always (made Abandon Done ∷ xs) e m (accepted Abandon Done (Closed e) m r refl (refl, l m))

module _ (cs : List Value.Call) (d : Drawn) (was answers : List Answer) (h : Plan) (m : Streams) where
  pub drawn_as : RunsShow → length was ≡ length cs → length answers ≡ length was → vec_items d.answers ≡ answers → streams_of d ≡ m → Replayed cs was answers h m → Left h d.encoding → DrawnAs cs d
  drawn_as always p q a s r l =
      let ran : Ran cs (vec_items d.answers) h (streams_of d) =
      subst (λ (xs : List Answer). Ran cs xs h (streams_of d)) (sym a) (subst (λ (x : Streams). Ran cs answers h x) (sym s) (all_ran cs was answers h m p q r)) in
      record { plan = h; ran = ran; left = l; shows = all_shown always ran.made h (streams_of d) d.encoding ran.run l }
