use Rattle.std.proofs.Common.{◌≡◌, ℕ, min, length, sym, refl, subst, arith, length-take, rules}
use Rattle.std.proofs.lemmas.List.{get_or-take}
use Rattle.replay.specs.Lent.{held}
use Rattle.replay.specs.Meant.{Replayed}
use Rattle.replay.proofs.Runs.{runs_show}
use Rattle.replay.proofs.Replaying.{Going, ran-none, going_more, shown_by, six_alike}
use Rattle.replay.proofs.replay.replay.Goals as goal

pub loop-i-init : goal.loop-i-init
loop-i-init c = record { same = search rules; going = record { ran = ran-none c.new.result _ c.new.ensures; rest = refl } }

pub loop-i-preserved : goal.loop-i-preserved
loop-i-preserved c =
    let l = c.loop-i in
    let cs = c.args.calls.now in
    let size = length-take c.min-n.result cs in
    record {
      same = search rules;
      going =
          going_more cs c.args.answers.now l.answers l.i _ _ l.plan _ c.make.result.1 c.make.result.0 _
          (omega arith) (omega arith) l.auto.answers (sym (get_or-take c.min-n.result cs l.i _ (omega arith))) l.invariant.going c.make.ensures.called;
    }

pub returns-clause-replayed : goal.returns-clause-replayed
returns-clause-replayed c =
    let l = c.loop-i in
    let cs = c.args.calls.now in
    let was = c.args.answers.now in
    let m = held l.streams in
    let size = length-take c.min-n.result cs in
    let end : l.i ≡ min (length cs) (length was) = omega arith in
    let g : Going cs was l.answers (min (length cs) (length was)) l.plan m = subst (λ (n : ℕ). Going cs was l.answers n l.plan m) end l.invariant.going in
    subst (Replayed cs was l.answers l.plan) (six_alike (search rules) (search rules) (search rules) (search rules) (search rules) (search rules))
    (record { ran = g.ran; rest = g.rest; shows = shown_by l.plan _ _ m g.ran })

pub returns-clause-always : goal.returns-clause-always
returns-clause-always c = runs_show
