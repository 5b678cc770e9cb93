use Rattle.std.proofs.Common.{◌≡◌, length, drop, sym, ap, ◌∙◌, Some, arith}
use Rattle.monoid.specs.Clips.{bic, still, after, from_tag}
use Rattle.monoid.specs.Laws.{reduced}
use Rattle.monoid.proofs.Meetings.{found, none_left}
use Rattle.monoid.proofs.clip.latest_open.Goals as goal

pub returns-in-BEGIN_CLIP : goal.returns-in-BEGIN_CLIP
returns-in-BEGIN_CLIP c =
    let step = c.in-Some.ensures.steps in
    let held = c.loop-i.invariant in
    let place : c.in-Some.i ≡ length c.next.new.self.iter.iter.rest.now = omega (arith, step.1.1, held.1) in
    ap Some place ∙ found _ _ _ _ held.2 step.1.0 (cc) (held.4 ∙ ap (λ n. bic n 0) c.if-ended-eq0.true)

pub returns : goal.returns
returns c =
    let whole = c.args.tags.now in
    let left : length c.loop-i.i-iterator.iter.iter.rest.now ≡ 0 = c.in-None.ensures.steps.1.0 in
    none_left whole c.loop-i.ended (ap (λ n. reduced still after from_tag (drop n whole)) (sym left) ∙ c.loop-i.invariant.4)
