use Rattle.std.proofs.Common.{sym, ◌∙◌, arith}
use Rattle.monoid.proofs.Meetings.{meeting_at, end_within}
use Rattle.monoid.proofs.clip.begin_met.Goals as goal

pub returns-then-eq-clause-reduces : goal.returns-then-eq-clause-reduces
returns-then-eq-clause-reduces c =
    let met = c.latest_open.ensures in
    λ i less begins ends.
    let both = meeting_at c.args.tags.now i c.args.end (record { 0 = 0 }) less (omega (arith, end_within c.args.tags.now c.args.end ends)) begins in
    (λ is. both.0 (sym met ∙ is), λ is. met ∙ both.1 is)
