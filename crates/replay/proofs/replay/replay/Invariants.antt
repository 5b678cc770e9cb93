use Rattle.replay.specs.Lent.{held, SameStreams}
use Rattle.replay.proofs.Replaying.{Going}
use Rattle.replay.proofs.replay.replay.Given as goal

abbrev pub invariant-loop-i : goal.invariant-loop-i
invariant-loop-i l = record { same : SameStreams l.initial.streams l.streams; going : Going l.calls l.initial.answers l.answers l.i l.plan (held l.streams) }
