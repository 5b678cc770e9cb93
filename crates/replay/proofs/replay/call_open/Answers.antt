use Rattle.std.proofs.Common.{Ok, Err, refl}
use Rattle.replay.specs.Lent.{held}
use Rattle.replay.proofs.replay.call_open.Goals as goal

pub returns-in-Element-clause-called : goal.returns-in-Element-clause-called
returns-in-Element-clause-called c =
    rw c.in-Element.is (record { so = (c.encode_element.result, c.into-answer.ensures, c.encode_element.ensures (held c.args.streams.now)) })

pub returns-in-Ok-clause-called : goal.returns-in-Ok-clause-called
returns-in-Ok-clause-called c =
    rw c.in-Finish.is (record { so = (Ok c.in-Ok.count, refl, c.in-Ok.ensures (held c.args.streams.now)) })

pub returns-in-Err-clause-called : goal.returns-in-Err-clause-called
returns-in-Err-clause-called c =
    rw c.in-Finish.is (record { so = (Err c.in-Err.error, refl, c.in-Err.ensures (held c.args.streams.now)) })

pub returns-in-Abandon-clause-called : goal.returns-in-Abandon-clause-called
returns-in-Abandon-clause-called c =
    rw c.in-Abandon.is (record { so = (refl, c.abandon.ensures (held c.args.streams.now)) })
