use Rattle.std.proofs.Common.{refl}
use Rattle.replay.specs.Lent.{held}
use Rattle.replay.proofs.replay.call_closed.Goals as goal

pub returns-in-Path-clause-called : goal.returns-in-Path-clause-called
returns-in-Path-clause-called c =
    rw c.in-Path.is (record { so = (refl, c.encode_path.ensures (held c.args.streams.now)) })
