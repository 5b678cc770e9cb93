use Rattle.std.proofs.Common.{◌≡◌, take}
use Rattle.monoid.specs.DrawTags.{draws_of}
use Rattle.replay.specs.Wanted.{drawn_total}
use Rattle.replay.proofs.Reading.{Filled, CommandRow}
use Rattle.replay.proofs.reader.read_commands.Given as goal

abbrev pub invariant-loop-i : goal.invariant-loop-i
invariant-loop-i l = (draws_of l.before ≡ drawn_total (take l.i l.draw_tags)) × Filled (CommandRow l.draw_tags l.draw_data) l.initial.table l.table l.i
