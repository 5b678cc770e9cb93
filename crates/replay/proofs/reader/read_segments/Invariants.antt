use Rattle.std.proofs.Common.{◌≡◌, take}
use Rattle.monoid.specs.PathTags.{counts_of}
use Rattle.replay.proofs.Shown.{total}
use Rattle.replay.proofs.Reading.{Filled, SegmentRow}
use Rattle.replay.proofs.reader.read_segments.Given as goal

abbrev pub invariant-loop-tag : goal.invariant-loop-tag
invariant-loop-tag l = (counts_of l.before ≡ total (take l.tag-index l.path_tags)) × Filled (SegmentRow l.path_tags l.path_data l.transforms l.styles) l.initial.table l.table (total (take l.tag-index l.path_tags)).segments
