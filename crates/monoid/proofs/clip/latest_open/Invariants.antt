use Rattle.std.proofs.Common.{◌≡◌, ◌+◌, ◌≤◌, ◌++◌, length, drop}
use Rattle.monoid.specs.Clips.{bic, still, after, from_tag}
use Rattle.monoid.specs.Laws.{reduced}
use Rattle.monoid.proofs.clip.latest_open.Given as goal

-- the tags that are left stand at the front, and those behind them close so many clips of before, and leave none open
abbrev pub invariant-loop-i : goal.invariant-loop-i
invariant-loop-i l =
    let left = l.i-iterator.iter.iter.rest.now in
    (goal.iterator-loop-i).can_next l.i-iterator
    × (l.i-iterator.iter.count ≡ 0)
    × (left ++ drop (length left) l.tags ≡ l.tags)
    × (l.ended + length left ≤ length l.tags)
    × (reduced still after from_tag (drop (length left) l.tags) ≡ bic l.ended 0)
