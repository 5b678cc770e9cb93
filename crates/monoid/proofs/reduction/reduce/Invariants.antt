use Rattle.std.proofs.Common.{◌≡◌, ◌≤◌, length, take}
use Rattle.monoid.specs.Laws.{reduced}
use Rattle.monoid.proofs.reduction.reduce.Given as goal

-- how far the loop has come, and the meaning of what it has combined
abbrev pub invariant-loop-s : goal.invariant-loop-s
invariant-loop-s g l =
    let m = g.M.Monoid in
    (l.s-index ≤ length l.sources) × (m.meaning l.total ≡ reduced m.empty m.op m.source (take l.s-index l.sources))
