use Rattle.std.proofs.Common.{◌≡◌, ℕ, ◌<◌, ◌≤◌, length, get_or, take}
use Rattle.monoid.specs.Laws.{reduced}
use Rattle.monoid.proofs.reduction.prefixes.Given as goal

-- how far the loop has come, the meaning of what it has combined, the rows written, and those that are as they were
abbrev pub invariant-loop-i : goal.invariant-loop-i
invariant-loop-i g l =
    let m = g.M.Monoid in
    (l.i ≤ length l.sources)
    × (m.meaning l.total ≡ reduced m.empty m.op m.source (take l.i l.sources))
    × ((k : ℕ) → k < l.i → (d : g.row.M.Denot) → m.meaning (get_or l.table k d) ≡ reduced m.empty m.op m.source (take k l.sources))
    × ((k : ℕ) → l.i ≤ k → (d : g.row.M.Denot) → get_or l.table k d ≡ get_or l.initial.table k d)
