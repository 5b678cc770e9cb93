use Rattle.std.proofs.Common.{◌≡◌, map, take, vec_items}
use Rattle.monoid.proofs.Packs.{word_of}
use Rattle.monoid.proofs.path.pack_tags.Given as goal

-- the words so far are those of the fours so far
abbrev pub invariant-loop-a : goal.invariant-loop-a
invariant-loop-a l = vec_items l.words ≡ map word_of (take l.a-index l.fours)
