-- The lengths that a copy comes to, added to what lies before it.
use Rattle.std.proofs.Common.{◌≡◌, ◌-◌, length, take, arith}
use Rattle.std.proofs.lemmas.List.{length-take-le}
use Rattle.path.specs.Rules.{Own}
use Rattle.path.specs.View.{lent}
use Rattle.path.proofs.Copy.{ready_most, lengths, whole-take}
use Rattle.path.proofs.open_path.OpenPath.used_after.Goals as goal

pub run-requires : goal.run-requires
run-requires c = ready_most c.args.call _ (record { tags = omega arith; words = omega arith }) (omega arith) (omega arith)

pub returns : goal.returns
returns c =
    let a = lent c.args.self.now c.args.tags.now c.args.words.now in
    let front : Own = record { tags = take (c.args.self.now.tags - c.min-t.result) c.args.tags.now; words = take (c.args.self.now.words - c.min-w.result) c.args.words.now } in
    let x = whole-take c.args.tags.now _ c.args.self.now.tags c.min-t.result c.requires.tags c.copy_last.ensures in
    let y = whole-take c.args.words.now _ c.args.self.now.words c.min-w.result c.requires.words c.copy_last-2.ensures in
    let p : length (take (c.args.self.now.tags - c.min-t.result) c.args.tags.now) ≡ c.args.self.now.tags - c.min-t.result = length-take-le _ c.args.tags.now (omega arith) in
    let q : length (take (c.args.self.now.words - c.min-w.result) c.args.words.now) ≡ c.args.self.now.words - c.min-w.result = length-take-le _ c.args.words.now (omega arith) in
    lengths c.args.call a _ _ front _ _ c.run.ensures (cc) (record { tags = omega arith; words = omega arith }) (omega arith) (omega arith) (omega arith)
