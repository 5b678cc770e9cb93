-- A cubic, by what the opening of a subpath answered.
use Rattle.std.proofs.Common.{arith}
use Rattle.geometry.specs.declared.points.Segment.TheVariants.{Cubic}
use Rattle.path.specs.View.{lent}
use Rattle.path.proofs.Steps.{ready_opened, ready_drawn, begun_drawn, does_drawn, does_moved}
use Rattle.path.proofs.open_path.OpenPath.cubic_to.Goals as goal

pub open_subpath-requires : goal.open_subpath-requires
open_subpath-requires c =
    let a = lent c.args.self.now c.args.tags.now c.args.words.now in
    ready_opened (Cubic c.args.p c.args.q c.args.r) a c.requires

pub draw-requires : goal.draw-requires
draw-requires c =
    let a = lent c.args.self.now c.args.tags.now c.args.words.now in
    let b = lent c.open_subpath.new.self c.open_subpath.new.tags c.open_subpath.new.words in
    record {
      ready = ready_drawn (Cubic c.args.p c.args.q c.args.r) a b c.open_subpath.result c.open_subpath.ensures.draws c.if-open_subpath.true c.open_subpath.ensures.does (omega arith) (omega arith) c.requires;
      begun = begun_drawn c.args.r a b c.open_subpath.ensures.does;
    }

pub returns-then-open_subpath : goal.returns-then-open_subpath
returns-then-open_subpath c =
    let a = lent c.args.self.now c.args.tags.now c.args.words.now in
    let b = lent c.open_subpath.new.self c.open_subpath.new.tags c.open_subpath.new.words in
    does_drawn (Cubic c.args.p c.args.q c.args.r) a b _ c.open_subpath.result c.open_subpath.ensures.draws c.if-open_subpath.true c.open_subpath.ensures.does c.draw.ensures

pub returns-else-open_subpath : goal.returns-else-open_subpath
returns-else-open_subpath c =
    let a = lent c.args.self.now c.args.tags.now c.args.words.now in
    does_moved (Cubic c.args.p c.args.q c.args.r) a _ c.open_subpath.result c.open_subpath.ensures.draws c.if-open_subpath.false c.open_subpath.ensures.does
