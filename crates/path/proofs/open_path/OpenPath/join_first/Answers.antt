-- The line back is written, unless the path is there.
use Rattle.std.proofs.Common.{◌≡◌, true, false, take, sym, ap, ◌∙◌}
use Rattle.geometry.specs.declared.points.Point.{Point}
use Rattle.geometry.specs.declared.points.Segment.TheVariants.{Line}
use Rattle.geometry.specs.Segments.{same_point}
use Rattle.path.specs.Entries.{last_point}
use Rattle.path.specs.Rules.{join, write}
use Rattle.path.specs.View.{lent, view}
use Rattle.path.proofs.Cases.{join-there, join_apart}
use Rattle.path.proofs.Steps.{as_rule, ready_as}
use Rattle.path.proofs.open_path.OpenPath.join_first.Goals as goal

pub returns-then-eq : goal.returns-then-eq
unfolding same_point
returns-then-eq c =
    let a = lent c.args.self.now c.args.tags.now c.args.words.now in
    let h : same_point (last_point (take c.args.self.now.words c.args.words.now)) c.args.self.now.first_point ≡ true = ap (λ (p : Point). same_point p c.args.self.now.first_point) (sym c.last_point.ensures) ∙ sym c.eq.ensures ∙ c.if-eq.true in
    record { shows = sym (join-there (view a) h); kept = c.requires.ready.held }

pub write-requires : goal.write-requires
unfolding same_point
write-requires c =
    let a = lent c.args.self.now c.args.tags.now c.args.words.now in
    let h : same_point (last_point (take c.args.self.now.words c.args.words.now)) c.args.self.now.first_point ≡ false = ap (λ (p : Point). same_point p c.args.self.now.first_point) (sym c.last_point.ensures) ∙ sym c.eq.ensures ∙ c.if-eq.false in
    ready_as join (write (Line c.args.self.now.first_point)) a (join_apart (view a) h) c.requires.ready

pub returns : goal.returns
unfolding same_point
returns c =
    let a = lent c.args.self.now c.args.tags.now c.args.words.now in
    let h : same_point (last_point (take c.args.self.now.words c.args.words.now)) c.args.self.now.first_point ≡ false = ap (λ (p : Point). same_point p c.args.self.now.first_point) (sym c.last_point.ensures) ∙ sym c.eq.ensures ∙ c.if-eq.false in
    as_rule (write (Line c.args.self.now.first_point)) join a _ (sym (join_apart (view a) h)) c.write.ensures
