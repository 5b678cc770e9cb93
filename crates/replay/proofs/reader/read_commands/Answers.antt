use Rattle.std.proofs.Common.{◌≡◌, ◌+◌, ◌≤◌, List, length, get_or, sym, ap, ◌∙◌, subst, arith}
use Rattle.monoid.specs.Answers.{most}
use Rattle.monoid.specs.DrawTags as Draws
use Rattle.monoid.specs.DrawTags.{draws_of}
use Rattle.replay.specs.declared.reader.ShownCommand.{ShownCommand}
use Rattle.replay.specs.Reading.{eight_at}
use Rattle.replay.proofs.Reading.{Filled, CommandRow, filled_more, draws-more, draws-fit, command_row, commands-done}
use Rattle.replay.proofs.reader.read_commands.Goals as goal

pub combine_fitting-before-requires : goal.combine_fitting-before-requires
combine_fitting-before-requires c =
    let l = c.loop-i in
    let few : length c.args.draw_tags.now ≤ most = omega arith in
    subst (λ (x : Draws.Draws). Draws.Small (Draws.plus (draws_of l.before) x)) (sym c.new-own.ensures)
    (draws-fit c.args.draw_tags.now l.i _ c.loop-i-test.true (draws_of l.before) l.invariant.0 few)

pub loop-i-preserved : goal.loop-i-preserved
loop-i-preserved c =
    let l = c.loop-i in
    let few : length c.args.draw_tags.now ≤ most = omega arith in
    let ts = c.args.draw_tags.now in
    let ws = c.args.draw_data.now in
    let own : draws_of c.new-own.result ≡ Draws.from_tag (get_or ts l.i (record { 0 = 0 })) = c.new-own.ensures in
    let size = ap (λ (x : Draws.Draws). x.words) own in (
      c.combine_fitting-before.ensures ∙ ap (Draws.plus (draws_of l.before)) own ∙ draws-more c.args.draw_tags.now l.i _ c.loop-i-test.true (draws_of l.before) l.invariant.0,
      subst (λ (r : List ShownCommand). Filled (CommandRow ts ws) c.args.table.now r (l.i + 1)) (sym c.put.ensures)
          (filled_more (CommandRow ts ws) c.args.table.now l.table l.i _ l.invariant.1
          (command_row ts ws l.i (record { 0 = 0 }) (draws_of l.before) c.eight_at-words.result l.invariant.0 (c.eight_at-words.ensures ∙ ap (eight_at ws l.before.scene_offset) size))),
    )

pub returns : goal.returns
returns c =
    let few : length c.args.draw_tags.now ≤ most = omega arith in
    commands-done c.args.draw_tags.now c.args.draw_data.now c.args.table.now c.loop-i.table c.loop-i.i few (omega arith) (omega arith) c.loop-i.invariant.1
