-- What was written over the streams is what they hold.
use Rattle.std.proofs.Common.{length, ap, ◌∙◌, arith}
use Rattle.std.proofs.lemmas.List.{with_items_is}
use Rattle.drafting.proofs.AllDrawn.{drawn_as}
use Rattle.replay.proofs.Replaying.{six_alike}
use Rattle.drafting.proofs.drawing.draw.Goals as goal

pub returns : goal.returns
returns c =
    let new = c.replay-plan.new in
    let path_tags = with_items_is c.in_ok-path_tags.path_tags new.path_tags (omega arith) in
    let path_data = with_items_is c.in_ok-path_data.path_data new.path_data (omega arith) in
    let draw_tags = with_items_is c.in_ok-draw_tags.draw_tags new.draw_tags (omega arith) in
    let draw_data = with_items_is c.in_ok-draw_data.draw_data new.draw_data (omega arith) in
    let transforms = with_items_is c.in_ok-transforms.transforms new.transforms (omega arith) in
    let styles = with_items_is c.in_ok-styles.styles new.styles (omega arith) in
    record {
      drawn = drawn_as c.args.calls.now _ c.as_mut_slice.result.now new.answers c.replay-plan.result _
          c.replay-plan.ensures.always
          (omega (arith, c.in_ok-answers.ensures.len))
          (omega arith)
          (with_items_is c.in_ok-answers.answers new.answers (omega arith))
          (six_alike
          path_tags
          path_data
          draw_tags
          draw_data
          transforms
          styles)
          c.replay-plan.ensures.replayed
          c.close-encoding.ensures;
      space = record {
        path_tags = ap length path_tags ∙ omega (arith, c.in_ok-path_tags.ensures.len);
        path_data = ap length path_data ∙ omega (arith, c.in_ok-path_data.ensures.len);
        draw_tags = ap length draw_tags ∙ omega (arith, c.in_ok-draw_tags.ensures.len);
        draw_data = ap length draw_data ∙ omega (arith, c.in_ok-draw_data.ensures.len);
        transforms = ap length transforms ∙ omega (arith, c.in_ok-transforms.ensures.len);
        styles = ap length styles ∙ omega (arith, c.in_ok-styles.ensures.len);
      };
    }
