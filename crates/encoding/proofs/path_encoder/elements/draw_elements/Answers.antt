use Rattle.std.proofs.Common.{◌≡◌, true, length, Some, sym, refl, ap, ◌∙◌, arith}
use Rattle.encoding.specs.Sheet.{with_paths}
use Rattle.encoding.specs.Promises.{path_sheet}
use Rattle.encoding.specs.Paths.{path_abandoned, finish_rule}
use Rattle.encoding.specs.Elements.{element_rule, list_reason}
use Rattle.encoding.proofs.Listing.{reason-same, took, refused, along-more, stopped, given-up, finish-stopped, finished-so}
use Rattle.encoding.proofs.path_encoder.elements.draw_elements.Goals as goal

pub returns-in-Err : goal.returns-in-Err
returns-in-Err c m =
    let l = c.loop-index in
    let was = with_paths m l.path_tags l.path_data in
    let s = path_sheet l.path was in
    let xs = c.args.elements.now in
    let a = l.invariant m in
    let t = refused (element_rule _) s was c.in-Err.error _ (c.in-Err.ensures m) in
    let same = reason-same m l.path_tags c.args.path_tags.now l.path_data c.args.path_data.now l.auto.path_tags l.auto.path_data (element_rule _) s in
    given-up xs l.index _ _ s a c.in-Err.error l.index c.abandon.result _
    (stopped xs l.index _ _ c.loop-index-test.true refl _ _ s a c.in-Err.error (sym same ∙ t.0))
    (c.abandon.ensures _ ∙ ap path_abandoned t.1)

pub loop-index-preserved : goal.loop-index-preserved
loop-index-preserved c m =
    let l = c.loop-index in
    let was = with_paths m l.path_tags l.path_data in
    let s = path_sheet l.path was in
    let t = took (element_rule _) s was c.in_default.field-0 _ (c.in_default.ensures m) in
    let same = reason-same m l.path_tags c.args.path_tags.now l.path_data c.args.path_data.now l.auto.path_tags l.auto.path_data (element_rule _) s in
    along-more c.args.elements.now l.index _ _ c.loop-index-test.true refl _ _ s (l.invariant m) _ (sym same ∙ t.0) t.1

pub returns-in-Ok : goal.returns-in-Ok
returns-in-Ok c m =
    let l = c.loop-index in
    let was = with_paths m l.path_tags l.path_data in
    let s = path_sheet l.path was in
    let t = took (finish_rule true) s was c.in-Ok.done.1 _ (c.in-Ok.ensures m) in
    let same = reason-same m l.path_tags c.args.path_tags.now l.path_data c.args.path_data.now l.auto.path_tags l.auto.path_data (finish_rule true) s in
    finished-so c.args.elements.now l.index _ _ s (l.invariant m) c.loop-index-test.false c.in-Ok.done.0 c.in-Ok.done.1 _ (sym same ∙ t.0) t.1 t.2

pub returns-in-Err-finish : goal.returns-in-Err-finish
returns-in-Err-finish c m =
    let l = c.loop-index in
    let was = with_paths m l.path_tags l.path_data in
    let s = path_sheet l.path was in
    let xs = c.args.elements.now in
    let a = l.invariant m in
    let e = c.in-Err-finish.error in
    let t = refused (finish_rule true) s was e _ (c.in-Err-finish.ensures m) in
    let same = reason-same m l.path_tags c.args.path_tags.now l.path_data c.args.path_data.now l.auto.path_tags l.auto.path_data (finish_rule true) s in
    let end : l.index ≡ length xs = omega arith in
    let stop : list_reason xs 0 _ _ ≡ Some (record { error = e; index = length xs }) =
    finish-stopped xs l.index _ _ s a c.loop-index-test.false e (sym same ∙ t.0) ∙ ap (λ n. Some (record { error = e; index = n })) end in
    given-up xs l.index _ _ s a e (length xs) c.abandon-in-Err-finish.result _ stop (c.abandon-in-Err-finish.ensures _ ∙ ap path_abandoned t.1)
