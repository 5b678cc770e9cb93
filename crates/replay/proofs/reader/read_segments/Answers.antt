use Rattle.std.proofs.Common.{◌≡◌, ◌<◌, ◌≤◌, length, get_or, take, sym, ap, ◌∙◌, subst, arith, take_all, rules}
use mir.Facts.{Fits-below}
use Rattle.monoid.specs.Answers.{most}
use Rattle.monoid.specs.Packing.{blank}
use Rattle.monoid.specs.PathTags.{Counts, counts_of, plus, from_tag, Small}
use Rattle.replay.proofs.Shown.{total}
use Rattle.replay.proofs.Reading.{Filled, SegmentRow, tags_more, tags-fit, written, segments-more, segments-done, alone, few-segments}
use Rattle.replay.proofs.reader.read_segments.Goals as goal
use Rattle.replay.proofs.reader.read_segments.Goals.{in-Some, in_default}

pub overflow_cast-before : goal.overflow_cast-before
overflow_cast-before c =
    let few : length c.args.path_tags.now ≤ most = omega arith in
    Fits-below {n = most} tt (few-segments c.args.path_tags.now c.loop-tag.tag-index c.loop-tag.before.pathseg_ix few (ap (λ (x : Counts). x.segments) c.loop-tag.invariant.0))

pub combine_fitting-before-requires : goal.combine_fitting-before-requires
combine_fitting-before-requires c =
    let l = c.loop-tag in
    let ts = c.args.path_tags.now in
    let few : length ts ≤ most = omega arith in
    let byte : (get_or ts l.tag-index blank).0 < 256 = search rules in
    let own : counts_of c.new.result ≡ from_tag (get_or ts l.tag-index blank) = c.new.ensures ∙ alone (get_or ts l.tag-index blank) byte in
    subst (λ (x : Counts). Small (plus (counts_of l.before) x)) (sym own) (tags-fit ts l.tag-index blank c.loop-tag-test.true (counts_of l.before) l.invariant.0 few)

pub loop-tag-preserved : goal.loop-tag-preserved
loop-tag-preserved c =
    let l = c.loop-tag in
    let ts = c.args.path_tags.now in
    let few : length ts ≤ most = omega arith in
    let byte : (get_or ts l.tag-index blank).0 < 256 = search rules in
    let own : counts_of c.new.result ≡ from_tag (get_or ts l.tag-index blank) = c.new.ensures ∙ alone (get_or ts l.tag-index blank) byte in
    let rows : c.match-segment_at.table ≡ written c.segment_at.result l.before.pathseg_ix l.table =
    elim c.match-segment_at.branch [
      | in-Some w ↦ w.table-is ∙ w.put.ensures ∙ ap (λ o. written o l.before.pathseg_ix l.table) (sym w.in-Some.is)
      | in_default w ↦ w.table-is ∙ ap (λ o. written o l.before.pathseg_ix l.table) (sym w.in_default.is)
    ] in (
      c.combine_fitting-before.ensures ∙ ap (plus (counts_of l.before)) own ∙ tags_more ts l.tag-index blank c.loop-tag-test.true (counts_of l.before) l.invariant.0,
      segments-more ts c.args.path_data.now c.args.transforms.now c.args.styles.now c.args.table.now l.table l.tag-index c.loop-tag-test.true (counts_of l.before) l.invariant.0 l.invariant.1 c.segment_at.result c.segment_at.ensures c.match-segment_at.table rows,
    )

pub overflow_cast-result : goal.overflow_cast-result
overflow_cast-result c =
    let few : length c.args.path_tags.now ≤ most = omega arith in
    Fits-below {n = most} tt (few-segments c.args.path_tags.now c.loop-tag.tag-index c.loop-tag.before.pathseg_ix few (ap (λ (x : Counts). x.segments) c.loop-tag.invariant.0))

pub returns : goal.returns
returns c =
    let l = c.loop-tag in
    let ts = c.args.path_tags.now in
    let few : length ts ≤ most = omega arith in
    let all : total (take l.tag-index ts) ≡ total ts = ap total (take_all l.tag-index ts c.loop-tag-test.false) in
    segments-done ts c.args.path_data.now c.args.transforms.now c.args.styles.now c.args.table.now l.table l.before.pathseg_ix few
    (ap (λ (x : Counts). x.segments) (l.invariant.0 ∙ all))
    (subst (λ (x : Counts). Filled (SegmentRow ts c.args.path_data.now c.args.transforms.now c.args.styles.now) c.args.table.now l.table x.segments) all l.invariant.1)
