use Rattle.std.proofs.Common.{[]}
use Rattle.encoding.specs.Sheet.{Streams}
use Rattle.encoding.proofs.OpenPaths.{lending}
use Rattle.encoding.proofs.Endings.{given_back, fits-behind, taken_in}
use Rattle.encoding.proofs.path_encoder.PathEncoder.finish.Goals as goal

pub join-requires : goal.join-requires
join-requires c =
    let p = c.args.self in
    let ts = c.args.path_tags.now in
    let ws = c.args.path_data.now in
    let ok = c.in-Ok.ensures in
    let m : Streams = record { path_tags = []; path_data = []; draw_tags = []; draw_data = []; transforms = []; styles = [] } in
    fits-behind p.encoding p.path ts ws m (lending p ts ws ok.held) c.args.insert_path_marker c.try_finish.new.tags c.try_finish.new.words c.in-Ok-try_finish.finished
    (rw (ok.lent.0, ok.lent.1) at c.in-Ok-try_finish.ensures)

pub returns-in-Ok-try_finish : goal.returns-in-Ok-try_finish
returns-in-Ok-try_finish c = λ m.
    let p = c.args.self in
    let ts = c.args.path_tags.now in
    let ws = c.args.path_data.now in
    let ok = c.in-Ok.ensures in
    rw (ok.lent.0, ok.lent.1)
    (taken_in p.encoding p.path ts ws m (lending p ts ws ok.held) c.args.insert_path_marker c.try_finish.new.tags c.try_finish.new.words c.in-Ok-try_finish.finished
    (rw (ok.lent.0, ok.lent.1) at c.in-Ok-try_finish.ensures) c.join.result.0 c.join.result.1 c.join.ensures.count (c.join.ensures.sheet _))

pub returns-in-Err-try_finish : goal.returns-in-Err-try_finish
returns-in-Err-try_finish c = λ m.
    let p = c.args.self in
    let ts = c.args.path_tags.now in
    let ws = c.args.path_data.now in
    let ok = c.in-Ok.ensures in
    let back = rw (ok.lent.0, ok.lent.1) at c.in-Err-try_finish.ensures in
    rw (ok.lent.0, ok.lent.1, c.error_of.ensures)
    (given_back p.encoding p.path ts ws m (lending p ts ws ok.held) c.args.insert_path_marker c.try_finish.new.tags c.try_finish.new.words c.in-Err-try_finish.path c.in-Err-try_finish.declined back.0 back.1)
