-- The tags of a path that ends.
use Rattle.std.proofs.Common.{◌++◌, drop, arith}
use Rattle.path.proofs.Finish.{Ends, end_none, end-room, end-tag, end_plain, ended-front}
use Rattle.path.proofs.entries.end_path.Goals as goal

pub returns-then-n-eq0 : goal.returns-then-n-eq0
returns-then-n-eq0 c =
    let e : Ends c.args.insert_path_marker c.args.tags.now c.args.tags.now c.args.n 0 = end_none c.args.insert_path_marker c.args.tags.now c.args.n (omega arith) c.requires.fits in
    record { used = e.used; holds = e.holds }

pub write_tag-requires : goal.write_tag-requires
write_tag-requires c =
    let h = end-room c.args.insert_path_marker c.args.tags.now c.args.n c.if-insert_path_marker.true (omega arith) c.requires.fits c.requires.room in
    let f = ended-front c.args.tags.now c.end_last.new.tags c.args.n c.requires.fits c.end_last.ensures in
    omega (arith, f.1)

pub returns-then-insert_path_marker : goal.returns-then-insert_path_marker
returns-then-insert_path_marker c =
    let f = ended-front c.args.tags.now c.end_last.new.tags c.args.n c.requires.fits c.end_last.ensures in
    let e = end-tag c.args.insert_path_marker c.args.tags.now (c.end_last.new.tags ++ drop c.args.n c.args.tags.now) c.write_tag.new.tags c.args.n c.write_tag.result c.if-insert_path_marker.true (omega arith) c.requires.fits f.0 c.write_tag.ensures.used c.write_tag.ensures.holds in
    record { used = e.used; holds = e.holds }

pub returns : goal.returns
returns c =
    let f = ended-front c.args.tags.now c.end_last.new.tags c.args.n c.requires.fits c.end_last.ensures in
    let e = end_plain c.args.insert_path_marker c.args.tags.now (c.end_last.new.tags ++ drop c.args.n c.args.tags.now) c.args.n c.if-insert_path_marker.false (omega arith) c.requires.fits f.0 in
    record { used = e.used; holds = e.holds }
