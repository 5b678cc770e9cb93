use Rattle.std.proofs.Common.{◌≡◌, rules}
use Rattle.encoding.proofs.OpenPaths.{lending, relayed, took}
use Rattle.encoding.proofs.path_encoder.PathEncoder.take.Goals as goal

pub returns : goal.returns
returns g c = λ m.
    let p = c.args.self.now in
    let ts = c.args.path_tags.now in
    let ws = c.args.path_data.now in
    let ok = c.in_ok-tags.ensures in
    let told : c.map_err.result ≡ relayed c.try_take.result = search rules in
    rw (told, ok.finite, ok.lent.0, ok.lent.1)
    (took p.encoding p.path ts ws m (lending p ts ws ok.held) c.try_take.new.self c.try_take.new.tags c.try_take.new.words (g.S.PathStep.step c.args.step) c.try_take.result
    (rw (ok.lent.0, ok.lent.1) at c.try_take.ensures))
