-- The last two words go.
use Rattle.std.proofs.Common.{◌≡◌, ◌-◌, take, rules}
use Rattle.path.specs.Entries.{drop_point}
use Rattle.path.proofs.Lists.{drop-point-take}
use Rattle.path.proofs.open_path.OpenPath.drop_move.Goals as goal

pub returns : goal.returns
returns c =
    let d : take (c.args.self.now.words - 2) c.args.words.now ≡ drop_point (take c.args.self.now.words c.args.words.now) = drop-point-take c.args.words.now _ c.requires.ready.held.words in
    record { shows = cc; kept = search rules }
