-- The words of three points.
use Rattle.std.proofs.Common.{◌++◌, take, append_assoc, arith}
use Rattle.path.specs.Entries.{point_words}
use Rattle.path.proofs.entries.CubicWritten.write_points.Goals as goal

pub returns : goal.returns
returns c =
    let a = append_assoc (take c.args.at c.args.words.now) (point_words c.args.self.0) (point_words c.args.self.1) in
    let b = append_assoc (take c.args.at c.args.words.now) (point_words c.args.self.0 ++ point_words c.args.self.1) (point_words c.args.self.2) in
    record { used = omega arith; holds = cc }
