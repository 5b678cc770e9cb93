-- The leading digit is moved up to its place, and the exponent down by as much.
use Rattle.std.proofs.Common.{arith}
use Rattle.math.proofs.Widening.{Leading, leading, shifted_exact}
use Rattle.math.proofs.widen_subnormal.Goals as goal

pub overflow_sub-shift : goal.overflow_sub-shift
overflow_sub-shift c = (leading c.args.n c.requires.from c.requires.to).above

pub overflow_mul-result-2 : goal.overflow_mul-result-2
overflow_mul-result-2 c =
    let x : Leading c.args.n _ = leading c.args.n c.requires.from c.requires.to in
    omega (arith, x.whole, x.high)

pub overflow_add-result : goal.overflow_add-result
overflow_add-result c =
    let x : Leading c.args.n _ = leading c.args.n c.requires.from c.requires.to in
    omega (arith, x.whole, x.high)

pub returns : goal.returns
returns c = shifted_exact c.args.n _ c.requires.from c.requires.to (leading c.args.n c.requires.from c.requires.to)
