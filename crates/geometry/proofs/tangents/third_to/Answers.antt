-- The end in one coordinate is finite.
use Rattle.std.proofs.Common.{T, sym, subst, rules}
use lib.Ieee.{Float, binary32, add, fits}
use Rattle.std.specs.Float.{float_is_finite}
use Rattle.geometry.proofs.Thirds.{stays_finite}
use Rattle.geometry.proofs.tangents.third_to.Goals as goal

pub returns-clause-number : goal.returns-clause-number
returns-clause-number c =
    let a : T (fits binary32 c.args.p) = search rules in
    let b : T (fits binary32 c.args.q) = search rules in
    λ h k. subst (λ (z : Float). T (float_is_finite (add binary32 c.args.p z))) (sym c.third_of.ensures) (stays_finite c.args.p c.args.q a b h k)
