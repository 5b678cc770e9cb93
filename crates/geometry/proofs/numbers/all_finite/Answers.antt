-- The test of each, one after another.
use Rattle.std.proofs.Common.{◌∙◌, rules}
use borrow.Author.Tests.{tests}
use Rattle.std.specs.Float.{float_is_finite}
use Rattle.std.proofs.lemmas.Iterator.{YieldsList-from_slice}
use Rattle.std.proofs.lemmas.Iterator.Search.{all_from_yields_List}
use Rattle.geometry.proofs.Lists.{each_finite}
use Rattle.geometry.proofs.numbers.all_finite.Goals as goal

pub returns : goal.returns
returns c =
    all_from_yields_List float_is_finite _ _ _ c.all.ensures.ran (YieldsList-from_slice c.args.xs.now cc) (λ x b q k. search (rules, tests))
    ∙ each_finite c.args.xs.now
