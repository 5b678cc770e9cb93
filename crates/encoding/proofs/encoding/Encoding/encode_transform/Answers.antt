use Rattle.encoding.specs.Sheet.{with_transforms}
use Rattle.encoding.proofs.Settings.{transform_set}
use Rattle.encoding.proofs.encoding.Encoding.encode_transform.Goals as goal

pub returns : goal.returns
returns c = λ m.
    transform_set c.args.transform c.args.self.now (with_transforms m c.args.path_tags.now c.args.transforms.now) c.encode_setting.result _
    (rw c.finite.ensures at c.encode_setting.ensures.set)
