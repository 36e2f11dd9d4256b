use Rattle.std.proofs.Common.{arith}
use Rattle.imagesize.proofs.Detection.{kind_lasts}
use Rattle.imagesize.proofs.Endings.{over_slice}
use Rattle.imagesize.proofs.calls.image_type.Goals as goal

pub returns-clause-value : goal.returns-clause-value
returns-clause-value c = grind (arith, over_slice)

pub returns-clause-lasts : goal.returns-clause-lasts
returns-clause-lasts c = kind_lasts c.args.header.now 0 _ (returns-clause-value c)
