use Rattle.std.proofs.Common.{rules}
use Rattle.imagesize_types.specs.contracts.size.ImageSizeOrd.TheImpl.Laws as ordered
use Rattle.imagesize_types.proofs.Lawful.{lawful_order}
use Rattle.imagesize_types.proofs.laws.image_size_laws.Goals as goal

pub returns-clause-order : goal.returns-clause-order
returns-clause-order c =
    lawful_order _ _ _ (search rules) ordered.total-law ordered.matches_eq-law ordered.matches_partial_cmp-law
