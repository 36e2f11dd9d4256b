-- Of sizes one of which stands behind the others.
use Rattle.std.proofs.Common.{◌≡◌, max, List, [], ◌∷◌, ◌++◌, map, ap, ◌∙◌}
use Rattle.std.proofs.lemmas.List.{map-append}
use Rattle.std.proofs.lemmas.List.Sums.{fold-append}
use Rattle.std.specs.Prelude.{fold}
use Rattle.imagesize_types.specs.Largest.{greatest_area}
use Rattle.imagesize_types.specs.Order.{area_of}
use Rattle.imagesize_types.specs.declared.size.ImageSize.{ImageSize}

pub greatest_push : (sizes : List ImageSize) (size : ImageSize)
    → greatest_area (sizes ++ size ∷ []) ≡ max (greatest_area sizes) (area_of size)
greatest_push sizes size = ap (fold max 0) (map-append area_of sizes (size ∷ []))
    ∙ fold-append max 0 (map area_of sizes)
    (area_of size ∷ [])
