-- QOI.
use Rattle.std.specs.Prelude.{ℕ, Bool, List, codes}
use Rattle.imagesize_types.specs.Head.{begins}
use Rattle.imagesize_types.specs.declared.size.ImageSize.{ImageSize}
use Rattle.imagesize_fixed.specs.Sides.{sides}
use Rattle.imagesize_source.specs.declared.endian.Endian.TheVariants.{Big}
use Rattle.imagesize_source.specs.Layout.{Layout}

-- whether the input begins with the magic bytes
unfoldable pub is_qoi : List ℕ → Bool
is_qoi head = begins (codes "qoif") head

-- the width, then the height
abbrev pub qoi : Layout ImageSize
qoi = sides Big 4 4 8
