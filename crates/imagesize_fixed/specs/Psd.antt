-- Photoshop documents.
use Rattle.std.specs.Prelude.{ℕ, Bool, List, codes}
use Rattle.imagesize_types.specs.Head.{begins}
use Rattle.imagesize_types.specs.declared.size.ImageSize.{ImageSize}
use Rattle.imagesize_fixed.specs.Sides.{height_first}
use Rattle.imagesize_source.specs.declared.endian.Endian.TheVariants.{Big}
use Rattle.imagesize_source.specs.Layout.{Layout}

-- whether the input begins with the signature
unfoldable pub is_psd : List ℕ → Bool
is_psd head = begins (codes "8BPS") head

-- the height, then the width
abbrev pub psd : Layout ImageSize
psd = height_first Big 4 14 18
