-- Farbfeld.
use Rattle.std.specs.Prelude.{ℕ, Bool, List, codes}
use Rattle.imagesize_types.specs.Head.{begins}
use Rattle.imagesize_types.specs.declared.size.ImageSize.{ImageSize}
use Rattle.imagesize_fixed.specs.Sides.{sides}
use Rattle.imagesize_source.specs.declared.endian.Endian.TheVariants.{Big}
use Rattle.imagesize_source.specs.Layout.{Layout}

-- whether the input begins with the magic value
unfoldable pub is_farbfeld : List ℕ → Bool
is_farbfeld head = begins (codes "farbfeld") head

-- the width, then the height
abbrev pub farbfeld : Layout ImageSize
farbfeld = sides Big 4 8 12
