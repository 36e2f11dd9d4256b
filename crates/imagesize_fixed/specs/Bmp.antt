-- Windows bitmaps.
use Rattle.std.specs.Prelude.{ℕ, Bool, List, codes}
use Rattle.imagesize_types.specs.Head.{begins}
use Rattle.imagesize_types.specs.declared.size.ImageSize.{ImageSize}
use Rattle.imagesize_fixed.specs.Sides.{sides}
use Rattle.imagesize_source.specs.declared.endian.Endian.TheVariants.{Little}
use Rattle.imagesize_source.specs.Layout.{Layout}

-- whether the input begins with the file type
unfoldable pub is_bmp : List ℕ → Bool
is_bmp head = begins (codes "BM") head

-- the width, then the height
abbrev pub bmp : Layout ImageSize
bmp = sides Little 4 18 22
