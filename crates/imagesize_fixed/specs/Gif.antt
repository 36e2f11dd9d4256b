-- GIF.
use Rattle.std.specs.Prelude.{ℕ, Bool, List, codes}
use Rattle.imagesize_types.specs.Head.{begins}
use Rattle.imagesize_types.specs.declared.size.ImageSize.{ImageSize}
use Rattle.imagesize_fixed.specs.Sides.{sides}
use Rattle.imagesize_source.specs.declared.endian.Endian.TheVariants.{Little}
use Rattle.imagesize_source.specs.Layout.{Layout}

-- whether the input begins with the signature and the first byte of the version
unfoldable pub is_gif : List ℕ → Bool
is_gif head = begins (codes "GIF8") head

-- the width, then the height, of the logical screen
abbrev pub gif : Layout ImageSize
gif = sides Little 2 6 8
