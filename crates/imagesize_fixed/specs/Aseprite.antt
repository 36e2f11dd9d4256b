-- Aseprite.
use Rattle.std.specs.Prelude.{ℕ, Bool, List, [], ◌∷◌}
use Rattle.imagesize_types.specs.Head.{stands_at}
use Rattle.imagesize_types.specs.declared.size.ImageSize.{ImageSize}
use Rattle.imagesize_fixed.specs.Sides.{sides}
use Rattle.imagesize_source.specs.declared.endian.Endian.TheVariants.{Little}
use Rattle.imagesize_source.specs.Layout.{Layout}

-- whether the magic number 0xA5E0 comes after the length of the file
unfoldable pub is_aseprite : List ℕ → Bool
is_aseprite head = stands_at 4 (0xE0 ∷ 0xA5 ∷ []) head

-- the width, then the height
abbrev pub aseprite : Layout ImageSize
aseprite = sides Little 2 8 10
