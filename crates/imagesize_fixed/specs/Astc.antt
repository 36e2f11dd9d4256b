-- ASTC.
use Rattle.std.specs.Prelude.{ℕ, Bool, List, [], ◌∷◌, ◌||◌}
use Rattle.imagesize_types.specs.Head.{begins}
use Rattle.imagesize_types.specs.declared.size.ImageSize.{ImageSize}
use Rattle.imagesize_fixed.specs.Sides.{sides}
use Rattle.imagesize_source.specs.declared.endian.Endian.TheVariants.{Little}
use Rattle.imagesize_source.specs.Layout.{Layout}

-- whether the input begins with the magic number 0x5CA1AB13 or 0x5CA0AB13
unfoldable pub is_astc : List ℕ → Bool
is_astc head = begins (0x13 ∷ 0xAB ∷ 0xA1 ∷ 0x5C ∷ []) head || begins (0x13 ∷ 0xAB ∷ 0xA0 ∷ 0x5C ∷ []) head

-- the width, then the height, three bytes each
abbrev pub astc : Layout ImageSize
astc = sides Little 3 7 10
