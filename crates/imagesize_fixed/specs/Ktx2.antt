-- KTX 2.
use Rattle.std.specs.Prelude.{ℕ, Bool, List, [], ◌∷◌}
use Rattle.imagesize_types.specs.Head.{begins}
use Rattle.imagesize_types.specs.declared.size.ImageSize.{ImageSize}
use Rattle.imagesize_fixed.specs.Sides.{sides}
use Rattle.imagesize_source.specs.declared.endian.Endian.TheVariants.{Little}
use Rattle.imagesize_source.specs.Layout.{Layout}

-- whether the input begins with the identifier
unfoldable pub is_ktx2 : List ℕ → Bool
is_ktx2 head = begins (0xAB ∷ 0x4B ∷ 0x54 ∷ 0x58 ∷ 0x20 ∷ 0x32 ∷ 0x30 ∷ 0xBB ∷ 0x0D ∷ 0x0A ∷ 0x1A ∷ 0x0A ∷ []) head

-- the width, then the height
abbrev pub ktx2 : Layout ImageSize
ktx2 = sides Little 4 20 24
