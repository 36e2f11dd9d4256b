-- Valve textures.
use Rattle.std.specs.Prelude.{ℕ, Bool, List, codes, [], ◌∷◌, ◌++◌}
use Rattle.imagesize_types.specs.Head.{begins}
use Rattle.imagesize_types.specs.declared.size.ImageSize.{ImageSize}
use Rattle.imagesize_fixed.specs.Sides.{sides}
use Rattle.imagesize_source.specs.declared.endian.Endian.TheVariants.{Little}
use Rattle.imagesize_source.specs.Layout.{Layout}

-- whether the input begins with the signature
unfoldable pub is_vtf : List ℕ → Bool
is_vtf head = begins (codes "VTF" ++ 0 ∷ []) head

-- the width, then the height
abbrev pub vtf : Layout ImageSize
vtf = sides Little 2 16 18
