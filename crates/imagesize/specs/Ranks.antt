-- The order of types, and of families.
use Rattle.std.specs.Prelude.{ℕ, Bool, true, ◌&&◌, List, ◌∷◌, ◌≡◌}
use Rattle.std.specs.Ordering.{is_lt, nat_cmp, on, then_cmp}
use Rattle.std.specs.declared.cmp.Ordering.{Ordering}
use Rattle.imagesize.specs.Types.{type_rank}
use Rattle.imagesize.specs.declared.types.CompressionFamily.{CompressionFamily}
use Rattle.imagesize.specs.declared.types.CompressionFamily.TheVariants as family
use Rattle.imagesize.specs.declared.types.ImageType.{ImageType}
use Rattle.imagesize.specs.declared.types.ImageType.TheVariants.{Atc, Dds, Eac, Etc2, Heif, Pvrtc}
use Rattle.imagesize_types.specs.Ranks.{atc_rank, dds_rank, heif_rank, pkm_rank, pvrtc_rank}

-- the position of a type's compression in the list of its compressions; 0 if the type has none
abbrev pub compression_rank : ImageType → ℕ
compression_rank (Atc compression) = atc_rank compression
compression_rank (Dds compression) = dds_rank compression
compression_rank (Eac compression) = pkm_rank compression
compression_rank (Etc2 compression) = pkm_rank compression
compression_rank (Heif compression) = heif_rank compression
compression_rank (Pvrtc compression) = pvrtc_rank compression
compression_rank _ = 0

-- the order by the position of the type, then by the position of its compression
abbrev pub type_cmp : ImageType → ImageType → Ordering
type_cmp = then_cmp (on type_rank nat_cmp) (on compression_rank nat_cmp)

-- types are ordered in this way
abbrev pub IsListed : (ImageType → ImageType → Ordering) → Type 0
IsListed cmp = (x y : ImageType) → cmp x y ≡ type_cmp x y

-- whether each type of a list is below the next
abbrev pub is_ascending : List ImageType → Bool
is_ascending (x ∷ (y ∷ rest)) = is_lt (type_cmp x y) && is_ascending (y ∷ rest)
is_ascending _ = true

-- the order of the families
abbrev pub family_rank : CompressionFamily → ℕ
family_rank family.BlockCompression = 0
family_rank family.Etc = 1
family_rank family.Eac = 2
family_rank family.Pvrtc = 3
family_rank family.Astc = 4
family_rank family.Atc = 5
family_rank family.Uncompressed = 6
