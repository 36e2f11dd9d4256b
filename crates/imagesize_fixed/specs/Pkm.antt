-- PKM files: textures in ETC1, ETC2 and EAC, and by another registration in ATC.
use Rattle.std.specs.Prelude.{ℕ, Bool, List, [], ◌∷◌, codes, ◌==◌, ◌&&◌, ◌||◌, nat_le, slice_index, Option, None, Some}
use Rattle.imagesize_types.specs.Head.{begins}
use Rattle.imagesize_types.specs.Table.{look_up}
use Rattle.imagesize_types.specs.declared.size.ImageSize.{ImageSize}
use Rattle.imagesize_types.specs.declared.compression.PkmCompression.{PkmCompression}
use Rattle.imagesize_types.specs.declared.compression.PkmCompression.TheVariants.{Etc1, Etc2, Etc2A1, Etc2A8, EacR, EacRg, EacRSigned, EacRgSigned, Unknown}
use Rattle.imagesize_fixed.specs.Sides.{sides}
use Rattle.imagesize_source.specs.declared.endian.Endian.TheVariants.{Big}
use Rattle.imagesize_source.specs.Numbers.{number}
use Rattle.imagesize_source.specs.Layout.{Layout, if_there}
use Rattle.imagesize_source.specs.Layout.Layout.{field, «done»}

-- whether the input begins with the tag and a version
unfoldable pub is_pkm : List ℕ → Bool
is_pkm head = begins (codes "PKM 10") head || begins (codes "PKM 20") head

-- whether the data type is one of 0x1608 to 0x160B
unfoldable pub is_eac : List ℕ → Bool
is_eac head = is_pkm head && (slice_index head 6 == 0x16 && (nat_le 0x08 (slice_index head 7) && nat_le (slice_index head 7) 0x0B))

-- the data types, and the compression of each
abbrev pub pkm_data_types : List (ℕ × PkmCompression)
pkm_data_types =
    (0, Etc1) ∷ (1, Etc2) ∷ (2, Etc2A1) ∷ (3, Etc2A8) ∷ (4, Etc2A1) ∷ (5, Etc2A8)
    ∷ (0x1608, EacRgSigned) ∷ (0x1609, EacRSigned) ∷ (0x160A, EacR) ∷ (0x160B, EacRg) ∷ []

abbrev pub pkm_compression_of : Option (List ℕ) → PkmCompression
pkm_compression_of None = Unknown
pkm_compression_of (Some bs) = look_up pkm_data_types Unknown (number Big bs)

-- the compression by the data type, if the file has one
unfoldable pub pkm_compression : Layout PkmCompression
pkm_compression = if_there 6 2 (λ bs. done (pkm_compression_of bs))

-- The width and the height in whole blocks are read and not used. The width and the height of the image follow.
abbrev pub pkm : Layout ImageSize
pkm = field Big 8 2 (λ _. field Big 10 2 (λ _. sides Big 2 12 14))
