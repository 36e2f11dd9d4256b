-- The numbers of types, compressions and families: a base plus the position in the list.
use Rattle.std.specs.Prelude.{ℕ, Bool, ◌+◌, ◌==◌, ◌&&◌, if◌then◌else◌, Option, None, Some}
use Rattle.std.specs.List.{find}
use Rattle.imagesize.specs.Ranks.{family_rank}
use Rattle.imagesize.specs.Types.{type_rank, types}
use Rattle.imagesize.specs.declared.types.CompressionFamily.{CompressionFamily}
use Rattle.imagesize.specs.declared.types.ImageType.{ImageType}
use Rattle.imagesize.specs.declared.types.ImageType.TheVariants.{Atc, Dds, Eac, Etc2, Heif, Pvrtc}
use Rattle.imagesize_types.specs.Ranks.{atc_rank, dds_rank, heif_rank, pkm_rank, pvrtc_rank}
use Rattle.imagesize_types.specs.declared.compression.AtcCompression.TheVariants as atc
use Rattle.imagesize_types.specs.declared.compression.DdsCompression.TheVariants as dds
use Rattle.imagesize_types.specs.declared.compression.Compression.TheVariants as heif
use Rattle.imagesize_types.specs.declared.compression.PkmCompression.TheVariants as pkm
use Rattle.imagesize_types.specs.declared.compression.PvrtcCompression.TheVariants as pvrtc

-- the number of a type: 1 plus its position
abbrev pub type_number : ImageType → ℕ
type_number image = 1 + type_rank image

-- the number of the compression at a position: 1 for the unknown one, else a base plus the position
abbrev pub numbered_from : ℕ → ℕ → ℕ → ℕ
numbered_from base unknown offset = if offset == unknown then 1 else base + offset

-- the number of a type's compression, or 0 if the type has none
abbrev pub compression_number : ImageType → ℕ
compression_number (Atc compression) = numbered_from 2 (atc_rank atc.Unknown) (atc_rank compression)
compression_number (Dds compression) = numbered_from 5 (dds_rank dds.Unknown) (dds_rank compression)
compression_number (Eac compression) = numbered_from 17 (pkm_rank pkm.Unknown) (pkm_rank compression)
compression_number (Etc2 compression) = numbered_from 17 (pkm_rank pkm.Unknown) (pkm_rank compression)
compression_number (Heif compression) = numbered_from 14 (heif_rank heif.Unknown) (heif_rank compression)
compression_number (Pvrtc compression) = numbered_from 25 (pvrtc_rank pvrtc.Unknown) (pvrtc_rank compression)
compression_number _ = 0

-- whether the type has these two numbers
abbrev pub has_numbers : ℕ → ℕ → ImageType → Bool
has_numbers number compression image = (type_number image == number) && (compression_number image == compression)

-- the type with this number, and a compression with this number
unfoldable pub type_numbered : ℕ → ℕ → Option ImageType
type_numbered number compression = find (has_numbers number compression) types

-- the number of a family: 1 plus its position, or 0 if there is none
abbrev pub family_number : Option CompressionFamily → ℕ
family_number None = 0
family_number (Some family) = 1 + family_rank family
