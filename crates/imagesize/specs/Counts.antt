-- How many bytes a type and its size are read from, and what appended bytes cannot change.
use Rattle.std.specs.Prelude.{◌≡◌, ℕ, Bool, true, false, ◌⊎◌, List, Result, Ok, Err}
use Rattle.imagesize.specs.Meaning.{kind_of, meaning}
use Rattle.imagesize.specs.Types.{lasts, way_of}
use Rattle.imagesize.specs.declared.types.ImageType.{ImageType}
use Rattle.imagesize.specs.declared.types.ImageType.TheVariants.{Atc, Dds, Eac, Etc2, Heif, Pvrtc, Tga}
use Rattle.imagesize_types.specs.declared.compression.AtcCompression.TheVariants.{Unknown as atc_unknown}
use Rattle.imagesize_types.specs.declared.compression.Compression.TheVariants.{Unknown as heif_unknown}
use Rattle.imagesize_types.specs.declared.compression.DdsCompression.TheVariants.{Unknown as dds_unknown}
use Rattle.imagesize_types.specs.declared.compression.PkmCompression.TheVariants.{Unknown as pkm_unknown}
use Rattle.imagesize_types.specs.declared.compression.PvrtcCompression.TheVariants.{Unknown as pvrtc_unknown}
use Rattle.imagesize_source.specs.Limits.{stated_fixed}
use Rattle.imagesize_source.specs.State.{total}
use Rattle.imagesize_source.specs.Way.{most_by, stated_by}

-- the sum of the spans' lengths, with repeats
abbrev pub cost : List ℕ → ℕ → ℕ
cost d offset = total (meaning d offset).marks

-- The bound over all types, in bytes: 41 for an unknown type and for a size at fixed offsets. For a size in records:
-- 64, and 20 for each record that is begun (540 in EXR). For a text: 64 more than the length of the input.
abbrev pub stated_as : {E : Type 0} → Result ImageType E → List ℕ → ℕ
stated_as (Ok type) d = stated_by (way_of type) d
stated_as (Err _) d = stated_fixed

abbrev pub stated_bytes : List ℕ → ℕ → ℕ
stated_bytes d offset = stated_as (kind_of d offset).answer d

-- the bound for each format, in bytes; 37 for an unknown type
abbrev pub most_as : {E : Type 0} → Result ImageType E → List ℕ → ℕ
most_as (Ok type) d = most_by (way_of type) d
most_as (Err _) d = 37

abbrev pub most_bytes : List ℕ → ℕ → ℕ
most_bytes d offset = most_as (kind_of d offset).answer d

-- Appended bytes do not change such a type, except for an unknown compression. The bytes after an image may make it a
-- TGA, or no TGA any more.
abbrev pub keeps : ImageType → Bool
keeps Tga = false
keeps _ = true

-- the type, with its compression unknown if it has several
abbrev pub without_compression : ImageType → ImageType
without_compression (Atc _) = Atc atc_unknown
without_compression (Dds _) = Dds dds_unknown
without_compression (Eac _) = Eac pkm_unknown
without_compression (Etc2 _) = Etc2 pkm_unknown
without_compression (Heif _) = Heif heif_unknown
without_compression (Pvrtc _) = Pvrtc pvrtc_unknown
without_compression type = type

-- the type found before is this one, or this one with its compression unknown
abbrev pub Stays : ImageType → ImageType → Type 0
Stays found type = (type ≡ found) ⊎ (found ≡ without_compression type)

-- whether appended bytes cannot change a size of the type that was found
abbrev pub lasts_as : {E : Type 0} → Result ImageType E → Bool
lasts_as (Ok type) = lasts type
lasts_as (Err _) = false
