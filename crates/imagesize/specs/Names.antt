-- How image types are printed.
use Rattle.std.specs.Prelude.{ℕ, List, ◌++◌, Option, None, Some, codes}
use Rattle.imagesize.specs.Compressions.{atc_name_of, dds_name_of, heif_name_of, pkm_name_of, pvrtc_name_of}
use Rattle.imagesize.specs.Types.{type_name_of}
use Rattle.imagesize.specs.declared.types.ImageType.{ImageType}
use Rattle.imagesize.specs.declared.types.ImageType.TheVariants.{Atc, Dds, Eac, Etc2, Heif, Pvrtc}

-- the name of a type's compression, if it has several
abbrev pub compression_name_of : ImageType → Option (List ℕ)
compression_name_of (Atc compression) = Some (atc_name_of compression)
compression_name_of (Dds compression) = Some (dds_name_of compression)
compression_name_of (Eac compression) = Some (pkm_name_of compression)
compression_name_of (Etc2 compression) = Some (pkm_name_of compression)
compression_name_of (Heif compression) = Some (heif_name_of compression)
compression_name_of (Pvrtc compression) = Some (pvrtc_name_of compression)
compression_name_of _ = None

-- a name, with the name of a compression in parentheses if there is one
abbrev pub name_with : List ℕ → Option (List ℕ) → List ℕ
name_with name None = name
name_with name (Some compression) = name ++ (codes "(" ++ (compression ++ codes ")"))

-- the type as text
abbrev pub type_text : ImageType → List ℕ
type_text image = name_with (type_name_of image) (compression_name_of image)
