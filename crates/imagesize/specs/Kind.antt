-- The type of an input.
use Rattle.std.specs.Prelude.{ℕ, Bool, List, [], ◌∷◌, if◌then◌else◌, Option, None, Some}
use Rattle.imagesize_fixed.specs.Atc.{atc_compression}
use Rattle.imagesize_fixed.specs.Dds.{dds_compression}
use Rattle.imagesize_boxes.specs.Heif.{heif_compression}
use Rattle.imagesize_fixed.specs.Pkm.{pkm_compression}
use Rattle.imagesize_fixed.specs.Pvrtc.{pvrtc_compression}
use Rattle.imagesize_fixed.specs.Tga.{is_tga}
use Rattle.imagesize.specs.Types.{Row, rows}
use Rattle.imagesize.specs.declared.types.ImageType.TheVariants.{Atc, Dds, Eac, Etc2, Heif, Pvrtc, Tga}
use Rattle.imagesize.specs.declared.types.ImageType.{ImageType}
use Rattle.imagesize_source.specs.Layout.Layout.{refuse, «done»}
use Rattle.imagesize_source.specs.Layout.{Layout, bind, bytes}
use Rattle.imagesize_source.specs.declared.halt.Halt.TheVariants.{NotSupported}

-- the type of the first row whose test holds
abbrev pub first_row : List Row → List ℕ → Option ImageType
first_row [] head = None
first_row (row ∷ rows) head = if row.holds head then Some row.found else first_row rows head

-- the same type, with its compression if it has several
unfoldable pub with_compression : ℕ → List ℕ → ImageType → Layout ImageType
with_compression offset head (Heif _) = bind (heif_compression offset head) (λ compression. done (Heif compression))
with_compression offset head (Atc _) = bind atc_compression (λ compression. done (Atc compression))
with_compression offset head (Pvrtc _) = bind pvrtc_compression (λ compression. done (Pvrtc compression))
with_compression offset head (Eac _) = bind pkm_compression (λ compression. done (Eac compression))
with_compression offset head (Etc2 _) = bind pkm_compression (λ compression. done (Etc2 compression))
with_compression offset head (Dds _) = bind dds_compression (λ compression. done (Dds compression))
with_compression offset head found = done found

abbrev pub tga_or_none : Bool → Layout ImageType
tga_or_none is = if is then done Tga else refuse NotSupported

-- What an input of n bytes is at an offset, with these first twelve bytes. TGA comes last, since it has no signature
-- at its beginning.
abbrev pub kind_by : ℕ → ℕ → List ℕ → Option ImageType → Layout ImageType
kind_by n offset head (Some found) = with_compression offset head found
kind_by n offset head None = bind (is_tga n head) tga_or_none

-- the type at an offset of an input of n bytes
abbrev pub kind : ℕ → ℕ → Layout ImageType
kind n offset = bytes offset 12 (λ head. kind_by n offset head (first_row rows head))
