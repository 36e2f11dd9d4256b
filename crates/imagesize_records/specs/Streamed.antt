-- What the first bytes of an image say: its type, and its size or the first record on the way to it.
use Rattle.std.specs.Prelude.{ℕ, List, length, if◌then◌else◌, Option, None, Some}
use Rattle.imagesize.specs.Kind.{first_row, tga_or_none, with_compression}
use Rattle.imagesize.specs.Types.{rows, way_of}
use Rattle.imagesize.specs.declared.types.ImageType.{ImageType}
use Rattle.imagesize.specs.declared.types.ImageType.TheVariants as type
use Rattle.imagesize_fixed.specs.Tga.{is_tga, may_be_tga}
use Rattle.imagesize_source.specs.Layout.{Layout, accept, bind, bytes, layout_reads}
use Rattle.imagesize_source.specs.Layout.Layout.{refuse, «done»}
use Rattle.imagesize_source.specs.Reading.{Reads, gives}
use Rattle.imagesize_source.specs.Way.{Way, Fixed, Recorded, Texts}
use Rattle.imagesize_source.specs.declared.halt.Halt.TheVariants.{NotSupported}
use Rattle.imagesize_source.specs.declared.walk.Start.{Start}
use Rattle.imagesize_boxes.specs.Jxl.{jxl_size, jxl_start}
use Rattle.imagesize_boxes.specs.Walks.{heif_open, no_boxes}
use Rattle.imagesize_records.specs.declared.awaited.Awaited.{Awaited}
use Rattle.imagesize_records.specs.declared.awaited.Awaited.TheVariants.{Exr, Hdr, Heif, Ico, Ilbm, Jpeg, Jxl, Pnm, Tiff}
use Rattle.imagesize_records.specs.declared.opening.First.{First}
use Rattle.imagesize_records.specs.declared.opening.First.TheVariants as first
use Rattle.imagesize_records.specs.declared.opening.Opening.{Opening}
use Rattle.imagesize_records.specs.declared.opening.Opening.TheVariants as opened
use Rattle.imagesize_texts.specs.Exr.{exr_open}
use Rattle.imagesize_texts.specs.Hdr.{hdr_open}
use Rattle.imagesize_texts.specs.declared.formats.pnm.Part.TheVariants.{Word}
use Rattle.imagesize_types.specs.declared.size.ImageSize.{ImageSize}
use Rattle.imagesize_walked.specs.Walks.{ico_open, jpeg_first, tiff_open}

-- what the first bytes say about the type, by the first row that holds of them
abbrev pub first_by : List ℕ → Option ImageType → Layout First
first_by head (Some found) = bind (with_compression 0 head found) (λ type. done (first.Type type))
first_by head None = if may_be_tga head then done (first.MaybeTga head) else refuse NotSupported

abbrev pub first_layout : Layout First
first_layout = bytes 0 12 (λ head. first_by head (first_row rows head))

-- the type that follows from what the first bytes say
abbrev pub type_behind : List ℕ → First → Reads ImageType
type_behind d (first.Type type) = gives type
type_behind d (first.MaybeTga head) = layout_reads d (bind (is_tga (length d) head) tga_or_none)

-- a size at fixed offsets
abbrev pub sized : Layout ImageSize → Layout Opening
sized layout = bind layout (λ size. done (opened.Size size))

abbrev pub opens : Awaited → ℕ → Layout Opening
opens next offset = done (opened.Records next offset)

-- the first record of a format whose first bytes say where it is
abbrev pub opens_at : {Q : Type 0} → (Q → Awaited) → Start Q → Layout Opening
opens_at into s = opens (into s.records) s.offset

-- a JPEG XL codestream without boxes, or the boxes
abbrev pub jxl_opened : Option (List ℕ) → Layout Opening
jxl_opened (Some front) = accept (jxl_size front) (λ size. done (opened.Size size))
jxl_opened None = opens (Jxl no_boxes) 12

-- the first record of a type that stores its size in records
abbrev pub opening_records : ImageType → Layout Opening
opening_records type.Exr = bind exr_open (opens_at Exr)
opening_records type.Hdr = bind hdr_open (opens_at (λ _. Hdr))
opening_records (type.Heif _) = bind heif_open (opens_at Heif)
opening_records type.Ico = bind ico_open (opens_at Ico)
opening_records type.Ilbm = opens (Ilbm (record {})) 12
opening_records type.Jpeg = opens (Jpeg jpeg_first) 2
opening_records type.Jxl = bind jxl_start jxl_opened
opening_records type.Pnm = opens (Pnm Word) 2
opening_records type.Tiff = bind tiff_open (opens_at Tiff)
opening_records _ = refuse NotSupported

-- what holds for the layout of a size at fixed offsets
abbrev pub IfFixed : Way ImageSize → (Layout ImageSize → Type 0) → Type 0
IfFixed (Fixed most layout) Holds = Holds layout
IfFixed _ Holds = Unit {0}

-- what holds for the reads of a size in records
abbrev pub IfRecorded : Way ImageSize → ((List ℕ → Reads ImageSize) → Type 0) → Type 0
IfRecorded (Fixed most layout) Holds = Unit {0}
IfRecorded (Recorded outside each stated reads) Holds = Holds reads
IfRecorded (Texts reads) Holds = Holds reads

-- the size, if it is at fixed offsets, or else the first record
abbrev pub opening_by : Way ImageSize → Layout Opening → Layout Opening
opening_by (Fixed most layout) first = sized layout
opening_by _ first = first

-- what the first bytes say about the size, by the type
abbrev pub opening : ImageType → Layout Opening
opening type = opening_by (way_of type) (opening_records type)
