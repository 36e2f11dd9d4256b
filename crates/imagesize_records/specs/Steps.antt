-- The record that a stream waits for, as one sequence for all formats whose size is in records.
use Rattle.std.specs.Prelude.{ℕ, ◌+◌, ◌*◌, Bool, true, false, if◌then◌else◌}
use Rattle.std.specs.Coded.{Unit-prop, le_prop}
use Rattle.imagesize_source.specs.Layout.{bind}
use Rattle.imagesize_source.specs.Walk.{Step, after, decides}
use Rattle.imagesize_source.specs.declared.text.Text.{Text}
use Rattle.imagesize_source.specs.declared.text.Text.TheVariants as text
use Rattle.imagesize_records.specs.declared.awaited.Awaited.{Awaited}
use Rattle.imagesize_records.specs.declared.awaited.Awaited.TheVariants.{Exr, Hdr, Heif, Ico, Ilbm, Jpeg, Jxl, Pnm, Tiff}
use Rattle.imagesize_boxes.specs.Walks.{heif_step, jxl_holds, jxl_step}
use Rattle.imagesize_boxes.specs.declared.formats.heif.Sought.{Sought}
use Rattle.imagesize_boxes.specs.declared.formats.heif.Sought.TheVariants.{Ipco, Iprp, Meta, Property}
use Rattle.imagesize_texts.specs.Exr.{exr_step, names_of}
use Rattle.imagesize_texts.specs.Hdr.{hdr_step}
use Rattle.imagesize_texts.specs.Walks.{pnm_step}
use Rattle.imagesize_texts.specs.declared.formats.pnm.Part.{Part}
use Rattle.imagesize_texts.specs.declared.formats.pnm.Part.TheVariants.{Comment}
use Rattle.imagesize_types.specs.declared.size.ImageSize.{ImageSize}
use Rattle.imagesize_walked.specs.Tiff.{count_bytes, entry_bytes}
use Rattle.imagesize_walked.specs.Walks.{ico_holds, ico_holds_prop, ico_step, ilbm_step, jpeg_holds, jpeg_step, tiff_step}
use Rattle.imagesize_walked.specs.declared.formats.tiff.Directory.{Directory}
use Rattle.imagesize_walked.specs.declared.formats.tiff.Directory.TheVariants.{Count, Entry}

-- the next record of any format, which is that of its own format
abbrev pub step : Step Awaited ImageSize
step (Jpeg s) offset = bind (jpeg_step s offset) (after Jpeg decides)
step (Ilbm s) offset = bind (ilbm_step s offset) (after Ilbm decides)
step (Ico s) offset = bind (ico_step s offset) (after Ico decides)
step (Tiff s) offset = bind (tiff_step s offset) (after Tiff decides)
step (Heif s) offset = bind (heif_step s offset) (after Heif decides)
step (Jxl s) offset = bind (jxl_step s offset) (after Jxl decides)
step (Exr long) offset = bind (exr_step long offset) (after Exr decides)
step Hdr offset = bind (hdr_step tt offset) (after (λ _. Hdr) decides)
step (Pnm s) offset = bind (pnm_step s offset) (after Pnm decides)

-- whether a record is a text: a line, a word, or names that end with a zero
abbrev pub is_text : Awaited → Bool
is_text (Exr long) = true
is_text Hdr = true
is_text (Pnm s) = true
is_text _ = false

-- the text that a part of a portable bitmap's header begins with
abbrev pub part_text : Part → Text
part_text Comment = text.Line 0x0A
part_text _ = text.Word

-- the text that a record begins with, if it is a text
abbrev pub first_text : Awaited → Text
first_text (Exr long) = text.Line 0
first_text Hdr = text.Line 0x0A
first_text (Pnm s) = part_text s
first_text _ = text.Word

-- how many bytes from its offset on a record is read at most, by whether it is a text
abbrev pub reach_of : Bool → ℕ
reach_of texts = if texts then 1024 else 132

abbrev pub directory_reach : Directory → ℕ
directory_reach (Count header) = count_bytes header.version
directory_reach (Entry l) = entry_bytes l.version

abbrev pub box_reach : Sought → ℕ
box_reach Meta = 12
box_reach Iprp = 8
box_reach Ipco = 8
box_reach (Property g) = 20

-- How many bytes from its offset on a record is read at most. Of a JPEG, these are the marker and a frame's first fields. Of an EXR,
-- two names, a length and a box. Of a HEIF, a box's head, with a version or the content of a property. Of a JPEG XL, the head of a
-- box, its index and 16 bytes.
abbrev pub reach_at : Awaited → ℕ
reach_at (Jpeg s) = 9
reach_at (Ilbm s) = 12
reach_at (Ico s) = 2
reach_at (Tiff s) = directory_reach s
reach_at (Heif s) = box_reach s
reach_at (Jxl s) = 36
reach_at (Exr long) = 2 * names_of long + 20
reach_at Hdr = 256
reach_at (Pnm s) = 1024

-- what always holds of the next record at an offset
abbrev pub IsSteady : Awaited → ℕ → Type 0
IsSteady (Jpeg s) offset = jpeg_holds s offset
IsSteady (Ico s) offset = ico_holds s offset
IsSteady (Jxl s) offset = jxl_holds s offset
IsSteady _ offset = Unit {0}

pub steady_prop : (next : Awaited) (offset : ℕ) → IsProp (IsSteady next offset)
steady_prop (Jpeg s) offset = le_prop
steady_prop (Ico s) offset = ico_holds_prop s offset
steady_prop (Jxl s) offset = le_prop
steady_prop _ offset = Unit-prop
