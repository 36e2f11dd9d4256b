-- How far the record that is awaited is read.
use Rattle.std.proofs.Common.{ℕ, ◌+◌, ◌*◌, ◌<◌, ◌≤◌, eqb, List, length, take, arith}
use Rattle.imagesize_pieces.proofs.Reaching.{reach_accept, reach_bind, reach_if, reach_more}
use Rattle.imagesize_pieces.specs.Stream.{Reach}
use Rattle.imagesize_source.specs.Layout.{Layout, bind}
use Rattle.imagesize_source.specs.Layout.Layout.{refuse}
use Rattle.imagesize_source.specs.declared.halt.Halt.TheVariants.{DataWindowNotFound, NoDimensionsInIfd}
use Rattle.imagesize_source.specs.Chain.{Said}
use Rattle.imagesize_source.specs.Walk.{after, decides}
use Rattle.imagesize_records.specs.Steps.{is_text, reach_at, reach_of, step}
use Rattle.imagesize_records.specs.declared.awaited.Awaited.{Awaited}
use Rattle.imagesize_records.specs.declared.awaited.Awaited.TheVariants.{Exr, Jxl, Tiff}
use Rattle.imagesize_texts.proofs.Texts.{line_ok}
use Rattle.imagesize_texts.specs.Contents.{line_text}
use Rattle.imagesize_texts.specs.Exr.{exr_attribute, exr_named, exr_step, exr_typed, names_of}
use Rattle.imagesize_texts.specs.Texts.{line_at}
use Rattle.imagesize_boxes.specs.Jxl.{box_content, box_head, jxl_box, piece_at}
use Rattle.imagesize_boxes.specs.declared.formats.jxl.boxes.BoxHead.{BoxHead}
use Rattle.imagesize_walked.specs.Tiff.{entry_bytes, field_type_in, field_type_of, tiff_entry, tiff_head, tiff_value}
use Rattle.imagesize_boxes.specs.Walks.{front_of, jxl_step}
use Rattle.imagesize_types.specs.declared.size.ImageSize.{ImageSize}
use Rattle.imagesize_walked.specs.Walks.{entry_if_left, listed_step, tiff_step}
use Rattle.imagesize_walked.specs.declared.formats.tiff.Directory.TheVariants.{Entry}
use Rattle.imagesize_source.specs.declared.endian.Endian.{Endian}
use Rattle.imagesize_walked.specs.declared.formats.tiff.Listed.{Listed}
use Rattle.imagesize_walked.specs.declared.formats.tiff.Version.{Version}

-- a line has no more bytes than are read of it
line_reach : {X : Type 0} (low high offset most : ℕ) (g : List ℕ → Layout X) → low ≤ offset → offset + most ≤ high
    → ((text : List ℕ) → length text + 1 ≤ most → Reach low high (g text)) → Reach low high (line_at 0 offset most g)
line_reach low high offset most g early late rest =
    (early, late, λ bs few. reach_accept low high (line_text 0 most bs) g (λ text is. rest text (omega (arith, line_ok 0 most bs text is))))

-- an attribute of an EXR: its name, its type, the length of its value, and a box
typed_reach : (most offset : ℕ) (name type_name : List ℕ) → length name + 1 ≤ most → length type_name + 1 ≤ most
    → Reach offset (offset + (2 * most + 20)) (exr_typed offset name type_name)
typed_reach most offset name type_name short also = grind arith

attribute_reach : (most offset : ℕ) → Reach offset (offset + (2 * most + 20)) (exr_attribute most offset)
attribute_reach most offset =
    let high : ℕ = offset + (2 * most + 20) in
    line_reach offset high offset most (exr_named most offset) (omega arith) (omega arith) (λ name short.
    reach_if (eqb (length name) 0) offset high (refuse DataWindowNotFound)
    (line_at 0 (offset + (length name + 1)) most (exr_typed offset name)) tt
    (line_reach offset high (offset + (length name + 1)) most (exr_typed offset name) (omega arith) (omega arith)
    (λ type_name also. typed_reach most offset name type_name short also)))

-- an entry of a TIFF
entry_reach : (order : Endian) (version : Version) (offset : ℕ)
    → Reach offset (offset + entry_bytes version) (tiff_entry order version offset)
unfolding tiff_entry tiff_head tiff_value
entry_reach order version offset =
    let high : ℕ = offset + entry_bytes version in (
      omega arith,
      omega arith,
      λ head few.
          reach_accept offset high (field_type_of version (field_type_in order (take 4 head))) _
          (λ field_type is. grind arith),
    )

-- a box of a JPEG XL: its head of at most 16 bytes, and its content
head_reach : {X : Type 0} (offset : ℕ) (f : BoxHead → Layout X)
    → ((head : BoxHead) → head.length ≤ 16 → Reach offset (offset + 36) (f head))
    → Reach offset (offset + 36) (bind (box_head offset) f)
unfolding box_head
head_reach offset f rest = grind (arith, rest)

content_reach : (held : List ℕ) (offset : ℕ) (head : BoxHead) → head.length ≤ 16
    → Reach offset (offset + 36) (box_content held offset head)
unfolding piece_at
content_reach held offset head short = grind arith

-- a record of one format, as one of all
reach_into : {Q : Type 0} (into : Q → Awaited) (offset high : ℕ) (t : Layout (Said Q ImageSize)) → Reach offset high t
    → Reach offset high (bind t (after into decides))
reach_into into offset high t reach = reach_bind offset high t (after into decides) reach (λ said. grind arith)

listed_reach : (l : Listed) (offset : ℕ) → Reach offset (offset + entry_bytes l.version) (listed_step l offset)
listed_reach l offset =
    let high : ℕ = offset + entry_bytes l.version in
    reach_bind offset high (entry_if_left l offset) _
    (reach_if (eqb l.left 0) offset high (refuse NoDimensionsInIfd) (bind (tiff_entry l.order l.version offset) _) tt
    (reach_bind offset high (tiff_entry l.order l.version offset) _ (entry_reach l.order l.version offset) (λ entry. tt)))
    (λ said. grind arith)

-- each record
pub step_reach : (next : Awaited) (offset : ℕ) → Reach offset (offset + reach_at next) (step next offset)
step_reach (Exr long) offset =
    let high : ℕ = offset + (2 * names_of long + 20) in
    reach_into Exr offset high (exr_step long offset)
    (reach_bind offset high (exr_attribute (names_of long) offset) _ (attribute_reach (names_of long) offset) (λ said. grind arith))
step_reach (Tiff (Entry l)) offset =
    let high : ℕ = offset + entry_bytes l.version in
    reach_into Tiff offset high (tiff_step (Entry l) offset)
    (reach_bind offset high (listed_step l offset) _ (listed_reach l offset) (λ said. grind arith))
step_reach (Jxl boxes) offset =
    reach_into Jxl offset (offset + 36) (jxl_step boxes offset)
    (reach_bind offset (offset + 36) (jxl_box (front_of boxes) offset) _
    (head_reach offset (box_content (front_of boxes) offset) (content_reach (front_of boxes) offset)) (λ said. grind arith))
step_reach next offset = grind arith

-- a text is read no further than 1,024 bytes, any other record no further than 132
pub reach_few : (next : Awaited) → reach_at next ≤ reach_of (is_text next)
reach_few next = grind arith

-- each record is read
pub reach_some : (next : Awaited) → 0 < reach_at next
reach_some next = grind arith

-- no record is read further than 1,024 bytes
pub reach_most : (next : Awaited) → reach_at next ≤ 1024
reach_most next = grind arith

-- a record reads no byte after its first 1,024
pub step_far : (next : Awaited) (offset high : ℕ) → offset + 1024 ≤ high → Reach offset high (step next offset)
step_far next offset high enough = reach_more offset (offset + reach_at next) high (step next offset)
    (omega (arith, enough, reach_most next)) (step_reach next offset)
