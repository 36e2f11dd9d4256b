-- JPEG XL. ISO/IEC 18181-1 (the codestream) and 18181-2 (the boxes around it).
use Rattle.std.specs.Prelude.{min, take, drop, slice_index, Option, None, Some, ℕ, ◌+◌, ◌-◌, ◌*◌, ◌/◌, ◌^◌, ◌==◌, Bool, false, List, codes, [], ◌∷◌, ◌++◌, ◌||◌, ◌&&◌, not, length, nat_le, nat_lt, if◌then◌else◌, Result, Ok, Err}
use Rattle.std.specs.List.{concat}
use Rattle.imagesize_boxes.specs.Fields.{Fields, found, bits, bind_fields, found_by, field_at, bits_of}
use Rattle.imagesize_boxes.specs.declared.formats.jxl.boxes.BoxHead.{BoxHead}
use Rattle.imagesize_boxes.specs.declared.formats.jxl.header.Side.{Side}
use Rattle.imagesize_source.specs.declared.halt.Halt.{Halt}
use Rattle.imagesize_source.specs.declared.halt.Halt.TheVariants.{Corrupted, Ended, InvalidJxlBoxSize, InvalidJxlSignature}
use Rattle.imagesize_source.specs.Chain.{Said, Decided, Next, Chain, chain_at}
use Rattle.imagesize_source.specs.Layout.{Layout, layout_reads, bind, bytes, bytes_there, accept}
use Rattle.imagesize_source.specs.Layout.Layout.{begin_record, field, refuse, done}
use Rattle.imagesize_source.specs.Numbers.{number}
use Rattle.imagesize_source.specs.Reading.{Reads, gives, just, and_then}
use Rattle.imagesize_source.specs.declared.endian.Endian.TheVariants.{Big}
use Rattle.imagesize_types.specs.Head.{begins}
use Rattle.imagesize_types.specs.Sides.{exchange_if}
use Rattle.imagesize_types.specs.declared.size.ImageSize.{ImageSize}

-- whether the bytes begin with the signature of a codestream
abbrev pub has_signature : List ℕ → Bool
has_signature front = begins (0xFF ∷ 0x0A ∷ []) front

-- whether the input begins with the signature of a codestream, or with the signature box of a container
unfoldable pub is_jxl : List ℕ → Bool
is_jxl head = begins (0xFF ∷ 0x0A ∷ []) head || begins (0 ∷ 0 ∷ 0 ∷ 0x0C ∷ (codes "JXL " ++ 0x0D ∷ 0x0A ∷ 0x87 ∷ 0x0A ∷ [])) head

-- The size in the header (18181-1, annex D, SizeHeader).

-- a side of a small image: 5 bits, in units of eight pixels
abbrev pub small_side : ℕ → Fields Side
small_side from = bits from 5 (λ units. found (record { length = (units + 1) * 8; end = from + 5 }))

-- how many bits a side has, by its selector
abbrev pub side_bits : ℕ → ℕ
side_bits selector = if selector == 0 then 9 else if selector == 1 then 13 else if selector == 2 then 18 else 30

-- a side of any other image: a selector, then the side less one
abbrev pub large_side : ℕ → Fields Side
large_side from = bits from 2 (λ selector. bits (from + 2) (side_bits selector)
    (λ less_one. found (record { length = less_one + 1; end = from + 2 + side_bits selector })))

abbrev pub side_fields : Bool → ℕ → Fields Side
side_fields small from = if small then small_side from else large_side from

-- the width that a ratio gives for this height
abbrev pub width_by : ℕ → ℕ → ℕ
width_by ratio height =
    if ratio == 1 then height
    else if ratio == 2 then height * 12 / 10
    else if ratio == 3 then height * 4 / 3
    else if ratio == 4 then height * 3 / 2
    else if ratio == 5 then height * 16 / 9
    else if ratio == 6 then height * 5 / 4
    else height * 2

-- after the height: a ratio, or 0 and then the width itself
abbrev pub width_side : Bool → Side → Fields Side
width_side small height = bits height.end 3 (λ ratio.
    if ratio == 0 then side_fields small (height.end + 3)
    else found (record { length = width_by ratio height.length; end = height.end + 3 }))

-- After the size (ImageMetadata): everything is default, or extra fields begin with the orientation. An orientation
-- of 5 to 8, stored less one, exchanges the width and the height.
abbrev pub exchanges_sides : ℕ → Fields Bool
exchanges_sides from = bits from 1 (λ all_default.
    if all_default == 1 then found false
    else bits (from + 1) 1 (λ extra. if extra == 0 then found false else bits (from + 2) 3 (λ orientation. found (nat_le 4 orientation))))

-- after the signature: whether the image is small, its height, its width and its orientation
abbrev pub jxl_header : Fields ImageSize
jxl_header = bits 16 1 (λ small.
    bind_fields (side_fields (small == 1) 17) (λ height.
    bind_fields (width_side (small == 1) height) (λ width.
    bind_fields (exchanges_sides width.end)
    (λ exchanged. found (exchange_if exchanged (record { width = width.length; height = height.length }))))))

-- the size from the first bytes of a codestream
unfoldable pub jxl_size : List ℕ → Result ImageSize Halt
jxl_size front =
    if nat_lt (length front) 2 then Err Corrupted
    else if has_signature front then found_by (field_at (bits_of front)) jxl_header
    else Err InvalidJxlSignature

-- The bytes of a codestream.

-- at most `count` bytes, as many as the input has; no read if `count` is 0
unfoldable pub piece_at : ℕ → ℕ → Layout (List ℕ)
piece_at offset count = if count == 0 then done [] else bytes_there offset count (λ piece. done piece)

-- A box ends at 2^64 - 1 or before, and not within its own head. The size 0 means that the box is open.
abbrev pub box_checked : ℕ → BoxHead → Result BoxHead Halt
box_checked offset head =
    if nat_lt (2 ^ 64 - 1) (offset + head.size) then Err Corrupted
    else if not (head.size == 0) && nat_lt head.size head.length then Err (InvalidJxlBoxSize head.size (number Big head.tag))
    else Ok head

-- the size and the tag; after a size of 1, eight more bytes hold the size (ISO/IEC 14496-12, section 4.2)
unfoldable pub box_head : ℕ → Layout BoxHead
box_head offset = bytes offset 8 (λ head.
    if number Big (take 4 head) == 1 then field Big (offset + 8) 8
    (λ size. accept (box_checked offset (record { tag = drop 4 head; size = size; length = 16 })) done)
    else accept (box_checked offset (record { tag = drop 4 head; size = number Big (take 4 head); length = 8 })) done)

-- how many bytes of content a box has; 16 are enough for an open box
abbrev pub box_room : BoxHead → ℕ
box_room head = if head.size == 0 then 16 else head.size - head.length

-- what a box with this piece says, after these bytes; an open box is the last
abbrev pub said_behind : List ℕ → ℕ → BoxHead → List ℕ → Said (List ℕ) (List ℕ)
said_behind held offset head piece = if head.size == 0 then Decided (held ++ piece) else Next piece (offset + head.size)

-- the codestream (box `jxlc`)
abbrev pub codestream_box : ℕ → BoxHead → Layout (Said (List ℕ) (List ℕ))
codestream_box offset head = bind (piece_at (offset + head.length) (min 16 (box_room head))) (λ front. done (Decided front))

-- What a piece says. The walk ends if this piece completes sixteen bytes, or if the high bit of its index is set.
abbrev pub partial_said : List ℕ → ℕ → BoxHead → List ℕ → List ℕ → Said (List ℕ) (List ℕ)
partial_said held offset head index piece = if length held + length piece == 16 || nat_le 0x80 (slice_index index 0) then Decided
    (held ++ piece) else said_behind held offset head piece

-- a part of the codestream, after its index (box `jxlp`)
abbrev pub partial_box : List ℕ → ℕ → BoxHead → Layout (Said (List ℕ) (List ℕ))
partial_box held offset head =
    if nat_lt (box_room head) 4 then refuse Ended
    else bytes (offset + head.length) 4 (λ index.
    bind (piece_at (offset + (head.length + 4)) (min (box_room head - 4) (16 - length held)))
    (λ piece. done (partial_said held offset head index piece)))

abbrev pub box_content : List ℕ → ℕ → BoxHead → Layout (Said (List ℕ) (List ℕ))
box_content held offset head =
    if begins (codes "jxlc") head.tag then codestream_box offset head
    else if begins (codes "jxlp") head.tag then partial_box held offset head
    else done (said_behind held offset head [])

-- a box, after boxes that hold these bytes
abbrev pub jxl_box : List ℕ → ℕ → Layout (Said (List ℕ) (List ℕ))
jxl_box held offset = begin_record (bind (box_head offset) (λ head. box_content held offset head))

-- the boxes after the signature box, each with a piece of the codestream
abbrev pub jxl_chain : Chain (List ℕ) (List ℕ)
jxl_chain = record { first = 12; said = λ pieces offset. jxl_box (concat pieces) offset }

-- the first bytes of a codestream without boxes, or `None` if there are boxes
abbrev pub jxl_start : Layout (Option (List ℕ))
jxl_start = bytes 0 2 (λ start. if has_signature start then bytes_there 2 14 (λ more. done (Some (start ++ more))) else done None)

-- the first bytes of the codestream: those, or the pieces in the boxes, joined
abbrev pub codestream : List ℕ → Option (List ℕ) → Reads (List ℕ)
codestream d (Some front) = gives front
codestream d None = chain_at jxl_chain d

abbrev pub jxl_codestream : List ℕ → Reads (List ℕ)
jxl_codestream d = and_then (layout_reads d jxl_start) (codestream d)

-- the size from these bytes
abbrev pub jxl : List ℕ → Reads ImageSize
jxl d = and_then (jxl_codestream d) (λ front. just (jxl_size front) [])
