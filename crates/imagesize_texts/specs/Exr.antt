-- OpenEXR, by "OpenEXR File Layout".
use Rattle.std.specs.Prelude.{nat_lt, ℕ, ◌+◌, Bool, ◌&&◌, List, [], ◌∷◌, length, codes, ◌==◌, if◌then◌else◌, Option, None, Some, ℤ, ◌-ℤ◌, int_le, unsigned_abs, bit_and}
use Rattle.std.specs.Int.{w32, cast_signed}
use Rattle.imagesize_types.specs.Head.{begins, four_at}
use Rattle.imagesize_types.specs.Sides.{size_if_known}
use Rattle.imagesize_types.specs.declared.size.ImageSize.{ImageSize}
use Rattle.imagesize_source.specs.declared.halt.Halt.TheVariants.{DataWindowNotFound}
use Rattle.imagesize_source.specs.declared.endian.Endian.TheVariants.{Little}
use Rattle.imagesize_source.specs.Chain.{Said, Decided, Next, Chain, chain_at}
use Rattle.imagesize_source.specs.Layout.{Layout, bind, bytes}
use Rattle.imagesize_source.specs.Layout.Layout.{begin_record, field, refuse, «done»}
use Rattle.imagesize_source.specs.Numbers.{number}
use Rattle.imagesize_source.specs.Reading.{Reads, and_then, number_read}
use Rattle.imagesize_source.specs.Walk.{Step, after, decides}
use Rattle.imagesize_source.specs.declared.walk.Start.{Start}
use Rattle.imagesize_texts.specs.Texts.{line_at}

-- whether the input begins with the magic number ("Magic Number")
unfoldable pub is_exr : List ℕ → Bool
is_exr head = begins (0x76 ∷ 0x2F ∷ 0x31 ∷ 0x01 ∷ []) head

-- the greatest length of a name in bytes, with the zero that ends it; bit 10 allows long names ("Version Field")
unfoldable pub name_room : ℕ → ℕ
name_room version = if bit_and version 0x400 == 0 then 32 else 256

-- whether the bytes are this text
abbrev pub is_text : List ℕ → List ℕ → Bool
is_text text bs = length bs == length text && begins text bs

-- the name and the type of the attribute that holds the size ("Standard Attributes", "Predefined Attribute Types")
unfoldable pub is_data_window : List ℕ → Bool
is_data_window name = is_text (codes "dataWindow") name

unfoldable pub is_box : List ℕ → Bool
is_box type_name = is_text (codes "box2i") type_name

-- the signed number of four bytes, the lowest byte first
abbrev pub signed_at : ℕ → List ℕ → ℤ
signed_at offset bs = cast_signed w32 (number Little (four_at offset bs))

-- how many numbers there are from `low` to `high`, or `None` if `high` is lower
unfoldable pub window_side : ℤ → ℤ → Option ℕ
window_side low high = if int_le low high then Some (unsigned_abs (high -ℤ low) + 1) else None

-- the size of a box, which is xMin, yMin, xMax and yMax; a reversed box has no size
unfoldable pub window_size : List ℕ → Option ImageSize
window_size bs = size_if_known (window_side (signed_at 0 bs) (signed_at 8 bs)) (window_side (signed_at 4 bs) (signed_at 12 bs))

abbrev pub exr_window : ℕ → ℕ → Option ImageSize → Layout (Said (Unit {0}) ImageSize)
exr_window offset taken (Some size) = done (Decided size)
exr_window offset taken None = done (Next tt (offset + (taken + 16)))

-- The value of an attribute, `taken` bytes after its offset. A data window has 16 bytes, whatever size the attribute
-- states.
abbrev pub exr_value : ℕ → ℕ → Bool → ℕ → Layout (Said (Unit {0}) ImageSize)
exr_value offset taken is_window size =
    if is_window then bytes (offset + taken) 16 (λ bs. exr_window offset taken (window_size bs))
    else done (Next tt (offset + (taken + size)))

abbrev pub exr_typed : ℕ → List ℕ → List ℕ → Layout (Said (Unit {0}) ImageSize)
exr_typed offset name type_name =
    field Little (offset + (length name + 1 + (length type_name + 1))) 4
    (λ size. exr_value offset (length name + 1 + (length type_name + 1) + 4) (is_data_window name && is_box type_name) size)

-- an empty name ends the header ("Header")
abbrev pub exr_named : ℕ → ℕ → List ℕ → Layout (Said (Unit {0}) ImageSize)
exr_named buffer offset name =
    if length name == 0 then refuse DataWindowNotFound
    else line_at 0 (offset + (length name + 1)) buffer (exr_typed offset name)

-- an attribute: its name, its type, the size of its value, and the value ("Attribute Layout")
abbrev pub exr_attribute : ℕ → ℕ → Layout (Said (Unit {0}) ImageSize)
exr_attribute buffer offset = begin_record (line_at 0 offset buffer (exr_named buffer offset))

-- the attributes after the version field
abbrev pub exr_attributes : ℕ → Chain (Unit {0}) ImageSize
exr_attributes buffer = record { first = 8; said = λ passed offset. exr_attribute buffer offset }

-- the first data window that is not reversed
abbrev pub exr : List ℕ → Reads ImageSize
exr d = and_then (number_read d Little 4 4) (λ version. chain_at (exr_attributes (name_room version)) d)

-- how many bytes a name may have, with the zero that ends it, by whether names may be long
abbrev pub names_of : Bool → ℕ
names_of long = if long then 256 else 32

-- the next attribute
abbrev pub exr_step : Step Bool ImageSize
exr_step long offset = bind (exr_attribute (names_of long) offset) (after (λ _. long) decides)

-- the version, which says whether names may be long; the attributes begin after it
abbrev pub exr_open : Layout (Start Bool)
exr_open = field Little 4 4 (λ version. done (record { records = nat_lt 32 (name_room version); offset = 8 }))
