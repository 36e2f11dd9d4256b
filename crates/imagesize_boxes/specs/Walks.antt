-- The walks along boxes and properties: the state before a record, and the record after it. What the code returns for one of them,
-- and for the bits of a number.
use Rattle.std.specs.Prelude.{◌++◌, codes, take, drop, replicate, ℕ, ◌+◌, ◌-◌, ◌/◌, ◌%◌, ◌^◌, ◌<◌, ◌≤◌, nat_le, nat_lt, List, length, if◌then◌else◌, Option, None, Some, unwrap_or, ok_or, option_map, Result, Ok, Err}
use Rattle.imagesize_boxes.specs.Fields.{Fields, found_by}
use Rattle.imagesize_boxes.specs.Heif.{no_pixels, property_at, property_bytes, searched_box, skipped_bytes, turn_by}
use Rattle.imagesize_boxes.specs.declared.formats.heif.Boxes as heif
use Rattle.imagesize_boxes.specs.declared.formats.heif.FoundBox.{FoundBox}
use Rattle.imagesize_boxes.specs.declared.formats.heif.Gathered.{Gathered}
use Rattle.imagesize_boxes.specs.declared.formats.heif.Property.{Property}
use Rattle.imagesize_boxes.specs.declared.formats.heif.Property.TheVariants.{Extents, Rotation, Skipped}
use Rattle.imagesize_boxes.specs.declared.formats.heif.Sought.{Sought}
use Rattle.imagesize_boxes.specs.declared.formats.heif.Sought.TheVariants as sought
use Rattle.imagesize_boxes.specs.Jxl.{jxl_box, jxl_size}
use Rattle.imagesize_boxes.specs.declared.formats.jxl.boxes.Boxes.{Boxes}
use Rattle.imagesize_boxes.specs.declared.formats.jxl.boxes.Content.{Content}
use Rattle.imagesize_boxes.specs.declared.formats.jxl.boxes.Content.TheVariants.{Codestream, Piece}
use Rattle.imagesize_boxes.specs.declared.formats.jxl.boxes.BoxHead.{BoxHead}
use Rattle.imagesize_source.specs.declared.halt.Halt.{Halt}
use Rattle.imagesize_source.specs.declared.halt.Halt.TheVariants.{Corrupted, Ended, NotEnoughData}
use Rattle.imagesize_source.specs.declared.endian.Endian.TheVariants.{Big}
use Rattle.imagesize_source.specs.declared.walk.Found.{Found}
use Rattle.imagesize_source.specs.declared.walk.Start.{Start}
use Rattle.imagesize_source.specs.Chain.{Said, Decided, Next}
use Rattle.imagesize_source.specs.Layout.{Layout, accept, bind, bytes}
use Rattle.imagesize_source.specs.Layout.Layout.{field, done}
use Rattle.imagesize_source.specs.Walk.{Step, after, decides, said_at}
use Rattle.imagesize_types.specs.Largest.{area_if_some}
use Rattle.imagesize_types.specs.Order.{area_of}
use Rattle.imagesize_types.specs.declared.size.ImageSize.{ImageSize}

-- what a property of a HEIF says to the walk along the list
abbrev pub property_said : ℕ → Option Property → Said Property (Unit {0})
property_said offset None = Decided tt
property_said offset (Some property) = Next property (offset + property_bytes property)

-- what a box says that was found at this offset
abbrev pub box_said : ℕ → Found FoundBox → Said (Unit {0}) FoundBox
box_said offset found = said_at tt offset found

-- the next box of a search
abbrev pub search_step : Step heif.Boxes FoundBox
search_step boxes offset = bind (searched_box boxes.name offset) (after (λ _. boxes) decides)

-- a box that is skipped is smaller than the bytes left
abbrev pub IsLeftFor : ℕ → Option Property → Type 0
IsLeftFor left None = Unit {0}
IsLeftFor left (Some property) = skipped_bytes property ≤ left

-- the size of greater area, or the first of two equal ones
abbrev pub earlier_largest : Option ImageSize → ImageSize → ImageSize
earlier_largest first second = if nat_lt (area_if_some first) (area_of second) then second else unwrap_or first no_pixels

-- what the properties so far add up to, with one more
abbrev pub gathered_with : Gathered → Property → Gathered
gathered_with g (Extents size) = record g { best = Some (earlier_largest g.best size) }
gathered_with g (Rotation turn) = record g { turn = Some turn }
gathered_with g (Skipped size) = record g { left = g.left - size }

-- the result at the end of the list
abbrev pub gathered_answer : Gathered → Result ImageSize Halt
gathered_answer g = ok_or (option_map (turn_by g.turn) g.best) NotEnoughData

-- what the properties of a box of `all` bytes add up to before the first
abbrev pub gathered_first : ℕ → Gathered
gathered_first all = record { left = all; best = None; turn = None }

-- a property, or at the end of the list the result
abbrev pub property_or_result : Gathered → ℕ → Option Property → Layout (Said Gathered ImageSize)
property_or_result g offset None = accept (gathered_answer g) decides
property_or_result g offset (Some property) = done (Next (gathered_with g property) (offset + property_bytes property))

-- the next property of a list, after those that add up to g
abbrev pub list_step : Step Gathered ImageSize
list_step g offset = bind (property_at g.left offset) (property_or_result g offset)

-- what follows the boxes of a HEIF that were found at an offset
abbrev pub meta_leads : ℕ → FoundBox → Layout (Said Sought ImageSize)
meta_leads offset meta = bytes (offset + 8) 4 (λ version. done (Next sought.Iprp (offset + 12)))

abbrev pub iprp_leads : ℕ → FoundBox → Layout (Said Sought ImageSize)
iprp_leads offset iprp = done (Next sought.Ipco (offset + 8))

abbrev pub ipco_leads : ℕ → FoundBox → Layout (Said Sought ImageSize)
ipco_leads offset ipco = done (Next (sought.Property (gathered_first ipco.size)) (offset + 8))

-- the next box of a HEIF on the way to its properties, or the next of these
abbrev pub heif_step : Step Sought ImageSize
heif_step sought.Meta offset = bind (searched_box (codes "meta") offset) (after (λ _. sought.Meta) (meta_leads offset))
heif_step sought.Iprp offset = bind (searched_box (codes "iprp") offset) (after (λ _. sought.Iprp) (iprp_leads offset))
heif_step sought.Ipco offset = bind (searched_box (codes "ipco") offset) (after (λ _. sought.Ipco) (ipco_leads offset))
heif_step (sought.Property g) offset = bind (list_step g offset) (after sought.Property decides)

-- the result at the end of the input
abbrev pub heif_ending : Sought → Result ImageSize Halt
heif_ending sought.Meta = Err Ended
heif_ending sought.Iprp = Err Ended
heif_ending sought.Ipco = Err Ended
heif_ending (sought.Property g) = gathered_answer g

-- where the search for `meta` begins: after the first box, by its size
abbrev pub heif_open : Layout (Start Sought)
heif_open = field Big 0 4 (λ first. done (record { records = sought.Meta; offset = first }))

-- what was found in the box at an offset
abbrev pub content_said : ℕ → Content → Said (List ℕ) (List ℕ)
content_said offset (Codestream front) = Decided front
content_said offset (Piece piece length) = Next piece (offset + length)

-- before the first box there is no byte of a codestream
abbrev pub no_boxes : Boxes
no_boxes = record { bytes = replicate 16 0; len = 0 }

-- the first bytes of the codestream from the boxes so far
abbrev pub front_of : Boxes → List ℕ
front_of boxes = take boxes.len boxes.bytes

-- these followed by a piece, which takes the place of as many bytes without a meaning
abbrev pub boxes_with : Boxes → List ℕ → Boxes
boxes_with boxes piece = record {
  bytes = front_of boxes ++ piece ++ drop (boxes.len + length piece) boxes.bytes;
  len = boxes.len + length piece;
}

-- the size from the first bytes of a codestream
abbrev pub jxl_verdict : List ℕ → Layout (Said Boxes ImageSize)
jxl_verdict front = accept (jxl_size front) decides

-- the next box of a JPEG XL
abbrev pub jxl_step : Step Boxes ImageSize
jxl_step boxes offset = bind (jxl_box (front_of boxes) offset) (after (boxes_with boxes) jxl_verdict)

-- no more than sixteen bytes of a codestream are kept
abbrev pub jxl_holds : Boxes → ℕ → Type 0
jxl_holds boxes offset = boxes.len ≤ 16

-- the next box of a JPEG XL is after this offset
abbrev pub IsFurther : ℕ → Said (List ℕ) (List ℕ) → Type 0
IsFurther offset (Decided front) = Unit {0}
IsFurther offset (Next piece next) = offset < next

-- the piece fits after these bytes
abbrev pub FitsBehind : List ℕ → Said (List ℕ) (List ℕ) → Type 0
FitsBehind held (Decided front) = Unit {0}
FitsBehind held (Next piece next) = length held + length piece ≤ 16

-- The head of a box at this offset passed its checks.
pub record IsHead (offset : ℕ) (head : BoxHead) : Type 0 where
  pub within : offset + head.size < 2 ^ 64
  pub whole : 0 < head.size → head.length ≤ head.size
  pub short : head.length ≤ 16

-- a field of a number; only the lowest `there` bits exist
abbrev pub field_in : ℕ → ℕ → ℕ → ℕ → Result ℕ Halt
field_in number there from count = if nat_le (from + count) there then Ok (number / 2 ^ from % 2 ^ count) else Err Corrupted

-- what is found in such a number
abbrev pub found_in : {X : Type 0} → ℕ → ℕ → Fields X → Result X Halt
found_in number there fields = found_by (field_in number there) fields
