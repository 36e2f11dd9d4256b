-- HEIF, with HEIC and AVIF.
use Rattle.std.specs.Prelude.{ℕ, ◌+◌, ◌-◌, ◌==◌, ◌||◌, nat_lt, nat_le, Bool, List, [], ◌∷◌, codes, slice_index, flat_map, if◌then◌else◌, Option, None, Some, unwrap_or}
use Rattle.std.specs.List.{list_any, last_or, sum_by}
use Rattle.std.specs.Str.{bytes_eq}
use Rattle.imagesize_types.specs.Head.{stands_at, four_at}
use Rattle.imagesize_types.specs.Largest.{greatest_area, first_largest}
use Rattle.imagesize_types.specs.Sides.{exchange_if}
use Rattle.imagesize_types.specs.Table.{look_up_text}
use Rattle.imagesize_types.specs.declared.compression.Compression.{Compression}
use Rattle.imagesize_types.specs.declared.compression.Compression.TheVariants.{Av1, Hevc, Jpeg, Unknown}
use Rattle.imagesize_types.specs.declared.size.ImageSize.{ImageSize}
use Rattle.imagesize_boxes.specs.declared.formats.heif.FoundBox.{FoundBox}
use Rattle.imagesize_boxes.specs.declared.formats.heif.Property.{Property}
use Rattle.imagesize_boxes.specs.declared.formats.heif.Property.TheVariants.{Extents, Rotation, Skipped}
use Rattle.imagesize_source.specs.declared.halt.Halt.TheVariants.{Corrupted, InvalidHeifBoxSize, NotEnoughData}
use Rattle.imagesize_source.specs.declared.endian.Endian.TheVariants.{Big}
use Rattle.imagesize_source.specs.Chain.{Said, Decided, Next, Chain, chain_at}
use Rattle.imagesize_source.specs.Layout.{Layout, bind, bytes, if_there}
use Rattle.imagesize_source.specs.Layout.Layout.{begin_record, refuse, «done»}
use Rattle.imagesize_source.specs.Numbers.{number}
use Rattle.imagesize_source.specs.Reading.{Reads, and_then, bytes_read, number_read}

-- whether the input begins with a file type box (`ftyp`)
unfoldable pub is_heif : List ℕ → Bool
is_heif head = stands_at 4 (codes "ftyp") head

-- the brands, and the compression of each
abbrev pub heif_brands : List (List ℕ × Compression)
heif_brands =
    (codes "heic", Hevc) ∷ (codes "heix", Hevc) ∷ (codes "heis", Hevc) ∷ (codes "hevs", Hevc)
    ∷ (codes "heim", Hevc) ∷ (codes "hevm", Hevc) ∷ (codes "hevc", Hevc) ∷ (codes "hevx", Hevc)
    ∷ (codes "avif", Av1) ∷ (codes "avio", Av1) ∷ (codes "avis", Av1) ∷ (codes "MA1A", Av1) ∷ (codes "MA1B", Av1)
    ∷ (codes "jpeg", Jpeg) ∷ (codes "jpgs", Jpeg) ∷ []

unfoldable pub brand_compression : List ℕ → Compression
brand_compression brand = look_up_text heif_brands Unknown brand

-- the general brands, which say nothing about the compression
abbrev pub general_brands : List (List ℕ)
general_brands = codes "mif1" ∷ codes "msf1" ∷ codes "mif2" ∷ codes "miaf" ∷ []

unfoldable pub is_general : List ℕ → Bool
is_general brand = list_any (λ general. bytes_eq brand general) general_brands

-- The first compatible brand decides, or the second if the first is general. Both follow the major brand and its
-- version.
abbrev pub compatible_compression : Option (List ℕ) → Compression
compatible_compression None = Unknown
compatible_compression (Some more) =
    if is_general (four_at 4 more) then brand_compression (four_at 8 more)
    else brand_compression (four_at 4 more)

-- The major brand decides. If it is general, the compatible brands after these twelve bytes do.
unfoldable pub heif_compression : ℕ → List ℕ → Layout Compression
heif_compression offset head =
    if is_general (four_at 8 head) then if_there (offset + 12) 12 (λ more. done (compatible_compression more))
    else done (brand_compression (four_at 8 head))

-- a box begins with its size, which includes these bytes, and its name (ISO/IEC 14496-12, 4.2)
unfoldable pub box_size : List ℕ → ℕ
box_size head = number Big (four_at 0 head)

unfoldable pub is_named : List ℕ → List ℕ → Bool
is_named tag head = bytes_eq (four_at 4 head) tag

-- what a box says in a search for a name: the box is found, or the next one begins after it
abbrev pub box_searched : List ℕ → ℕ → List ℕ → Layout (Said (Unit {0}) FoundBox)
box_searched tag offset head =
    if is_named tag head then done (Decided (record { offset = offset; size = box_size head }))
    else if nat_lt (box_size head) 8 then refuse (InvalidHeifBoxSize (box_size head))
    else done (Next tt (offset + box_size head))

abbrev pub searched_box : List ℕ → ℕ → Layout (Said (Unit {0}) FoundBox)
searched_box tag offset = begin_record (bytes offset 8 (λ head. box_searched tag offset head))

-- a search from an offset on, for the first box with this name
abbrev pub search_for : List ℕ → ℕ → Chain (Unit {0}) FoundBox
search_for tag offset = record { first = offset; said = λ passed q. searched_box tag q }

-- the width and the height of an image, after four bytes of version and flags (ISO/IEC 23008-12, 6.5.3)
unfoldable pub extents_size : List ℕ → ImageSize
extents_size content = record { width = number Big (four_at 4 content); height = number Big (four_at 8 content) }

-- The property at an offset of the list, or the end of the list. `ispe` and `irot` (ISO/IEC 23008-12, 6.5.10) are
-- read whatever their size, if it is at least 8. Any other box is skipped if it is smaller than the bytes left.
abbrev pub property_named : ℕ → ℕ → List ℕ → Layout (Option Property)
property_named left offset head =
    if nat_lt (box_size head) 8 then (if is_named (codes "mdat") head then done None else refuse Corrupted)
    else if is_named (codes "ispe") head then bytes (offset + 8) 12 (λ content. done (Some (Extents (extents_size content))))
    else if is_named (codes "irot") head then bytes (offset + 8) 1 (λ content. done (Some (Rotation (slice_index content 0))))
    else if nat_le left (box_size head) then done None
    else done (Some (Skipped (box_size head)))

-- the list ends if the input ends before the eight bytes
abbrev pub property_found : ℕ → ℕ → Option (List ℕ) → Layout (Option Property)
property_found left offset None = done None
property_found left offset (Some head) = property_named left offset head

abbrev pub property_at : ℕ → ℕ → Layout (Option Property)
property_at left offset = begin_record (if_there offset 8 (property_found left offset))

-- how many bytes after a property the next one begins
abbrev pub property_bytes : Property → ℕ
property_bytes (Extents size) = 20
property_bytes (Rotation turn) = 9
property_bytes (Skipped size) = size

-- the properties in a list: the image sizes, the rotations, and the bytes of the other boxes
abbrev pub extents_of : Property → List ImageSize
extents_of (Extents size) = size ∷ []
extents_of (Rotation turn) = []
extents_of (Skipped size) = []

abbrev pub rotations_of : Property → List ℕ
rotations_of (Extents size) = []
rotations_of (Rotation turn) = turn ∷ []
rotations_of (Skipped size) = []

abbrev pub skipped_bytes : Property → ℕ
skipped_bytes (Extents size) = 0
skipped_bytes (Rotation turn) = 0
skipped_bytes (Skipped size) = size

abbrev pub no_pixels : ImageSize
no_pixels = record { width = 0; height = 0 }

-- the first size of greatest area, or no pixels if no size has any
abbrev pub largest_or_none : List ImageSize → ImageSize
largest_or_none sizes = if greatest_area sizes == 0 then no_pixels else unwrap_or (first_largest sizes) no_pixels

abbrev pub largest_extents : List ImageSize → Option ImageSize
largest_extents [] = None
largest_extents (size ∷ sizes) = Some (largest_or_none (size ∷ sizes))

-- a quarter turn and three quarters exchange the width and the height
abbrev pub turn_by : Option ℕ → ImageSize → ImageSize
turn_by None size = size
turn_by (Some turn) size = exchange_if (turn == 1 || turn == 3) size

-- the result at the end of the list
abbrev pub heif_answer : Option ImageSize → Option ℕ → Layout (Said Property ImageSize)
heif_answer None turn = refuse NotEnoughData
heif_answer (Some size) turn = done (Decided (turn_by turn size))

-- a property, or at the end of the list the result of the properties before
abbrev pub property_or_answer : List Property → ℕ → Option Property → Layout (Said Property ImageSize)
property_or_answer held offset None = heif_answer (largest_extents (flat_map extents_of held)) (last_or None (flat_map rotations_of held))
property_or_answer held offset (Some property) = done (Next property (offset + property_bytes property))

-- the properties from an offset on, in a box of `all` bytes (ISO/IEC 23008-12, 9.3)
abbrev pub properties : ℕ → ℕ → Chain Property ImageSize
properties all offset = record {
  first = offset;
  said = λ held q. bind (property_at (all - sum_by skipped_bytes held) q) (property_or_answer held q);
}

-- `iprp` contains `ipco`, which holds the properties (ISO/IEC 23008-12, 9.3)
abbrev pub heif_in_iprp : FoundBox → List ℕ → Reads ImageSize
heif_in_iprp iprp d =
    and_then (chain_at (search_for (codes "ipco") (iprp.offset + 8)) d) (λ ipco.
    chain_at (properties ipco.size (ipco.offset + 8)) d)

-- `meta` contains `iprp`, after a version and flags (ISO/IEC 14496-12, 8.11.1)
abbrev pub heif_in_meta : FoundBox → List ℕ → Reads ImageSize
heif_in_meta meta d =
    and_then (bytes_read d (meta.offset + 8) 4) (λ version.
    and_then (chain_at (search_for (codes "iprp") (meta.offset + 12)) d) (λ iprp.
    heif_in_iprp iprp d))

-- `meta` follows the first box
abbrev pub heif : List ℕ → Reads ImageSize
heif d =
    and_then (number_read d Big 0 4) (λ first.
    and_then (chain_at (search_for (codes "meta") first) d) (λ meta.
    heif_in_meta meta d))
