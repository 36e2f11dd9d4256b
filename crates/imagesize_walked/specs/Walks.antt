-- Formats as sequences over a state: what the code keeps between records, and what the next record says by it.
use Rattle.std.specs.Prelude.{ℕ, ◌+◌, ◌-◌, ◌<◌, ◌≤◌, ◌==◌, Bool, ◌&&◌, not, List, slice_index, nat_le, if◌then◌else◌, Option, None, Some, unwrap_or, ◌≡◌, Result, Err, true, false}
use Rattle.std.specs.Coded.{Unit-prop, le_prop, ×_prop}
use Rattle.imagesize_source.specs.Layout.{Layout, bind, if_there}
use Rattle.imagesize_source.specs.Layout.Layout.{field, refuse, «done»}
use Rattle.imagesize_source.specs.Chain.{Said, Next}
use Rattle.imagesize_source.specs.Walk.{Step, after, decides}
use Rattle.imagesize_source.specs.declared.endian.Endian.{Endian}
use Rattle.imagesize_source.specs.declared.endian.Endian.TheVariants.{Little}
use Rattle.imagesize_source.specs.declared.halt.Halt.{Halt}
use Rattle.imagesize_source.specs.declared.halt.Halt.TheVariants.{Ended, NoDimensionsInIfd}
use Rattle.imagesize_source.specs.declared.walk.Start.{Start}
use Rattle.imagesize_types.specs.Largest.{later_largest}
use Rattle.imagesize_types.specs.Sides.{size_if_known}
use Rattle.imagesize_types.specs.declared.size.ImageSize.{ImageSize}
use Rattle.imagesize_walked.specs.Ico.{icon_in}
use Rattle.imagesize_walked.specs.Ilbm.{ilbm_chunk}
use Rattle.imagesize_walked.specs.Jpeg.{is_own_end, is_own_frame, jpeg_segment}
use Rattle.imagesize_walked.specs.Tiff.{count_bytes, entry_bytes, side_with, size_or_next, tiff_entry, tiff_header}
use Rattle.imagesize_walked.specs.declared.formats.ico.Entries.{Entries}
use Rattle.imagesize_walked.specs.declared.formats.ilbm.Chunks.{Chunks}
use Rattle.imagesize_walked.specs.declared.formats.jpeg.Role.{Role}
use Rattle.imagesize_walked.specs.declared.formats.jpeg.Role.TheVariants as role
use Rattle.imagesize_walked.specs.declared.formats.jpeg.Segments.{Segments}
use Rattle.imagesize_walked.specs.declared.formats.tiff.Directory.{Directory}
use Rattle.imagesize_walked.specs.declared.formats.tiff.Directory.TheVariants as directory
use Rattle.imagesize_walked.specs.declared.formats.tiff.Entry.{Entry}
use Rattle.imagesize_walked.specs.declared.formats.tiff.Header.{Header}
use Rattle.imagesize_walked.specs.declared.formats.tiff.Listed.{Listed}
use Rattle.imagesize_walked.specs.declared.formats.tiff.Version.{Version}

-- whether a segment with these first bytes begins with FF, and its marker is not from C0 to D9
abbrev pub is_plain : List ℕ → Bool
is_plain head = slice_index head 0 == 0xFF && not (nat_le 0xC0 (slice_index head 1) && nat_le (slice_index head 1) 0xD9)

-- the depth after a segment with this marker
abbrev pub depth_behind : ℕ → ℕ → ℕ
depth_behind depth marker = if marker == 0xD8 then depth + 1 else if marker == 0xD9 then depth - 1 else depth

-- What a marker means at this depth: a frame of the image itself, its end, or neither. Then the role has the depth after the segment, or
-- `None` if the depth stays.
abbrev pub HasRole : ℕ → ℕ → Role → Type 0
HasRole depth marker role.Frame = is_own_frame depth marker ≡ true
HasRole depth marker role.End = (is_own_frame depth marker ≡ false) × (is_own_end depth marker ≡ true)
HasRole depth marker (role.Other behind) =
    (is_own_frame depth marker ≡ false) × (is_own_end depth marker ≡ false) × (unwrap_or behind depth ≡ depth_behind depth marker)

-- the first segment of a JPEG is in the image itself
abbrev pub jpeg_first : Segments
jpeg_first = record { depth = 0 }

-- the next segment of a JPEG, at the depth that the segments before it leave
abbrev pub jpeg_step : Step Segments ImageSize
jpeg_step s offset =
    bind (jpeg_segment s.depth offset) (after (λ marker. record { depth = depth_behind s.depth marker }) decides)

-- each image within the image begins with a segment of its own, so the depth is below the offset
abbrev pub jpeg_holds : Segments → ℕ → Type 0
jpeg_holds s offset = s.depth < offset

-- the next chunk of an interleaved bitmap
abbrev pub ilbm_step : Step Chunks ImageSize
ilbm_step s offset = bind (ilbm_chunk offset) (after (λ _. s) decides)

-- no side of an icon is above 256 pixels
abbrev pub IsIcon : ImageSize → Type 0
IsIcon size = (size.width ≤ 256) × (size.height ≤ 256)

abbrev pub IsIconIfSome : Option ImageSize → Type 0
IsIconIfSome None = Unit {0}
IsIconIfSome (Some size) = IsIcon size

-- one more entry of a directory of icons was read, which has this size
abbrev pub icons_with : Entries → ImageSize → Entries
icons_with s size = record s { seen = s.seen + 1; largest = later_largest s.largest size }

-- the next entry of a directory of icons, by how many were read and the largest of these
abbrev pub ico_step : Step Entries ImageSize
ico_step s offset = bind (icon_in s.count s.seen s.largest offset) (after (icons_with s) decides)

abbrev pub ico_holds : Entries → ℕ → Type 0
ico_holds s offset = (s.seen ≤ s.count) × IsIconIfSome s.largest

pub ico_holds_prop : (s : Entries) (offset : ℕ) → IsProp (ico_holds s offset)
ico_holds_prop s offset = ×_prop le_prop (icon_prop s.largest) where
  icon_prop : (largest : Option ImageSize) → IsProp (IsIconIfSome largest)
  icon_prop None = Unit-prop
  icon_prop (Some size) = ×_prop le_prop le_prop

-- the number of icons (idCount); their entries follow
abbrev pub ico_open : Layout (Start Entries)
ico_open = field Little 4 2
    (λ count. done (record { records = record { count = count; seen = 0; largest = None }; offset = 6 }))

-- the first bytes of the entry at an offset, or `None` after the last entry
abbrev pub entry_in : ℕ → ℕ → ℕ → Layout (Option (List ℕ))
entry_in count seen offset = if seen == count then done None else if_there offset 2 done

-- no entry of a TIFF's directory was read
abbrev pub listed_first : Header → ℕ → Listed
listed_first header count =
    record { order = header.order; version = header.version; left = count; width = None; height = None }

-- one more entry was read
abbrev pub listed_with : Listed → Entry → Listed
listed_with l entry = record l { left = l.left - 1; width = side_with 0x100 l.width entry; height = side_with 0x101 l.height entry }

-- an entry after those that give this width and this height; the entry that completes the size decides
abbrev pub entry_after : Endian → Version → Option ℕ → Option ℕ → ℕ → Layout (Said Entry ImageSize)
entry_after order version width height offset = bind (tiff_entry order version offset)
    (λ entry. done (size_or_next (size_if_known (side_with 0x100 width entry) (side_with 0x101 height entry)) entry
    (offset + entry_bytes version)))

-- the entry at an offset, if there are entries left
abbrev pub entry_if_left : Listed → ℕ → Layout (Said Entry ImageSize)
entry_if_left l offset = if l.left == 0 then refuse NoDimensionsInIfd else entry_after l.order l.version l.width l.height offset

-- the next entry of a TIFF's directory, by the width and the height that the entries before it give
abbrev pub listed_step : Step Listed ImageSize
listed_step l offset = bind (entry_if_left l offset) (after (listed_with l) decides)

-- the result at the end of the input
abbrev pub listed_end : Listed → Result ImageSize Halt
listed_end l = if l.left == 0 then Err NoDimensionsInIfd else Err Ended

-- a TIFF's directory: first the number of its entries, then these
abbrev pub tiff_step : Step Directory ImageSize
tiff_step (directory.Count header) offset = field header.order offset (count_bytes header.version)
    (λ count. done (Next (directory.Entry (listed_first header count)) (offset + count_bytes header.version)))
tiff_step (directory.Entry l) offset = bind (listed_step l offset) (after directory.Entry decides)

-- the header, which gives the offset of the directory
abbrev pub tiff_open : Layout (Start Directory)
tiff_open = bind tiff_header (λ header. done (record { records = directory.Count header; offset = header.directory }))
