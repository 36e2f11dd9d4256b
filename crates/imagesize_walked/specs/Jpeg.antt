-- JPEG, by ITU-T T.81, annex B.
use Rattle.std.specs.Prelude.{ℕ, ◌+◌, ◌-◌, Bool, ◌&&◌, ◌||◌, not, List, [], ◌∷◌, ◌==◌, nat_le, if◌then◌else◌, slice_index, count_by}
use Rattle.imagesize_types.specs.Head.{begins}
use Rattle.imagesize_types.specs.declared.size.ImageSize.{ImageSize}
use Rattle.imagesize_source.specs.declared.halt.Halt.TheVariants.{Corrupted}
use Rattle.imagesize_source.specs.declared.endian.Endian.TheVariants.{Big}
use Rattle.imagesize_source.specs.Chain.{Said, Decided, Next, Chain, chain_at}
use Rattle.imagesize_source.specs.Layout.{Layout, bytes}
use Rattle.imagesize_source.specs.Layout.Layout.{begin_record, field, refuse, «done»}
use Rattle.imagesize_source.specs.Reading.{Reads}

-- whether the input begins with a start-of-image marker, then the start of another marker
unfoldable pub is_jpeg : List ℕ → Bool
is_jpeg head = begins (0xFF ∷ 0xD8 ∷ 0xFF ∷ []) head

-- The markers that start a frame (table B.1): C0 to CF without those for Huffman tables, extensions and arithmetic
-- coding conditions.
abbrev pub is_frame : ℕ → Bool
is_frame marker = nat_le 0xC0 marker && nat_le marker 0xCF && not (marker == 0xC4 || marker == 0xC8 || marker == 0xCC)

-- how many images segments with these markers start (B.1.1.3, SOI)
abbrev pub count_starts : List ℕ → ℕ
count_starts markers = count_by (λ marker. marker == 0xD8) markers

-- how many images they end (B.1.1.3, EOI)
abbrev pub count_ends : List ℕ → ℕ
count_ends markers = count_by (λ marker. marker == 0xD9) markers

-- how many images the next segment is nested in, such as thumbnails, after these markers
abbrev pub depth : List ℕ → ℕ
depth markers = count_starts markers - count_ends markers

-- A frame header (B.2.2). The number of lines and the samples per line come after its length and its precision.
abbrev pub jpeg_frame : ℕ → Layout (Said ℕ ImageSize)
jpeg_frame offset = field Big (offset + 5) 2
    (λ height. field Big (offset + 7) 2 (λ width. done (Decided (record { width = width; height = height }))))

-- any other segment; its length counts the bytes after the marker (B.1.1.4)
abbrev pub jpeg_other : ℕ → ℕ → Layout (Said ℕ ImageSize)
jpeg_other offset marker = field Big (offset + 2) 2 (λ length. done (Next marker (offset + (2 + length))))

-- a frame of the image itself, and the end of the image itself
abbrev pub is_own_frame : ℕ → ℕ → Bool
is_own_frame depth marker = depth == 0 && is_frame marker

abbrev pub is_own_end : ℕ → ℕ → Bool
is_own_end depth marker = depth == 0 && marker == 0xD9

abbrev pub jpeg_marked : ℕ → ℕ → ℕ → Layout (Said ℕ ImageSize)
jpeg_marked depth offset marker =
    if is_own_frame depth marker then jpeg_frame offset
    else if is_own_end depth marker then refuse Corrupted
    else jpeg_other offset marker

-- a segment begins with FF and its marker (B.1.1.2)
abbrev pub jpeg_segment : ℕ → ℕ → Layout (Said ℕ ImageSize)
jpeg_segment depth offset = begin_record (bytes offset 2 (λ head.
    if slice_index head 0 == 0xFF then jpeg_marked depth offset (slice_index head 1) else refuse Corrupted))

-- the segments after the start of the image; each holds its marker
abbrev pub jpeg_segments : Chain ℕ ImageSize
jpeg_segments = record { first = 2; said = λ markers offset. jpeg_segment (depth markers) offset }

-- the size in the first frame of the image itself
abbrev pub jpeg : List ℕ → Reads ImageSize
jpeg d = chain_at jpeg_segments d
