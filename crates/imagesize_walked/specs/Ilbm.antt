-- Interleaved bitmaps, by "EA IFF 85" and its supplement "ILBM".
use Rattle.std.specs.Prelude.{ℕ, ◌+◌, ◌%◌, Bool, List, codes, drop, ◌||◌, ◌&&◌, if◌then◌else◌}
use Rattle.imagesize_types.specs.Head.{begins, stands_at}
use Rattle.imagesize_types.specs.declared.size.ImageSize.{ImageSize}
use Rattle.imagesize_source.specs.declared.halt.Halt.TheVariants.{Corrupted}
use Rattle.imagesize_source.specs.declared.endian.Endian.TheVariants.{Big}
use Rattle.imagesize_source.specs.Chain.{Said, Decided, Next, Chain, chain_at}
use Rattle.imagesize_source.specs.Layout.{Layout, bytes}
use Rattle.imagesize_source.specs.Layout.Layout.{begin_record, field, refuse, «done»}
use Rattle.imagesize_source.specs.Numbers.{number}
use Rattle.imagesize_source.specs.Reading.{Reads}

-- whether the input is an IFF form of type ILBM or PBM
unfoldable pub is_ilbm : List ℕ → Bool
is_ilbm head = begins (codes "FORM") head && (stands_at 8 (codes "ILBM") head || stands_at 8 (codes "PBM ") head)

-- the first two fields of the bitmap header ("ILBM", section 2.2, BMHD)
abbrev pub bitmap_header : ℕ → Layout (Said (Unit {0}) ImageSize)
bitmap_header offset = field Big (offset + 8) 2
    (λ width. field Big (offset + 10) 2 (λ height. done (Decided (record { width = width; height = height }))))

-- The size of a chunk in bytes: its name and its length, its data, and a padding byte after data of odd length ("EA
-- IFF 85", section 3, Chunks).
abbrev pub chunk_bytes : ℕ → ℕ
chunk_bytes length = 8 + (length + length % 2)

-- the names of the bitmap header and of the pixels, which follow it
abbrev pub is_bitmap_header : List ℕ → Bool
is_bitmap_header head = begins (codes "BMHD") head

abbrev pub is_body : List ℕ → Bool
is_body head = begins (codes "BODY") head

-- the length of a chunk's data in bytes
unfoldable pub chunk_length : List ℕ → ℕ
chunk_length head = number Big (drop 4 head)

abbrev pub ilbm_named : ℕ → List ℕ → Layout (Said (Unit {0}) ImageSize)
ilbm_named offset head =
    if is_bitmap_header head then bitmap_header offset
    else if is_body head then refuse Corrupted
    else done (Next tt (offset + chunk_bytes (chunk_length head)))

abbrev pub ilbm_chunk : ℕ → Layout (Said (Unit {0}) ImageSize)
ilbm_chunk offset = begin_record (bytes offset 8 (λ head. ilbm_named offset head))

-- the chunks after the form's type
abbrev pub ilbm_chunks : Chain (Unit {0}) ImageSize
ilbm_chunks = record { first = 12; said = λ passed offset. ilbm_chunk offset }

-- the first bitmap header before the pixels
abbrev pub ilbm : List ℕ → Reads ImageSize
ilbm d = chain_at ilbm_chunks d
