-- Windows icons, by ICONDIR and ICONDIRENTRY of "Icons" (Win32).
use Rattle.std.specs.Prelude.{ℕ, ◌+◌, ◌==◌, Bool, List, [], ◌∷◌, length, slice_index, if◌then◌else◌, Option, None, Some}
use Rattle.imagesize_types.specs.Head.{begins}
use Rattle.imagesize_types.specs.Largest.{last_largest}
use Rattle.imagesize_types.specs.declared.size.ImageSize.{ImageSize}
use Rattle.imagesize_source.specs.declared.halt.Halt.TheVariants.{Corrupted}
use Rattle.imagesize_source.specs.declared.endian.Endian.TheVariants.{Little}
use Rattle.imagesize_source.specs.Chain.{Said, Decided, Next, Chain, chain_at}
use Rattle.imagesize_source.specs.Layout.{Layout, if_there}
use Rattle.imagesize_source.specs.Layout.Layout.{begin_record, refuse, «done»}
use Rattle.imagesize_source.specs.Reading.{Reads, and_then, number_read}

-- whether the reserved bytes are zero, and the images are icons
unfoldable pub is_ico : List ℕ → Bool
is_ico head = begins (0 ∷ 0 ∷ 1 ∷ 0 ∷ []) head

-- a width or a height of one byte (bWidth, bHeight); 0 means 256
abbrev pub icon_side : ℕ → ℕ
icon_side byte = if byte == 0 then 256 else byte

-- the size at the front of an entry
abbrev pub icon_size : List ℕ → ImageSize
icon_size bytes = record { width = icon_side (slice_index bytes 0); height = icon_side (slice_index bytes 1) }

-- the result at the end of the list: the last size of greatest area among the entries read
abbrev pub icon_answer : Option ImageSize → Layout (Said ImageSize ImageSize)
icon_answer None = refuse Corrupted
icon_answer (Some size) = done (Decided size)

-- an entry of 16 bytes, after entries of which this size is the result; the list ends if the input does
abbrev pub icon_entry : Option ImageSize → ℕ → Option (List ℕ) → Layout (Said ImageSize ImageSize)
icon_entry largest offset None = icon_answer largest
icon_entry largest offset (Some bytes) = done (Next (icon_size bytes) (offset + 16))

-- the record after `seen` entries, of which this size is the result; the end of the list begins no entry
abbrev pub icon_in : ℕ → ℕ → Option ImageSize → ℕ → Layout (Said ImageSize ImageSize)
icon_in count seen largest offset =
    if seen == count then icon_answer largest else begin_record (if_there offset 2 (icon_entry largest offset))

-- as many entries as the count says (idCount), from the end of the count on
abbrev pub icon_entries : ℕ → Chain ImageSize ImageSize
icon_entries count = record {
  first = 6;
  said = λ sizes offset. icon_in count (length sizes) (last_largest sizes) offset;
}

abbrev pub ico : List ℕ → Reads ImageSize
ico d = and_then (number_read d Little 4 2) (λ count. chain_at (icon_entries count) d)
