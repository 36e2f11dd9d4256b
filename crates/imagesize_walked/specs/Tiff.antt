-- TIFF, by "TIFF Revision 6.0" (section 2), and BigTIFF, by "The BigTIFF File Format".
use Rattle.std.specs.Prelude.{ℕ, ◌+◌, ◌==◌, Bool, List, codes, [], ◌∷◌, ◌++◌, ◌||◌, length, take, drop, filter, if◌then◌else◌, Option, None, Some, option_and_then, Result, Ok, Err}
use Rattle.std.specs.List.{last_or}
use Rattle.imagesize_types.specs.Head.{begins}
use Rattle.imagesize_types.specs.Sides.{size_if_known}
use Rattle.imagesize_types.specs.Table.{look_up}
use Rattle.imagesize_types.specs.declared.size.ImageSize.{ImageSize}
use Rattle.imagesize_walked.specs.declared.formats.tiff.Entry.{Entry}
use Rattle.imagesize_walked.specs.declared.formats.tiff.Header.{Header}
use Rattle.imagesize_walked.specs.declared.formats.tiff.FieldType.{FieldType}
use Rattle.imagesize_walked.specs.declared.formats.tiff.FieldType.TheVariants.{Short, Long, Other}
use Rattle.imagesize_walked.specs.declared.formats.tiff.Version.{Version}
use Rattle.imagesize_walked.specs.declared.formats.tiff.Version.TheVariants.{Tiff, BigTiff}
use Rattle.imagesize_source.specs.declared.halt.Halt.{Halt}
use Rattle.imagesize_source.specs.declared.halt.Halt.TheVariants.{BigTiffOffsetSize, IfdTypeForStandardTiff, InvalidBigTiffHeader, InvalidIfdOffset, InvalidIfdType, InvalidIfdValueLength, InvalidTiffHeader, NoDimensionsInIfd}
use Rattle.imagesize_source.specs.declared.endian.Endian.{Endian}
use Rattle.imagesize_source.specs.declared.endian.Endian.TheVariants.{Little, Big}
use Rattle.imagesize_source.specs.Chain.{Said, Decided, Next, Chain, chain_at}
use Rattle.imagesize_source.specs.Layout.{Layout, layout_reads, bind, bytes, if_there, accept}
use Rattle.imagesize_source.specs.Layout.Layout.{begin_record, field, refuse, «done»}
use Rattle.imagesize_source.specs.Numbers.{number}
use Rattle.imagesize_source.specs.Reading.{Reads, and_then, number_read}

-- whether the input begins with a byte order, and 42 or 43 in that order
unfoldable pub is_tiff : List ℕ → Bool
is_tiff head = (begins (codes "II" ++ 42 ∷ 0 ∷ []) head || begins (codes "II" ++ 43 ∷ 0 ∷ []) head) ||
    (begins (codes "MM" ++ 0 ∷ 42 ∷ []) head || begins (codes "MM" ++ 0 ∷ 43 ∷ []) head)

-- the byte order of all numbers, from the first two bytes
abbrev pub byte_order : List ℕ → Result Endian Halt
byte_order mark = if begins (codes "II") mark then Ok Little else if begins (codes "MM") mark then Ok Big
    else Err InvalidTiffHeader

-- the version: 42 is TIFF, 43 is BigTIFF
abbrev pub version_of : ℕ → Result Version Halt
version_of number = if number == 42 then Ok Tiff else if number == 43 then Ok BigTiff else Err InvalidTiffHeader

-- The offset of the first directory. In BigTIFF, the size of an offset (8) and two zero bytes come before it.
unfoldable pub stated_offset : Endian → Version → Layout ℕ
stated_offset order Tiff = field order 4 4 done
stated_offset order BigTiff = field order 4 2 (λ size.
    if size == 8 then field order 6 2 (λ zeros. if zeros == 0 then field order 8 8 done else refuse InvalidBigTiffHeader)
    else refuse BigTiffOffsetSize)

-- the header; the offset of the directory must not be 0
abbrev pub directory_at : Endian → Version → ℕ → Result Header Halt
directory_at order version offset = if offset == 0 then Err InvalidIfdOffset
    else Ok (record { order = order; version = version; directory = offset })

-- the header ("Image File Header")
unfoldable pub tiff_header : Layout Header
tiff_header =
    bytes 0 2 (λ mark. accept (byte_order mark) (λ order.
    field order 2 2 (λ number. accept (version_of number) (λ version.
    bind (stated_offset order version) (λ offset. accept (directory_at order version offset) done)))))

-- the size of a directory's entry count in bytes ("Image File Directory")
abbrev pub count_bytes : Version → ℕ
count_bytes Tiff = 2
count_bytes BigTiff = 8

-- the head of an entry ("IFD Entry"): its tag, its field type, and how many values it has
abbrev pub head_bytes : Version → ℕ
head_bytes Tiff = 8
head_bytes BigTiff = 12

-- after the head: the values, or their offset
abbrev pub value_bytes : Version → ℕ
value_bytes Tiff = 4
value_bytes BigTiff = 8

abbrev pub entry_bytes : Version → ℕ
entry_bytes version = head_bytes version + value_bytes version

-- Field types ("Types"): 1 BYTE, 2 ASCII, 3 SHORT, 4 LONG, 5 RATIONAL, 6 SBYTE, 7 UNDEFINED, 8 SSHORT, 9 SLONG, 10
-- SRATIONAL, 11 FLOAT, 12 DOUBLE; 13 IFD is of the first technical note. All numbers are read without a sign.
abbrev pub field_types : List (ℕ × Result FieldType Halt)
field_types =
    (1, Ok Other) ∷ (2, Ok Other) ∷ (3, Ok Short) ∷ (4, Ok Long) ∷ (5, Ok Other) ∷ (6, Ok Other) ∷ (7, Ok Other)
    ∷ (8, Ok Short) ∷ (9, Ok Long) ∷ (10, Ok Other) ∷ (11, Ok Long) ∷ (12, Ok Other) ∷ (13, Ok Long) ∷ []

-- the additional field types of BigTIFF: 16 LONG8, 17 SLONG8, 18 IFD8
abbrev pub wide_field_types : Version → List (ℕ × Result FieldType Halt)
wide_field_types Tiff = (16, Err IfdTypeForStandardTiff) ∷ (17, Err IfdTypeForStandardTiff)
    ∷ (18, Err IfdTypeForStandardTiff) ∷ []
wide_field_types BigTiff = (16, Ok Other) ∷ (17, Ok Other) ∷ (18, Ok Other) ∷ []

abbrev pub field_type_of : Version → ℕ → Result FieldType Halt
field_type_of version field_type = look_up (field_types ++ wide_field_types version) (Err InvalidIfdType) field_type

-- the fields of a head: first the tag, then the field type
abbrev pub tag_in : Endian → List ℕ → ℕ
tag_in order head = number order (take 2 head)

abbrev pub field_type_in : Endian → List ℕ → ℕ
field_type_in order head = number order (drop 2 head)

-- the number at the front of a value's first four bytes, if the field type has one
abbrev pub value_of : Endian → FieldType → List ℕ → Option ℕ
value_of order Short value = Some (number order (take 2 value))
value_of order Long value = Some (number order value)
value_of order Other value = None

-- the first four bytes of an entry's head; an error if the input ends within the head
unfoldable pub tiff_head : Version → ℕ → Layout (List ℕ)
tiff_head version offset = bytes offset (head_bytes version) (λ head. done (take 4 head))

-- the first four bytes of an entry's value; an error of its own if the input ends within the value
abbrev pub whole_value : Option (List ℕ) → Result (List ℕ) Halt
whole_value None = Err InvalidIfdValueLength
whole_value (Some value) = Ok (take 4 value)

unfoldable pub tiff_value : Version → ℕ → Layout (List ℕ)
tiff_value version offset = if_there offset (value_bytes version) (λ found. accept (whole_value found) done)

-- an entry; its field type is checked before its value is read
unfoldable pub tiff_entry : Endian → Version → ℕ → Layout Entry
tiff_entry order version offset =
    begin_record (bind (tiff_head version offset) (λ head.
    accept (field_type_of version (field_type_in order head)) (λ field_type.
    bind (tiff_value version (offset + head_bytes version)) (λ value.
    done (record { tag = tag_in order head; value = value_of order field_type value })))))

-- the value of the last entry with this tag
abbrev pub last_value : ℕ → List Entry → Option ℕ
last_value tag entries = option_and_then (λ entry. entry.value) (last_or None (filter (λ entry. entry.tag == tag) entries))

-- the size that the entries give (section 3, ImageWidth and ImageLength)
abbrev pub size_in : List Entry → Option ImageSize
size_in entries = size_if_known (last_value 0x100 entries) (last_value 0x101 entries)

-- the entry that completes the size decides
abbrev pub size_or_next : Option ImageSize → Entry → ℕ → Said Entry ImageSize
size_or_next (Some size) entry next = Decided size
size_or_next None entry next = Next entry next

-- the width or the height after one more entry; an entry with that tag replaces it by its own value, or by `None`
abbrev pub side_with : ℕ → Option ℕ → Entry → Option ℕ
side_with tag side entry = if entry.tag == tag then entry.value else side

-- the entries of a directory, as many as the count says, without gaps after it
abbrev pub tiff_entries : Header → ℕ → Chain Entry ImageSize
tiff_entries header count = record {
  first = header.directory + count_bytes header.version;
  said = λ entries offset.
      if length entries == count then refuse NoDimensionsInIfd
      else bind (tiff_entry header.order header.version offset)
      (λ entry. done (size_or_next (size_in (entries ++ entry ∷ [])) entry (offset + entry_bytes header.version)));
}

-- what the directory says
abbrev pub tiff_directory : List ℕ → Header → Reads ImageSize
tiff_directory d header = and_then (number_read d header.order header.directory (count_bytes header.version))
    (λ count. chain_at (tiff_entries header count) d)

abbrev pub tiff : List ℕ → Reads ImageSize
tiff d = and_then (layout_reads d tiff_header) (tiff_directory d)
