-- Each span that an answer rests on has a byte, and lies within the input.
use Rattle.std.proofs.Common.{◌≡◌, ℕ, ◌+◌, ◌-◌, ◌<◌, ◌≤◌, min, List, [], ◌∷◌, ◌++◌, length, take, suc, Option, Result, Ok, Err, arith}
use Rattle.std.specs.Prelude.{codes, flat_map}
use Rattle.std.specs.Option.{option_map_or}
use Rattle.std.specs.List.{range_with_len}
use Rattle.std.proofs.Math.Seq.{take-append_seam}
use Rattle.std.proofs.lemmas.List.Elements.{All-append, All-nil}
use Rattle.std.proofs.lemmas.Grind.{common_steps}
use Rattle.imagesize_boxes.specs.Heif.{heif, properties, search_for}
use Rattle.imagesize_boxes.specs.Jxl.{codestream, jxl_codestream, jxl_size, jxl_start}
use Rattle.imagesize_texts.specs.Exr.{exr_attributes, name_room}
use Rattle.imagesize_texts.specs.Hdr.{hdr_identifier, hdr_lines}
use Rattle.imagesize_texts.specs.Pnm.{pnm_words}
use Rattle.imagesize_walked.specs.Ico.{icon_entries}
use Rattle.imagesize_walked.specs.Ilbm.{ilbm_chunks}
use Rattle.imagesize_walked.specs.Jpeg.{jpeg_segments}
use Rattle.imagesize_walked.specs.Tiff.{count_bytes, tiff_entries, tiff_header}
use Rattle.imagesize.proofs.Counts.{cost_within}
use Rattle.imagesize.specs.Kind.{kind}
use Rattle.imagesize.specs.Meaning.{meaning_reads, size_reads}
use Rattle.imagesize.specs.Parted.{IsWithin}
use Rattle.imagesize.specs.Traced.{AreWithin}
use Rattle.imagesize.specs.Types.{way_of}
use Rattle.imagesize.specs.declared.types.ImageType.{ImageType}
use Rattle.imagesize.specs.declared.types.ImageType.TheVariants.{Exr, Hdr, Heif, Ico, Ilbm, Jpeg, Jxl, Pnm, Tiff}
use Rattle.imagesize_source.specs.Chain.{Along, Chain, chain_at, chain_from, marks_of, next_record, records_from, start, trail}
use Rattle.imagesize_source.specs.Input.{span_at, span_of}
use Rattle.imagesize_source.specs.Layout.{Layout, layout_reads}
use Rattle.imagesize_source.specs.Layout.Layout.{«done», refuse, field, reading, begin_record}
use Rattle.imagesize_source.specs.Reading.{Reads, Reading, AllOf, PartOf, TextOf, go_on, just, number_at, read_of, text_part}
use Rattle.imagesize_types.specs.declared.size.ImageSize.{ImageSize}
use Rattle.imagesize_source.specs.State.{total}
use Rattle.imagesize_source.specs.Way.{Way, Fixed, Recorded, Texts, by_way}
use Rattle.imagesize_source.specs.declared.halt.Halt.{Halt}
use Rattle.imagesize_source.specs.declared.span.Span.{Span}
use Rattle.imagesize_io.proofs.Leaving.{EndsWithin}
use Rattle.imagesize_source.proofs.Counts.{place_within, text_length}
use Rattle.imagesize_source.proofs.Parts.{part_length}
use Rattle.imagesize_source.proofs.Tests.{on_test}

one_within : (n : ℕ) (s : Span) → IsWithin n s → AreWithin n (s ∷ [])
one_within n s is = grind (arith, common_steps)

span_within : (n offset count : ℕ) → (0 < count → offset + count ≤ n) → AreWithin n (span_at offset count)
unfolding span_at
span_within n offset count fits = grind (arith, on_test, one_within)

reading_within : (d : List ℕ) (offset k : ℕ) → AreWithin (length d) (span_of d offset k)
unfolding span_of
reading_within d offset k = span_within (length d) offset (min k (length d - offset)) (λ some. omega (arith, some))

read_within : (d : List ℕ) (r : Reading) (offset : ℕ) → AreWithin (length d) (read_of d r offset).marks
read_within d (AllOf k) offset = reading_within d offset k
read_within d (PartOf k) offset = reading_within d offset k
read_within d (TextOf t k) offset = span_within (length d) offset (length (text_part d t offset k))
    (λ some. omega (arith, some, text_length d t offset k, part_length d offset k))

onward_within : {X Y : Type 0} (n : ℕ) (spans : List Span) (r : Result X Halt) (f : X → Reads Y) → AreWithin n spans
    → ((x : X) → AreWithin n (f x).marks) → AreWithin n (go_on spans r f).marks
onward_within n spans (Ok x) f first rest = All-append (IsWithin n) spans (f x).marks first (rest x)
onward_within n spans (Err e) f first rest = first

-- the marks of a layout, of some readings and what goes on from them, and of a chain
pub layout_within : {X : Type 0} (d : List ℕ) (t : Layout X) → AreWithin (length d) (layout_reads d t).marks
layout_within d (done x) = All-nil (IsWithin (length d))
layout_within d (refuse e) = All-nil (IsWithin (length d))
layout_within d (field order offset k f) = onward_within (length d) (span_of d offset k) (number_at d order offset k)
    (λ v. layout_reads d (f v)) (reading_within d offset k) (λ v. layout_within d (f v))
layout_within d (reading r offset f) = onward_within (length d) (read_of d r offset).marks (read_of d r offset).answer
    (λ bs. layout_reads d (f bs)) (read_within d r offset) (λ bs. layout_within d (f bs))
layout_within d (begin_record t) = layout_within d t

record_within : {C X : Type 0} (c : Chain C X) (d : List ℕ) (at : Option (Along C))
    → AreWithin (length d) (option_map_or (λ u. (next_record c d u).marks) at [])
record_within c d at = grind (arith, layout_within)

records_within : {C X : Type 0} (c : Chain C X) (d : List ℕ) (t : Along C) (indices : List ℕ)
    → AreWithin (length d) (flat_map (marks_of c d t) indices)
records_within c d t [] = All-nil (IsWithin (length d))
records_within c d t (i ∷ indices) =
    All-append (IsWithin (length d)) (marks_of c d t i) (flat_map (marks_of c d t) indices)
    (record_within c d (trail c d t i)) (records_within c d t indices)

chain_within : {C X : Type 0} (c : Chain C X) (d : List ℕ) → AreWithin (length d) (chain_at c d).marks
unfolding chain_from
chain_within c d = records_within c d (start c) (range_with_len 0 (records_from c d (start c)))

-- of each format that is no layout
heif_within : (d : List ℕ) → AreWithin (length d) (heif d).marks
heif_within d =
    onward_within (length d) _ _ _ (reading_within d 0 4) (λ first.
    onward_within (length d) _ _ _ (chain_within (search_for (codes "meta") first) d) (λ meta.
    onward_within (length d) _ _ _ (reading_within d (meta.offset + 8) 4) (λ version.
    onward_within (length d) _ _ _ (chain_within (search_for (codes "iprp") (meta.offset + 12)) d) (λ iprp.
    onward_within (length d) _ _ _ (chain_within (search_for (codes "ipco") (iprp.offset + 8)) d) (λ ipco.
    chain_within (properties ipco.size (ipco.offset + 8)) d)))))

codestream_within : (d : List ℕ) (found : Option (List ℕ)) → AreWithin (length d) (codestream d found).marks
codestream_within d found = grind (arith, chain_within)

-- what is owed of a size, by the way in which it is found
abbrev IsMarked : Way ImageSize → Type 0
IsMarked (Fixed most layout) = Unit {0}
IsMarked (Recorded outside each stated reads) = (d : List ℕ) → AreWithin (length d) (reads d).marks
IsMarked (Texts reads) = (d : List ℕ) → AreWithin (length d) (reads d).marks

way_within : (way : Way ImageSize) (d : List ℕ) → IsMarked way → AreWithin (length d) (by_way way d).marks
way_within way d marked = grind (arith, layout_within)

type_marked : (type : ImageType) → IsMarked (way_of type)
type_marked Exr = λ d.
    onward_within (length d) _ _ _ (reading_within d 4 4) (λ version. chain_within (exr_attributes (name_room version)) d)
type_marked Hdr = λ d. onward_within (length d) _ _ _ (layout_within d hdr_identifier) (λ first. chain_within (hdr_lines first) d)
type_marked (Heif _) = heif_within
type_marked Ico = λ d. onward_within (length d) _ _ _ (reading_within d 4 2) (λ count. chain_within (icon_entries count) d)
type_marked Ilbm = chain_within ilbm_chunks
type_marked Jpeg = chain_within jpeg_segments
type_marked Jxl = λ d. onward_within (length d) (jxl_codestream d).marks (jxl_codestream d).answer (λ front. just (jxl_size front) [])
    (onward_within (length d) (layout_reads d jxl_start).marks (layout_reads d jxl_start).answer (codestream d) (layout_within d jxl_start)
    (codestream_within d)) (λ front. All-nil (IsWithin (length d)))
type_marked Pnm = chain_within pnm_words
type_marked Tiff = λ d. onward_within (length d) _ _ _ (layout_within d tiff_header) (λ header.
    onward_within (length d) _ _ _ (reading_within d header.directory (count_bytes header.version)) (λ count.
    chain_within (tiff_entries header count) d))
type_marked _ = tt

-- the marks of a size, and of a type with it
size_within : (type : ImageType) (d : List ℕ) → AreWithin (length d) (size_reads type d).marks
size_within type d = way_within (way_of type) d (type_marked type)

pub meaning_within : (d : List ℕ) (offset : ℕ) → AreWithin (length d) (meaning_reads d offset).marks
unfolding meaning_reads
meaning_within d offset =
    onward_within (length d) _ _ _ (layout_within d (kind (length d) offset)) (λ found. size_within found d)

-- so no reader is left past the end of its bytes
pub meaning_ends : EndsWithin meaning_reads
meaning_ends t = grind (arith, place_within, meaning_within)

pub size_ends : (type : ImageType) → EndsWithin (λ d offset. size_reads type d)
size_ends type t = grind (arith, place_within, size_within)

-- there are no more of them than they are long
count_within : (n : ℕ) (spans : List Span) → AreWithin n spans → length spans ≤ total spans
count_within n [] is = omega arith
count_within n (s ∷ spans) is =
    let here = is 0 s (omega arith) in
    let rest = count_within n spans (λ k d below. is (suc k) d (omega (arith, below))) in
    omega (arith, rest, here.0)

pub marks_few : (d : List ℕ) (offset : ℕ) → length (meaning_reads d offset).marks ≤ length d + 64
marks_few d offset = omega
    (arith, count_within (length d) (meaning_reads d offset).marks (meaning_within d offset), cost_within d offset)

-- those that a buffer begins with
pub front_is : (marks new rest : List Span) (count : ℕ) → new ≡ marks → count ≡ length marks → take count (new ++ rest) ≡ marks
front_is marks new rest count is counted = grind (arith, take-append_seam)

pub ruleset front = (front_is, meaning_within, marks_few)
