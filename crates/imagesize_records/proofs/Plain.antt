-- Which of the readings of a stream read no text.
use Rattle.std.proofs.Common.{◌≡◌, ℕ, Bool, true, false, cond, List, Option, None, Some, Result, Ok, Err, refl}
use Rattle.imagesize.proofs.Detection.{kind_cost, with_costs}
use Rattle.imagesize.specs.Kind.{first_row, with_compression}
use Rattle.imagesize.specs.Parted.{has_texts}
use Rattle.imagesize.specs.Types.{rows}
use Rattle.imagesize.specs.declared.types.ImageType.{ImageType}
use Rattle.imagesize.specs.declared.types.ImageType.TheVariants.{Exr, Hdr, Pnm}
use Rattle.imagesize_boxes.specs.Heif.{property_found}
use Rattle.imagesize_boxes.specs.Jxl.{box_head, piece_at}
use Rattle.imagesize_boxes.specs.Walks.{heif_step, property_or_result}
use Rattle.imagesize_boxes.specs.declared.formats.heif.Gathered.{Gathered}
use Rattle.imagesize_boxes.specs.declared.formats.heif.Sought.{Sought}
use Rattle.imagesize_boxes.specs.declared.formats.heif.Sought.TheVariants.{Ipco, Iprp, Meta, Property}
use Rattle.imagesize_boxes.specs.declared.formats.heif.Property as heif
use Rattle.imagesize_source.proofs.Agreement.{costed_texts, with_texts}
use Rattle.imagesize_source.specs.Agreement.{AllRead}
use Rattle.imagesize_source.specs.Chain.{Said, Decided, Next}
use Rattle.imagesize_source.specs.Layout.{Layout, accept, bind}
use Rattle.imagesize_source.specs.Layout.Layout.{begin_record, field, reading, refuse, «done»}
use Rattle.imagesize_source.specs.declared.endian.Endian.{Endian}
use Rattle.imagesize_source.specs.declared.halt.Halt.{Halt}
use Rattle.imagesize_source.specs.Walk.{after}
use Rattle.imagesize_records.specs.Steps.{is_text, step}
use Rattle.imagesize_records.specs.Streamed.{first_by, first_layout, jxl_opened, opening}
use Rattle.imagesize_records.specs.declared.awaited.Awaited.{Awaited}
use Rattle.imagesize_records.specs.declared.awaited.Awaited.TheVariants as awaited
use Rattle.imagesize_records.specs.declared.opening.First.TheVariants as first
use Rattle.imagesize_types.specs.declared.size.ImageSize.{ImageSize}
use Rattle.imagesize_walked.specs.Ico.{icon_answer, icon_entry}
use Rattle.imagesize_walked.specs.Tiff.{stated_offset, tiff_entry, tiff_head, tiff_header, tiff_value}
use Rattle.imagesize_walked.specs.Walks.{tiff_step}
use Rattle.imagesize_walked.specs.declared.formats.tiff.Directory.{Directory}
use Rattle.imagesize_walked.specs.declared.formats.tiff.Directory.TheVariants.{Count, Entry}
use Rattle.imagesize_walked.specs.declared.formats.tiff.Version.{Version}
use Rattle.imagesize_walked.specs.declared.formats.tiff.Version.TheVariants.{BigTiff, Tiff as Tiff_version}

plain_if : {X : Type 0} (b : Bool) (t u : Layout X) → AllRead false t → AllRead false u → AllRead false (cond b t u)
plain_if true t u first second = first
plain_if false t u first second = second

plain_accept : {X Y : Type 0} (r : Result X Halt) (f : X → Layout Y) → ((x : X) → AllRead false (f x))
    → AllRead false (accept r f)
plain_accept (Ok x) f rest = rest x
plain_accept (Err e) f rest = tt

plain_bind : {X Y : Type 0} (t : Layout X) (g : X → Layout Y) → AllRead false t → ((x : X) → AllRead false (g x))
    → AllRead false (bind t g)
plain_bind (done x) g read rest = rest x
plain_bind (refuse e) g read rest = tt
plain_bind (field order offset n f) g read rest = λ v. plain_bind (f v) g (read v) rest
plain_bind (reading r offset f) g read rest = (read.0, λ bs. plain_bind (f bs) g (read.1 bs) rest)
plain_bind (begin_record t) g read rest = plain_bind t g read rest

ruleset plain = (plain_if, plain_accept, plain_bind)

-- ---- the records

plain_after : {C S Y : Type 0} (on : C → S) (verdict : Y → Layout (Said S ImageSize))
    → ((y : Y) → AllRead false (verdict y)) → (said : Said C Y) → AllRead false (after on verdict said)
plain_after on verdict each (Decided y) = each y
plain_after on verdict each (Next v offset) = tt

icon_plain : (best : Option ImageSize) → AllRead false (icon_answer best)
icon_plain None = tt
icon_plain (Some size) = tt

entry_plain : (best : Option ImageSize) (offset : ℕ) (found : Option (List ℕ)) → AllRead false (icon_entry best offset found)
entry_plain best offset None = icon_plain best
entry_plain best offset (Some bytes) = tt

found_plain : (left offset : ℕ) (found : Option (List ℕ)) → AllRead false (property_found left offset found)
found_plain left offset None = tt
found_plain left offset (Some head) = search plain

listed_plain : (g : Gathered) (offset : ℕ) (found : Option heif.Property) → AllRead false (property_or_result g offset found)
listed_plain g offset None = search plain
listed_plain g offset (Some property) = tt

ruleset records = (plain, plain_after, icon_plain, entry_plain, found_plain, listed_plain)

directory_plain : (s : Directory) (offset : ℕ) → AllRead false (tiff_step s offset)
unfolding tiff_entry tiff_head tiff_value
directory_plain (Count header) offset = search records
directory_plain (Entry l) offset = search records depth 12 fits 3000

sought_plain : (s : Sought) (offset : ℕ) → AllRead false (heif_step s offset)
sought_plain Meta offset = search records
sought_plain Iprp offset = search records
sought_plain Ipco offset = search records
sought_plain (Property g) offset = search records depth 12 fits 3000

-- a record that is no text
step_plain : (next : Awaited) (offset : ℕ) → is_text next ≡ false → AllRead false (step next offset)
unfolding box_head piece_at
step_plain (awaited.Exr long) offset other = absurd cc
step_plain awaited.Hdr offset other = absurd cc
step_plain (awaited.Pnm s) offset other = absurd cc
step_plain next offset other = search (records, directory_plain, sought_plain) depth 12 fits 3000

pub step_read : (texts : Bool) (next : Awaited) (offset : ℕ) → is_text next ≡ texts → AllRead texts (step next offset)
step_read true next offset is = with_texts (step next offset)
step_read false next offset is = step_plain next offset is

-- ---- the first bytes

offset_plain : (order : Endian) (version : Version) → AllRead false (stated_offset order version)
unfolding stated_offset
offset_plain order Tiff_version = search plain
offset_plain order BigTiff = search plain

jxl_plain : (found : Option (List ℕ)) → AllRead false (jxl_opened found)
jxl_plain (Some front) = search plain
jxl_plain None = tt

ruleset openings = (plain, offset_plain, jxl_plain)

opening_plain : (type : ImageType) → has_texts type ≡ false → AllRead false (opening type)
unfolding tiff_header
opening_plain Exr none = absurd cc
opening_plain Hdr none = absurd cc
opening_plain Pnm none = absurd cc
opening_plain type none = search openings depth 12

pub opening_read : (type : ImageType) → AllRead (has_texts type) (opening type)
opening_read type = by_test (has_texts type) refl where
  by_test : (texts : Bool) → has_texts type ≡ texts → AllRead texts (opening type)
  by_test true is = with_texts (opening type)
  by_test false is = opening_plain type is

-- a type is read from no text
first_plain_by : (head : List ℕ) (found : Option ImageType) → AllRead false (first_by head found)
first_plain_by head (Some found) = plain_bind (with_compression 0 head found) (λ type. done (first.Type type))
    (costed_texts false kind_cost 37 12 (with_compression 0 head found) (with_costs 0 head found)) (λ type. tt)
first_plain_by head None = search plain

pub first_plain : AllRead false first_layout
first_plain = (tt, λ head. first_plain_by head (first_row rows head))
