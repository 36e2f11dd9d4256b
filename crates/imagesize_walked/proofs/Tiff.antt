-- TIFF: how a walk along the entries goes, how many bytes they are read from, and what it sees of an input.
use Rattle.std.proofs.Common.{◌≡◌, ◌≢◌, ℕ, ◌+◌, ◌-◌, ◌^◌, ◌<◌, ◌≤◌, min, Bool, true, false, cond, eqb, leb, List, [], ◌∷◌, ◌++◌, length, take, Option, Some, None, Result, Ok, Err, refl, sym, ap, ◌∙◌, subst, arith}
use Rattle.std.proofs.lemmas.Bool.Decides.{nat_tests}
use Rattle.std.proofs.lemmas.List.{append-nil, length_push}
use Rattle.std.proofs.lemmas.List.Elements.{filter-append}
use Rattle.std.specs.Prelude.{filter, option_and_then}
use Rattle.std.specs.List.{last_or}
use Rattle.imagesize_walked.specs.Walks.{entry_if_left, listed_end, listed_first, listed_step, listed_with, tiff_open, tiff_step}
use Rattle.imagesize_types.specs.Sides.{size_if_known}
use Rattle.imagesize_walked.specs.Tiff.{byte_order, side_with, size_or_next, count_bytes, directory_at, entry_bytes, head_bytes, field_type_in, field_type_of, last_value, size_in, stated_offset, tag_in, tiff, tiff_directory, tiff_entries, tiff_entry, tiff_head, tiff_header, tiff_value, value_bytes, value_of, version_of, whole_value}
use Rattle.imagesize_walked.specs.declared.formats.tiff.Entry.{Entry}
use Rattle.imagesize_walked.specs.declared.formats.tiff.Header.{Header}
use Rattle.imagesize_walked.specs.declared.formats.tiff.Listed.{Listed}
use Rattle.imagesize_walked.specs.declared.formats.tiff.Directory.{Directory}
use Rattle.imagesize_walked.specs.declared.formats.tiff.Directory.TheVariants as directory
use Rattle.imagesize_walked.specs.declared.formats.tiff.FieldType.{FieldType}
use Rattle.imagesize_walked.specs.declared.formats.tiff.Version.{Version}
use Rattle.imagesize_walked.specs.declared.formats.tiff.Version.TheVariants.{Tiff, BigTiff}
use Rattle.imagesize_types.specs.declared.size.ImageSize.{ImageSize}
use Rattle.imagesize_source.specs.declared.halt.Halt.{Halt}
use Rattle.imagesize_source.specs.declared.halt.Halt.TheVariants.{Ended, InvalidIfdValueLength, NoDimensionsInIfd}
use Rattle.imagesize_source.specs.declared.endian.Endian.{Endian}
use Rattle.imagesize_source.specs.Chain.{Said, Decided, Next, Advances, verdict, chain_at}
use Rattle.imagesize_source.specs.Counts.{AtMost, Each}
use Rattle.imagesize_source.specs.Extension.{Lasts, Never, Plain}
use Rattle.imagesize_source.specs.Input.{span_of}
use Rattle.imagesize_source.specs.declared.span.Span.{Span}
use Rattle.imagesize_source.specs.Layout.{Layout, layout_reads, bind, whole, accept}
use Rattle.imagesize_source.specs.Layout.Layout.{field, refuse, «done»}
use Rattle.imagesize_source.specs.Reading.{Reads, and_then, bytes_at, gives, just, map_answer, number_at, number_read, refuses, uncounted, with_answer}
use Rattle.imagesize_source.specs.Walk.{CanFollow, EndsBy, after, decides, run}
use Rattle.imagesize_source.specs.declared.walk.Start.{Start}
use Rattle.imagesize_source.proofs.Layouts.{no_span, over-bind, then_then}
use Rattle.imagesize_source.specs.State.{State, Runs, IsSound, total}
use Rattle.imagesize_source.proofs.Advances.{Tells, Begins, advances, begins_bind, states_follow, tells_bind}
use Rattle.imagesize_source.proofs.Ahead.{Ahead, chain_ahead}
use Rattle.imagesize_source.proofs.PastTheEnd.{bytes_beyond, saturated_by}
use Rattle.imagesize_source.proofs.ChainLaws.{chain_cost, local_chain, lasts_chain}
use Rattle.imagesize_source.proofs.Counts.{Bounded, at_most, at_most_bind, bounded_layout, bounded_then, then_within, total-span_of, total_behind}
use Rattle.imagesize_source.proofs.Answered.{on_answer}
use Rattle.imagesize_source.proofs.Agreement.{each_texts, local_layout, local_number, local_then, without_texts}
use Rattle.imagesize_source.proofs.Extension.{lasts_then, more, number_lasts, number_ok}
use Rattle.imagesize_source.proofs.Reached.{reads_nothing, runs_bind, refused_bind}
use Rattle.imagesize_source.proofs.Runs.{total-append}
use Rattle.imagesize_source.proofs.States.{ends_after, goes, run_is, run_stop, run_unfolds, run_within}
use Rattle.imagesize_source.proofs.Tests.{on_test}
use Rattle.imagesize_source.proofs.Way.{RecordedLaws, answers_last}
use Rattle.imagesize_source.proofs.Lists.{last_push}

-- what holds of a refusal and of what goes on
by_accepted : {X Y : Type 0} (P : Layout Y → Type 0) (r : Result X Halt) (f : X → Layout Y) → ((e : Halt) → P (refuse e))
    → ((x : X) → P (f x)) → P (accept r f)
by_accepted P (Ok x) f out on = on x
by_accepted P (Err e) f out on = out e

-- An entry has a head. It has 12 bytes in all, and 20 in BigTIFF.
head_some : (version : Version) → 0 < head_bytes version
head_some Tiff = omega arith
head_some BigTiff = omega arith

entry_few : (version : Version) → head_bytes version + value_bytes version ≤ 20
entry_few Tiff = omega arith
entry_few BigTiff = omega arith

count_few : (version : Version) → count_bytes version ≤ 8
count_few Tiff = omega arith
count_few BigTiff = omega arith

-- what an entry's head and value say
abbrev entry_of : Endian → List ℕ → FieldType → List ℕ → Entry
entry_of order head field_type value =
    record { tag = tag_in order head; value = value_of order field_type value }

-- the size that an entry completes, after other entries or after their width and height
abbrev size_after : List Entry → Entry → Option ImageSize
size_after entries entry = size_in (entries ++ entry ∷ [])

abbrev size_by : Option ℕ → Option ℕ → Entry → Option ImageSize
size_by width height entry = size_if_known (side_with 0x100 width entry) (side_with 0x101 height entry)

-- A record, by the size that its entry completes. `all` says whether all entries were read.
abbrev says : Version → (Entry → Option ImageSize) → ℕ → Entry → Layout (Said Entry ImageSize)
says version size offset entry = done (size_or_next (size entry) entry (offset + entry_bytes version))

abbrev record_of : Endian → Version → (Entry → Option ImageSize) → ℕ → Bool → Layout (Said Entry ImageSize)
record_of order version size offset all =
    cond all (refuse NoDimensionsInIfd) (bind (tiff_entry order version offset) (says version size offset))

-- what follows the head of an entry
abbrev after_head : Endian → Version → (Entry → Option ImageSize) → ℕ → List ℕ → Layout (Said Entry ImageSize)
after_head order version size offset head = bind (accept (field_type_of version (field_type_in order head))
    (λ field_type. bind (tiff_value version (offset + head_bytes version))
    (λ value. done (entry_of order head field_type value)))) (says version size offset)

module _ (order : Endian) (version : Version) (size : Entry → Option ImageSize) (offset : ℕ) where
  -- what holds where an entry is refused, where it completes the size, and where it does not
  by_type : (P : Layout (Said Entry ImageSize) → Type 0) (head : List ℕ) → ((e : Halt) → P (refuse e))
      → ((field_type : FieldType) → P (bind (bind (tiff_value version (offset + head_bytes version))
      (λ value. done (entry_of order head field_type value))) (says version size offset)))
      → P (after_head order version size offset head)
  by_type P head = by_accepted (λ t. P (bind t (says version size offset)))
      (field_type_of version (field_type_in order head)) _

  by_value : (P : Layout (Said Entry ImageSize) → Type 0) (found : Option (List ℕ)) (entry : List ℕ → Entry)
      → ((e : Halt) → P (refuse e)) → ((x : ImageSize) → P (done (Decided x)))
      → ((e : Entry) → P (done (Next e (offset + entry_bytes version))))
      → P (bind (bind (accept (whole_value found) done) (λ value. done (entry value))) (says version size offset))
  by_value P None entry out stop on = out InvalidIfdValueLength
  by_value P (Some value) entry out stop on = by_size (entry (take 4 value)) (size (entry (take 4 value))) where
    by_size : (e : Entry) (o : Option ImageSize) → P (done (size_or_next o e (offset + entry_bytes version)))
    by_size e None = on e
    by_size e (Some x) = stop x

  record_tells : (all : Bool) → Tells (λ p. offset < p) (record_of order version size offset all)
  unfolding tiff_entry tiff_head tiff_value
  record_tells true = tt
  record_tells false = λ head. by_type (Tells (λ p. offset < p)) (take 4 head) (λ e. tt)
      (λ field_type value. by_value (Tells (λ p. offset < p)) (whole (value_bytes version) value)
      (entry_of order (take 4 head) field_type) (λ e. tt) (λ x. tt) (λ e. omega (arith, head_some version)))

  record_begins : (all : Bool) → Begins offset (record_of order version size offset all)
  unfolding tiff_entry tiff_head
  record_begins true = tt
  record_begins false = (omega arith, head_some version)

  -- an entry is read from at most 20 bytes, and the end of the directory from none
  record_each : (all : Bool) → Each 20 (record_of order version size offset all)
  unfolding tiff_entry tiff_head tiff_value
  record_each true = tt
  record_each false =
      let behind_head : ℕ = 20 - head_bytes version in (
        omega (arith, entry_few version),
        λ head. by_type (AtMost behind_head) (take 4 head) (λ e. tt) (λ field_type. (
          omega (arith, entry_few version),
          λ value. by_value (AtMost (behind_head - value_bytes version)) (whole (value_bytes version) value)
              (entry_of order (take 4 head) field_type) (λ e. tt) (λ x. tt) (λ e. tt),
        )),
      )

  record_ahead : (all : Bool) → Ahead offset (record_of order version size offset all)
  unfolding tiff_entry tiff_head tiff_value
  record_ahead true = tt
  record_ahead false =
      let behind_head : ℕ = offset + head_bytes version in (
        omega arith,
        λ head. by_type (Ahead behind_head) (take 4 head) (λ e. tt) (λ field_type. (
          omega arith,
          λ value. by_value (Ahead (behind_head + value_bytes version)) (whole (value_bytes version) value)
              (entry_of order (take 4 head) field_type) (λ e. tt) (λ x. tt) (λ e. omega arith),
        )),
      )

  -- a value that is cut is refused
  record_plain : (all : Bool) → Plain (record_of order version size offset all)
  unfolding tiff_entry tiff_head tiff_value
  record_plain true = tt
  record_plain false = λ head. by_type Plain (take 4 head) (λ e. tt) (λ field_type value. (
    λ short. let none : whole (value_bytes version) value ≡ None = grind (arith, nat_tests) in
        subst (λ found. Never (bind (bind (accept (whole_value found) done)
        (λ value. done (entry_of order (take 4 head) field_type value))) (says version size offset))) (sym none) tt,
    by_value Plain (whole (value_bytes version) value) (entry_of order (take 4 head) field_type) (λ e. tt)
        (λ x. tt) (λ e. tt),
  ))

  -- from the end of the input on there is no entry
  record_ends : (all : Bool) (d : List ℕ) → length d ≤ offset
      → uncounted (layout_reads d (record_of order version size offset all)) ≡ refuses (cond all NoDimensionsInIfd Ended)
  unfolding tiff_entry tiff_head
  record_ends true d far = refl
  record_ends false d far =
      ap uncounted (bytes_beyond d offset (head_bytes version) (λ head. after_head order version size offset (take 4 head))
      far (head_some version))

entries_advance : (header : Header) (count : ℕ) (d : List ℕ) → Advances (tiff_entries header count) d
entries_advance header count = advances (tiff_entries header count)
    (λ entries offset. record_tells header.order header.version (size_after entries) offset (eqb (length entries) count))
    (λ entries offset. record_begins header.order header.version (size_after entries) offset (eqb (length entries) count))

-- of one entry more the value is its own where it has the tag
abbrev value_in : List Entry → Option ℕ
value_in kept = option_and_then (λ e. e.value) (last_or None kept)

last_value_on : (tag : ℕ) (entries : List Entry) (entry : Entry)
    → last_value tag (entries ++ entry ∷ []) ≡ cond (eqb entry.tag tag) entry.value (last_value tag entries)
last_value_on tag entries entry =
    ap value_in (filter-append (λ e. eqb e.tag tag) entries (entry ∷ [])) ∙ by_tag (eqb entry.tag tag) where
      by_tag : (b : Bool) → value_in (filter (λ e. eqb e.tag tag) entries ++ cond b (entry ∷ []) [])
          ≡ cond b entry.value (value_in (filter (λ e. eqb e.tag tag) entries))
      by_tag true = ap (option_and_then (λ e. e.value)) (last_push None (filter (λ e. eqb e.tag tag) entries) entry)
      by_tag false = ap value_in (append-nil (filter (λ e. eqb e.tag tag) entries))

-- what is known after these entries of a directory that has `count` entries
record Known (count : ℕ) (entries : List Entry) (l : Listed) : Type 0 where
  left : length entries + l.left ≡ count
  wide : last_value 0x100 entries ≡ l.width
  high : last_value 0x101 entries ≡ l.height

-- all entries were read if none is left
all_read : (count : ℕ) (entries : List Entry) (l : Listed) → Known count entries l
    → eqb (length entries) count ≡ eqb l.left 0
all_read count entries l known = by_left (eqb l.left 0) refl where
  by_left : (none : Bool) → eqb l.left 0 ≡ none → eqb (length entries) count ≡ none
  by_left true is = grind (arith, nat_tests, known.left)
  by_left false is = grind (arith, nat_tests, known.left)

known_on : (count : ℕ) (entries : List Entry) (l : Listed) (entry : Entry) → Known count entries l → eqb l.left 0 ≡ false
    → Known count (entries ++ entry ∷ []) (listed_with l entry)
known_on count entries l entry h some = record {
  left = grind (arith, nat_tests, length_push entries entry, h.left);
  wide = last_value_on 0x100 entries entry ∙ ap (cond (eqb entry.tag 0x100) entry.value) h.wide;
  high = last_value_on 0x101 entries entry ∙ ap (cond (eqb entry.tag 0x101) entry.value) h.high;
}

-- ---- the entries over what those before give

pub listed_tells : (l : Listed) (offset : ℕ) → Tells (λ p. offset < p) (listed_step l offset)
listed_tells l offset = tells_bind (λ p. offset < p) (entry_if_left l offset) (after (listed_with l) decides)
    (record_tells l.order l.version (size_by l.width l.height) offset (eqb l.left 0)) (λ y. tt) (λ v q up. up)

pub listed_begins : (l : Listed) (offset : ℕ) → Begins offset (listed_step l offset)
listed_begins l offset = begins_bind offset (entry_if_left l offset) (after (listed_with l) decides)
    (record_begins l.order l.version (size_by l.width l.height) offset (eqb l.left 0)) (λ y. tt) (λ y. tt)

pub listed_follows : CanFollow listed_step
listed_follows = states_follow listed_step listed_tells listed_begins

pub listed_ends : (l : Listed) → EndsBy listed_step l (listed_end l)
listed_ends l d offset far =
    ends_after d (entry_if_left l offset) (listed_with l) (listed_end l)
    (record_ends l.order l.version (size_by l.width l.height) offset (eqb l.left 0) d far ∙ by_all (eqb l.left 0))
  where
    by_all : (all : Bool) → refuses (cond all NoDimensionsInIfd Ended)
        ≡ just (map_answer {Y = Said Entry ImageSize} Decided (cond all (Err NoDimensionsInIfd) (Err Ended))) []
    by_all true = refl
    by_all false = refl

-- the size that the entries of a directory give
pub entries_are : (header : Header) (count : ℕ) (d : List ℕ)
    → run listed_step (listed_first header count) (header.directory + count_bytes header.version) d
    ≡ chain_at (tiff_entries header count) d
entries_are header count d = run_is listed_step d (listed_follows d) (tiff_entries header count) at listed_with (Known count)
    (entries_advance header count d)
    (λ entries l offset known.
    ap (λ size. layout_reads d (bind (record_of header.order header.version size offset (eqb l.left 0))
    (after (listed_with (at l)) decides))) (sizes entries l known)
    ∙ ap (λ all. layout_reads d (bind (record_of header.order header.version (size_after entries) offset all)
    (after (listed_with (at l)) decides))) (sym (all_read count entries l known)))
    (λ entries l offset v q known got. known_on count entries l v known (sym (all_read count entries l known)
    ∙ some_left (eqb (length entries) count) (bind (tiff_entry header.order header.version offset)
    (says header.version (size_after entries) offset)) got))
    (listed_first header count) (record { left = omega arith; wide = refl; high = refl })
  where
    at : Listed → Listed
    at l = record l { order = header.order; version = header.version }

    some_left : {X : Type 0} {x : X} (all : Bool) (t : Layout X)
        → (layout_reads d (cond all (refuse NoDimensionsInIfd) t)).answer ≡ Ok x → all ≡ false
    some_left true t got = absurd cc
    some_left false t got = refl

    sizes : (entries : List Entry) (l : Listed) → Known count entries l → size_by l.width l.height ≡ size_after entries
    sizes entries l known = λ i entry. size_if_known
        (sym (last_value_on 0x100 entries entry ∙ ap (cond (eqb entry.tag 0x100) entry.value) known.wide) i)
        (sym (last_value_on 0x101 entries entry ∙ ap (cond (eqb entry.tag 0x101) entry.value) known.high) i)

-- what an entry leads to, by the size that it completes and by the width and the height with it
abbrev pub listed_says : Listed → ℕ → Option ℕ → Option ℕ → Option ImageSize → Said Listed ImageSize
listed_says l offset wide high None =
    Next (record l { left = l.left - 1; width = wide; height = high }) (offset + entry_bytes l.version)
listed_says l offset wide high (Some size) = Decided size

-- no entry is left
pub none_left : {a : State} (l : Listed) (offset : ℕ) → IsSound a → l.left ≡ 0
    → Runs {X = Said Listed ImageSize} a a (Err NoDimensionsInIfd) (layout_reads a.held.input (listed_step l offset))
none_left {a} l offset sound none =
    let all : eqb l.left 0 ≡ true = grind (arith, nat_tests) in
    rw all (reads_nothing a (Err NoDimensionsInIfd) sound refl (record { budget = λ e. absurd cc; fault = λ e. absurd cc }))

-- what an entry says after those read before
abbrev said_after : Listed → ℕ → Entry → Layout (Said Entry ImageSize)
said_after l = says l.version (size_by l.width l.height)

-- an entry that is left is read or refused
module _ {a b : State} (l : Listed) (offset : ℕ) where
  pub next_said : l.left ≢ 0 → (entry : Entry) (wide high : Option ℕ) (size : Option ImageSize)
      → wide ≡ side_with 0x100 l.width entry
      → high ≡ side_with 0x101 l.height entry → size_if_known wide high ≡ size
      → Runs a b (Ok entry) (layout_reads a.held.input (tiff_entry l.order l.version offset))
      → Runs a b (Ok (listed_says l offset wide high size)) (layout_reads a.held.input (listed_step l offset))
  next_said more entry wide high size is_wide is_high is run =
      let no : eqb l.left 0 ≡ false = grind (arith, nat_tests) in
      let known : size_by l.width l.height entry ≡ size = rw (← is_wide, ← is_high) is in
      rw no (runs_bind (Ok (listed_says l offset wide high size))
      (bind (tiff_entry l.order l.version offset) (said_after l offset)) (after (listed_with l) decides)
      (runs_bind (Ok (size_or_next size entry (offset + entry_bytes l.version))) (tiff_entry l.order l.version offset) (said_after l offset) run
      (λ d. ap (λ o. layout_reads d (done (size_or_next o entry (offset + entry_bytes l.version)))) known) refl tt)
      (λ d. leads size d) refl tt)
    where
      leads : (size : Option ImageSize) (d : List ℕ)
          → layout_reads d (after (listed_with l) decides (size_or_next size entry (offset + entry_bytes l.version)))
          ≡ just (Ok (listed_says l offset wide high size)) []
      leads None d = λ i. just (Ok (Next (record l { left = l.left - 1; width = sym is_wide i; height = sym is_high i })
          (offset + entry_bytes l.version))) []
      leads (Some size) d = refl

  pub next_refused : l.left ≢ 0 → (e : Halt)
      → Runs {X = Entry} a b (Err e) (layout_reads a.held.input (tiff_entry l.order l.version offset))
      → Runs {X = Said Listed ImageSize} a b (Err e) (layout_reads a.held.input (listed_step l offset))
  next_refused more e run =
      let no : eqb l.left 0 ≡ false = grind (arith, nat_tests) in
      rw no (refused_bind (bind (tiff_entry l.order l.version offset) (said_after l offset))
      (after (listed_with l) decides) (refused_bind (tiff_entry l.order l.version offset) (said_after l offset) run))

-- ---- the directory: the number of its entries, then these

count_some : (version : Version) → 0 < count_bytes version
count_some Tiff = omega arith
count_some BigTiff = omega arith

-- from the end of the input on there is no number
number_beyond : {X : Type 0} (d : List ℕ) (order : Endian) (offset k : ℕ) (f : ℕ → Layout X) → length d ≤ offset → 0 < k
    → layout_reads d (field order offset k f) ≡ refuses Ended
unfolding number_at bytes_at
number_beyond d order offset k f far some =
    let test : leb k (length d - offset) ≡ false = grind (arith, nat_tests) in rw (no_span d offset k far, test) refl

pub tiff_tells : (s : Directory) (offset : ℕ) → Tells (λ p. offset < p) (tiff_step s offset)
tiff_tells (directory.Count header) offset = λ count. omega (arith, count_some header.version)
tiff_tells (directory.Entry l) offset =
    tells_bind (λ p. offset < p) (listed_step l offset) (after directory.Entry decides) (listed_tells l offset) (λ y. tt) (λ v q up. up)

pub tiff_begins : (s : Directory) (offset : ℕ) → Begins offset (tiff_step s offset)
tiff_begins (directory.Count header) offset = (omega arith, count_some header.version)
tiff_begins (directory.Entry l) offset =
    begins_bind offset (listed_step l offset) (after directory.Entry decides) (listed_begins l offset) (λ y. tt) (λ y. tt)

pub tiff_follows : CanFollow tiff_step
tiff_follows = states_follow tiff_step tiff_tells tiff_begins

-- the result at the end of the input
abbrev pub tiff_end : Directory → Result ImageSize Halt
tiff_end (directory.Count header) = Err Ended
tiff_end (directory.Entry l) = listed_end l

pub tiff_ends : (s : Directory) → EndsBy tiff_step s (tiff_end s)
tiff_ends (directory.Count header) d offset far =
    ap uncounted (number_beyond d header.order offset (count_bytes header.version)
    (λ count. done (Next (directory.Entry (listed_first header count)) (offset + count_bytes header.version)))
    far (count_some header.version))
tiff_ends (directory.Entry l) d offset far =
    ends_after d (listed_step l offset) directory.Entry (listed_end l) (listed_ends l d offset far)

directory_is : (header : Header) (d : List ℕ) → run tiff_step (directory.Count header) header.directory d ≡ tiff_directory d header
directory_is header d =
    run_unfolds tiff_step d (tiff_follows d) (directory.Count header) header.directory
    ∙ sym (then_then (number_read d header.order header.directory (count_bytes header.version)) first (goes tiff_step d (tiff_follows d))
    (λ count. chain_at (tiff_entries header count) d) (λ count. sym (counted count)))
  where
    first : ℕ → Reads (Said Directory ImageSize)
    first count = gives (Next (directory.Entry (listed_first header count)) (header.directory + count_bytes header.version))

    counted : (count : ℕ)
        → run tiff_step (directory.Entry (listed_first header count)) (header.directory + count_bytes header.version) d
        ≡ chain_at (tiff_entries header count) d
    counted count = run_within tiff_step listed_step directory.Entry d (tiff_follows d) (listed_follows d) (λ l offset. refl)
        (listed_first header count) (header.directory + count_bytes header.version) ∙ entries_are header count d

-- the size of a TIFF is what its directory gives, whose offset is in the header
pub tiff_is : (d : List ℕ) → tiff d ≡ and_then (layout_reads d tiff_open) (λ s. run tiff_step s.records s.offset d)
tiff_is d =
    then_then (layout_reads d tiff_header) (λ header. layout_reads d (done (opened header))) goes_on (tiff_directory d)
    (λ header. sym (directory_is header d))
    ∙ ap (λ r. and_then r goes_on) (sym (over-bind d tiff_header (λ header. done (opened header))))
  where
    opened : Header → Start Directory
    opened header = record { records = directory.Count header; offset = header.directory }

    goes_on : Start Directory → Reads ImageSize
    goes_on s = run tiff_step s.records s.offset d

-- so a directory beyond 64 bits serves as well at the greatest offset
pub entries_saturated : {a b : State} {r : Result ImageSize Halt} (header : Header) (count at : ℕ)
    → Runs a b r (run listed_step (listed_first header count) at a.held.input)
    → at ≡ min (header.directory + count_bytes header.version) (2 ^ 64 - 1)
    → Runs a b r (chain_at (tiff_entries header count) a.held.input)
entries_saturated {a} header count at runs is = rw (← entries_are header count a.held.input)
    (saturated_by (λ p d. run listed_step (listed_first header count) p d) (just (listed_end (listed_first header count)) [])
    (header.directory + count_bytes header.version) at none_there runs is)
  where
    decided : (r : Result ImageSize Halt) → verdict (map_answer {Y = Said Listed ImageSize} Decided r) ≡ Some r
    decided (Ok x) = refl
    decided (Err e) = refl

    none_there : (d : List ℕ) (p : ℕ) → length d ≤ p
        → uncounted (run listed_step (listed_first header count) p d) ≡ just (listed_end (listed_first header count)) []
    none_there d p far =
        let none = listed_ends (listed_first header count) d p far in
        let why : Result ImageSize Halt = listed_end (listed_first header count) in
        ap uncounted (run_stop listed_step d (listed_follows d) (listed_first header count) p why
        (ap (λ r. verdict r.answer) none ∙ decided why)) ∙ ap (with_answer why) none

entry_each : (header : Header) (count : ℕ) (entries : List Entry) (offset : ℕ)
    → Each 20 ((tiff_entries header count).said entries offset)
entry_each header count entries offset =
    record_each header.order header.version (size_after entries) offset (eqb (length entries) count)

-- the directory is read from at most the bytes behind its offset
directory_within : (d : List ℕ) (header : Header) → total (tiff_directory d header).marks ≤ length d
directory_within d header =
    let count_span : List Span = span_of d header.directory (count_bytes header.version) in
    on_answer (λ w. total w.marks ≤ length d) count_span
    (number_at d header.order header.directory (count_bytes header.version))
    (λ count. chain_at (tiff_entries header count) d)
    (λ count is. omega (
      arith,
      number_ok d header.order header.directory (count_bytes header.version) count is,
      total-span_of d header.directory (count_bytes header.version),
      total-append count_span (chain_at (tiff_entries header count) d).marks,
      chain_ahead (tiff_entries header count) d (entries_advance header count d)
          (λ entries offset. record_ahead header.order header.version (size_after entries) offset (eqb (length entries) count)),
    ))
    (λ e is. omega (arith, total_behind d header.directory (count_bytes header.version)))

-- the header whose directory stands at an offset
abbrev placed : Endian → Version → ℕ → Layout Header
placed order version offset = accept (directory_at order version offset) done

stated_at_most : (order : Endian) (version : Version) → AtMost 12 (stated_offset order version)
unfolding stated_offset
stated_at_most order Tiff = (omega arith, λ offset. tt)
stated_at_most order BigTiff = (
  omega arith,
  λ size. on_test (AtMost 10) (eqb size 8) _ _
      (λ _. (
        omega arith,
        λ zeros. on_test (AtMost 8) (eqb zeros 0) _ _ (λ _. (omega arith, λ offset. tt)) (λ _. tt),
      ))
      (λ _. tt),
)

-- the header is read from at most 16 bytes
header_at_most : AtMost 16 tiff_header
unfolding tiff_header
header_at_most = (
  omega arith,
  λ mark. by_accepted (AtMost 14) (byte_order mark) _ (λ e. tt) (λ order. (
    omega arith,
    λ number. by_accepted (AtMost 12) (version_of number) _ (λ e. tt)
        (λ version. at_most_bind 12 0 (stated_offset order version) (placed order version)
        (stated_at_most order version)
        (λ offset. by_accepted (AtMost 0) (directory_at order version offset) _ (λ e. tt) (λ header. tt))),
  )),
)

directory_cost : (d : List ℕ) (header : Header) → Bounded 8 20 (tiff_directory d header)
directory_cost d header = bounded_then 20 8 0 (number_read d header.order header.directory (count_bytes header.version))
    (λ count. chain_at (tiff_entries header count) d)
    (omega (arith, total-span_of d header.directory (count_bytes header.version), count_few header.version))
    (λ count _. chain_cost (tiff_entries header count) d (entries_advance header count d) 20 (entry_each header count))

stated_plain : (order : Endian) (version : Version) → Plain (bind (stated_offset order version) (placed order version))
unfolding stated_offset
stated_plain order Tiff = λ offset. by_accepted Plain (directory_at order Tiff offset) _ (λ e. tt) (λ header. tt)
stated_plain order BigTiff = λ size. on_test (λ t. Plain (bind t (placed order BigTiff))) (eqb size 8) _ _
    (λ _ zeros. on_test (λ t. Plain (bind t (placed order BigTiff))) (eqb zeros 0) _ _
    (λ _ offset. by_accepted Plain (directory_at order BigTiff offset) _ (λ e. tt) (λ header. tt)) (λ _. tt))
    (λ _. tt)

header_plain : Plain tiff_header
unfolding tiff_header
header_plain = λ mark. by_accepted Plain (byte_order mark) _ (λ e. tt)
    (λ order number. by_accepted Plain (version_of number) _ (λ e. tt) (λ version. stated_plain order version))

-- bytes that follow change no size
tiff_keeps : Lasts tiff
tiff_keeps = lasts_then (λ d. layout_reads d tiff_header) (λ header d. tiff_directory d header)
    (λ d x header. more d x tiff_header header header_plain)
    (λ header. lasts_then (λ d. number_read d header.order header.directory (count_bytes header.version))
    (λ count d. chain_at (tiff_entries header count) d)
    (number_lasts header.order header.directory (count_bytes header.version))
    (λ count. lasts_chain (tiff_entries header count) (entries_advance header count)
    (λ entries offset. record_plain header.order header.version (size_after entries) offset (eqb (length entries) count))))

-- With its type it is read from at most 36 bytes beside the entries, and from at most 28 bytes more than the input has. Header
-- and directory read at most 16 more, since the directory may lie in the header.
pub tiff_laws : RecordedLaws 12 36 20 true false tiff
tiff_laws = record {
  local = local_then (λ d. layout_reads d tiff_header) (λ header d. tiff_directory d header)
      (local_layout tiff_header (without_texts false 16 tiff_header header_at_most))
      (λ header. local_then (λ d. number_read d header.order header.directory (count_bytes header.version))
      (λ count d. chain_at (tiff_entries header count) d)
      (local_number header.order header.directory (count_bytes header.version))
      (λ count. local_chain (tiff_entries header count) (entries_advance header count)
      (λ entries offset. each_texts false 20 ((tiff_entries header count).said entries offset)
      (entry_each header count entries offset))));
  cost = λ d. omega (
    arith,
    bounded_then 20 16 8 (layout_reads d tiff_header) (tiff_directory d)
        (bounded_layout 20 16 d tiff_header header_at_most) (λ header _. directory_cost d header),
  );
  within = λ d. omega (
    arith,
    then_within (layout_reads d tiff_header) (tiff_directory d) 16 (length d) (at_most d 16 tiff_header header_at_most)
        (λ header _. directory_within d header),
  );
  lasts = λ _. answers_last tiff tiff_keeps;
}
