-- EXR: how a walk along its attributes goes, how many bytes they are read from, and what it sees of an input.
use Rattle.std.proofs.Common.{bit_and, ltb, drop, ◌≡◌, ℕ, ◌+◌, ◌-◌, ◌<◌, ◌≤◌, Bool, cond, eqb, List, [], ◌∷◌, length, take, Option, Some, None, true, false, Err, refl, sym, ap, ◌∙◌, arith, slice_index_or}
use Rattle.std.proofs.lemmas.Bool.{and_parts}
use Rattle.std.proofs.Math.Nat.{add-zero}
use Rattle.std.proofs.lemmas.List.{get_or-drop, length-drop}
use Rattle.std.proofs.lemmas.Bool.Decides.{nat_tests}
use Rattle.std.specs.Prelude.{◌&&◌}
use Rattle.std.specs.Int.{w32, cast_signed, from_le_bytes}
use Rattle.imagesize_types.specs.Head.{four_at}
use Rattle.imagesize_types.specs.declared.size.ImageSize.{ImageSize}
use Rattle.imagesize_source.specs.declared.halt.Halt.TheVariants.{DataWindowNotFound, Ended}
use Rattle.imagesize_source.specs.declared.endian.Endian.TheVariants.{Little}
use Rattle.imagesize_source.specs.Chain.{Said, Decided, Next, Along, Advances, chain_at, next_record, start}
use Rattle.imagesize_source.specs.Counts.{AtMost}
use Rattle.imagesize_source.specs.Extension.{Plain}
use Rattle.imagesize_source.specs.Layout.{Layout, layout_reads, bytes, done, refuse}
use Rattle.imagesize_source.specs.Numbers.{number}
use Rattle.imagesize_source.specs.Reading.{and_then, number_read, uncounted}
use Rattle.imagesize_source.specs.State.{total}
use Rattle.imagesize_source.specs.Walk.{CanFollow, EndsBy, after, decides, run}
use Rattle.imagesize_source.proofs.Advances.{Begins, Tells, advances, begins_bind, states_follow, tells_bind}
use Rattle.imagesize_source.proofs.Ahead.{Ahead, chain_ahead}
use Rattle.imagesize_source.proofs.ChainLaws.{local_chain, lasts_chain, chain_bounded}
use Rattle.imagesize_source.proofs.Counts.{Bounded, at_most, at_most_more, bounded_then, then_within, total-span_of}
use Rattle.imagesize_source.proofs.Agreement.{local_then, local_number, with_texts}
use Rattle.imagesize_source.proofs.Layouts.{then_then}
use Rattle.imagesize_source.proofs.Numbers.{little_4}
use Rattle.imagesize_source.proofs.Spends.{said_to}
use Rattle.imagesize_source.proofs.States.{ends_after, run_is}
use Rattle.imagesize_source.proofs.Tests.{on_test}
use Rattle.imagesize_source.proofs.Way.{RecordedLaws, answers_last}
use Rattle.imagesize_texts.specs.Exr.{exr, exr_attributes, exr_attribute, exr_named, names_of, exr_open, exr_step, exr_typed, exr_value, exr_window, name_room, window_size, is_data_window, is_box, signed_at}
use Rattle.imagesize_texts.specs.Texts.{line_at}
use Rattle.imagesize_source.proofs.Extension.{lasts_then, number_lasts}
use Rattle.imagesize_texts.proofs.Texts.{line_made, text_begins, text_beyond, text_onto, text_plain, text_tells, text_total}

-- the four bytes of a number
first_four : (bs : List ℕ) → 4 ≤ length bs
    → slice_index_or bs 0 0 ∷ slice_index_or bs 1 0 ∷ slice_index_or bs 2 0 ∷ slice_index_or bs 3 0 ∷ [] ≡ take 4 bs
first_four (a ∷ b ∷ c ∷ d ∷ rest) all = refl
first_four few all = absurd (omega arith)

four_bytes : (bs : List ℕ) (offset : ℕ) → offset + 4 ≤ length bs
    → slice_index_or bs offset 0 ∷ slice_index_or bs (offset + 1) 0
    ∷ slice_index_or bs (offset + 2) 0 ∷ slice_index_or bs (offset + 3) 0 ∷ [] ≡ four_at offset bs
four_bytes bs offset all =
    let none : slice_index_or bs offset 0 ≡ slice_index_or (drop offset bs) 0 0 =
    ap (λ n. slice_index_or bs n 0) (sym (add-zero offset)) ∙ sym (get_or-drop offset bs 0 0) in
    rw (← get_or-drop offset bs 1 0, ← get_or-drop offset bs 2 0, ← get_or-drop offset bs 3 0, none)
    (first_four (drop offset bs) (omega (arith, length-drop offset bs)))

pub signed_four : (bs : List ℕ) (offset : ℕ) → length bs ≡ 16 → offset ≤ 12
    → cast_signed w32 (from_le_bytes w32
    (slice_index_or bs offset 0 ∷ slice_index_or bs (offset + 1) 0 ∷ slice_index_or bs (offset + 2) 0
    ∷ slice_index_or bs (offset + 3) 0 ∷ [])) ≡ signed_at offset bs
signed_four bs offset long inside =
    ap (cast_signed w32)
    (little_4 (slice_index_or bs offset 0 ∷ slice_index_or bs (offset + 1) 0 ∷ slice_index_or bs (offset + 2) 0
    ∷ slice_index_or bs (offset + 3) 0 ∷ []) refl ∙ ap (number Little) (four_bytes bs offset (omega arith)))

buffer_few : (version : ℕ) → name_room version ≤ 256
unfolding name_room
buffer_few version = on_test (λ n. n ≤ 256) _ 32 256 (λ _. omega arith) (λ _. omega arith)

-- what holds of each window
by_window : (P : Layout (Said (Unit {0}) ImageSize) → Type 0) (offset taken : ℕ) (size : Option ImageSize)
    → ((size : ImageSize) → P (done (Decided size))) → P (done (Next tt (offset + (taken + 16))))
    → P (exr_window offset taken size)
by_window P offset taken (Some size) decided reversed = decided size
by_window P offset taken None decided reversed = reversed

-- and of each value
by_value : (P : Layout (Said (Unit {0}) ImageSize) → Type 0) (offset taken : ℕ) (is_window : Bool) (size : ℕ)
    → P (bytes (offset + taken) 16 (λ bs. exr_window offset taken (window_size bs)))
    → P (done (Next tt (offset + (taken + size))))
    → P (exr_value offset taken is_window size)
by_value P offset taken is_window size window other =
    on_test P is_window (bytes (offset + taken) 16 (λ bs. exr_window offset taken (window_size bs)))
    (done (Next tt (offset + (taken + size)))) (λ _. window) (λ _. other)

-- and of each name
by_name : (P : Layout (Said (Unit {0}) ImageSize) → Type 0) (buffer offset : ℕ) (name : List ℕ)
    → P (refuse DataWindowNotFound)
    → P (line_at 0 (offset + (length name + 1)) buffer (exr_typed offset name)) → P (exr_named buffer offset name)
by_name P buffer offset name none typed =
    on_test P (eqb (length name) 0) (refuse DataWindowNotFound) (line_at 0 (offset + (length name + 1)) buffer
    (exr_typed offset name)) (λ _. none) (λ _. typed)

-- how far behind an attribute's offset its value stands
abbrev value_behind : List ℕ → List ℕ → ℕ
value_behind name type_name = length name + 1 + (length type_name + 1) + 4

-- an attribute tells an offset behind its own
attribute_tells : (buffer offset : ℕ) → Tells (λ p. offset < p) (exr_attribute buffer offset)
attribute_tells buffer offset = text_tells (line_made 0 buffer) offset (exr_named buffer offset) (λ p. offset < p)
    (λ name _. by_name (Tells (λ p. offset < p)) buffer offset name tt
    (text_tells (line_made 0 buffer) (offset + (length name + 1)) (exr_typed offset name) (λ p. offset < p)
    (λ type_name _ size. by_value (Tells (λ p. offset < p)) offset (value_behind name type_name)
    (is_data_window name && is_box type_name) size
    (λ bs. by_window (Tells (λ p. offset < p)) offset (value_behind name type_name) (window_size bs) (λ size. tt)
    (omega arith))
    (omega arith))))

attribute_begins : (buffer offset : ℕ) → Begins offset (exr_attribute buffer offset)
attribute_begins buffer offset = text_begins (line_made 0 buffer) offset (exr_named buffer offset) offset (omega arith)

attribute_advances : (buffer : ℕ) (d : List ℕ) → Advances (exr_attributes buffer) d
attribute_advances buffer =
    advances (exr_attributes buffer) (λ passed offset. attribute_tells buffer offset)
    (λ passed offset. attribute_begins buffer offset)

-- a value is read from 16 bytes or none
value_at_most : (offset taken : ℕ) (is_window : Bool) (size : ℕ)
    → AtMost (cond is_window 16 0) (exr_value offset taken is_window size)
value_at_most offset taken true size =
    (omega arith, λ bs. by_window (AtMost 0) offset taken (window_size bs) (λ size. tt) tt)
value_at_most offset taken false size = tt

-- the name of a data window is short
window_name : (name : List ℕ) → is_data_window name ≡ true → length name ≡ 10
unfolding is_data_window
window_name name is = grind (arith, nat_tests)

-- so a name that is read from at most 256 bytes makes up for a window
name_and_window : (name : List ℕ) (is_type : Bool) → length name + 1 ≤ 256
    → cond (is_data_window name && is_type) 16 0 + (length name + 1) ≤ 256
name_and_window name is_type few = on_test (λ n. n + (length name + 1) ≤ 256) (is_data_window name && is_type) 16 0
    (λ is. let ten = window_name name (and_parts (is_data_window name) is_type is).0 in omega arith) (λ _. omega arith)

-- an attribute is read from at most 530 bytes
attribute_cost : (d : List ℕ) (buffer offset : ℕ) → buffer ≤ 256
    → total (layout_reads d (exr_attribute buffer offset)).marks ≤ 530
attribute_cost d buffer offset few = text_total (line_made 0 buffer) offset (exr_named buffer offset) d 530 (omega arith)
    (λ name long. by_name (λ t. length name + 1 + total (layout_reads d t).marks ≤ 530) buffer offset name (omega arith)
    (let rest = text_total (line_made 0 buffer) (offset + (length name + 1)) (exr_typed offset name) d (530 - (length name + 1))
    (omega arith)
    (λ type_name short.
    let is_window : Bool = is_data_window name && is_box type_name in
    let window : ℕ = cond is_window 16 0 in
    let fits = name_and_window name (is_box type_name) (omega arith) in
    let value = at_most d (4 + window) (exr_typed offset name type_name) (
      omega arith,
      λ size. at_most_more window (4 + window - 4) (exr_value offset (value_behind name type_name) is_window size)
          (omega arith)
          (value_at_most offset (value_behind name type_name) is_window size),
    ) in
    omega arith) in
    omega arith))

attributes_cost : (d : List ℕ) (version : ℕ) → Bounded 0 530 (chain_at (exr_attributes (name_room version)) d)
attributes_cost d version =
    let each : (t : Along (Unit {0})) → Bounded 0 530 (next_record (exr_attributes (name_room version)) d t) =
    λ t. omega (arith, attribute_cost d (name_room version) t.offset (buffer_few version)) in
    chain_bounded (exr_attributes (name_room version)) d (attribute_advances (name_room version) d) 530 (λ _. 0)
    (λ t v offset is. omega (arith, each t)) each (start (exr_attributes (name_room version)))

attribute_ahead : (buffer offset : ℕ) → Ahead offset (exr_attribute buffer offset)
attribute_ahead buffer offset =
    text_onto (line_made 0 buffer) offset (exr_named buffer offset) (said_to (λ _. None)) offset (omega arith)
    (λ name. by_name (Ahead (offset + (length name + 1))) buffer offset name tt
    (text_onto (line_made 0 buffer) (offset + (length name + 1)) (exr_typed offset name) (said_to (λ _. None))
    (offset + (length name + 1)) (omega arith)
    (λ type_name. (
      omega arith,
      λ size. by_value (Ahead (offset + (length name + 1 + (length type_name + 1)) + 4)) offset
          (value_behind name type_name)
          (is_data_window name && is_box type_name) size (
            omega arith,
            λ bs. by_window (Ahead (offset + value_behind name type_name + 16)) offset (value_behind name type_name)
                (window_size bs) (λ size. tt) (omega arith),
          )
          (omega arith),
    ))))

attribute_plain : (buffer offset : ℕ) → Plain (exr_attribute buffer offset)
attribute_plain buffer offset = text_plain (line_made 0 buffer) offset (exr_named buffer offset)
    (λ name. by_name Plain buffer offset name tt
    (text_plain (line_made 0 buffer) (offset + (length name + 1)) (exr_typed offset name)
    (λ type_name size. by_value Plain offset (value_behind name type_name) (is_data_window name && is_box type_name) size
    (λ bs. by_window Plain offset (value_behind name type_name) (window_size bs) (λ size. tt) tt) tt)))

-- With its type it is read from at most 28 bytes more than the input has: version and attributes from at most 4 more.
pub exr_laws : RecordedLaws 12 16 530 true true exr
exr_laws = record {
  local = local_then (λ d. number_read d Little 4 4) (λ version d. chain_at (exr_attributes (name_room version)) d)
      (local_number Little 4 4)
      (λ version. local_chain (exr_attributes (name_room version)) (attribute_advances (name_room version))
      (λ passed offset. with_texts ((exr_attributes (name_room version)).said passed offset)));
  cost = λ d. omega (
    arith,
    bounded_then 530 4 0 (number_read d Little 4 4) (λ version. chain_at (exr_attributes (name_room version)) d)
        (omega (arith, total-span_of d 4 4)) (λ version _. attributes_cost d version),
  );
  within = λ d. omega (
    arith,
    then_within (number_read d Little 4 4) (λ version. chain_at (exr_attributes (name_room version)) d) 4 (length d)
        (total-span_of d 4 4) (λ version _. omega (
          arith,
          chain_ahead (exr_attributes (name_room version)) d
              (attribute_advances (name_room version) d) (λ passed offset. attribute_ahead (name_room version) offset),
        )),
  );
  lasts = λ _. answers_last exr (lasts_then (λ d. number_read d Little 4 4)
      (λ version d. chain_at (exr_attributes (name_room version)) d) (number_lasts Little 4 4)
      (λ version. lasts_chain (exr_attributes (name_room version)) (attribute_advances (name_room version))
      (λ passed offset. attribute_plain (name_room version) offset)));
}

-- a walk along the attributes
pub exr_tells : (long : Bool) (offset : ℕ) → Tells (λ p. offset < p) (exr_step long offset)
exr_tells long offset = tells_bind (λ p. offset < p) (exr_attribute (names_of long) offset) (after (λ _. long) decides)
    (attribute_tells (names_of long) offset) (λ size. tt) (λ v q above. above)

pub exr_begins : (long : Bool) (offset : ℕ) → Begins offset (exr_step long offset)
exr_begins long offset = begins_bind offset (exr_attribute (names_of long) offset) (after (λ _. long) decides)
    (attribute_begins (names_of long) offset) (λ size. tt) (λ size. tt)

pub exr_follows : CanFollow exr_step
exr_follows = states_follow exr_step exr_tells exr_begins

some_names : (long : Bool) → 0 < names_of long
some_names true = omega arith
some_names false = omega arith

-- from the end of the input on there is no attribute
pub exr_ends : (long : Bool) → EndsBy exr_step long (Err Ended)
exr_ends long d offset far = ends_after d (exr_attribute (names_of long) offset) (λ _. long) (Err Ended)
    (ap uncounted (text_beyond (line_made 0 (names_of long)) offset (exr_named (names_of long) offset) d far (some_names long)))

names_as : (version : ℕ) → names_of (ltb 32 (name_room version)) ≡ name_room version
unfolding name_room
names_as version = on_test (λ n. names_of (ltb 32 n) ≡ n) (eqb (bit_and version 0x400) 0) 32 256 (λ _. refl) (λ _. refl)

-- the size is that of this walk
pub exr_is : (d : List ℕ) → exr d ≡ and_then (layout_reads d exr_open) (λ s. run exr_step s.records s.offset d)
exr_is d = then_then (number_read d Little 4 4)
    (λ version. layout_reads d (done (record { records = ltb 32 (name_room version); offset = 8 })))
    (λ s. run exr_step s.records s.offset d) (λ version. chain_at (exr_attributes (name_room version)) d)
    (λ version. ap (λ names. chain_at (exr_attributes names) d) (sym (names_as version)) ∙ sym (walked (ltb 32 (name_room version))))
  where
    walked : (long : Bool) → run exr_step long 8 d ≡ chain_at (exr_attributes (names_of long)) d
    walked long = run_is exr_step d (exr_follows d) (exr_attributes (names_of long)) (λ (_ : Unit {0}). long) (λ _ _. tt)
        (λ _ _. Unit {0}) (attribute_advances (names_of long) d) (λ held x offset known. refl) (λ held x offset v q known got. tt) tt tt
