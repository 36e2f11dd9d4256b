-- What reads return, and the spans that they saw.
use Rattle.std.specs.Prelude.{ℕ, zero, suc, ◌-◌, Bool, true, false, ◌||◌, List, [], ◌++◌, length, nat_le, if◌then◌else◌, Result, Ok, Err}
use Rattle.imagesize_source.specs.declared.halt.Halt.{Halt}
use Rattle.imagesize_source.specs.declared.halt.Halt.TheVariants.{Ended, Failed, Spent}
use Rattle.imagesize_source.specs.declared.span.Span.{Span}
use Rattle.imagesize_source.specs.declared.text.Text.{Text}
use Rattle.imagesize_source.specs.declared.endian.Endian.{Endian}
use Rattle.imagesize_source.specs.Input.{part, span_at, span_of}
use Rattle.imagesize_source.specs.Numbers.{number}
use Rattle.imagesize_source.specs.Text.{text_front}

-- A result, with the spans of the reads that it depends on, in their order. `begun` is how many records they begin.
pub record Reads (X : Type 0) : Type 0 where
  pub answer : Result X Halt
  pub marks : List Span
  pub begun : ℕ

-- a result of reads that begin no record
abbrev pub just : {X : Type 0} → Result X Halt → List Span → Reads X
just r marks = record { answer = r; marks = marks; begun = 0 }

-- a value or an error that depends on no read
abbrev pub gives : {X : Type 0} → X → Reads X
gives x = just (Ok x) []

abbrev pub refuses : {X : Type 0} → Halt → Reads X
refuses e = just (Err e) []

-- the same reads with another result
abbrev pub with_answer : {X Y : Type 0} → Result Y Halt → Reads X → Reads Y
with_answer r reads = record { answer = r; marks = reads.marks; begun = reads.begun }

-- the result and the spans, without the number of records
abbrev pub uncounted : {X : Type 0} → Reads X → Reads X
uncounted r = just r.answer r.marks

-- reads that follow these spans
abbrev pub put_behind : {X : Type 0} → List Span → Reads X → Reads X
put_behind marks r = record { answer = r.answer; marks = marks ++ r.marks; begun = r.begun }

-- the sum of two numbers; it is the second one if the first is 0
abbrev pub plus : ℕ → ℕ → ℕ
plus zero n = n
plus (suc k) n = suc (plus k n)

-- reads that follow the beginning of so many records
abbrev pub after_records : {X : Type 0} → ℕ → Reads X → Reads X
after_records n r = record { answer = r.answer; marks = r.marks; begun = plus n r.begun }

-- What follows a result, with its spans after those of the reads before. An error ends it.
abbrev pub go_on : {X Y : Type 0} → List Span → Result X Halt → (X → Reads Y) → Reads Y
go_on marks (Ok x) f = put_behind marks (f x)
go_on marks (Err e) f = just (Err e) marks

abbrev pub and_then : {X Y : Type 0} → Reads X → (X → Reads Y) → Reads Y
and_then r f = after_records r.begun (go_on r.marks r.answer f)

-- the result, with a function applied to its value
abbrev pub map_answer : {X Y : Type 0} → (X → Y) → Result X Halt → Result Y Halt
map_answer f (Ok x) = Ok (f x)
map_answer f (Err e) = Err e

-- k bytes from an offset on; an error if the input ends earlier
unfoldable pub bytes_at : List ℕ → ℕ → ℕ → Result (List ℕ) Halt
bytes_at d offset k = if nat_le k (length d - offset) then Ok (part d offset k) else Err Ended

-- the number of k bytes from an offset on; an error if the input ends earlier
unfoldable pub number_at : List ℕ → Endian → ℕ → ℕ → Result ℕ Halt
number_at d order offset k = map_answer (number order) (bytes_at d offset k)

-- the read of at most k bytes from an offset on, as many as the input has
abbrev pub part_read : List ℕ → ℕ → ℕ → Reads (List ℕ)
part_read d offset k = just (Ok (part d offset k)) (span_of d offset k)

-- the read of k bytes
abbrev pub bytes_read : List ℕ → ℕ → ℕ → Reads (List ℕ)
bytes_read d offset k = just (bytes_at d offset k) (span_of d offset k)

-- the read of a number of k bytes
abbrev pub number_read : List ℕ → Endian → ℕ → ℕ → Reads ℕ
number_read d order offset k = just (number_at d order offset k) (span_of d offset k)

-- the text from an offset on, of at most k bytes
unfoldable pub text_part : List ℕ → Text → ℕ → ℕ → List ℕ
text_part d t offset k = text_front t (part d offset k)

-- the read of a text: it sees the bytes of the text, and none after it
abbrev pub text_read : List ℕ → Text → ℕ → ℕ → Reads (List ℕ)
text_read d t offset k = just (Ok (text_part d t offset k)) (span_at offset (length (text_part d t offset k)))

-- what is read from an offset on: all of k bytes, as many of k bytes as there are, or a text of at most k bytes
pub data Reading : Type 0 where
  AllOf : ℕ → Reading
  PartOf : ℕ → Reading
  TextOf : Text → ℕ → Reading

-- what a reading returns, and the spans that it sees
abbrev pub read_answer : List ℕ → Reading → ℕ → Result (List ℕ) Halt
read_answer d (AllOf k) offset = (bytes_read d offset k).answer
read_answer d (PartOf k) offset = (part_read d offset k).answer
read_answer d (TextOf t k) offset = (text_read d t offset k).answer

abbrev pub read_marks : List ℕ → Reading → ℕ → List Span
read_marks d (AllOf k) offset = (bytes_read d offset k).marks
read_marks d (PartOf k) offset = (part_read d offset k).marks
read_marks d (TextOf t k) offset = (text_read d t offset k).marks

abbrev pub read_of : List ℕ → Reading → ℕ → Reads (List ℕ)
read_of d r offset = just (read_answer d r offset) (read_marks d r offset)

-- how many bytes it requests
abbrev pub most : Reading → ℕ
most (AllOf k) = k
most (PartOf k) = k
most (TextOf t k) = k

-- A failed call of the reader and a spent budget end a call at once, whatever a layout says.
abbrev pub is_failure : Halt → Bool
is_failure Failed = true
is_failure _ = false

abbrev pub is_spent : Halt → Bool
is_spent Spent = true
is_spent _ = false

abbrev pub is_stop : Halt → Bool
is_stop halt = is_failure halt || is_spent halt

-- whether a result ends the call at once, and whether a failed call of the reader caused it
abbrev pub is_stopped : {X : Type 0} → Result X Halt → Bool
is_stopped (Ok _) = false
is_stopped (Err halt) = is_stop halt

abbrev pub is_faulted : {X : Type 0} → Result X Halt → Bool
is_faulted (Ok _) = false
is_faulted (Err halt) = is_failure halt
