-- What a call over a reader returns, by the reads that it makes, and how many bytes it reads.
use Rattle.std.specs.Prelude.{◌≡◌, ℕ, ◌+◌, ◌≤◌, true, false, List, length, Result, Option, None, Some, IsSomeAnd}
use Rattle.imagesize_source.specs.declared.error.ImageError.{ImageError}
use Rattle.imagesize_source.specs.Counts.{offsets}
use Rattle.imagesize_source.specs.Errors.{is_stopped, is_faulted}
use Rattle.imagesize_source.specs.Outcome.{Outcome}
use Rattle.imagesize_source.specs.State.{total, place_by}
use Rattle.imagesize_source.specs.declared.span.Span.{Span}
use Rattle.std.specs.declared.io.Error.{Error}
use Rattle.imagesize_io.specs.StopOf.{fault_of}
use Rattle.imagesize_io.specs.Telling.{Telling, IsHonest}

-- The result is that of the reads, or a failure of a reader that can fail.
pub record AnswersAs {X : Type 0} (t : Telling) (reads : Outcome X) (r : Result X ImageError) : Type 0 where
  pub answer : is_stopped r ≡ false → reads.answer ≡ r
  pub fault : is_stopped r ≡ true → (is_faulted r ≡ true) × (t.can_fail ≡ true)

-- The bytes read are at most the total length of the spans. If nothing stopped the call, they are at least the
-- offsets that the spans cover.
pub record TakesAs {X : Type 0} (t : Telling) (reads : Outcome X) (r : Result X ImageError) (taken : ℕ) : Type 0 where
  pub most : taken ≤ total reads.marks
  pub least : is_stopped r ≡ false → offsets (length t.bytes) reads.marks ≤ taken

-- what reads from an offset on say about the bytes of a reader, at its own offset
abbrev pub over_reader : {X : Type 0} → Telling → (List ℕ → ℕ → Outcome X) → Outcome X
over_reader t reads = reads t.bytes t.offset

-- over an honest reader, the result is that of the reads, or a failure
abbrev pub Answers : {X : Type 0} → Option Telling → (List ℕ → ℕ → Outcome X) → Result X ImageError → Type 0
Answers None reads r = Unit {0}
Answers (Some t) reads r = IsHonest t → AnswersAs t (over_reader t reads) r

-- over an honest reader, the number of bytes read is within the bounds of the reads
abbrev pub Takes : {X : Type 0} → Option Telling → (List ℕ → ℕ → Outcome X) → Result X ImageError → ℕ → Type 0
Takes None reads r taken = Unit {0}
Takes (Some t) reads r taken = IsHonest t → TakesAs t (over_reader t reads) r taken

-- the reader's count increased by at most k
abbrev pub RisesWithin : Option ℕ → Option ℕ → ℕ → Type 0
RisesWithin None after k = after ≡ None
RisesWithin (Some before) after k = IsSomeAnd after (λ count. (before ≤ count) × (count ≤ before + k))

-- over an honest reader that counts, its count increased by at most the total length of the spans
abbrev pub CountsWithin : {X : Type 0} → Option Telling → Option ℕ → Option ℕ → (List ℕ → ℕ → Outcome X) → Type 0
CountsWithin None before after reads = Unit {0}
CountsWithin (Some t) before after reads = IsHonest t → RisesWithin before after (total (over_reader t reads).marks)

-- a failure carries the error of the last call that failed, if the reader's model has it
abbrev pub IsLast : Option (Option Error) → ImageError → Type 0
IsLast None e = Unit {0}
IsLast (Some last) e = IsSomeAnd last (λ failed. e ≡ fault_of failed)

-- A reader after a call: it has the same bytes, and may fail if it might before. If it is honest and cannot fail, no
-- more interruptions are left than before.
pub record LeftAs (t u : Telling) : Type 0 where
  pub bytes : u.bytes ≡ t.bytes
  pub can_fail : u.can_fail ≡ t.can_fail
  pub interruptions : IsHonest t → t.can_fail ≡ false → u.interruptions ≤ t.interruptions

-- a reader after a call, if it has a model
abbrev pub Leaves : Option Telling → Option Telling → Type 0
Leaves None new = new ≡ None
Leaves (Some t) new = IsSomeAnd new (LeftAs t)

-- The offset at which reads of these spans leave a reader: where the last read ended that gave a byte past the first
-- ones that were kept. If no read gave one, the reader is left at the end of its bytes.
abbrev pub left_by : Telling → List Span → ℕ
left_by t spans = place_by 0 (length t.bytes) spans

-- the reads leave an honest reader that cannot fail at this offset
abbrev pub PlacedAt : {X : Type 0} → Option Telling → (List ℕ → ℕ → Outcome X) → ℕ → Type 0
PlacedAt None reads offset = Unit {0}
PlacedAt (Some t) reads offset = IsHonest t → t.can_fail ≡ false → offset ≡ left_by t (over_reader t reads).marks

-- a reader after a call: where the reads leave it, if it is honest and cannot fail
abbrev pub LeavesAt : {X : Type 0} → Option Telling → Option Telling → (List ℕ → ℕ → Outcome X) → Type 0
LeavesAt None new reads = Unit {0}
LeavesAt (Some t) new reads =
    IsHonest t → t.can_fail ≡ false → IsSomeAnd new (λ u. u.offset ≡ left_by t (over_reader t reads).marks)
