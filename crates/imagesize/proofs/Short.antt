-- What is too short for a type ends there.
use Rattle.std.proofs.Common.{◌≡◌, ℕ, ◌+◌, ◌<◌, List, length, Option, Result, Err, ap, arith}
use Rattle.std.proofs.lemmas.Bool.Decides.{nat_tests}
use Rattle.imagesize.specs.Meaning.{kind_of, kind_reads, meaning, meaning_reads}
use Rattle.imagesize.specs.Short.{Ends}
use Rattle.imagesize_io.specs.Answers.{Answers}
use Rattle.imagesize_io.specs.Telling.{Telling}
use Rattle.imagesize_source.specs.Errors.{end_of_input}
use Rattle.imagesize_source.specs.Outcome.{Outcome, stated}
use Rattle.imagesize_source.specs.Reading.{bytes_at}
use Rattle.imagesize_source.specs.declared.halt.Halt.TheVariants.{Ended}
use Rattle.imagesize_source.specs.declared.error.ImageError.{ImageError}

no_head : (d : List ℕ) (offset : ℕ) → length d < offset + 12 → bytes_at d offset 12 ≡ Err Ended
unfolding bytes_at
no_head d offset few = grind (arith, nat_tests)

no_kind_reads : (d : List ℕ) (offset : ℕ) → length d < offset + 12 → (kind_reads d offset).answer ≡ Err Ended
no_kind_reads d offset few = grind (arith, no_head)

pub no_kind : (d : List ℕ) (offset : ℕ) → length d < offset + 12 → (kind_of d offset).answer ≡ Err end_of_input
no_kind d offset few = ap stated (no_kind_reads d offset few)

pub no_meaning : (d : List ℕ) (offset : ℕ) → length d < offset + 12 → (meaning d offset).answer ≡ Err end_of_input
unfolding meaning_reads
no_meaning d offset few = grind (arith, no_kind_reads)

-- so does an answer of a reader
pub answers_end : {X : Type 0} (telling : Option Telling) (reads_of : List ℕ → ℕ → Outcome X) (r : Result X ImageError)
    → ((d : List ℕ) (offset : ℕ) → length d < offset + 12 → (reads_of d offset).answer ≡ Err end_of_input)
    → Answers telling reads_of r
    → Ends telling r
answers_end telling reads_of r short answers = grind arith
