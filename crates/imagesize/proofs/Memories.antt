-- A reader that was opened, and what a call over bytes in memory answers to their reader.
use Rattle.std.proofs.Common.{arith, refl, ◌∙◌, ◌≡◌, ℕ, ◌+◌, ◌<◌, ◌^◌, List, length, true, false, Option, None, is_some, Result, Ok}
use Rattle.std.specs.Prelude.{option_map}
use Rattle.imagesize.specs.Opening.{IsOpened, before, in_memory}
use Rattle.imagesize.proofs.Meanings.{read_answers}
use Rattle.imagesize_io.proofs.Counted.{counting_starts}
use Rattle.imagesize_io.proofs.Leaving.{opened_at}
use Rattle.imagesize_io.proofs.Openings.{IsBounded}
use Rattle.imagesize_io.specs.Answers.{Answers, LeavesAt, PlacedAt}
use Rattle.imagesize_io.specs.Memory.{IsMemory, counting_state}
use Rattle.imagesize_io.specs.ReaderState.{Opens, start_state}
use Rattle.imagesize_io.specs.Telling.{Telling, at_offset}
use Rattle.imagesize_io.specs.declared.reader.Opened.{Opened}
use Rattle.imagesize_source.specs.Errors.{is_stopped}
use Rattle.imagesize_source.specs.Halts.{with_error}
use Rattle.imagesize_source.specs.Outcome.{Outcome, outcome_of}
use Rattle.imagesize_source.specs.Reading.{Reads}
use Rattle.imagesize_source.specs.State.{State, Runs}
use Rattle.imagesize_source.specs.declared.halt.Halt.{Halt}
use Rattle.imagesize_source.specs.declared.error.ImageError.{ImageError}

-- a reader that was opened is one that is not called since then
pub opened_before : (telling mid : Option Telling) (opened : Opened) → Opens telling mid (Ok opened) → before mid opened ≡ telling
opened_before telling mid opened opens = grind arith

pub opened_is : (telling mid : Option Telling) (opened : Opened) → Opens telling mid (Ok opened) → IsOpened mid opened
opened_is telling mid opened opens = grind (arith, opened_before)

-- and one in memory is known by its bytes and its offset
pub opened_memory : (telling mid : Option Telling) (opened : Opened) (d : List ℕ) → Opens telling mid (Ok opened)
    → IsMemory mid d → in_memory d opened.offset ≡ telling
opened_memory telling mid opened d opens memory = grind arith

-- what opening a reader in memory reports
abbrev pub reported : List ℕ → ℕ → Opened
reported d offset = record { offset = offset; told = length d }

pub memory_opens : (d : List ℕ) (offset : ℕ) → Opens (in_memory d offset) (in_memory d (length d)) (Ok (reported d offset))
memory_opens d offset = (refl, refl, refl)

pub memory_starts : (d : List ℕ) (offset : ℕ) → length d < 2 ^ 63
    → counting_state d 0 (length d + 64) (length d) ≡ start_state (in_memory d (length d)) None 0 (length d)
memory_starts d offset short =
    counting_starts (in_memory d offset) (in_memory d (length d)) (reported d offset) d short (memory_opens d offset) (grind arith)

-- the place and the answer of reads of such a reader
module _ {X : Type 0} (d : List ℕ) (offset : ℕ) (reads_of : List ℕ → ℕ → Reads X) (bounded : IsBounded reads_of) (short : length d < 2 ^ 63)
    (s b : State) (r : Result X Halt) (start : s ≡ counting_state d 0 (length d + 64) (length d))
    (run : Runs s b r (reads_of s.held.input offset)) where
  pub memory_placed : (place : ℕ) → place ≡ b.place → PlacedAt (in_memory d offset) (λ d offset. outcome_of (reads_of d offset)) place
  memory_placed place is = opened_at (in_memory d offset) (in_memory d (length d)) None 0 (reported d offset) s b r reads_of place bounded
      (start ∙ memory_starts d offset short) (memory_opens d offset) run is

  pub memory_reads : is_some b.failed ≡ true
      → Answers (in_memory d offset) (λ d offset. outcome_of (reads_of d offset)) (with_error b.failure b.frame.budget r)
  memory_reads told = read_answers reads_of bounded (in_memory d offset) (in_memory d (length d)) None 0 (reported d offset) s b r
      (start ∙ memory_starts d offset short) told (memory_opens d offset) run

-- the answer for the bytes is the one for the reader, at its offset
pub memory_answers : {X : Type 0} (telling mid : Option Telling) (opened : Opened) (d : List ℕ)
    (reads_of : List ℕ → ℕ → Outcome X) (r : Result X ImageError) → Opens telling mid (Ok opened) → IsMemory mid d
    → r ≡ (reads_of d opened.offset).answer → is_stopped r ≡ false → Answers telling reads_of r
memory_answers telling mid opened d reads_of r opens memory is goes_on = grind arith

-- such a reader is left where the reads leave it
pub left_at : {X : Type 0} (telling mid new : Option Telling) (opened : Opened) (d : List ℕ) (reads_of : List ℕ → ℕ → Outcome X)
    (position : ℕ) → Opens telling mid (Ok opened) → IsMemory mid d → PlacedAt (in_memory d opened.offset) reads_of position
    → new ≡ option_map (λ t. at_offset t position) mid → LeavesAt telling new reads_of
left_at telling mid new opened d reads_of position opens memory placed moved = grind (arith, opened_memory)

-- what a call makes of the opened reader
pub ruleset opening = (opened_before, opened_is, opened_memory, memory_answers)
