-- From the state of a source to what a call answers to its reader.
use Rattle.std.proofs.Common.{◌≡◌, ℕ, ◌+◌, ◌<◌, ◌⊎◌, inl, inr, true, false, List, length, Option, Some, None, is_some, Result, Ok, IfErr, refl, ap, subst, arith}
use Rattle.std.proofs.lemmas.Bool.Decides.{nat_tests}
use Rattle.imagesize_source.specs.declared.error.ImageError.{ImageError}
use Rattle.imagesize_source.specs.declared.halt.Halt.{Halt}
use Rattle.imagesize_source.specs.declared.halt.Halt.TheVariants.{Failed, Spent}
use Rattle.imagesize_source.specs.Errors.{is_stopped as is_stopped_error}
use Rattle.imagesize_source.specs.Halts.{with_error}
use Rattle.imagesize_source.specs.Outcome.{outcome_of}
use Rattle.imagesize_source.proofs.Halts.{stated_same}
use Rattle.imagesize_io.specs.declared.reader.Opened.{Opened}
use Rattle.std.specs.declared.io.Error.{Error}
use Rattle.imagesize_io.specs.Answers.{AnswersAs, TakesAs, Answers, IsLast, Leaves, Takes, left_by}
use Rattle.imagesize_io.specs.Standing.{behind_of}
use Rattle.imagesize_io.specs.StopOf.{last_failed}
use Rattle.imagesize_source.specs.Reading.{Reads, is_failure, is_stop, is_stopped, is_spent}
use Rattle.imagesize_io.specs.ReaderState.{start_state, Opens}
use Rattle.imagesize_source.specs.State.{EndedBy, State, Held, Runs, total}
use Rattle.imagesize_io.specs.Telling.{Telling, IsHonest, at_offset}
use Rattle.imagesize_source.proofs.Counts.{offsets_past, place_past}
use Rattle.imagesize_source.proofs.Runs.{past-held}
use Rattle.imagesize_source.specs.declared.span.Span.{Span}

-- what is claimed of an honest reader as a call begins
abbrev pub claim : Telling → Held
claim t = record { honest = true; input = t.bytes; can_fail = t.can_fail }

pub start_holds : (t : Telling) (count : Option ℕ) (home : ℕ) → IsHonest t
    → (start_state (Some (at_offset t (length t.bytes))) count home (length t.bytes)).held ≡ claim t
start_holds t count home honest = grind (arith, nat_tests)

-- a stop is a failure or a spent budget
pub stop_cases : (h : Halt) → is_stop h ≡ true → (is_failure h ≡ true) ⊎ (is_spent h ≡ true)
stop_cases Failed stops = inl refl
stop_cases Spent stops = inr refl
stop_cases _ stops = absurd cc

-- what is known of a state that a call began with, over an honest reader
record Starts (t : Telling) (a : State) : Type 0 where
  held : a.held ≡ claim t
  told : a.frame.told ≡ length t.bytes
  budget : a.frame.budget ≡ length t.bytes + 64
  counts : a.frame.counts ≡ true
  front : a.front ≡ 0
  taken : a.taken ≡ 0
  place : a.place ≡ length t.bytes

-- what is known of a source after a call, over an honest reader that cannot fail
pub record Placed (t : Telling) (b : State) (spans : List Span) : Type 0 where
  pub told : b.frame.told ≡ length t.bytes
  pub held : b.held ≡ claim t
  pub place : b.place ≡ left_by t spans

-- where no stop is answered, none came
pub error_goes_on : {X : Type 0} (b : State) (r : Result X Halt) → is_some b.failed ≡ true → IfErr r (EndedBy b)
    → is_stopped_error (with_error b.failure b.frame.budget r) ≡ false → is_stopped r ≡ false
error_goes_on b r told ended goes_on = grind arith

module _ {X : Type 0} {t : Telling} {a b : State} {reads : Reads X} (starts : Starts t a) {r : Result X Halt} (h : Runs a b r reads) where
  answers_of : is_some b.failed ≡ true → total reads.marks < length t.bytes + 64
      → AnswersAs t (outcome_of reads) (with_error b.failure b.frame.budget r)
  answers_of told small =
      let on = error_goes_on b r told h.ended in
      let same = stated_same b.failure b.frame.budget r in
      grind arith

  takes_of : is_some b.failed ≡ true → TakesAs t (outcome_of reads) (with_error b.failure b.frame.budget r) b.taken
  takes_of told = grind (arith, error_goes_on, offsets_past)

  placed_of : total reads.marks < length t.bytes + 64 → t.can_fail ≡ false → Placed t b reads.marks
  placed_of small never = grind (arith, past-held, place_past)

-- a call reads fewer bytes than an honest budget has
abbrev pub IsBounded : {X : Type 0} → (List ℕ → ℕ → Reads X) → Type 0
IsBounded reads_of = (d : List ℕ) (offset : ℕ) → total (reads_of d offset).marks < length d + 64

-- what readings say of the input that a source claims
abbrev pub over_state : {X : Type 0} → State → (List ℕ → ℕ → Reads X) → ℕ → Reads X
over_state a reads_of offset = reads_of a.held.input offset

-- the states before and after a call that ran behind an opening
pub record Began (t : Telling) (mid : Option Telling) (told offset : ℕ) : Type 0 where
  pub at_end : mid ≡ Some (at_offset t (length t.bytes))
  pub length_told : told ≡ length t.bytes
  pub at : offset ≡ t.offset

pub start_of : (t : Telling) (mid : Option Telling) (count : Option ℕ) (home told offset : ℕ) → Began t mid told offset
    → start_state mid count home told ≡ start_state (Some (at_offset t (length t.bytes))) count home (length t.bytes)
start_of t mid count home told offset h = λ i. start_state (h.at_end i) count home (h.length_told i)

module _ {X : Type 0} (t : Telling) (mid : Option Telling) (count : Option ℕ) (home : ℕ) (opened : Opened) (b : State)
    (r : Result X Halt) (reads_of : List ℕ → ℕ → Reads X) (opens : Opens (Some t) mid (Ok opened))
    (h : Runs (start_state mid count home opened.told) b r (over_state (start_state mid count home opened.told) reads_of opened.offset))
    (honest : IsHonest t) where
  begun : Starts t (start_state mid count home opened.told)
  begun = grind (arith, nat_tests)

  begun_runs : Runs (start_state mid count home opened.told) b r (reads_of t.bytes t.offset)
  begun_runs = subst (Runs (start_state mid count home opened.told) b r) (λ i. reads_of (ap (λ k. k.input) begun.held i) (opens.1 i)) h

  -- where a call that ran behind an opening left its source
  pub opened_placed : IsBounded reads_of → t.can_fail ≡ false → Placed t b (reads_of t.bytes t.offset).marks
  opened_placed bounded = placed_of begun begun_runs (bounded t.bytes t.offset)

-- what a call that ran behind an opening answers
pub opened_answers : {X : Type 0} (telling mid : Option Telling) (count : Option ℕ) (home : ℕ) (opened : Opened)
    (b : State)
    (r : Result X Halt) (reads_of : List ℕ → ℕ → Reads X) → IsBounded reads_of → is_some b.failed ≡ true
    → Opens telling mid (Ok opened)
    → Runs (start_state mid count home opened.told) b r
    (over_state (start_state mid count home opened.told) reads_of opened.offset)
    → Answers telling (λ d offset. outcome_of (reads_of d offset)) (with_error b.failure b.frame.budget r)
opened_answers None mid count home opened b r reads_of bounded told opens h = tt
opened_answers (Some t) mid count home opened b r reads_of bounded told opens h = λ honest.
    answers_of (begun t mid count home opened b r reads_of opens h honest) (begun_runs t mid count home opened b r reads_of opens h honest)
    told (bounded t.bytes t.offset)

-- and what it took
pub opened_takes : {X : Type 0} (telling mid : Option Telling) (count : Option ℕ) (home : ℕ) (opened : Opened)
    (b : State)
    (r : Result X Halt) (reads_of : List ℕ → ℕ → Reads X) → is_some b.failed ≡ true → Opens telling mid (Ok opened)
    → Runs (start_state mid count home opened.told) b r
    (over_state (start_state mid count home opened.told) reads_of opened.offset)
    → Takes telling (λ d offset. outcome_of (reads_of d offset)) (with_error b.failure b.frame.budget r) b.taken
opened_takes None mid count home opened b r reads_of told opens h = tt
opened_takes (Some t) mid count home opened b r reads_of told opens h = λ honest.
    takes_of (begun t mid count home opened b r reads_of opens h honest) (begun_runs t mid count home opened b r reads_of opens h honest)
    told

-- what never changes of a reader says how a call leaves it
pub opened_leaves : (telling mid new : Option Telling) (opened : Opened) (told retries : ℕ) (fault : Option Error)
    → Opens telling mid (Ok opened) → behind_of told retries fault new ≡ behind_of opened.told 0 None mid
    → Leaves telling new
opened_leaves telling mid new opened told retries fault opens same = grind (arith, nat_tests)

-- the failure that a source tells is the reader's last one
pub told_last : (failure : Option (Option Error)) (fault : Option Error) (e : ImageError)
    → last_failed fault failure ≡ Some e
    → IsLast failure e
told_last failure fault e is = grind arith
