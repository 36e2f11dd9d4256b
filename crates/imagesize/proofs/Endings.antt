-- How calls end: over a reader they want no memory, and spend a budget whole; over a slice nothing stops them.
use Rattle.std.proofs.Common.{List, is_some, ◌≡◌, ℕ, ◌+◌, ◌-◌, ◌^◌, ◌≤◌, min, true, false, Option, Some, None, Result, Ok, Err, IfErr, IfSome, refl, arith}
use Rattle.std.specs.Prelude.{option_map}
use Rattle.std.specs.declared.io.traits.SeekFrom.TheVariants.{Start}
use Rattle.imagesize.specs.Probed.{SpentAll}
use Rattle.std.specs.declared.io.Error.{Error}
use Rattle.imagesize_io.proofs.Openings.{opened_leaves, opened_takes, stop_cases, told_last}
use Rattle.imagesize_io.specs.Answers.{CountsWithin, IsLast, Leaves, RisesWithin}
use Rattle.imagesize_io.specs.ReaderState.{Opens, start_state}
use Rattle.imagesize_io.specs.StopOf.{kept_error, last_failed}
use Rattle.imagesize_io.specs.Telling.{SeekTells, Telling}
use Rattle.imagesize_io.specs.declared.reader.Opened.{Opened}
use Rattle.imagesize_source.specs.Errors.{is_fault, is_memory, is_stopped as is_stopped_error, budget_spent}
use Rattle.imagesize_source.specs.Halts.{with_error}
use Rattle.imagesize_source.specs.Outcome.{outcome_of}
use Rattle.imagesize_source.specs.Reading.{Reads, is_faulted, is_stopped}
use Rattle.imagesize_source.specs.declared.halt.Halt.{Halt}
use Rattle.imagesize_source.proofs.Halts.{error_fault, error_spent, stated_goes_on, stated_same}
use Rattle.imagesize_io.specs.Standing.{behind_of, drift}
use Rattle.imagesize_source.specs.State.{State, Runs, since_of, model_of}
use Rattle.imagesize_source.specs.declared.error.ImageError.{ImageError}
use Rattle.std.proofs.lemmas.Bool.{false_from_ne_true}

-- the error that a source keeps is a fault, or none of the stops
pub record Plain (b : State) : Type 0 where
  pub spent : budget_spent b.failure ≡ None

-- so no call over a reader is refused memory
pub no_memory : {X : Type 0} (fault : Option Error) (budget : ℕ) (r : Result X Halt)
    → IfErr (with_error (kept_error fault) budget r) (λ e. is_memory e ≡ false)
no_memory fault budget r = grind arith

-- a source that counts nothing stops a call by a fault alone
pub only_fault : {X : Type 0} {a b : State} (r : Result X Halt) (reads : Reads X) → a.frame.counts ≡ false → Runs a b r reads
    → is_faulted r ≡ false → is_stopped r ≡ false
only_fault (Ok x) reads uncounted h no_fault = refl
only_fault {b = b} (Err halt) reads uncounted h no_fault = grind (arith, false_from_ne_true, stop_cases)

-- over a slice nothing stops a call
pub never_stopped : {X : Type 0} {a b : State} (r : Result X Halt) (reads : Reads X) → a.held.honest ≡ true → a.held.can_fail ≡ false
    → a.frame.counts ≡ false → Runs a b r reads → is_stopped r ≡ false
never_stopped r reads honest sure uncounted h = grind (arith, only_fault, false_from_ne_true)

-- what is answered over a slice is what its readings state, and none of the stops
pub slice_answer : {X : Type 0} {a b : State} (failure : ImageError) (budget : ℕ) (r : Result X Halt) (reads : Reads X)
    → a.held.honest ≡ true → is_stopped r ≡ false → Runs a b r reads
    → with_error failure budget r ≡ (outcome_of reads).answer
slice_answer failure budget r reads honest goes_on h = grind (arith, stated_same)

pub slice_unstopped : {X : Type 0} (failure : ImageError) (budget : ℕ) (r : Result X Halt) → is_stopped r ≡ false
    → is_stopped_error (with_error failure budget r) ≡ false
slice_unstopped failure budget r goes_on = grind (arith, stated_same, stated_goes_on)

-- what proves the result of a call over a slice
pub ruleset over_slice = (never_stopped, slice_answer, slice_unstopped, stated_same)

-- a budget that was spent is what was taken, and at least 64
pub budget_taken : {X : Type 0} {a b : State} (told n : ℕ) (r : Result X Halt) (reads : Reads X)
    → a.frame.budget ≡ min (told + 64)
    (2 ^ 64 - 1) → Plain b → Runs a b r reads → n ≡ b.taken
    → IfErr (with_error b.failure b.frame.budget r) (λ e. IfSome (budget_spent e) (λ k. (k ≡ n) × (64 ≤ k)))
budget_taken told n (Ok x) reads start plain h took = tt
budget_taken {b = b} told n (Err halt) reads start plain h took = grind (arith, error_spent)

rose : (before after : Option ℕ) (taken : ℕ) → drift after taken ≡ drift before 0
    → after ≡ option_map (λ c. c + taken) before
rose before after taken same = grind arith

-- a named count rose by all of it
pub budget_counted : {X : Type 0} {a b : State} (told : ℕ) (before after : Option ℕ) (r : Result X Halt) (reads : Reads X)
    → a.frame.budget ≡ min (told + 64) (2 ^ 64 - 1) → since_of a.frame.backing ≡ drift before 0 → Plain b → Runs a b r reads
    → since_of b.frame.backing ≡ drift after b.taken
    → IfErr (with_error b.failure b.frame.budget r) (λ e. IfSome (budget_spent e) (SpentAll before after))
budget_counted told before after (Ok x) reads start counts plain h counted = tt
budget_counted {b = b} told before after (Err halt) reads start counts plain h counted = grind (arith, rose, budget_taken)

-- and rose by at most what the spans count
rises : (before after : Option ℕ) (taken k : ℕ) → drift after taken ≡ drift before 0 → taken ≤ k → RisesWithin before after k
rises before after taken k since most = grind (arith, rose)

pub counts_opened : {X : Type 0} (reads_of : List ℕ → ℕ → Reads X) (telling mid : Option Telling) (before after : Option ℕ)
    (home : ℕ) (opened : Opened) (a b : State) (r : Result X Halt) → a ≡ start_state mid before home opened.told
    → is_some b.failed ≡ true → Opens telling mid (Ok opened) → Runs a b r (reads_of a.held.input opened.offset)
    → since_of b.frame.backing ≡ drift after b.taken
    → CountsWithin telling before after (λ d offset. outcome_of (reads_of d offset))
counts_opened reads_of telling mid before after home opened a b r start told opens h counted = grind (arith, opened_takes, rises)

-- a failure that ends a call over a reader is the reader's last one
pub fault_last : {X : Type 0} {a b : State} (failure : Option (Option Error)) (fault : Option Error) (r : Result X Halt)
    (reads : Reads X)
    → b.failed ≡ Some (last_failed fault failure) → Runs a b r reads
    → IfErr (with_error b.failure b.frame.budget r) (λ e. is_fault e ≡ true → IsLast failure e)
fault_last failure fault (Ok x) reads is h = tt
fault_last {b = b} failure fault (Err halt) reads is h = grind (arith, error_fault, told_last)

-- the error that a reader keeps is a fault
pub kept_plain : (fault : Option Error) (b : State) → b.failure ≡ kept_error fault → Plain b
kept_plain fault b is = grind arith

-- and the reader is left as it was, but for its offset and the interruptions that came
pub leaves_reader : {X : Type 0} {a b : State} (telling mid new : Option Telling) (count : Option ℕ) (home : ℕ) (opened : Opened)
    (told retries : ℕ) (fault : Option Error) (r : Result X Halt) (reads : Reads X) → a ≡ start_state mid count home opened.told
    → model_of b.frame.backing ≡ behind_of told retries fault new → Runs a b r reads → Opens telling mid (Ok opened) → Leaves telling new
leaves_reader telling mid new count home opened told retries fault r reads start is h opens = grind (arith, opened_leaves)

-- a reader that is then moved to an offset within its reported length
pub settled : (telling first mid new : Option Telling) (opened : Opened) (left : Option ℕ) → Opens telling first (Ok opened)
    → (left ≡ None → new ≡ mid) → Leaves telling mid
    → IfSome left (λ position. (r : Result ℕ Error) × SeekTells mid new (Start position) r)
    → IfSome left (λ position. position ≤ opened.told) → Leaves telling new
settled telling first mid new opened left opens stays leaves seeks within = grind arith

-- no fault was kept where it is moved
pub fault_settled : {X : Type 0} (failure failure' : Option (Option Error)) (fault : Option Error)
    (left : Option ℕ) (failing : ImageError) (budget : ℕ) (r : Result X Halt) → (left ≡ None → failure' ≡ failure)
    → IfErr (with_error failing budget r) (λ e. is_fault e ≡ true → IsLast failure e)
    → IfSome left (λ _. fault ≡ None) → failing ≡ kept_error fault
    → IfErr (with_error failing budget r) (λ e. is_fault e ≡ true → IsLast failure' e)
fault_settled failure failure' fault left failing budget r stays last calm kept = grind arith
