-- The size by a type that was found.
use Rattle.std.proofs.lemmas.Bool.Decides.{nat_tests}
use Rattle.std.proofs.Common.{List, ◌≡◌, ℕ, ◌≤◌, Option, Some, None, Result, Ok, Err, IfSome, is_some, true, false, sym, ap, ◌∙◌, subst, arith}
use Rattle.std.specs.Result.{result_ok}
use Rattle.imagesize.proofs.Counts.{cost_most, cost_stated, cost_within, size_within}
use Rattle.imagesize.proofs.Detection.{kind_within}
use Rattle.imagesize.proofs.Short.{no_meaning}
use Rattle.imagesize.specs.Counts.{cost}
use Rattle.imagesize.specs.Meaning.{kind_reads, meaning, meaning_reads, size_reads}
use Rattle.imagesize.specs.Probed.{FindsKind, Probes}
use Rattle.imagesize.specs.declared.calls.Probed.{Probed}
use Rattle.imagesize_types.specs.declared.size.ImageSize.{ImageSize}
use Rattle.imagesize.specs.declared.types.ImageType.{ImageType}
use Rattle.imagesize_io.proofs.Openings.{IsBounded, Began, claim, start_of, start_holds, error_goes_on, opened_answers, opened_takes}
use Rattle.imagesize_source.proofs.Runs.{runs_then, runs_refused}
use Rattle.imagesize_io.specs.Answers.{Answers, AnswersAs, TakesAs}
use Rattle.imagesize_source.specs.Errors.{is_stopped as is_stopped_error}
use Rattle.imagesize_source.specs.Halts.{with_error}
use Rattle.imagesize_source.specs.Outcome.{outcome_of, stated}
use Rattle.imagesize_source.specs.Reading.{Reads, is_stopped}
use Rattle.imagesize_io.specs.ReaderState.{Opens, start_state}
use Rattle.imagesize_source.specs.State.{State, Runs}
use Rattle.imagesize_io.specs.Telling.{Telling, IsHonest}
use Rattle.imagesize_source.specs.declared.halt.Halt.{Halt}
use Rattle.imagesize_io.specs.declared.reader.Opened.{Opened}

-- a type that was found, and the size by it
pub found_then : {a m b : State} (type : ImageType) (r : Result ImageSize Halt) (offset : ℕ)
    → Runs a m (Ok type) (kind_reads a.held.input offset) → Runs m b r (size_reads type m.held.input)
    → Runs a b r (meaning_reads a.held.input offset)
unfolding meaning_reads
found_then {a} {m} {b} type r offset first second =
    runs_then (kind_reads a.held.input offset) (λ found held. size_reads found held.input) first second

-- no type was found
pub none_found : {a b : State} (halt : Halt) (offset : ℕ)
    → Runs {X = ImageType} a b (Err halt) (kind_reads a.held.input offset)
    → Runs {X = ImageSize} a b (Err halt) (meaning_reads a.held.input offset)
unfolding meaning_reads
none_found {a} {b} halt offset h =
    runs_refused (kind_reads a.held.input offset) (λ found. size_reads found a.held.input) h

-- an honest budget is enough for a type and for every size
pub bounded_kind : IsBounded kind_reads
bounded_kind d offset = omega (arith, kind_within d offset)

pub bounded_meaning : IsBounded meaning_reads
bounded_meaning d offset = omega (arith, cost_within d offset)

-- the type that a reader was found to hold, and the size that it was found to have, read as a type
pub read_answers : {X : Type 0} (reads : List ℕ → ℕ → Reads X) → IsBounded reads → (telling mid : Option Telling)
    (count : Option ℕ) (home : ℕ) (opened : Opened) (a b : State) (r : Result X Halt)
    → a ≡ start_state mid count home opened.told → is_some b.failed ≡ true → Opens telling mid (Ok opened)
    → Runs a b r (reads a.held.input opened.offset)
    → Answers telling (λ d offset. outcome_of (reads d offset)) (with_error b.failure b.frame.budget r)
read_answers reads bounded telling mid count home opened a b r start told opens h = grind (arith, opened_answers)

found_kind : (t : Telling) (mid : Option Telling) (count : Option ℕ) (home told offset : ℕ) (a : State)
    (found : Option ImageType)
    (r : Result ImageSize Halt) → IsHonest t → Began t mid told offset → a ≡ start_state mid count home told
    → FindsKind a offset found r
    → (IfSome found (λ type. (kind_reads t.bytes t.offset).answer ≡ Ok type)) × (is_stopped r ≡ false
    → found ≡ result_ok (kind_reads t.bytes t.offset).answer)
found_kind t mid count home told offset a found r honest began start finds =
    grind (arith, nat_tests, claim, start_of, start_holds)

-- a type is stated as it is read
stated_kind : (found : Option ImageType) (r : Result ImageType Halt) → IfSome found (λ type. r ≡ Ok type)
    → IfSome found (λ type. stated r ≡ Ok type)
stated_kind found r is = grind arith

pub same_kind : (r : Result ImageType Halt) → result_ok r ≡ result_ok (stated r)
same_kind r = grind arith

-- type, size and count of a reader that was opened
pub probes_opened : (telling mid : Option Telling) (count : Option ℕ) (home : ℕ) (opened : Opened) (a b : State)
    (probed : Probed)
    (r : Result ImageSize Halt) → probed.answer ≡ with_error b.failure b.frame.budget r
    → a ≡ start_state mid count home opened.told
    → is_some b.failed ≡ true → Opens telling mid (Ok opened) → Runs a b r (meaning_reads a.held.input opened.offset)
    → FindsKind a opened.offset probed.kind r → probed.taken ≡ b.taken → Probes telling probed
probes_opened None mid count home opened a b probed r is start told opens h finds took = tt
probes_opened (Some t) mid count home opened a b probed r is start told opens h finds took = λ honest.
    let began : Began t mid opened.told opened.offset =
    record { at_end = opens.0; length_told = opens.2; at = opens.1 } in
    let runs = subst (λ s. Runs s b r (meaning_reads s.held.input opened.offset)) start h in
    let kinds = found_kind t mid count home opened.told opened.offset a probed.kind r honest began start finds in
    let takes = subst (λ q. TakesAs t (meaning t.bytes t.offset) q probed.taken) (sym is)
    (subst (λ n. TakesAs t (meaning t.bytes t.offset) (with_error b.failure b.frame.budget r) n) (sym took)
    (opened_takes (Some t) mid count home opened b r meaning_reads told opens runs honest)) in
    let few : probed.taken ≤ cost t.bytes t.offset = takes.most in
    let answers = subst (λ q. AnswersAs t (meaning t.bytes t.offset) q) (sym is)
    (opened_answers (Some t) mid count home opened b r meaning_reads bounded_meaning told opens runs honest) in
    record {
      answer = answers;
      takes = takes;
      right = stated_kind probed.kind (kind_reads t.bytes t.offset).answer kinds.0;
      whole = λ goes_on. kinds.1 (error_goes_on b r told h.ended (sym (ap (λ q. is_stopped_error q) is) ∙ goes_on))
          ∙ same_kind (kind_reads t.bytes t.offset).answer;
      stated = omega (arith, few, cost_stated t.bytes t.offset);
      most = omega (arith, few, cost_most t.bytes t.offset);
      within = omega (arith, few, cost_within t.bytes t.offset);
      short = λ few goes_on. sym (answers.answer goes_on) ∙ no_meaning t.bytes t.offset few;
    }

pub bounded_size : (type : ImageType) → IsBounded (λ d offset. size_reads type d)
bounded_size type d offset = omega (arith, size_within type d)
