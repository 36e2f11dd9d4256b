-- Where a call leaves its reader.
use Rattle.std.proofs.Common.{◌≡◌, ℕ, ◌≤◌, false, List, length, Option, Some, None, Result, Ok, IfSome, sym, ap, ◌∙◌, subst, arith}
use Rattle.std.proofs.lemmas.Bool.Decides.{nat_tests}
use Rattle.std.specs.Prelude.{IsSomeAnd}
use Rattle.std.specs.declared.io.Error.{Error}
use Rattle.std.specs.declared.io.traits.SeekFrom.TheVariants.{Start}
use Rattle.imagesize_io.proofs.Openings.{IsBounded, claim, over_state, opened_placed}
use Rattle.imagesize_io.proofs.Standings.{StandsAt}
use Rattle.imagesize_io.proofs.Windows.{claims}
use Rattle.imagesize_io.specs.Answers.{LeavesAt, PlacedAt, left_by}
use Rattle.imagesize_io.specs.ReaderState.{Opens, held_at, start_state}
use Rattle.imagesize_io.specs.Standing.{Standing, stand}
use Rattle.imagesize_io.specs.Telling.{SeekTells, Telling, at_offset}
use Rattle.imagesize_io.specs.declared.progress.Progress.{Progress}
use Rattle.imagesize_io.specs.declared.reader.Opened.{Opened}
use Rattle.imagesize_source.specs.Outcome.{outcome_of}
use Rattle.imagesize_source.specs.Reading.{Reads}
use Rattle.imagesize_source.specs.State.{Runs, State}
use Rattle.imagesize_source.specs.declared.halt.Halt.{Halt}

-- the reads end within each input
abbrev pub EndsWithin : {X : Type 0} → (List ℕ → ℕ → Reads X) → Type 0
EndsWithin reads_of = (t : Telling) → left_by t (reads_of t.bytes t.offset).marks ≤ length t.bytes

-- a reader that is moved to an offset of its bytes, if a seek cannot fail
pub sought : (u : Telling) (new : Option Telling) (position : ℕ) (r : Result ℕ Error) → SeekTells (Some u) new (Start position) r
    → u.can_fail ≡ false → position ≤ length u.bytes → new ≡ Some (at_offset u position)
sought u new position r seeks never near = grind (arith, nat_tests)

-- a reader that is moved to the place of its source, if it is elsewhere
settled_at : (now new : Option Telling) (p : Progress) (s : Standing) (left : Option ℕ) → StandsAt now p s → s.can_fail ≡ false
    → p.position ≤ p.told
    → (left ≡ None → new ≡ now) → IfSome left (λ position. (r : Result ℕ Error) × SeekTells now new (Start position) r)
    → IfSome left (λ position. position ≡ p.position)
    → (left ≡ None → p.fault ≡ None → p.position ≤ p.told → p.position ≡ p.offset)
    → IsSomeAnd new (λ u. u.offset ≡ p.position)
settled_at now new p s left at never near stays seeks there here = grind (arith, sought)

-- so a call that ran behind an opening leaves it where its reads do
pub leaves_at : {X : Type 0} (telling mid now new : Option Telling) (count : Option ℕ) (home : ℕ) (opened : Opened)
    (p : Progress) (window : List ℕ) (left : Option ℕ) (s b : State) (r : Result X Halt) (reads_of : List ℕ → ℕ → Reads X)
    → IsBounded reads_of → EndsWithin reads_of → s ≡ start_state mid count home opened.told → Opens telling mid (Ok opened)
    → Runs s b r (over_state s reads_of opened.offset)
    → b.held ≡ held_at (stand now p) window → b.place ≡ p.position → b.frame.told ≡ p.told
    → (left ≡ None → new ≡ now)
    → IfSome left (λ position. (r : Result ℕ Error) × SeekTells now new (Start position) r)
    → IfSome left (λ position. position ≡ p.position)
    → (left ≡ None → p.fault ≡ None → p.position ≤ p.told → p.position ≡ p.offset)
    → LeavesAt telling new (λ d offset. outcome_of (reads_of d offset))
leaves_at None mid now new count home opened p window left s b r reads_of bounded ends start opens run held placed told
    stays seeks there at = tt
leaves_at (Some t) mid now new count home opened p window left s b r reads_of bounded ends start opens run held placed told
    stays seeks there at = λ honest never.
    let done = opened_placed t mid count home opened b r reads_of opens
    (subst (λ s. Runs s b r (over_state s reads_of opened.offset)) start run) honest bounded never in
    let claims_is : held_at (stand now p) window ≡ claim t = sym held ∙ done.held in
    let k = claims now p window (ap (λ h. h.honest) claims_is) in
    let steady : k.0.can_fail ≡ false = sym (ap (λ h. h.can_fail) k.1.held) ∙ ap (λ h. h.can_fail) claims_is ∙ never in
    let at_place : p.position ≡ left_by t (reads_of t.bytes t.offset).marks = sym placed ∙ done.place in
    let near : p.position ≤ p.told = omega (arith, at_place, done.told, told, ends t) in
    subst (λ o. IsSomeAnd new (λ u. u.offset ≡ o)) at_place
    (settled_at now new p k.0 left k.1.at steady near stays seeks there at)

-- and one over bytes in memory has that place
pub opened_at : {X : Type 0} (telling mid : Option Telling) (count : Option ℕ) (home : ℕ) (opened : Opened) (s b : State)
    (r : Result X Halt) (reads_of : List ℕ → ℕ → Reads X) (place : ℕ)
    → IsBounded reads_of → s ≡ start_state mid count home opened.told → Opens telling mid (Ok opened)
    → Runs s b r (over_state s reads_of opened.offset) → place ≡ b.place
    → PlacedAt telling (λ d offset. outcome_of (reads_of d offset)) place
opened_at None mid count home opened s b r reads_of place bounded start opens run is = tt
opened_at (Some t) mid count home opened s b r reads_of place bounded start opens run is = λ honest never.
    is ∙ (opened_placed t mid count home opened b r reads_of opens
    (subst (λ s. Runs s b r (over_state s reads_of opened.offset)) start run) honest bounded never).place
