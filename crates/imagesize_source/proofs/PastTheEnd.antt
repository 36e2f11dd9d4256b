-- Readings beyond the end of the input.
use Rattle.std.proofs.Common.{◌≡◌, ℕ, ◌-◌, ◌^◌, ◌<◌, ◌≤◌, min, List, [], length, Option, Result, Err, refl, arith}
use Rattle.std.proofs.lemmas.Bool.{cond-false, lt-leb}
use Rattle.imagesize_source.specs.declared.endian.Endian.{Endian}
use Rattle.imagesize_source.specs.declared.halt.Halt.{Halt}
use Rattle.imagesize_source.specs.declared.halt.Halt.TheVariants.{Ended}
use Rattle.imagesize_source.specs.Layout.{Layout, bytes, layout_reads, if_there, whole}
use Rattle.imagesize_source.specs.Layout.Layout.{«done»}
use Rattle.imagesize_source.specs.Reading.{Reads, bytes_at, bytes_read, number_at, number_read, part_read, gives, refuses, uncounted}
use Rattle.imagesize_source.specs.State.{State, Runs}
use Rattle.imagesize_source.proofs.Layouts.{no_part, no_span}

-- Readings that are the same at every offset beyond the end: no input is so long that an offset beyond 64 bits is within it.
-- So an offset that is held at the greatest of 64 bits serves as well.
pub saturated_by : {X : Type 0} {a b : State} {r : Result X Halt} (f : ℕ → List ℕ → Reads X) (other : Reads X)
    (offset at : ℕ)
    → ((d : List ℕ) (p : ℕ) → length d ≤ p → uncounted (f p d) ≡ other) → Runs a b r (f at a.held.input)
    → at ≡ min offset (2 ^ 64 - 1) → Runs a b r (f offset a.held.input)
saturated_by {a} f other offset at beyond h is = grind arith

pub there_beyond : {X : Type 0} (d : List ℕ) (offset k : ℕ) (f : Option (List ℕ) → Layout X) → length d ≤ offset
    → layout_reads d (if_there offset k f) ≡ layout_reads d (f (whole k []))
there_beyond d offset k f h = rw (no_part d offset k h, no_span d offset k h) refl

bytes_at_beyond : (d : List ℕ) (offset k : ℕ) → length d ≤ offset → 0 < k → bytes_at d offset k ≡ Err Ended
unfolding bytes_at
bytes_at_beyond d offset k h some = cond-false _ _ _ (lt-leb k (length d - offset) (omega (arith, h, some)))

-- a layout that reads bytes beyond the end of the input is refused there, and has no mark of them
pub bytes_beyond : {X : Type 0} (d : List ℕ) (offset k : ℕ) (f : List ℕ → Layout X) → length d ≤ offset → 0 < k
    → layout_reads d (bytes offset k f)
    ≡ refuses Ended
bytes_beyond d offset k f h some = rw (no_span d offset k h, bytes_at_beyond d offset k h some) refl

bytes_read_beyond : (d : List ℕ) (offset k : ℕ) → length d ≤ offset → 0 < k → bytes_read d offset k ≡ refuses Ended
bytes_read_beyond d offset k h some = rw (no_span d offset k h, bytes_at_beyond d offset k h some) refl

number_beyond : (d : List ℕ) (order : Endian) (offset k : ℕ) → length d ≤ offset → 0 < k
    → number_read d order offset k ≡ refuses Ended
unfolding number_at
number_beyond d order offset k h some = rw (no_span d offset k h, bytes_at_beyond d offset k h some) refl

pub part_saturated : {a b : State} {r : Result (List ℕ) Halt} (offset at k : ℕ)
    → Runs a b r (part_read a.held.input at k) → at ≡ min offset (2 ^ 64 - 1)
    → Runs a b r (part_read a.held.input offset k)
part_saturated offset at k = grind (arith, saturated_by, no_part, no_span)

pub whole_saturated : {a b : State} {r : Result (Option (List ℕ)) Halt} (offset at k : ℕ)
    → Runs a b r (layout_reads a.held.input (if_there at k done)) → at ≡ min offset (2 ^ 64 - 1)
    → Runs a b r (layout_reads a.held.input (if_there offset k done))
whole_saturated offset at k = saturated_by (λ p d. layout_reads d (if_there p k done)) (gives (whole k [])) offset at
    (λ d p far. there_beyond d p k done far)

pub bytes_saturated : {a b : State} {r : Result (List ℕ) Halt} (offset at k : ℕ) → 0 < k
    → Runs a b r (bytes_read a.held.input at k) → at ≡ min offset (2 ^ 64 - 1)
    → Runs a b r (bytes_read a.held.input offset k)
bytes_saturated offset at k some = saturated_by (λ p d. bytes_read d p k) (refuses Ended) offset at
    (λ d p far. bytes_read_beyond d p k far some)

pub number_saturated : {a b : State} {r : Result ℕ Halt} (order : Endian) (offset at k : ℕ) → 0 < k
    → Runs a b r (number_read a.held.input order at k) → at ≡ min offset (2 ^ 64 - 1)
    → Runs a b r (number_read a.held.input order offset k)
number_saturated order offset at k some = saturated_by (λ p d. number_read d order p k) (refuses Ended) offset at
    (λ d p far. number_beyond d order p k far some)
