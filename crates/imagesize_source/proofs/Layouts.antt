-- What a layout says of an input.
use Rattle.std.proofs.Common.{◌≡◌, ℕ, ◌-◌, ◌≤◌, min, true, eqb, List, [], length, take, Option, Result, Ok, Err, refl, sym, ap, ◌∙◌, subst, arith, append_assoc}
use Rattle.std.proofs.lemmas.List.{length-take, take_all, drop_all, append-nil}
use Rattle.std.proofs.Math.Seq.{take-nil}
use Rattle.imagesize_source.specs.declared.span.Span.{Span}
use Rattle.imagesize_source.specs.declared.halt.Halt.{Halt}
use Rattle.imagesize_source.specs.Input.{part, span_of, span_at}
use Rattle.imagesize_source.specs.Layout.{Layout, layout_reads, bind, whole, if_there, some_where}
use Rattle.imagesize_source.specs.Layout.Layout.{«done», refuse, field, reading, begin_record}
use Rattle.imagesize_source.specs.Reading.{Reads, after_records, and_then, gives, just, uncounted, go_on, map_answer, put_behind, part_read}
use Rattle.imagesize_source.specs.State.{State, Runs}
use Rattle.imagesize_source.proofs.Marks.{plus-assoc, plus-zero}
use Rattle.imagesize_source.proofs.Runs.{answered, part_is, runs_refused}

-- what goes on from an answer that itself goes on
pub onward-and_then : {X Y Z : Type 0} (marks : List Span) (r : Result X Halt) (f : X → Reads Y) (g : Y → Reads Z)
    (both : X → Reads Z)
    → ((x : X) → both x ≡ and_then (f x) g) → go_on marks r both ≡ and_then (go_on marks r f) g
onward-and_then marks r f g both is = grind (arith, append_assoc)

-- the same of readings that begin records
pub then_then : {X Y Z : Type 0} (r : Reads X) (f : X → Reads Y) (g : Y → Reads Z) (both : X → Reads Z)
    → ((x : X) → both x ≡ and_then (f x) g) → and_then r both ≡ and_then (and_then r f) g
then_then r f g both is = grind (arith, onward-and_then, plus-assoc)

-- what holds behind an answer and behind a refusal holds of what goes on
pub on_answer : {X Y : Type 0} (P : Reads Y → Type 0) (spans : List Span) (r : Result X Halt) (f : X → Reads Y)
    → ((x : X) → r ≡ Ok x → P (put_behind spans (f x)))
    → ((e : Halt) → r ≡ Err e → P (just (Err e) spans))
    → P (go_on spans r f)
on_answer P spans r f answered refused = grind arith

-- what goes on from the same answer
pub then_alike : {X Y : Type 0} (r : Reads X) (f g : X → Reads Y) → ((x : X) → r.answer ≡ Ok x → f x ≡ g x)
    → and_then r f ≡ and_then r g
then_alike r f g same = grind arith

pub then_gives : {X : Type 0} (r : Reads X) → and_then r gives ≡ r
then_gives r = grind (arith, append-nil, plus-zero)

-- one layout behind the other: first the readings of the one, then those of the other
pub over-bind : {X Y : Type 0} (d : List ℕ) (t : Layout X) (f : X → Layout Y)
    → layout_reads d (bind t f) ≡ and_then (layout_reads d t) (λ x. layout_reads d (f x))
over-bind d (field order offset k g) f = onward-and_then _ _ _ _ _ (λ v. over-bind d (g v) f)
over-bind d (reading r offset g) f = onward-and_then _ _ _ _ _ (λ bs. over-bind d (g bs) f)
over-bind d (begin_record t) f = ap (after_records 1) (over-bind d t f)
over-bind d _ f = refl

-- three layouts, one after another, may be grouped either way
pub bind_bind : {X Y Z : Type 0} (t : Layout X) (f : X → Layout Y) (g : Y → Layout Z)
    → bind t (λ x. bind (f x) g) ≡ bind (bind t f) g
bind_bind (done x) f g = refl
bind_bind (refuse e) f g = refl
bind_bind (field order offset k h) f g = λ i. field order offset k (λ v. bind_bind (h v) f g i)
bind_bind (reading r offset h) f g = λ i. reading r offset (λ bs. bind_bind (h bs) f g i)
bind_bind (begin_record t) f g = ap begin_record (bind_bind t f g)

pub whole_read : {a b : State} (d buffer : List ℕ) (offset n : ℕ) → n ≤ length buffer
    → Runs a b (Ok (take n buffer)) (part_read d offset (length buffer))
    → Runs a b (Ok (some_where buffer (eqb n (length buffer)))) (layout_reads d (if_there offset (length buffer) done))
whole_read d buffer offset n fits h = grind (arith, append-nil, part_is, take_all, length-take)

-- a reading that was stopped found none
pub whole_stopped : {X : Type 0} {a b : State} (d : List ℕ) (offset k : ℕ) (found : X → Option (List ℕ))
    (r : Result X Halt) (why : Halt)
    → r ≡ Err why → Runs {X = List ℕ} a b (Err why) (part_read d offset k)
    → Runs a b (map_answer found r) (layout_reads d (if_there offset k done))
whole_stopped {a = a} {b = b} d offset k found r why is h =
    subst (λ s. Runs a b (map_answer found s) (layout_reads d (if_there offset k done))) (sym is)
    (runs_refused (part_read d offset k) (λ bs. gives (whole k bs)) h)

-- readings that are others' where the source is honest
pub runs_as : {X : Type 0} {a b : State} {r : Result X Halt} {reads : Reads X} (other : Reads X) → Runs a b r reads
    → (a.held.honest ≡ true → uncounted reads ≡ uncounted other) → Runs a b r other
runs_as {X} {a} {b} {r} other h same = grind arith

-- an honest source tells the length
pub by_told : {X : Type 0} {a b : State} {r : Result X Halt} (f : ℕ → Reads X) → Runs a b r (f a.frame.told)
    → Runs a b r (f (length a.held.input))
by_told {a} f h = runs_as (f (length a.held.input)) h (λ honest. ap (λ n. uncounted (f n)) (h.sound honest).0)

-- behind the end nothing is there
pub no_part : (d : List ℕ) (offset k : ℕ) → length d ≤ offset → part d offset k ≡ []
unfolding part
no_part d offset k put_behind = ap (take k) (drop_all offset d put_behind) ∙ take-nil k

pub no_span : (d : List ℕ) (offset k : ℕ) → length d ≤ offset → span_of d offset k ≡ []
unfolding span_of span_at
no_span d offset k put_behind = let none : min k (length d - offset) ≡ 0 = omega arith in rw none refl

pub ruleset binding = (over-bind)
