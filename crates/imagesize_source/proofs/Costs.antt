-- How many bytes a layout reads, by its answer.
use Rattle.std.proofs.Common.{◌≡◌, ℕ, ◌+◌, ◌-◌, ◌≤◌, List, Result, Ok, Err, arith}
use Rattle.imagesize_source.specs.Counts.{AtMost, CostsBy, IfRefused}
use Rattle.imagesize_source.specs.declared.halt.Halt.{Halt}
use Rattle.imagesize_source.specs.declared.span.Span.{Span}
use Rattle.imagesize_source.specs.Layout.{Layout, layout_reads, bind}
use Rattle.imagesize_source.specs.Layout.Layout.{«done», refuse, field, reading, begin_record}
use Rattle.imagesize_source.specs.Reading.{Reads, Reading, go_on, read_of, most}
use Rattle.imagesize_source.specs.State.{total}
use Rattle.imagesize_source.proofs.Counts.{total-span_of, total_reading}
use Rattle.imagesize_source.proofs.Runs.{total-append}

-- the bound that goes with an answer
abbrev pub bound_of : {X : Type 0} → (X → ℕ) → ℕ → Result X Halt → ℕ
bound_of f e (Ok x) = f x
bound_of f e (Err _) = e

-- what is owed of a reading, where it succeeds and where it is refused
owed : (P Q : Type 0) (d : List ℕ) (r : Reading) (offset : ℕ) → IfRefused r P Q
    → Q × ((e : Halt) → (read_of d r offset).answer ≡ Err e → P)
owed P Q d r offset h = grind arith

onward_costs : {X Y : Type 0} (f : Y → ℕ) (e u n : ℕ) (spans : List Span) (r : Result X Halt) (g : X → Reads Y)
    → total spans ≤ n
    → ((x : Halt) → r ≡ Err x → u + n ≤ e) → ((x : X) → u + n + total (g x).marks ≤ bound_of f e (g x).answer)
    → u + total (go_on spans r g).marks ≤ bound_of f e (go_on spans r g).answer
onward_costs f e u n spans r g few enough next = grind (arith, total-append)

pub costs : {X : Type 0} (f : X → ℕ) (e u : ℕ) (d : List ℕ) (t : Layout X) → CostsBy f e u t
    → u + total (layout_reads d t).marks ≤ bound_of f e (layout_reads d t).answer
costs f e u d (field order offset n g) h =
    onward_costs f e u n _ _ _ (total-span_of d offset n) (λ _ _. h.0) (λ v. costs f e (u + n) d (g v) (h.1 v))
costs f e u d (reading r offset g) h =
    let all = owed (u + most r ≤ e) ((bs : List ℕ) → CostsBy f e (u + most r) (g bs)) d r offset h in
    onward_costs f e u (most r) _ _ _ (total_reading d r offset) all.1 (λ bs. costs f e (u + most r) d (g bs) (all.0 bs))
costs f e u d (begin_record t) h = costs f e u d t h
costs f e u d _ h = omega arith

-- fewer bytes before cost no more
pub costs_less : {X : Type 0} (f : X → ℕ) (e u v : ℕ) (t : Layout X) → u ≤ v → CostsBy f e v t → CostsBy f e u t
costs_less f e u v (field order offset n g) le h = (omega (arith, h.0), λ w. costs_less f e (u + n) (v + n) (g w) (omega arith) (h.1 w))
costs_less f e u v (reading r offset g) le h =
    let rest : (bs : List ℕ) (j k : ℕ) → j ≤ k → CostsBy f e k (g bs) → CostsBy f e j (g bs) = λ bs j k. costs_less f e j k (g bs) in
    grind (arith, rest)
costs_less f e u v (begin_record t) le h = costs_less f e u v t le h
costs_less f e u v _ le h = omega arith

-- one layout behind another
pub costs_bind : {X Y : Type 0} (f : Y → ℕ) (e u j : ℕ) (t : Layout X) (g : X → Layout Y) → AtMost j t → u + j ≤ e
    → ((x : X) → CostsBy f e (u + j) (g x)) → CostsBy f e u (bind t g)
costs_bind f e u j (done x) g few enough next = costs_less f e u (u + j) (g x) (omega arith) (next x)
costs_bind f e u j (refuse r) g few enough next = omega arith
costs_bind f e u j (field order offset n h) g few enough next = (
  omega (arith, few.0),
  λ v. costs_bind f e (u + n) (j - n) (h v) g (few.1 v) (omega (arith, few.0))
      (λ x. costs_less f e (u + n + (j - n)) (u + j) (g x) (omega (arith, few.0)) (next x)),
)
costs_bind f e u j (reading r offset h) g few enough next =
    let on : (bs : List ℕ) (v k : ℕ) → AtMost k (h bs) → v + k ≡ u + j → CostsBy f e v (bind (h bs) g) =
    λ bs v k at is. costs_bind f e v k (h bs) g at (omega arith) (λ x. rw is (next x)) in
    grind (arith, on)
costs_bind f e u j (begin_record t) g few enough next = costs_bind f e u j t g few enough next
