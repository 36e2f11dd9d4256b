-- What a layout says, whatever its readings answer.
use Rattle.std.proofs.Common.{◌≡◌, ℕ, List, Result, Ok, Err, subst}
use Rattle.imagesize_source.proofs.Answered.{on_answer}
use Rattle.imagesize_source.specs.Input.{span_of}
use Rattle.imagesize_source.specs.Layout.{Layout, accept, bind, layout_reads}
use Rattle.imagesize_source.specs.Layout.Layout.{begin_record, field, reading, refuse, «done»}
use Rattle.imagesize_source.specs.Reading.{number_at, read_of}
use Rattle.imagesize_source.specs.declared.halt.Halt.{Halt}

-- whatever its readings answer, each thing that a layout says has the property
abbrev pub Saying : {X : Type 0} → (X → Type 0) → Layout X → Type 0
Saying P (done x) = P x
Saying P (refuse e) = Unit {0}
Saying P (field order offset k f) = (v : ℕ) → Saying P (f v)
Saying P (reading r offset f) = (bs : List ℕ) → Saying P (f bs)
Saying P (begin_record t) = Saying P t

pub saying : {X : Type 0} (P : X → Type 0) (d : List ℕ) (t : Layout X) (x : X) → Saying P t
    → (layout_reads d t).answer ≡ Ok x → P x
saying P d (done y) x h is = let same : y ≡ x = cc in subst P same h
saying P d (refuse e) x h is = absurd cc
saying P d (field order offset k f) x h is = on_answer (λ r. r.answer ≡ Ok x → P x) (span_of d offset k)
    (number_at d order offset k) (λ v. layout_reads d (f v)) (λ v _. saying P d (f v) x (h v)) (λ e _ no. absurd cc) is
saying P d (reading r offset f) x h is = on_answer (λ r. r.answer ≡ Ok x → P x) (read_of d r offset).marks
    (read_of d r offset).answer (λ bs. layout_reads d (f bs)) (λ bs _. saying P d (f bs) x (h bs)) (λ e _ no. absurd cc) is
saying P d (begin_record t) x h is = saying P d t x h is

-- what goes on from a layout says what it says of each thing
pub saying_bind : {X Y : Type 0} (P : Y → Type 0) (t : Layout X) (g : X → Layout Y) → ((x : X) → Saying P (g x))
    → Saying P (bind t g)
saying_bind P (done x) g each = each x
saying_bind P (refuse e) g each = tt
saying_bind P (field order offset k f) g each = λ v. saying_bind P (f v) g each
saying_bind P (reading r offset f) g each = λ bs. saying_bind P (f bs) g each
saying_bind P (begin_record t) g each = saying_bind P t g each

pub saying_accept : {X Y : Type 0} (P : Y → Type 0) (r : Result X Halt) (g : X → Layout Y) → ((x : X) → Saying P (g x))
    → Saying P (accept r g)
saying_accept P (Ok x) g each = each x
saying_accept P (Err e) g each = tt
