-- Calls that read nothing, and calls that go on from the result of a layout.
use Rattle.std.proofs.Common.{◌≡◌, ℕ, false, List, [], Result, Ok, Err, refl, sym, ap, IfErr}
use Rattle.imagesize_source.specs.declared.halt.Halt.{Halt}
use Rattle.imagesize_source.specs.Layout.{Layout, layout_reads, bind}
use Rattle.imagesize_source.specs.Reading.{is_faulted, just, uncounted}
use Rattle.imagesize_source.specs.State.{State, Runs, EndedBy, IsSound}
use Rattle.imagesize_source.proofs.Layouts.{over-bind}
use Rattle.imagesize_source.proofs.Runs.{past-none, reached_by, runs_free, runs_refused}
pub use Rattle.imagesize_source.proofs.Runs.{reached_end}

-- nothing is read
pub reads_nothing : {X : Type 0} (b : State) (r : Result X Halt) → IsSound b → is_faulted r ≡ false
    → IfErr r (EndedBy b)
    → Runs b b r (just r [])
reads_nothing b r sound no_fault ended = runs_free r sound sound refl refl refl (sym (past-none b)) no_fault ended

-- a layout that was read, and what goes on from its answer and reads nothing
pub runs_bind : {X Y : Type 0} {a b : State} {x : X} (r : Result Y Halt) (t : Layout X) (f : X → Layout Y)
    → Runs a b (Ok x) (layout_reads a.held.input t)
    → ((d : List ℕ) → layout_reads d (f x) ≡ just r []) → is_faulted r ≡ false
    → IfErr r (EndedBy b) → Runs a b r (layout_reads a.held.input (bind t f))
runs_bind {X} {Y} {a} {b} {x} r t f first says no_fault ended =
    rw (over-bind a.held.input t f) (reached_end (reached_by (λ v. layout_reads a.held.input (f v)) first) r (just r [])
    (reads_nothing b r first.sound_after no_fault ended) (λ _. ap uncounted (sym (says a.held.input))))

-- a layout that was refused
pub refused_bind : {X Y : Type 0} {a b : State} {e : Halt} (t : Layout X) (f : X → Layout Y) → Runs {X = X} a b (Err e)
    (layout_reads a.held.input t) → Runs {X = Y} a b (Err e) (layout_reads a.held.input (bind t f))
refused_bind {X} {Y} {a} {b} {e} t f h =
    rw (over-bind a.held.input t f) (runs_refused (layout_reads a.held.input t) (λ v. layout_reads a.held.input (f v)) h)
