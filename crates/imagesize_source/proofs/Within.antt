-- A record of one format, where the state of several formats holds that of the one.
use Rattle.std.proofs.Common.{ℕ, ◌+◌, Result, Ok, Err, refl, IfOk}
use Rattle.imagesize_source.specs.Chain.{Said, Decided, Next}
use Rattle.imagesize_source.specs.Layout.{Layout, bind, layout_reads}
use Rattle.imagesize_source.specs.Paying.{Nears}
use Rattle.imagesize_source.specs.Reading.{map_answer}
use Rattle.imagesize_source.specs.State.{State, Runs}
use Rattle.imagesize_source.specs.Walk.{after, decides, said_at}
use Rattle.imagesize_source.specs.declared.halt.Halt.{Halt}
use Rattle.imagesize_source.specs.declared.walk.Found.{Found}
use Rattle.imagesize_source.specs.declared.walk.Found.TheVariants as found
use Rattle.imagesize_source.proofs.Reached.{refused_bind, runs_bind}

-- A read of the record is a read of the same record there, which leaves the state that holds the one after it.
pub runs_within : {Q S X : Type 0} {a b : State} (t : Layout (Said Q X)) (into : Q → S) (q : Q) (offset : ℕ)
    (r : Result (Found X) Halt) → Runs a b (map_answer (said_at q offset) r) (layout_reads a.held.input t)
    → Runs a b (map_answer (said_at (into q) offset) r) (layout_reads a.held.input (bind t (after into decides)))
runs_within t into q offset (Ok (found.Answer x)) run = runs_bind (Ok (Decided x)) t (after into decides) run (λ d. refl) refl tt
runs_within t into q offset (Ok (found.Other length)) run =
    runs_bind (Ok (Next (into q) (offset + length))) t (after into decides) run (λ d. refl) refl tt
runs_within t into q offset (Err e) run = refused_bind t (after into decides) run

-- The state that holds the one after it is as near to the end of the input as that one.
pub nears_within : {Q S X : Type 0} (a b : State) (q : Q) (s : S) (offset : ℕ) (r : Result (Found X) Halt)
    → IfOk r (λ found. Nears a b offset (said_at q offset found)) → IfOk r (λ found. Nears a b offset (said_at s offset found))
nears_within a b q s offset (Ok (found.Answer x)) h = tt
nears_within a b q s offset (Ok (found.Other length)) h = h
nears_within a b q s offset (Err e) h = tt
