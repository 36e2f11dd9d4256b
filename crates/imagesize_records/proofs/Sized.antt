-- A size at fixed offsets, as all that the first bytes say.
use Rattle.std.proofs.Common.{Result, Ok, Err, refl}
use Rattle.imagesize_source.proofs.Layouts.{over-bind}
use Rattle.imagesize_source.proofs.Reached.{reads_nothing}
use Rattle.imagesize_source.proofs.Runs.{runs_refused, runs_then}
use Rattle.imagesize_source.specs.Layout.{layout_reads}
use Rattle.imagesize_source.specs.Layout.Layout.{«done»}
use Rattle.imagesize_source.specs.Reading.{gives, map_answer}
use Rattle.imagesize_source.specs.State.{State, Follows}
use Rattle.imagesize_source.specs.Way.{Way, Fixed, Recorded, Texts}
use Rattle.imagesize_source.specs.declared.halt.Halt.{Halt}
use Rattle.imagesize_records.specs.Streamed.{sized, IfFixed}
use Rattle.imagesize_records.specs.declared.opening.Opening.{Opening}
use Rattle.imagesize_records.specs.declared.opening.Opening.TheVariants as opened
use Rattle.imagesize_types.specs.declared.size.ImageSize.{ImageSize}

-- a size at fixed offsets is all that the first bytes say of it
pub fixed_as : (a b : State) (w : Way ImageSize) (r : Result ImageSize Halt) → IfFixed w (λ t. Follows a b r t)
    → IfFixed w (λ t. Follows {X = Opening} a b (map_answer (λ size. opened.Size size) r) (sized t))
fixed_as a b (Fixed most t) (Ok size) first = rw (over-bind a.held.input t (λ size. done (opened.Size size)))
    (runs_then (layout_reads a.held.input t) (λ size _. gives (opened.Size size)) first
    (reads_nothing b (Ok (opened.Size size)) first.sound_after refl tt))
fixed_as a b (Fixed most t) (Err e) first = rw (over-bind a.held.input t (λ size. done (opened.Size size)))
    (runs_refused (layout_reads a.held.input t) (λ size. gives (opened.Size size)) first)
fixed_as a b (Recorded outside each stated reads) r first = tt
fixed_as a b (Texts reads) r first = tt
