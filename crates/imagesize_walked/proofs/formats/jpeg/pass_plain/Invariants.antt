use Rattle.std.proofs.Common.{ℕ, ◌-◌, ◌≤◌, length}
use Rattle.imagesize_source.specs.State.{State}
use Rattle.imagesize_source.specs.Strides.{Strides}
use Rattle.imagesize_walked.specs.Walks.{jpeg_first, jpeg_step}
use Rattle.imagesize_walked.specs.declared.formats.jpeg.Segments.{Segments}
use Rattle.imagesize_walked.proofs.formats.jpeg.pass_plain.Given as goal

abbrev pub invariant-loop-head : goal.invariant-loop-head
invariant-loop-head g l = (l.first ≤ l.offset) × ((a : State) (s : Segments) (offset : ℕ)
    → Strides jpeg_step a (g.S.Source.state l.source) s offset jpeg_first l.first
    → Strides jpeg_step a (g.S.Source.state l.source) s offset jpeg_first l.offset)

abbrev pub decreases-loop-head : goal.decreases-loop-head
decreases-loop-head g l = length (g.S.Source.state l.source).held.input - l.offset
