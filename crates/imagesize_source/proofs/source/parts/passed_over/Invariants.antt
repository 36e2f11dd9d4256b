use Rattle.std.proofs.Common.{List, ℕ, length}
use Rattle.imagesize_source.specs.declared.span.Span.{Span}
use Rattle.imagesize_source.specs.Known.{LeavesOut}
use Rattle.imagesize_source.proofs.source.parts.passed_over.Given as goal

-- the parts so far have no byte from `floor` on
abbrev pub invariant-loop-span : goal.invariant-loop-span
invariant-loop-span l = (spans : List Span) (bytes : List ℕ)
    → LeavesOut l.told spans bytes l.rest.floor l.rest.spans.now l.rest.bytes.now
    → LeavesOut l.told spans bytes l.floor l.spans l.bytes

abbrev pub decreases-loop-span : goal.decreases-loop-span
decreases-loop-span l = length l.spans
