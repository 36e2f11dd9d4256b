use Rattle.imagesize_probe.proofs.Spans.{both_written}
use Rattle.imagesize_probe.proofs.report.write_trace.Goals as goal

pub returns-clause-lines : goal.returns-clause-lines
returns-clause-lines g c =
    both_written _ _ _ _ _ c.in_ok-sized.ensures.text (rw c.deref.ensures.value at c.in_ok-write_spans.ensures)
