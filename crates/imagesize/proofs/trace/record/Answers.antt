use Rattle.std.proofs.Common.{arith}
use Rattle.imagesize.proofs.Traces.{recorded_count, recorded_spans}
use Rattle.imagesize.proofs.trace.record.Goals as goal

pub returns-clause-count : goal.returns-clause-count
returns-clause-count c =
    recorded_count _ _ _ _ _ _ (rw (c.new-source.ensures.bytes, c.new-source.ensures.spans) at c.probe-kind.ensures.runs) _ (omega arith)
    c.probe-kind.new.source.counted c.probe-kind.new.source.seen

pub returns-clause-spans : goal.returns-clause-spans
returns-clause-spans c = grind (arith, recorded_spans, returns-clause-count)
