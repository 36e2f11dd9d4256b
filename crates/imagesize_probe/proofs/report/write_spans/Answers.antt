use Rattle.std.proofs.Common.{rules}
use Rattle.imagesize_probe.proofs.Spans.{one_span}
use Rattle.imagesize_probe.proofs.report.write_spans.Goals as goal

pub loop-span-preserved : goal.loop-span-preserved
loop-span-preserved g c = record {
  written = one_span c.args.spans.now c.loop-span.span-index _ _ _ _ (search rules) c.loop-span.invariant.written
      c.in_ok-write_span.ensures;
}
