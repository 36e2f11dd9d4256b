use Rattle.std.proofs.Common.{take}
use Rattle.std.specs.Io.KnownBytes.{Appends}
use Rattle.imagesize_probe.specs.Line.{span_lines}
use Rattle.imagesize_probe.proofs.report.write_spans.Given as goal

abbrev pub invariant-loop-span : goal.invariant-loop-span
invariant-loop-span g l = record {
  written : Appends (g.W.Write.contents l.fn.writer) (g.W.Write.contents l.writer)
      (span_lines (take l.span-index l.spans));
}
