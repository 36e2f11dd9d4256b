use Rattle.std.proofs.Common.{rules}
use Rattle.std.specs.String.{string_bytes}
use Rattle.imagesize_probe.proofs.Writing.{one_more}
use Rattle.imagesize_probe.specs.Run.{WritesOne}
use Rattle.imagesize_probe.proofs.run.write_lines.Goals as goal

pub loop-name-preserved : goal.loop-name-preserved
loop-name-preserved g c = record {
  known = search (rules, c.in_ok-sized.ensures.keeps, c.loop-name.invariant.known);
  written = one_more string_bytes c.args.names.now c.loop-name.name-index c.name-item.result c.as_str.result.now
      (search rules) c.name-item.is c.as_str.ensures.value
      (WritesOne c.args.spans (g.O.Open.known c.args.opener.now)) _ _ _ _
      c.loop-name.refused c.in_ok-sized.sized _ c.loop-name.invariant.written
      (rw c.loop-name.invariant.known at c.in_ok-sized.ensures.line) c.flush.ensures.bytes (search rules);
}
