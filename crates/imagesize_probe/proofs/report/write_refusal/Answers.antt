use Rattle.imagesize_probe.proofs.Feeds.{one_line_plain}
use Rattle.imagesize_probe.specs.Line.{one_line}
use Rattle.imagesize_probe.proofs.report.write_refusal.Goals as goal

pub returns-clause-line : goal.returns-clause-line
returns-clause-line g c =
    (one_line c.as_str.result.now, one_line_plain c.as_str.result.now, c.in_ok-writeln.ensures.bytes)
