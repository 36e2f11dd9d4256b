use Rattle.imagesize_probe.proofs.Lines.{reports}
use Rattle.imagesize_probe.proofs.report.report.Goals as goal

pub returns-clause-told : goal.returns-clause-told
returns-clause-told g c =
    reports _ _ _ _ _ _ c.reader_probe-probed.ensures.probes c.write_line.ensures.text c.write_line.ensures.sized
