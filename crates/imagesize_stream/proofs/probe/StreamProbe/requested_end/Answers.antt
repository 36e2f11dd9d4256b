use Rattle.imagesize_stream.proofs.Given.{never_cut}
use Rattle.imagesize_stream.proofs.probe.StreamProbe.requested_end.Goals as goal

pub returns-in_default : goal.returns-in_default
returns-in_default c =
    let s = c.args.self.now in never_cut s.stage s.stand.start s.stand.end c.in_default.not-Records
