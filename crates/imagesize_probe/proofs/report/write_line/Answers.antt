use Rattle.imagesize_probe.proofs.Feeds.{error_answer}
use Rattle.imagesize_probe.proofs.report.write_line.Goals as goal

pub returns-in-Err-clause-text : goal.returns-in-Err-clause-text
returns-in-Err-clause-text g c = rw c.in-Err.is
    (error_answer c.in-Err.error c.args.name.now _ _ c.write_refusal.result c.write_refusal.ensures.text)
