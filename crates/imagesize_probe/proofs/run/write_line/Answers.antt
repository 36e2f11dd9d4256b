use Rattle.imagesize_probe.proofs.Feeds.{error_answer}
use Rattle.imagesize_probe.proofs.Writing.{line_refused}
use Rattle.imagesize_probe.proofs.run.write_line.Goals as goal

pub returns-in-Err-clause-line : goal.returns-in-Err-clause-line
returns-in-Err-clause-line g c =
    line_refused g.O.Reader.Told.telling (g.O.Open.known c.args.opener.now) c.args.name.now c.in-Err.error _ _
    c.write_refusal.result c.in-Err.ensures.opens
    (error_answer c.in-Err.error c.args.name.now _ _ c.write_refusal.result c.write_refusal.ensures.text)
    c.write_refusal.ensures.line c.write_refusal.ensures.sized
