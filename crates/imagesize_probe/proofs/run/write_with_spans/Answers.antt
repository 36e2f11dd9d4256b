use Rattle.imagesize_probe.proofs.Feeds.{error_line}
use Rattle.imagesize_probe.proofs.Writing.{spans_refused, spans_written}
use Rattle.imagesize_probe.proofs.run.write_with_spans.Goals as goal

pub returns-in-Ok-clause-line : goal.returns-in-Ok-clause-line
returns-in-Ok-clause-line g c =
    spans_written (g.O.Open.known c.args.opener.now) c.in-Ok.bytes.items c.args.name.now _ _ c.write_whole.result
    c.in-Ok.ensures.loads (rw c.deref.ensures.value at c.write_whole.ensures)

pub returns-in-Err-clause-line : goal.returns-in-Err-clause-line
returns-in-Err-clause-line g c =
    spans_refused (g.O.Open.known c.args.opener.now) c.args.name.now c.in-Err.error _ _ c.write_refusal.result
    c.in-Err.ensures.refuses
    (error_line c.in-Err.error c.args.name.now _ _ c.write_refusal.result c.write_refusal.ensures.text)
    c.write_refusal.ensures.line c.write_refusal.ensures.sized
