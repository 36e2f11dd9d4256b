use Rattle.imagesize_probe.proofs.Spans.{trace_typed, traces_to}
use Rattle.imagesize_probe.proofs.report.report_spans.Goals as goal

pub write_trace-requires : goal.write_trace-requires
write_trace-requires g c = record { typed = trace_typed c.args.data.now c.in-Ok.trace c.in-Ok.ensures.traces }

pub returns-in-Ok : goal.returns-in-Ok
returns-in-Ok g c =
    traces_to c.args.data.now c.args.name.now c.in-Ok.trace _ _ c.write_trace.result c.in-Ok.ensures.traces
    c.write_trace.ensures.lines c.write_trace.ensures.sized
