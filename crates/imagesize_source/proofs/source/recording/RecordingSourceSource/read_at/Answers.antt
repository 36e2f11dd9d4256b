use Rattle.std.proofs.Common.{length, ◌++◌, Ok, sym, ap, ◌∙◌, arith}
use Rattle.imagesize_source.proofs.Recordings.{recording_runs, span_is}
use Rattle.imagesize_source.proofs.Slices.{front_is}
use Rattle.imagesize_source.proofs.source.recording.RecordingSourceSource.read_at.Goals as goal

pub returns-clause-runs : goal.returns-clause-runs
returns-clause-runs c =
    let d = c.args.self.now.bytes.now in
    let copied = c.copy_part-count.ensures in
    let kept = c.copy_part-count.auto.buffer in
    recording_runs _ _ _ _ _ _ _ (omega arith) c.record.ensures.bytes c.record.ensures.same_reference
    (ap Ok (sym (front_is d _ c.args.buffer.now c.args.offset _ copied.count copied.copied kept)))
    (c.record.ensures.recorded ∙ ap (λ spans. c.args.self.now.log.spans ++ spans)
    (span_is d c.args.offset (length c.args.buffer.now) _ _ copied.count kept))
