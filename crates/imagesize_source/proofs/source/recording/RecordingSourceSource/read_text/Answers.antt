use Rattle.std.proofs.Common.{◌≡◌, ◌++◌, length, Ok, sym, ap, ◌∙◌, arith}
use Rattle.std.proofs.lemmas.List.{length-take}
use Rattle.imagesize_source.specs.Input.{span_at}
use Rattle.imagesize_source.specs.Reading.{text_part}
use Rattle.imagesize_source.proofs.Recordings.{recording_runs}
use Rattle.imagesize_source.proofs.source.recording.RecordingSourceSource.read_text.Goals as goal

pub returns-clause-runs : goal.returns-clause-runs
returns-clause-runs c =
    let text = c.copy_text_at-length.ensures.text in
    let buffer = c.copy_text_at-length.new.buffer in
    let n = c.copy_text_at-length.result in
    let long : n ≡ length (text_part c.args.self.now.bytes.now c.args.text c.args.offset (length buffer)) =
    omega (arith, ap length text, length-take n buffer, c.copy_text_at-length.ensures.fits) in
    recording_runs _ _ _ _ _ _ _ (omega arith) c.record.ensures.bytes c.record.ensures.same_reference (ap Ok (sym text))
    (c.record.ensures.recorded ∙ ap (λ k. c.args.self.now.log.spans ++ span_at c.args.offset k) long)
