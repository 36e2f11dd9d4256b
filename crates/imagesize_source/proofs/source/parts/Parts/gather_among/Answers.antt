use Rattle.std.proofs.Common.{arith, refl, sym, ◌∙◌, length, ◌+◌, ◌≤◌}
use Rattle.imagesize_source.proofs.Gathering.{gathered_run, known_run}
use Rattle.imagesize_source.proofs.Parts.{part_none}
use Rattle.imagesize_source.proofs.source.parts.Parts.gather_among.Goals as goal

pub loop-count-init : goal.loop-count-init
loop-count-init c = (refl, sym (part_none _ _), λ i below. absurd (omega (arith, below)), omega arith)

pub loop-count-preserved : goal.loop-count-preserved
loop-count-preserved c =
    let s = c.args.self.now in
    let so_far = c.loop-count.invariant in
    let run = c.known_at-run.result.now in
    let known = c.known_at-run.ensures.known in
    let put = c.put-count in
    let few : put.result ≤ length run = omega (arith, put.ensures.count) in
    let fits : c.args.offset + c.loop-count.count + put.result ≤ s.told =
    omega (arith, put.ensures.count, c.loop-count-test.true, c.requires.fits, so_far.0) in (
      put.auto.buffer ∙ so_far.0,
      gathered_run s.told s.spans.now s.bytes.now run c.loop-count.buffer put.new.buffer c.args.offset c.loop-count.count put.result
          so_far.1 so_far.3 few fits put.ensures.copied known,
      known_run s.told s.spans.now s.bytes.now run c.args.offset c.loop-count.count put.result so_far.2 few known,
      omega (arith, put.auto.buffer, put.ensures.count, so_far.3),
    )
