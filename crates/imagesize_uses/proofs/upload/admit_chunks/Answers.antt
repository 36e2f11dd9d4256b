use Rattle.std.proofs.Common.{ap, ◌∙◌, subst, take}
use Rattle.imagesize_uses.specs.Upload.{Fed, byte_limit, joined, limit_by, verdict_on}
use Rattle.imagesize_uses.proofs.Uploads.{begins_more, fed, fed_more}
use Rattle.imagesize_uses.proofs.upload.admit_chunks.Goals as goal

pub returns-in-Some : goal.returns-in-Some
returns-in-Some c =
    let so = c.loop-chunk.invariant in
    let told = limit_by c.args.most_bytes in
    let chunks = c.args.chunks.now in
    let i = c.loop-chunk.chunk-index in
    c.in-Some.ensures.says (fed told i chunks) so.0 (take told (joined chunks))
    (begins_more chunks i told (byte_limit c.loop-chunk.gate) _ so.1 c.loop-chunk-test.true)
    ∙ ap (λ m. verdict_on m (take told (joined chunks))) so.2

pub loop-chunk-preserved : goal.loop-chunk-preserved
loop-chunk-preserved c =
    let so = c.loop-chunk.invariant in
    let told = limit_by c.args.most_bytes in
    let chunks = c.args.chunks.now in
    let i = c.loop-chunk.chunk-index in (
      subst (λ bs. Fed c.feed.new.self bs)
          (fed_more chunks i told (byte_limit c.loop-chunk.gate) _ so.1 c.loop-chunk-test.true)
          (c.feed.ensures.goes_on (fed told i chunks) so.0),
      c.feed.ensures.bytes ∙ so.1,
      c.feed.ensures.pixels ∙ so.2,
    )
