use Rattle.std.proofs.Common.{arith}
use Rattle.imagesize_stream.proofs.Ending.{rests_cut}
use Rattle.imagesize_stream.proofs.Skipping.{many, over_needs}
use Rattle.imagesize_stream.proofs.probe.StreamProbe.pass_over.Goals as goal

pub returns-in-Records-clause-complete : goal.returns-in-Records-clause-complete
returns-in-Records-clause-complete c = λ passes front came.
    let s = c.args.self.now in
    let more = c.front_of-more.result.now in
    let here = rw c.in-Records.is at came in
    let over = c.pass_over.ensures.passes passes in
    let all = many c.in-Records.next s.stand c.pass_over.new.stand s.kind s.buffer front more over here in
    rests_cut front c.args.chunk.now more s.stand.passed s.stand.told here.1.as_many c.front_of-more.ensures
    (λ d begins as_long below.
    let needs = over_needs c.in-Records.next s.stand c.pass_over.new.stand s.kind s.buffer front more over here d begins as_long in
    absurd (omega (arith, below needs.0.0 needs.0.3, needs.0.1, over.start, over.before, all)))
