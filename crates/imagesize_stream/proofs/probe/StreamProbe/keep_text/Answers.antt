use Rattle.std.proofs.Common.{refl, arith}
use Rattle.imagesize_stream.proofs.Given.{given_on}
use Rattle.imagesize_stream.proofs.Taking.{taken}
use Rattle.imagesize_stream.proofs.Unfinished.{searched_after, text_continues, text_counts}
use Rattle.imagesize_stream.specs.declared.stage.Stage.TheVariants.{Records}
use Rattle.imagesize_stream.proofs.probe.StreamProbe.keep_text.Goals as goal

pub invariant_of-self-clause-pending : goal.invariant_of-self-clause-pending
invariant_of-self-clause-pending c =
    let s = c.args.self.now in let kept = c.keep_pending in
    searched_after kept.result s.stage c.in-Records.next c.in-Some.text c.in-Some.most s.stand kept.new.stand s.searched
    kept.new.searched s.buffer kept.new.buffer c.front_of-more.result.now c.in-Records.is c.in-Some.ensures.text
    kept.ensures.stays kept.ensures.keeps kept.ensures.searches s.pending

pub returns-clause-takes : goal.returns-clause-takes
returns-clause-takes c = λ is.
    let s = c.args.self.now in let new = c.keep_pending.new in let next = c.in-Records.next in let more = c.front_of-more.result.now in
    let keeps = c.keep_pending.ensures.keeps is in let here = c.in-Records.is in
    let counts = text_counts next c.in-Some.text c.in-Some.most s.stand new.stand s.kind s.buffer new.buffer more keeps
    c.in-Some.ensures.few (rw here at s.holds) in
    let on = text_continues next c.in-Some.text c.in-Some.most s.stand new.stand s.kind s.buffer new.buffer more keeps
    c.in-Some.ensures.few c.in-Some.ensures.first c.in-Some.ensures.kind in
    taken s _ c.args.chunk.now more (rw here refl) (omega arith) c.front_of-more.ensures (rw here counts) (rw here on) (λ d given part.
    rw here (given_on (Records next) (Records next) s.kind s.kind s.stand new.stand s.buffer new.buffer d more counts on
    given.as_long (rw here at given).known part))
