use Rattle.std.proofs.Common.{refl, arith}
use Rattle.imagesize_stream.proofs.Given.{given_on}
use Rattle.imagesize_stream.proofs.Taking.{taken}
use Rattle.imagesize_stream.proofs.Unfinished.{none_searched}
use Rattle.imagesize_stream.specs.declared.stage.Stage.TheVariants.{Done, First, Records}
use Rattle.imagesize_stream.proofs.probe.StreamProbe.proceed.Goals as goal

pub returns-in-First : goal.returns-in-First
returns-in-First c =
    let s = c.args.self.now in let now = c.begin.new in let cut = c.front_of-chunk.result.now in let here = c.in-First.is in
    let counts = c.begin.ensures.counts in let on = c.begin.ensures.continues in
    taken s _ c.args.chunk.now cut (rw here refl) (omega arith) c.front_of-chunk.ensures counts (rw here on) (λ d given part.
    given_on First now.into s.kind now.kind s.stand now.stand s.buffer now.buffer d cut counts on given.as_long
    (rw here at given).known part)

pub returns-in-Some : goal.returns-in-Some
returns-in-Some c =
    let s = c.args.self.now in let now = c.walk-found.new in let cut = c.front_of-chunk.result.now in let here = c.in-Records.is in
    let counts = c.in-Some.ensures.counts in let on = c.in-Some.ensures.continues s.kind in
    taken s _ c.args.chunk.now cut (rw here refl) (omega arith) c.front_of-chunk.ensures counts (rw here on) (λ d given part.
    given_on (Records c.in-Records.next) (Done c.in-Some.size) s.kind s.kind s.stand now.stand s.buffer now.buffer d cut counts on
    given.as_long (rw here at given).known part)

pub returns-in_default : goal.returns-in_default
returns-in_default c =
    let s = c.args.self.now in let now = c.walk-found.new in let cut = c.front_of-chunk.result.now in let here = c.in-Records.is in
    let counts = c.in_default.ensures.counts in let on = c.in_default.ensures.continues s.kind in
    taken s _ c.args.chunk.now cut (rw here refl) (omega arith) c.front_of-chunk.ensures counts (rw here on) (λ d given part.
    given_on (Records c.in-Records.next) (Records now.next) s.kind s.kind s.stand now.stand s.buffer now.buffer d cut counts on
    given.as_long (rw here at given).known part)

pub returns-in-Footer : goal.returns-in-Footer
returns-in-Footer c =
    let s = c.args.self.now in let cut = c.front_of-chunk.result.now in let here = c.in-Footer.is in
    taken s _ c.args.chunk.now cut (rw here refl) (omega arith) c.front_of-chunk.ensures c.wait-self.ensures.counts
    (rw here c.wait-self.ensures.continues) (λ d given part. c.wait-self.ensures.parts d (rw here at given) part)

pub invariant_of-self-clause-pending : goal.invariant_of-self-clause-pending
invariant_of-self-clause-pending c = none_searched c.begin.new.into _ _

pub invariant_of-self-in_default-clause-pending : goal.invariant_of-self-in_default-clause-pending
invariant_of-self-in_default-clause-pending c = none_searched (Records c.walk-found.new.next) _ c.walk-found.new.buffer

pub invariant_of-self-in-Footer-clause-pending : goal.invariant_of-self-in-Footer-clause-pending
invariant_of-self-in-Footer-clause-pending c = none_searched c.wait-self.result _ _
