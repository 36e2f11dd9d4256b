use Rattle.std.proofs.Common.{rules}
use Rattle.imagesize_uses.proofs.Spans.{one_more, turned_away}
use Rattle.imagesize_uses.proofs.cache.has_bytes.Goals as goal

pub returns-in-None-clause-found : goal.returns-in-None-clause-found
returns-in-None-clause-found c = λ same.
    absurd (turned_away _ _ c.loop-span.span-index _ _ _ _ (search rules) c.bytes_of_span.ensures c.loop-span.invariant
    c.in-None.ensures.cases same)

pub loop-span-preserved : goal.loop-span-preserved
loop-span-preserved c =
    one_more _ _ c.loop-span.span-index _ _ _ _ _
    (search rules) c.bytes_of_span.ensures c.loop-span.invariant c.in-Some.ensures.cases.0
    c.in-Some.ensures.cases.1
