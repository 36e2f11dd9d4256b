use Rattle.imagesize_source.proofs.Gathering.{NoneBefore}
use Rattle.imagesize_source.proofs.source.parts.known_from.Given as goal

-- the parts so far have none of so many offsets
abbrev pub invariant-loop-span : goal.invariant-loop-span
invariant-loop-span l = NoneBefore l.told l.spans l.span-index l.bytes l.rest l.offset l.most
