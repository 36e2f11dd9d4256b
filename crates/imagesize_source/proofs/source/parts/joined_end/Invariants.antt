use Rattle.std.proofs.Common.{◌≤◌}
use Rattle.imagesize_source.proofs.Gathering.{Joined}
use Rattle.imagesize_source.proofs.source.parts.joined_end.Given as goal

abbrev pub invariant-loop-span : goal.invariant-loop-span
invariant-loop-span l = (l.end ≤ l.told) × Joined l.told l.spans l.span-index l.end
