use Rattle.std.proofs.Common.{◌-◌, ◌≤◌, length, take}
use Rattle.std.specs.Str.{IsAscii}
use Rattle.imagesize_texts.proofs.utf8.is_long_ascii.Given as goal

abbrev pub invariant-loop-index : goal.invariant-loop-index
invariant-loop-index l = (l.index ≤ length l.bytes) × IsAscii (take l.index l.bytes)

abbrev pub decreases-loop-index : goal.decreases-loop-index
decreases-loop-index l = length l.bytes - l.index
