use Rattle.std.proofs.Common.{◌≡◌, take}
use Rattle.imagesize_source.specs.Known.{bytes_of}
use Rattle.imagesize_uses.proofs.cache.bytes_in.Given as goal

-- the bytes in the spans so far
abbrev pub invariant-loop-span : goal.invariant-loop-span
invariant-loop-span g l = l.bytes.items ≡ bytes_of l.data (take l.span-index l.spans)
