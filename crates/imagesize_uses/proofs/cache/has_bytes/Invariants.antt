use Rattle.std.proofs.Common.{◌≡◌, ◌++◌, take}
use Rattle.imagesize_source.specs.Known.{bytes_of}
use Rattle.imagesize_uses.proofs.cache.has_bytes.Given as goal

-- the bytes in the spans so far, and those that are left, are the kept ones
abbrev pub invariant-loop-span : goal.invariant-loop-span
invariant-loop-span l = bytes_of l.data (take l.span-index l.spans) ++ l.rest ≡ l.bytes
