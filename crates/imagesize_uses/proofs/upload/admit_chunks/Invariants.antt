use Rattle.std.proofs.Common.{◌≡◌, take}
use Rattle.imagesize_uses.specs.Upload.{Fed, joined, byte_limit, limit_by}
use Rattle.imagesize_uses.proofs.upload.admit_chunks.Given as goal

-- the chunks so far were fed
abbrev pub invariant-loop-chunk : goal.invariant-loop-chunk
invariant-loop-chunk l = Fed l.gate (take (limit_by l.fn.most_bytes) (joined (take l.chunk-index l.chunks)))
    × (byte_limit l.gate ≡ limit_by l.fn.most_bytes)
    × (l.gate.most_pixels ≡ l.fn.most_pixels)
