use Rattle.std.proofs.Common.{◌≡◌, ◌+◌, ◌-◌, ◌<◌, ◌≤◌, ℕ, true, is_some, length, take}
use Rattle.imagesize_source.specs.Input.{part}
use Rattle.imagesize_source.specs.Known.{filled_input, byte_in_parts}
use Rattle.imagesize_source.proofs.source.parts.Parts.gather_among.Given as goal

-- the bytes so far are known, and stand in the buffer
abbrev pub invariant-loop-count : goal.invariant-loop-count
invariant-loop-count l =
    (length l.buffer ≡ length l.initial.buffer) ×
    (take l.count l.buffer ≡ part (filled_input l.self.told l.self.spans.now l.self.bytes.now) l.offset l.count)
    × ((i : ℕ) → i < l.count → is_some (byte_in_parts l.self.told l.self.spans.now l.self.bytes.now (l.offset + i)) ≡ true) ×
    (l.count ≤ length l.buffer)

abbrev pub decreases-loop-count : goal.decreases-loop-count
decreases-loop-count l = length l.buffer - l.count
