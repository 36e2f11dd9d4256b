use Rattle.std.proofs.Common.{◌≡◌, ◌+◌, ◌-◌, ◌≤◌, not, length, drop}
use Rattle.std.specs.Char.{is_ascii_whitespace}
use Rattle.std.specs.List.{position_or_len}
use Rattle.imagesize_source.proofs.text.first_behind_white.Given as goal

abbrev pub invariant-loop-index : goal.invariant-loop-index
invariant-loop-index l = (l.index ≤ length l.bytes)
    × (position_or_len (λ b. not (is_ascii_whitespace b)) l.bytes
    ≡ l.index + position_or_len (λ b. not (is_ascii_whitespace b)) (drop l.index l.bytes))

abbrev pub decreases-loop-index : goal.decreases-loop-index
decreases-loop-index l = length l.bytes - l.index
