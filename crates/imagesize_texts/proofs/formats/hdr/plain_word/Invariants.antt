use Rattle.std.proofs.Common.{◌≡◌, ℕ, ◌-◌, ◌<◌, ◌≤◌, true, length}
use Rattle.std.specs.Char.{is_ascii_graphic}
use Rattle.std.specs.Prelude.{slice_index}
use Rattle.imagesize_texts.proofs.formats.hdr.plain_word.Given as goal

abbrev pub invariant-loop-end : goal.invariant-loop-end
invariant-loop-end l =
    (l.end ≤ length l.bytes) × ((i : ℕ) → i < l.end → is_ascii_graphic (slice_index l.bytes i) ≡ true)

abbrev pub decreases-loop-end : goal.decreases-loop-end
decreases-loop-end l = length l.bytes - l.end
