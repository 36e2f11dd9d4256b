-- An input of twelve bytes or more depends on each of its first twelve.
use Rattle.std.proofs.Common.{◌≡◌, ℕ, suc, leb, ◌+◌, ◌-◌, ◌<◌, ◌≤◌, true, false, ◌&&◌, List, length, refl, arith}
use Rattle.std.proofs.lemmas.Bool.Decides.{nat_tests}
use Rattle.imagesize.specs.Kind.{first_row}
use Rattle.imagesize.specs.Types.{rows}
use Rattle.imagesize_pieces.proofs.Needing.{needs_any, onward_any}
use Rattle.imagesize_pieces.specs.Stream.{Needs}
use Rattle.imagesize_source.proofs.Agreement.{span-some, whole_span}
use Rattle.imagesize_source.specs.Agreement.{has_offset}
use Rattle.imagesize_source.specs.Input.{span_of}
use Rattle.imagesize_source.specs.Layout.{layout_reads}
use Rattle.imagesize_source.specs.Reading.{bytes_at}
use Rattle.imagesize_records.specs.Streamed.{first_by, first_layout}

-- the span of a read within the input has each byte of the read, and ends with the last
pub whole_needed : (d : List ℕ) (offset n low high : ℕ) → offset ≤ low → low < high → offset + n ≡ high → high ≤ length d
    → Needs false low high (span_of d offset n)
whole_needed d offset n low high early late is fits =
    let has : has_offset (record { start = offset; len = n }) low ≡ true = grind (arith, nat_tests) in
    let ends : leb (suc (high - 1)) (offset + n) && leb (offset + n) high ≡ true = grind (arith, nat_tests) in
    rw (whole_span d offset n (omega arith), span-some offset n (omega arith))
    ((low, omega arith, late, rw has refl), λ none. rw ends refl)

pub head_needed : (d : List ℕ) (low : ℕ) → low < 12 → 12 ≤ length d → Needs false low 12 (layout_reads d first_layout).marks
head_needed d low few long = needs_any false low 12 (span_of d 0 12) _
    (λ P here. onward_any (span_of d 0 12) (bytes_at d 0 12) (λ head. layout_reads d (first_by head (first_row rows head))) P here)
    (whole_needed d 0 12 low 12 (omega arith) few refl long)
