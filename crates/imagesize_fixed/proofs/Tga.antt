-- TGA: what is read of it.
use Rattle.std.proofs.Common.{ℕ, List, ◌&&◌, leb, slice_index, arith}
use Rattle.imagesize_fixed.specs.Tga.{is_tga, tga_by_header, may_be_tga, is_tga_footer, lacks_its_map, is_map_sound}
use Rattle.imagesize_source.specs.Counts.{AtMost}
use Rattle.imagesize_source.proofs.Tests.{on_test}

header_few : (head : List ℕ) → AtMost 7 (tga_by_header head)
header_few head = (
  omega arith,
  λ map. (
    omega arith,
    λ map_bits. on_test (AtMost 2) (is_map_sound (slice_index head 1) map map_bits) _ _
        (λ _. (omega arith, λ _. (omega arith, λ _. tt))) (λ _. tt),
  ),
)

-- the recogniser
pub is_tga_few : (n : ℕ) (head : List ℕ) → AtMost 25 (is_tga n head)
unfolding is_tga
is_tga_few n head =
    on_test (AtMost 25) (may_be_tga head && leb 18 n) _ _
    (λ _. (
      omega arith,
      λ footer. on_test (AtMost 7) (is_tga_footer footer) _ _ (λ _. tt)
          (λ _. on_test (AtMost 7) (lacks_its_map head) _ _ (λ _. tt) (λ _. header_few head)),
    ))
    (λ _. tt)
