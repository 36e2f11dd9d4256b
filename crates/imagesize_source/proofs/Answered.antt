-- What readings found that were answered.
use Rattle.std.proofs.Common.{◌≡◌, ℕ, ◌+◌, ◌*◌, ◌<◌, List, length, slice_index, Ok, ap, ◌∙◌, arith}
use Rattle.std.proofs.Math.Nat.{add-zero}
use Rattle.imagesize_source.specs.declared.endian.Endian.{Endian}
use Rattle.imagesize_source.specs.declared.endian.Endian.TheVariants.{Big}
use Rattle.imagesize_source.specs.Input.{part}
use Rattle.imagesize_source.specs.Numbers.{number}
use Rattle.imagesize_source.specs.Reading.{bytes_at, number_at}
use Rattle.imagesize_source.proofs.Extension.{number_ok}
pub use Rattle.imagesize_source.proofs.Layouts.{on_answer}
use Rattle.imagesize_source.proofs.Numbers.{byte_by_byte}
use Rattle.imagesize_source.proofs.Parts.{part_at, part_length}

-- the bytes that are read
pub bytes_is : (d bs : List ℕ) (offset k : ℕ) → bytes_at d offset k ≡ Ok bs → part d offset k ≡ bs
unfolding bytes_at
bytes_is d bs offset k is = grind arith

-- and their number
pub number_is : (d : List ℕ) (order : Endian) (offset k v : ℕ) → number_at d order offset k ≡ Ok v
    → number order (part d offset k) ≡ v
unfolding number_at bytes_at
number_is d order offset k v is = grind arith

pub part_first : (d : List ℕ) (offset k : ℕ) → 0 < k → slice_index (part d offset k) 0 ≡ slice_index d offset
part_first d offset k some = part_at d offset k 0 some ∙ ap (slice_index d) (add-zero offset)

pair : (bs : List ℕ) → length bs ≡ 2 → number Big bs ≡ 256 * slice_index bs 0 + slice_index bs 1
unfolding number
pair = byte_by_byte 2 (λ bs. number Big bs ≡ 256 * slice_index bs 0 + slice_index bs 1) (λ a b. omega arith)

-- the number of two bytes, the highest first
pub big_pair : (d : List ℕ) (offset v : ℕ) → number_at d Big offset 2 ≡ Ok v
    → v ≡ 256 * slice_index d offset + slice_index d (offset + 1)
big_pair d offset v is = grind (arith, number_ok, part_length, pair, part_at, number_is)
