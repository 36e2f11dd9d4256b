-- Numbers within bytes.
use Rattle.std.proofs.Common.{◌≡◌, ℕ, ◌≤◌, List, [], ◌∷◌, length, take, drop, slice_index_or, refl, arith}
use Rattle.std.specs.Int.{w16, w32, from_be_bytes}
use Rattle.imagesize_source.specs.declared.endian.Endian.TheVariants.{Big}
use Rattle.imagesize_source.specs.Numbers.{number}
use Rattle.imagesize_source.proofs.Numbers.{Eight, are_eight, eight, big_2, big_4}

-- the number of the first four bytes
pub first_four : (bs : List ℕ) → 4 ≤ length bs
    → from_be_bytes w32 (slice_index_or bs 0 0 ∷ slice_index_or bs 1 0 ∷ slice_index_or bs 2 0
    ∷ slice_index_or bs 3 0 ∷ []) ≡ number Big (take 4 bs)
first_four [] h = absurd (omega arith)
first_four (a ∷ []) h = absurd (omega arith)
first_four (a ∷ b ∷ []) h = absurd (omega arith)
first_four (a ∷ b ∷ c ∷ []) h = absurd (omega arith)
first_four (a ∷ b ∷ c ∷ d ∷ rest) h = big_4 (a ∷ b ∷ c ∷ d ∷ []) refl

-- the number of the last two of eight bytes
pub last_two : (bs : List ℕ) → length bs ≡ 8
    → from_be_bytes w16 (slice_index_or bs 6 0 ∷ slice_index_or bs 7 0 ∷ []) ≡ number Big
    (drop 6 bs)
last_two bs is = grind (arith, eight, big_2)

-- the number of the last four of eight bytes
pub last_four : (bs : List ℕ) → length bs ≡ 8
    → from_be_bytes w32 (slice_index_or bs 4 0 ∷ slice_index_or bs 5 0 ∷ slice_index_or bs 6 0
    ∷ slice_index_or bs 7 0 ∷ []) ≡ number Big (drop 4 bs)
last_four bs is = grind (arith, eight, big_4)

-- the last four of eight bytes
pub the_last_four : (bs : List ℕ) → length bs ≡ 8
    → slice_index_or bs 4 0 ∷ slice_index_or bs 5 0 ∷ slice_index_or bs 6 0
    ∷ slice_index_or bs 7 0 ∷ [] ≡ drop 4 bs
the_last_four bs is = on_eight bs (are_eight bs is) where
  on_eight : (bs : List ℕ) → Eight bs
      → slice_index_or bs 4 0 ∷ slice_index_or bs 5 0 ∷ slice_index_or bs 6 0 ∷ slice_index_or bs 7 0
      ∷ [] ≡ drop 4 bs
  on_eight bs (eight a b c d e f g h) = refl
