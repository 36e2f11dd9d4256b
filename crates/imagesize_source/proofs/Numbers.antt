-- The numbers of one to eight bytes, as std makes them.
use Rattle.std.proofs.Common.{◌≡◌, ℕ, zero, suc, List, [], ◌∷◌, length, slice_index_or, arith}
use Rattle.std.specs.Int.{w16, w32, w64, from_le_bytes, from_be_bytes}
use Rattle.imagesize_source.specs.declared.endian.Endian.TheVariants.{Little, Big}
use Rattle.imagesize_source.specs.Numbers.{number}

-- the property holds for any n bytes
abbrev pub AnyBytes : ℕ → (List ℕ → Type 0) → Type 0
AnyBytes zero P = P []
AnyBytes (suc n) P = (b : ℕ) → AnyBytes n (λ bs. P (b ∷ bs))

-- so it holds for each list of that length
pub byte_by_byte : (n : ℕ) (P : List ℕ → Type 0) → AnyBytes n P → (bs : List ℕ) → length bs ≡ n → P bs
byte_by_byte zero P any [] is = any
byte_by_byte zero P any (b ∷ bs) is = absurd (omega (arith, is))
byte_by_byte (suc n) P any [] is = absurd (omega (arith, is))
byte_by_byte (suc n) P any (b ∷ bs) is = byte_by_byte n (λ rest. P (b ∷ rest)) (any b) bs (omega (arith, is))

-- one byte is its own number
pub little_1 : (bs : List ℕ) → length bs ≡ 1 → slice_index_or bs 0 0 ≡ number Little bs
unfolding number
little_1 = byte_by_byte 1 (λ bs. slice_index_or bs 0 0 ≡ number Little bs) (λ a. omega arith)

pub little_2 : (bs : List ℕ) → length bs ≡ 2 → from_le_bytes w16 bs ≡ number Little bs
unfolding number
little_2 = byte_by_byte 2 (λ bs. from_le_bytes w16 bs ≡ number Little bs) (λ a b. omega arith)

pub big_2 : (bs : List ℕ) → length bs ≡ 2 → from_be_bytes w16 bs ≡ number Big bs
unfolding number
big_2 = byte_by_byte 2 (λ bs. from_be_bytes w16 bs ≡ number Big bs) (λ a b. omega arith)

-- three bytes are four of which the highest is 0
pub little_3 : (bs : List ℕ) → length bs ≡ 3
    → from_le_bytes w32 (slice_index_or bs 0 0 ∷ slice_index_or bs 1 0 ∷ slice_index_or bs 2 0 ∷ 0 ∷ []) ≡ number Little bs
unfolding number
little_3 = byte_by_byte 3 (λ bs. from_le_bytes w32 (slice_index_or bs 0 0 ∷ slice_index_or bs 1 0 ∷ slice_index_or bs 2 0 ∷ 0 ∷ [])
    ≡ number Little bs) (λ a b c. omega arith)

pub big_3 : (bs : List ℕ) → length bs ≡ 3
    → from_be_bytes w32 (0 ∷ slice_index_or bs 0 0 ∷ slice_index_or bs 1 0 ∷ slice_index_or bs 2 0 ∷ []) ≡ number Big bs
unfolding number
big_3 = byte_by_byte 3 (λ bs. from_be_bytes w32 (0 ∷ slice_index_or bs 0 0 ∷ slice_index_or bs 1 0 ∷ slice_index_or bs 2 0 ∷ [])
    ≡ number Big bs) (λ a b c. omega arith)

pub little_4 : (bs : List ℕ) → length bs ≡ 4 → from_le_bytes w32 bs ≡ number Little bs
unfolding number
little_4 = byte_by_byte 4 (λ bs. from_le_bytes w32 bs ≡ number Little bs) (λ a b c d. omega arith)

pub big_4 : (bs : List ℕ) → length bs ≡ 4 → from_be_bytes w32 bs ≡ number Big bs
unfolding number
big_4 = byte_by_byte 4 (λ bs. from_be_bytes w32 bs ≡ number Big bs) (λ a b c d. omega arith)

pub little_8 : (bs : List ℕ) → length bs ≡ 8 → from_le_bytes w64 bs ≡ number Little bs
unfolding number
little_8 = byte_by_byte 8 (λ bs. from_le_bytes w64 bs ≡ number Little bs) (λ a b c d e f g h. omega arith)

pub big_8 : (bs : List ℕ) → length bs ≡ 8 → from_be_bytes w64 bs ≡ number Big bs
unfolding number
big_8 = byte_by_byte 8 (λ bs. from_be_bytes w64 bs ≡ number Big bs) (λ a b c d e f g h. omega arith)

-- eight bytes, one by one
pub data Eight : List ℕ → Type 0 where
  eight : (a b c d e f g h : ℕ) → Eight (a ∷ b ∷ c ∷ d ∷ e ∷ f ∷ g ∷ h ∷ [])

pub are_eight : (bs : List ℕ) → length bs ≡ 8 → Eight bs
are_eight = byte_by_byte 8 Eight eight
