-- Fields of bits, and what depends on them.
use Rattle.imagesize_source.specs.declared.halt.Halt.{Halt}
use Rattle.imagesize_source.specs.declared.halt.Halt.TheVariants.{Corrupted}
use Rattle.std.specs.Prelude.{ℕ, zero, suc, ◌+◌, ◌*◌, ◌/◌, ◌%◌, List, [], ◌∷◌, length, take, drop, nat_le, if◌then◌else◌, Result, Ok, Err, flat_map}

-- the lowest k bits of a number, the lowest first
unfoldable pub low_bits : ℕ → ℕ → List ℕ
low_bits zero n = []
low_bits (suc k) n = n % 2 ∷ low_bits k (n / 2)

-- the bits of the bytes, the lowest bit of each byte first
unfoldable pub bits_of : List ℕ → List ℕ
bits_of bytes = flat_map (λ byte. low_bits 8 byte) bytes

-- the number that bits encode, the lowest first
unfoldable pub binary : List ℕ → ℕ
binary [] = 0
binary (bit ∷ bits) = bit + 2 * binary bits

-- the number of `count` bits from bit `from` on; an error if the bits end earlier
unfoldable pub field_at : List ℕ → ℕ → ℕ → Result ℕ Halt
field_at bits from count = if nat_le (from + count) (length bits) then Ok (binary (take count (drop from bits))) else Err Corrupted

-- A value, or one that depends on the number of some bits from a bit on.
pub data Fields (X : Type 0) : Type 0 where
  found : X → Fields X
  bits : ℕ → ℕ → (ℕ → Fields X) → Fields X

-- what follows a result; an error ends it
abbrev pub with_found : {X Y : Type 0} → Result X Halt → (X → Result Y Halt) → Result Y Halt
with_found (Ok x) f = f x
with_found (Err e) f = Err e

-- the result, if a field is read in this way
abbrev pub found_by : {X : Type 0} → (ℕ → ℕ → Result ℕ Halt) → Fields X → Result X Halt
found_by field (found x) = Ok x
found_by field (bits from count f) = with_found (field from count) (λ n. found_by field (f n))

-- fields, and those that depend on their value
abbrev pub bind_fields : {X Y : Type 0} → Fields X → (X → Fields Y) → Fields Y
bind_fields (found x) g = g x
bind_fields (bits from count f) g = bits from count (λ n. bind_fields (f n) g)
