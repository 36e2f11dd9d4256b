-- Numbers from bytes, in both byte orders.
use Rattle.std.specs.Prelude.{ℕ, ◌+◌, ◌*◌, List, [], ◌∷◌, reverse}
use Rattle.imagesize_source.specs.declared.endian.Endian.{Endian}
use Rattle.imagesize_source.specs.declared.endian.Endian.TheVariants.{Little, Big}

-- the little-endian number: each byte times a power of 256, the first byte times 1
abbrev pub little : List ℕ → ℕ
little [] = 0
little (b ∷ bytes) = b + 256 * little bytes

-- the number that the bytes encode in this byte order
unfoldable pub number : Endian → List ℕ → ℕ
number Little bytes = little bytes
number Big bytes = little (reverse bytes)
