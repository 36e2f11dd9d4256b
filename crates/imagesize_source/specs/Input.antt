-- An input is a list of bytes, read at offsets.
use Rattle.std.specs.Prelude.{ℕ, ◌-◌, min, List, [], ◌∷◌, length, take, drop, if◌then◌else◌, ◌==◌}
use Rattle.imagesize_source.specs.declared.span.Span.{Span}

-- the bytes of the input from an offset on, at most k of them
unfoldable pub part : List ℕ → ℕ → ℕ → List ℕ
part d offset k = take k (drop offset d)

-- the span of n bytes from an offset on; no span if n is 0
unfoldable pub span_at : ℕ → ℕ → List Span
span_at offset n = if n == 0 then [] else record { start = offset; len = n } ∷ []

-- the span of a read of k bytes: the part of it before the end of the input
unfoldable pub span_of : List ℕ → ℕ → ℕ → List Span
span_of d offset k = span_at offset (min k (length d - offset))
