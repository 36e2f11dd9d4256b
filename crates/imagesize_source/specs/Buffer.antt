-- What a buffer has of the spans that were written to it.
use Rattle.std.specs.Prelude.{◌≡◌, List, length, take}
use Rattle.imagesize_source.specs.declared.span.Span.{Span}

-- the buffer begins with the first spans in order, as many as fit
abbrev pub Holds : List Span → List Span → Type 0
Holds buffer spans = take (length spans) buffer ≡ take (length buffer) spans
