-- What a caller sees of some reads.
use Rattle.std.specs.Prelude.{List, Result, Ok, Err}
use Rattle.imagesize_source.specs.declared.error.ImageError.{ImageError}
use Rattle.imagesize_source.specs.declared.halt.Halt.{Halt}
use Rattle.imagesize_source.specs.declared.span.Span.{Span}
use Rattle.imagesize_source.specs.Halts.{error_of}
use Rattle.imagesize_source.specs.Reading.{Reads}

-- the result, and the spans that it depends on
pub record Outcome (X : Type 0) : Type 0 where
  pub answer : Result X ImageError
  pub marks : List Span

-- a result of reads, with the error of its `Halt`
abbrev pub stated : {X : Type 0} → Result X Halt → Result X ImageError
stated (Ok x) = Ok x
stated (Err halt) = Err (error_of halt)

-- what reads say, with the error of their `Halt`
abbrev pub outcome_of : {X : Type 0} → Reads X → Outcome X
outcome_of r = record { answer = stated r.answer; marks = r.marks }
