-- What `blob_trace` returns.
use Rattle.std.specs.Prelude.{◌≡◌, ℕ, false, List}
use Rattle.std.specs.Result.{result_ok}
use Rattle.std.specs.List.{All}
use Rattle.imagesize.specs.Meaning.{kind_of, meaning}
use Rattle.imagesize.specs.Parted.{IsWithin}
use Rattle.imagesize.specs.declared.trace.Trace.{Trace}
use Rattle.imagesize_source.specs.Errors.{is_stopped}
use Rattle.imagesize_source.specs.declared.span.Span.{Span}

-- The type and the result are those of the layouts, and the spans are those of their reads. The result is never a
-- failure, a spent budget or a lack of memory.
pub record Traces {A : Type 0} (d : List ℕ) (t : Trace A) : Type 0 where
  pub kind : t.kind ≡ result_ok (kind_of d 0).answer
  pub answer : t.answer ≡ (meaning d 0).answer
  pub spans : t.spans.items ≡ (meaning d 0).marks
  pub goes : is_stopped t.answer ≡ false

-- each span has at least one byte, and lies within an input of n bytes
abbrev pub AreWithin : ℕ → List Span → Type 0
AreWithin n spans = All (IsWithin n) spans

-- another input has the same type, the same size and the same spans
pub record IsSame (d e : List ℕ) : Type 0 where
  pub kind : kind_of e 0 ≡ kind_of d 0
  pub meaning : meaning e 0 ≡ meaning d 0
