-- What a recording slice shows of an answer.
use Rattle.std.proofs.Common.{◌≡◌, ℕ, ◌+◌, ◌-◌, ◌^◌, ◌<◌, ◌≤◌, min, false, List, [], ◌∷◌, length, take, Result, refl, sym, ap, ◌∙◌, subst, arith}
use Rattle.std.specs.Prelude.{Option}
use Rattle.std.specs.Result.{result_ok}
use Rattle.imagesize.specs.Counts.{stated_bytes}
use Rattle.imagesize.specs.Meaning.{kind_of, kind_reads, meaning, meaning_reads, size_reads}
use Rattle.imagesize.specs.Probed.{FindsKind}
use Rattle.imagesize.specs.Traced.{AreWithin, IsSame}
use Rattle.imagesize.specs.declared.types.ImageType.{ImageType}
use Rattle.imagesize_types.specs.declared.size.ImageSize.{ImageSize}
use Rattle.imagesize.proofs.Counts.{cost_stated, cost_within}
use Rattle.imagesize.proofs.Endings.{never_stopped}
use Rattle.imagesize.proofs.Meanings.{same_kind}
use Rattle.imagesize.proofs.Locality.{same_kind_of, same_meaning}
use Rattle.imagesize.proofs.Within.{marks_few, meaning_within}
use Rattle.imagesize_source.proofs.Agreement.{agrees_first}
use Rattle.imagesize_source.proofs.Recordings.{past-recording}
use Rattle.imagesize_source.specs.Agreement.{Agrees}
use Rattle.imagesize_source.specs.Reading.{is_stopped}
use Rattle.imagesize_source.specs.State.{State, Runs, recording_state, total}
use Rattle.imagesize_source.specs.declared.halt.Halt.{Halt}
use Rattle.imagesize_source.specs.declared.span.Span.{Span}

-- one state has one list of spans
spans_of : {d e : List ℕ} {s t : List Span} {g h : ℕ} → recording_state e s g ≡ recording_state d t h → s ≡ t
spans_of e = let same = ap (λ (a : State). a.recorded) e in (cc)

-- A probe over a slice d that records.
module _ (d after : List ℕ) (spans : List Span) (home there : ℕ) (r : Result ImageSize Halt)
    (h : Runs (recording_state d [] home) (recording_state after spans there) r (meaning_reads d 0)) where
  pub goes_on : is_stopped r ≡ false
  goes_on = never_stopped r (meaning_reads d 0) refl refl refl h

  -- the spans are the marks
  pub recorded_marks : spans ≡ (meaning d 0).marks
  recorded_marks = spans_of (h.state refl goes_on ∙ past-recording d [] (meaning_reads d 0).marks home)

  -- and all of them were counted
  pub recorded_count : (count : ℕ) → length d < 2 ^ 63 → count ≡ min (length spans) (2 ^ 64 - 1) → length spans ≤ total spans
      → count ≡ length (meaning d 0).marks
  recorded_count count short counted seen = grind (arith, recorded_marks, cost_within)

  -- the buffer holds as many of them as it has elements
  pub recorded_spans : (buffer new : List Span) (count : ℕ) → count ≡ length (meaning d 0).marks
      → take (length spans) buffer ≡ take (length buffer) spans → new ≡ buffer → take count new ≡ take (length new) (meaning d 0).marks
  recorded_spans buffer new count is written same = grind (arith, same, recorded_marks)

  -- type and size are those of the layouts
  pub recorded_kind : (kind : Option ImageType) → FindsKind (recording_state d [] home) 0 kind r → kind ≡ result_ok (kind_of d 0).answer
  recorded_kind kind finds = finds.whole refl goes_on ∙ same_kind (kind_reads d 0).answer

  pub recorded_found : r ≡ (meaning_reads d 0).answer
  recorded_found = sym (h.answer refl goes_on)

-- Spans that are the marks of d.
module _ (d : List ℕ) (items : List Span) (are : items ≡ (meaning d 0).marks) where
  -- together they are at most as long as is stated
  pub spans_stated : total items ≤ stated_bytes d 0
  spans_stated = rw are (cost_stated d 0)

  -- and as there are bytes and 64 more
  pub spans_within : total items ≤ length d + 64
  spans_within = rw are (omega (arith, cost_within d 0))

  -- each of them can be cut by, and there are no more of them than that
  pub spans_cut : AreWithin (length d) items
  spans_cut = subst (AreWithin (length d)) (sym are) (meaning_within d 0)

  pub spans_few : length items ≤ length d + 64
  spans_few = omega (arith, ap length are, marks_few d 0)

-- an input without a byte has none
no_span : (n : ℕ) (spans : List Span) → AreWithin n spans → n ≡ 0 → length spans ≡ 0
no_span n [] within is = refl
no_span n (s ∷ spans) within is = let here = within 0 s (omega arith) in absurd (omega (arith, here.0, here.1, is))

pub no_marks : (d : List ℕ) → length d ≡ 0 → length (meaning d 0).marks ≡ 0
no_marks d is = no_span (length d) (meaning d 0).marks (meaning_within d 0) is

-- an input that agrees on the marks is the same
pub same : (d e : List ℕ) → Agrees d e (meaning d 0).marks → IsSame d e
unfolding meaning_reads
same d e agrees = record {
  kind = same_kind_of d 0 e (agrees_first (kind_reads d 0).marks (kind_reads d 0).answer (λ found. size_reads found d) agrees);
  meaning = same_meaning d 0 e agrees;
}

pub ruleset marks = (no_marks, spans_cut, spans_few, spans_stated, spans_within)

pub ruleset recorded = (goes_on, recorded_found, recorded_kind, recorded_spans)
