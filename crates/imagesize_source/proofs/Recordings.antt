-- What a reading of a slice records.
use Rattle.std.proofs.Common.{◌≡◌, ℕ, ◌-◌, ◌^◌, ◌<◌, min, List, [], ◌∷◌, ◌++◌, length, Ok, sym, ap, ◌∙◌, append_assoc, arith}
use Rattle.std.proofs.lemmas.List.{append-nil}
use Rattle.imagesize_source.specs.declared.span.Span.{Span}
use Rattle.imagesize_source.specs.Input.{span_at, span_of}
use Rattle.imagesize_source.specs.Reading.{Reads}
use Rattle.imagesize_source.specs.State.{Runs, state_after, recording_state}

-- the spans of readings are recorded behind those before
pub past-recording : (d : List ℕ) (spans more : List Span) (home : ℕ) → state_after
    (recording_state d spans home) more ≡ recording_state d (spans ++ more) home
unfolding state_after
past-recording d spans [] home = ap (λ s. recording_state d s home) (sym (append-nil spans))
past-recording d spans (s ∷ more) home = grind (arith, append_assoc, (past-recording d (spans ++ s ∷ []) more home))

-- the span of a reading, by how many bytes it saw
pub span_is : (d : List ℕ) (offset k m n : ℕ) → n ≡ min k (length d - offset) → m ≡ k → span_at offset n ≡ span_of d offset m
unfolding span_of
span_is d offset k m n count same = ap (span_at offset) (count ∙ ap (λ j. min j (length d - offset)) (sym same))

-- readings of a slice whose spans were recorded
pub recording_runs : {X : Type 0} {reads : Reads X} (d e : List ℕ) (spans after : List Span) (home there : ℕ) (x : X)
    → length d < 2 ^ 63 → e ≡ d → there ≡ home → reads.answer ≡ Ok x → after ≡ spans ++ reads.marks
    → Runs (recording_state d spans home) (recording_state e after there) (Ok x) reads
recording_runs {X} {reads} d e spans after home there x short bytes name is recorded = grind (arith, past-recording)
