-- What a chunk that ends before the next record leaves.
use Rattle.std.proofs.Common.{◌≡◌, ℕ, suc, leb, ◌+◌, ◌-◌, ◌<◌, min, max, Bool, true, ◌&&◌, List, [], ◌∷◌, ◌++◌, length, Option, refl, sym, ap, subst, arith}
use Rattle.std.proofs.lemmas.Bool.Decides.{nat_tests}
use Rattle.std.proofs.lemmas.List.{length-append}
use Rattle.std.specs.List.{list_any}
use Rattle.imagesize.specs.Meaning.{meaning_reads}
use Rattle.imagesize.specs.Parted.{texts_of}
use Rattle.imagesize.specs.declared.types.ImageType.{ImageType}
use Rattle.imagesize_pieces.proofs.Beginning.{begins_left}
use Rattle.imagesize_pieces.proofs.Needing.{needs_any, needs_behind, onward_any}
use Rattle.imagesize_pieces.specs.Stream.{Begins, Needs}
use Rattle.imagesize_pieces.specs.declared.stand.Stand.{Stand}
use Rattle.imagesize_source.proofs.Agreement.{span-some}
use Rattle.imagesize_source.proofs.States.{goes, run_unfolds}
use Rattle.imagesize_source.specs.Agreement.{has_offset}
use Rattle.imagesize_source.specs.Walk.{run}
use Rattle.imagesize_source.specs.Input.{span_of}
use Rattle.imagesize_source.specs.Layout.{Layout, begin_record, field, layout_reads, reading}
use Rattle.imagesize_source.specs.Layout.Layout.{«done», refuse}
use Rattle.imagesize_source.specs.Reading.{AllOf, PartOf, TextOf, Reads, number_read, read_of}
use Rattle.imagesize_source.specs.declared.span.Span.{Span}
use Rattle.imagesize_records.proofs.Steps.{step_follows}
use Rattle.imagesize_stream.specs.Probe.{CameTo}
use Rattle.imagesize_records.specs.FirstReads.{ReadsFirst}
use Rattle.imagesize_stream.specs.Skips.{PassesOver}
use Rattle.imagesize_records.specs.Steps.{step}
use Rattle.imagesize_records.specs.declared.awaited.Awaited.{Awaited}
use Rattle.imagesize_stream.specs.declared.stage.Stage.TheVariants.{Records}

-- what holds of the span of the first read holds of one of all
first_any : {X : Type 0} (d : List ℕ) (offset n : ℕ) (t : Layout X) → ReadsFirst offset n t → (P : Span → Bool)
    → list_any P (span_of d offset n) ≡ true → list_any P (layout_reads d t).marks ≡ true
first_any d offset n (done x) first P here = absurd first
first_any d offset n (refuse e) first P here = absurd first
first_any d offset n (field order p k f) first P here =
    onward_any (span_of d p k) (number_read d order p k).answer (λ v. layout_reads d (f v)) P
    (rw (first.0, first.1) here)
first_any d offset n (reading (AllOf k) p f) first P here =
    onward_any (span_of d p k) (read_of d (AllOf k) p).answer (λ bs. layout_reads d (f bs)) P
    (rw (first.0, first.1) here)
first_any d offset n (reading (PartOf k) p f) first P here =
    onward_any (span_of d p k) (read_of d (PartOf k) p).answer (λ bs. layout_reads d (f bs)) P
    (rw (first.0, first.1) here)
first_any d offset n (reading (TextOf t k) p f) first P here = absurd first
first_any d offset n (begin_record t) first P here = first_any d offset n t first P here

-- the span of a read that begins within the input
pub span_there : (d : List ℕ) (offset n : ℕ) → 0 < n → offset < length d
    → span_of d offset n ≡ record { start = offset; len = min n (length d - offset) } ∷ []
unfolding span_of
span_there d offset n some below = span-some offset (min n (length d - offset)) (omega (arith, some, below))

-- so something is needed from its offset on, and a read ends there
span_needs : (texts : Bool) (d : List ℕ) (offset n : ℕ) → 0 < n → offset < length d
    → Needs texts offset (min (offset + n) (length d)) (span_of d offset n)
span_needs texts d offset n some below =
    let len : ℕ = min n (length d - offset) in
    let has : has_offset (record { start = offset; len = len }) offset ≡ true = grind (arith, nat_tests, some, below) in
    let ends : leb (suc (min (offset + n) (length d) - 1)) (offset + len) && leb (offset + len) (min (offset + n) (length d)) ≡ true =
    grind (arith, nat_tests, some, below) in
    subst (Needs texts offset (min (offset + n) (length d))) (sym (span_there d offset n some below)) (
      (offset, omega arith, omega (arith, some, below), rw has refl),
      λ none. rw ends refl,
    )

-- what is needed of some spans of a record is needed by a walk that goes on from it
pub walk_needs : (texts : Bool) (d : List ℕ) (next : Awaited) (offset low high : ℕ) (spans : List Span)
    → ((P : Span → Bool) → list_any P spans ≡ true → list_any P (layout_reads d (step next offset)).marks ≡ true)
    → Needs texts low high spans → Needs texts low high (run step next offset d).marks
walk_needs texts d next offset low high spans any needs =
    needs_any texts low high spans _
    (λ P here. subst (λ w. list_any P w.marks ≡ true) (sym (run_unfolds step d (step_follows d) next offset))
    (onward_any (layout_reads d (step next offset)).marks (layout_reads d (step next offset)).answer (goes step d (step_follows d)) P
    (any P here)))
    needs

module _ (next : Awaited) (old new : Stand) (kind : Option ImageType) (buffer front chunk : List ℕ)
    (over : PassesOver next old new (length chunk)) (came : CameTo (Records next) kind old buffer front) where
  pub many : length (front ++ chunk) ≡ old.passed + length chunk
  many = omega (arith, came.1.as_many, length-append front chunk)

  -- each input that begins so depends on the record's first read
  pub over_needs : (d : List ℕ) → Begins (front ++ chunk) old.told d → length d ≡ old.told
      → Needs (texts_of d) (max new.passed new.start) (min (old.offset + over.most) (length d)) (meaning_reads d 0).marks
  over_needs d begins as_long =
      let streams = came.1 in
      let resumes = streams.resumes d (begins_left front chunk old.told d begins) in
      let needs = walk_needs (texts_of d) d next old.offset old.offset (min (old.offset + over.most) (length d))
      (span_of d old.offset over.most)
      (first_any d old.offset over.most (step next old.offset) over.first)
      (span_needs (texts_of d) d old.offset over.most over.some (omega (arith, as_long, over.here, over.within))) in
      needs_behind (texts_of d) _ _ streams.before _ (meaning_reads d 0).marks
      (ap (λ (w : Reads _). w.marks) resumes)
      (subst (λ low. Needs (texts_of d) low (min (old.offset + over.most) (length d)) (run step next old.offset d).marks)
      (omega (arith, over.passed, over.start, over.before, over.here)) needs)
