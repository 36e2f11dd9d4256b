-- What a chunk leaves that belongs to a text whose end has not arrived.
use Rattle.std.proofs.Common.{◌≡◌, ℕ, ◌+◌, ◌-◌, ◌<◌, ◌≤◌, min, max, Bool, true, false, List, [], ◌++◌, length, take, drop, Option, refl, sym, ap, ◌∙◌, arith}
use Rattle.std.proofs.lemmas.Bool.Decides.{nat_tests}
use Rattle.std.proofs.lemmas.List.{length-append, length-drop, length-take, take-append-drop, take-take}
use Rattle.std.specs.List.{list_any}
use Rattle.imagesize.specs.Meaning.{meaning_reads}
use Rattle.imagesize.specs.Parted.{texts_of}
use Rattle.imagesize.specs.declared.types.ImageType.{ImageType}
use Rattle.imagesize_pieces.proofs.Beginning.{begins_left}
use Rattle.imagesize_pieces.proofs.Needing.{needs_as, needs_behind, onward_any}
use Rattle.imagesize_pieces.specs.Pending.{KeepsPending}
use Rattle.imagesize_pieces.specs.Stream.{Begins, Needs}
use Rattle.imagesize_pieces.specs.declared.stand.Stand.{Stand}
use Rattle.imagesize_source.proofs.Agreement.{span-some}
use Rattle.imagesize_source.proofs.KnownReadings.{goes_behind}
use Rattle.imagesize_source.proofs.Texts.{front_length}
use Rattle.imagesize_source.specs.Agreement.{has_offset}
use Rattle.imagesize_source.specs.Input.{part, span_at}
use Rattle.imagesize_source.specs.Layout.{Layout, begin_record, layout_reads, reading}
use Rattle.imagesize_source.specs.Reading.{TextOf, Reads, read_of, text_part}
use Rattle.imagesize_source.specs.Text.{is_ended, text_front}
use Rattle.imagesize_source.specs.declared.span.Span.{Span}
use Rattle.imagesize_source.specs.declared.text.Text.{Text}
use Rattle.imagesize_stream.proofs.Coming.{texts_known, type_on}
use Rattle.imagesize_stream.proofs.Given.{drop_both, dropped}
use Rattle.imagesize_stream.proofs.Skipping.{walk_needs}
use Rattle.imagesize_stream.specs.Probe.{CameTo, Continues, Counts, HoldsAt, SearchedBy}
use Rattle.imagesize_records.specs.FirstReads.{ReadsText}
use Rattle.imagesize_records.proofs.Far.{reach_few, reach_most}
use Rattle.imagesize_records.specs.Steps.{first_text, is_text, reach_at, step}
use Rattle.imagesize_records.specs.declared.awaited.Awaited.{Awaited}
use Rattle.imagesize_stream.specs.declared.stage.Stage.{Stage}
use Rattle.imagesize_stream.specs.declared.stage.Stage.TheVariants.{Records}

-- no byte was searched
none_ended : (t : Text) → is_ended t [] ≡ false
unfolding is_ended
none_ended (Text.Line delimiter) = refl
none_ended Text.Word = refl

pub none_searched : (stage : Stage) (kept : ℕ) (buffer : List ℕ) → SearchedBy stage 0 kept buffer
none_searched stage kept buffer = grind (arith, none_ended)

-- what holds of the span of the text holds of one of all
text_any : {X : Type 0} (d : List ℕ) (offset n : ℕ) (text : Text) (t : Layout X) → ReadsText offset text n t
    → (P : Span → Bool) → list_any P (span_at offset (length (text_part d text offset n))) ≡ true
    → list_any P (layout_reads d t).marks ≡ true
text_any d offset n text (reading (TextOf t k) p f) first P here =
    onward_any (span_at p (length (text_part d t p k))) (read_of d (TextOf t k) p).answer (λ bs. layout_reads d (f bs)) P
    (rw (first.0, first.1.0, first.1.1) here)
text_any d offset n text (begin_record t) first P here = text_any d offset n text t first P here
text_any d offset n text t first P here = absurd first

-- a text that the first bytes do not end needs the byte after them
text_needs : (d : List ℕ) (offset n found : ℕ) (t : Text) → is_ended t (part d offset found) ≡ false
    → found < n → offset + found < length d
    → Needs true (offset + found) (min (offset + n) (length d)) (span_at offset (length (text_part d t offset n)))
unfolding part text_part
text_needs d offset n found t still short more =
    let bs : List ℕ = take n (drop offset d) in
    let len : ℕ = length (text_front t bs) in
    let split : take found bs ++ drop found bs ≡ bs = take-append-drop found bs in
    let long : length bs ≡ min n (length d - offset) =
    omega (arith, length-take n (drop offset d), length-drop offset d) in
    let first : take found bs ≡ take found (drop offset d) = take-take found n (drop offset d) (omega (arith, short)) in
    let on = goes_behind t (take found bs) (drop found bs) (ap (is_ended t) first ∙ still)
    (omega (arith, length-drop found bs, long, short, more)) in
    let behind : found < len =
    omega (arith, on, ap (λ xs. length (text_front t xs)) split, length-take found bs, long, short, more) in
    let few : len ≤ min n (length d - offset) = omega (arith, front_length t bs, long) in
    let has : has_offset (record { start = offset; len = len }) (offset + found) ≡ true = grind (arith, nat_tests, behind) in
    rw (span-some offset len (omega (arith, behind))) (
      (offset + found, omega arith, omega (arith, short, more), rw has refl),
      λ none. absurd cc,
    )

module _ (next : Awaited) (text : Text) (most : ℕ) (old new : Stand) (kind : Option ImageType) (buffer after chunk : List ℕ)
    (keeps : KeepsPending text most old new buffer after chunk) (few : most ≤ reach_at next) where
  -- what always holds at the record, still holds, and more bytes of it are missing
  pub text_counts : HoldsAt (Records next) old → Counts (Records next) old new chunk
  text_counts holds = record {
    told = keeps.told;
    holds = (rw keeps.offset holds.0, omega (arith, keeps, holds.1.1, few, reach_most next));
    ahead = omega (arith, keeps, few, reach_few next);
    passed = keeps.passed;
    whole = λ all. omega (arith, keeps.passed, keeps.more, all);
  }

  module _ (first : (offset : ℕ) → ReadsText offset text most (step next offset)) (is : is_text next ≡ true) where
    module _ (front : List ℕ) (came : CameTo (Records next) kind old buffer front) where
      -- these bytes came too
      text_came : CameTo (Records next) kind new after (front ++ chunk)
      text_came = rw (keeps.told, keeps.offset, keeps.start) (
        type_on front chunk old.told old.told kind refl came.0,
        record {
          as_many = omega (arith, keeps.passed, came.1.as_many, length-append front chunk);
          rest = rw (rw keeps.start at keeps.kept, came.1.rest, came.1.as_many, drop_both old.start front chunk) refl;
          before = came.1.before;
          resumes = λ d begins. came.1.resumes d (begins_left front chunk old.told d begins);
        },
        came.2,
      )

      text_many : new.passed ≡ length (front ++ chunk)
      text_many = omega (arith, keeps.passed, came.1.as_many, length-append front chunk)

      -- each input that begins so depends on the byte after them
      pending_needs : (d : List ℕ) → Begins (front ++ chunk) old.told d → length d ≡ old.told
          → Needs (texts_of d) (max new.passed new.start) (min new.end (new.start + reach_at next)) (meaning_reads d 0).marks
      unfolding part
      pending_needs d begins as_long =
          let streams = came.1 in
          let texts : true ≡ texts_of d = sym is ∙ came.2
          ∙ texts_known kind front d old.told came.0 (begins_left front chunk old.told d begins) in
          let found : ℕ = new.passed - old.offset in
          let same : take (new.passed - new.start) after ≡ part d old.offset found =
          rw (text_came.1.rest, keeps.start, keeps.here, ← begins.first, dropped (length (front ++ chunk)) old.offset d, text_many) refl in
          let resumes = streams.resumes d (begins_left front chunk old.told d begins) in
          let needs = walk_needs true d next old.offset (old.offset + found)
          (min (old.offset + most) (length d)) (span_at old.offset (length (text_part d text old.offset most)))
          (text_any d old.offset most text (step next old.offset) (first old.offset))
          (text_needs d old.offset most found text (ap (is_ended text) (sym same) ∙ keeps.unended)
          (omega (arith, keeps.few, keeps.start, keeps.here)) (omega (arith, keeps.more, as_long, keeps.start, keeps.here))) in
          needs_behind (texts_of d) _ _ streams.before _ (meaning_reads d 0).marks
          (ap (λ (w : Reads _). w.marks) resumes)
          (needs_as (old.offset + found) (min (old.offset + most) (length d)) (max new.passed new.start)
          (min new.end (new.start + reach_at next)) _ texts (omega (arith, keeps.start, keeps.here))
          (omega (arith, keeps.end, keeps.start, keeps.here, as_long, few)) needs)

    pub text_continues : Continues (Records next) (Records next) kind kind old new buffer after chunk
    text_continues = record {
      goes_on = text_came;
      complete = λ front came d begins as_long below. let needs = pending_needs front came d begins as_long in
          omega (arith, below needs.0.0 needs.0.3, needs.0.1, text_many front came);
      marked = pending_needs;
      typed = λ front came. tt;
    }

-- how many bytes are known not to end the text, whether or not the chunk was kept
pub searched_after : (kept : Bool) (stage : Stage) (next : Awaited) (text : Text) (most : ℕ) (old new : Stand)
    (searched count : ℕ) (buffer after chunk : List ℕ) → stage ≡ Records next → text ≡ first_text next
    → (kept ≡ false → (new ≡ old) × (after ≡ buffer) × (count ≡ searched))
    → (kept ≡ true → KeepsPending text most old new buffer after chunk) → (kept ≡ true → count ≡ new.passed - new.start)
    → SearchedBy stage searched (old.passed - old.start) buffer → SearchedBy stage count (new.passed - new.start) after
searched_after false stage next text most old new searched count buffer after chunk at is stays keeps counts was =
    let same = stays refl in rw (same.0, same.1, same.2) was
searched_after true stage next text most old new searched count buffer after chunk at is stays keeps counts was =
    let kept = keeps refl in rw (at, counts refl) (omega arith, rw is at kept.unended)
