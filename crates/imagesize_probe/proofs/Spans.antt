-- What `report_spans` writes, by what was found.
use Rattle.std.proofs.Common.{◌≡◌, ℕ, ◌+◌, ◌<◌, Bool, List, [], ◌∷◌, ◌++◌, length, take, get_or, Option, None, Some, Result, Ok, Err, IsOk, IsSome, IsSomeAnd, IfSome, OnOk, IfOk, inl, is_ok, option_map, refl, sym, ap, ◌∙◌, subst, rules, append_assoc}
use Rattle.std.proofs.KnownBytes.{Appends-trans}
use Rattle.std.proofs.lemmas.Grind.{take_at_read}
use Rattle.std.specs.Result.{result_ok}
use Rattle.std.specs.declared.io.Error.{Error}
use Rattle.std.specs.Io.KnownBytes.{Appends}
use Rattle.imagesize.specs.Meaning.{kind_of, meaning}
use Rattle.imagesize.specs.Traced.{Traces}
use Rattle.imagesize.specs.declared.trace.Trace.{Trace}
use Rattle.imagesize_types.specs.declared.size.ImageSize.{ImageSize}
use Rattle.imagesize_probe.proofs.Lines.{line_there, sized_kind}
use Rattle.imagesize_probe.specs.Line.{answer_line, span_line, span_lines, ReportsSpans, TracesTo}
use Rattle.imagesize_source.specs.declared.error.ImageError.{ImageError}
use Rattle.imagesize_source.specs.declared.span.Span.{Span}

-- a line, where one is stated, and more behind it
pub both_written : (text : Option (List ℕ)) (more : List ℕ) (a b c : Option (List ℕ)) → IfSome text (Appends a b)
    → Appends b c more →
    IfSome text (λ first. Appends a c (first ++ more))
both_written None more a b c _ _ = tt
both_written (Some text) more a b c wrote then_more = Appends-trans a b c text more wrote then_more

-- the lines of spans and of one more
span_lines_push : (spans : List Span) (span : Span)
    → span_lines (spans ++ span ∷ []) ≡ span_lines spans ++ span_line span
span_lines_push [] span = search rules
span_lines_push (first ∷ spans) span = search (rules, span_lines_push spans span, append_assoc)

-- the line of one span more was written
pub one_span : (spans : List Span) (i : ℕ) (other : Span) (a b c : Option (List ℕ)) → i < length spans →
    Appends a b (span_lines (take i spans)) → Appends b c (span_line (get_or spans i other))
    → Appends a c (span_lines (take (i + 1) spans))
one_span spans i other a b c there wrote more =
    let one : span_lines (take (i + 1) spans) ≡ span_lines (take i spans) ++ span_line (get_or spans i other) =
    ap span_lines (take_at_read spans i other there).1 ∙ span_lines_push (take i spans) (get_or spans i other) in
    subst (Appends a c) (sym one) (Appends-trans a b c _ _ wrote more)

-- a line that is stated, and more behind it
more_behind : (text : Option (List ℕ)) (more : List ℕ) (old new : Option (List ℕ)) → IsSome text →
    IfSome text (λ first. Appends old new (first ++ more))
    → IsSomeAnd (option_map (λ first. first ++ more) text) (Appends old new)
more_behind (Some text) more old new _ wrote = wrote
more_behind None more old new has _ = (cc)

pub trace_typed : {A : Type 0} (d : List ℕ) (t : Trace A) → Traces d t → OnOk t.answer (IsSome t.kind)
trace_typed d t traces =
    rw traces.answer (rw traces.kind (on_ok (meaning d 0).answer (IsSome (result_ok (kind_of d 0).answer))
    (sized_kind d 0)))
  where
    on_ok : (r : Result ImageSize ImageError) (P : Type 0) → (IsOk r → P) → OnOk r P
    on_ok (Ok size) P holds = holds refl
    on_ok (Err e) P _ = tt

-- what was written of a trace
pub traced : {A : Type 0} (d name : List ℕ) (t : Trace A) (old new : Option (List ℕ)) (sized : Bool) → Traces d t →
    IfSome (answer_line name t.kind t.answer) (λ text. Appends old new (text ++ span_lines t.spans.items)) →
    sized ≡ is_ok t.answer → TracesTo d name old new sized
traced d name t old new sized traces wrote is =
    let kind = traces.kind in let answer = traces.answer in let spans = traces.spans in
    record {
      text = more_behind (answer_line name (result_ok (kind_of d 0).answer) (meaning d 0).answer)
          (span_lines (meaning d 0).marks) old new
          (line_there name _ (meaning d 0).answer (sized_kind d 0) (rw (← answer) traces.goes))
          (rw (← kind) (rw (← answer) (rw (← spans) wrote)));
      size = rw (← answer) is;
    }

pub traces_to : {A : Type 0} (d name : List ℕ) (t : Trace A) (old new : Option (List ℕ)) (r : Result Bool Error)
    → Traces d t →
    OnOk r (IfSome (answer_line name t.kind t.answer) (λ text. Appends old new (text ++ span_lines t.spans.items))) →
    IfOk r (λ sized. sized ≡ is_ok t.answer) → IfOk r (ReportsSpans d name old new)
traces_to d name t old new (Err e) _ _ _ = tt
traces_to d name t old new (Ok sized) traces wrote is = inl (traced d name t old new sized traces wrote is)
