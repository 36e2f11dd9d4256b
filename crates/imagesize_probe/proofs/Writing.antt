-- The lines of one name more.
use Rattle.std.proofs.Common.{◌≡◌, ◌∙◌, ap, subst, sym, arith, ℕ, Bool, false, ◌||◌, not, List, [], ◌∷◌, ◌++◌, Option, None, Some, Result, Ok, Err, IsOkAnd, IsSomeAnd, OnOk, IfOk, IfSome, ◌⊎◌, codes, is_ok, option_map, inl, inr, refl, rules, ◌+◌, ◌<◌, length, map, take, get_or, append_assoc}
use mathlib.Core.Bool.{or_assoc, or_comm}
use mathlib.Core.Logic.{⊎_elim}
use Rattle.std.proofs.KnownBytes.{Appends-kept, Appends-nil, Appends-trans}
use Rattle.std.proofs.lemmas.Bool.{cases_lt}
use Rattle.std.proofs.lemmas.Grind.{take_at_read}
use Rattle.std.proofs.lemmas.List.{map-append, length-take, take_all}
use Rattle.std.specs.Io.KnownBytes.{Appends, Keeps}
use Rattle.std.specs.declared.io.Error.{Error}
use Rattle.std.specs.Result.{result_ok}
use Rattle.imagesize.specs.Meaning.{kind_of, meaning}
use Rattle.imagesize.specs.declared.types.ImageType.{ImageType}
use Rattle.imagesize_types.specs.declared.size.ImageSize.{ImageSize}
use Rattle.imagesize_io.specs.Telling.{Telling}
use Rattle.imagesize_source.specs.Reason.{error_text}
use Rattle.imagesize_source.specs.declared.error.ImageError.{ImageError}
use Rattle.imagesize_source.specs.declared.error.ImageError.TheVariants.{IoError}
use Rattle.imagesize_source.specs.declared.error.Reason.TheVariants.{Memory}
use Rattle.imagesize_source.specs.declared.span.Span.{Span}
use Rattle.imagesize_probe.proofs.Feeds.{plain_error}
use Rattle.imagesize_probe.specs.Line.{answer_line, sized_line, refused_line, span_lines, AppendsLine, AppendsLines, IsOneLine, LacksMemory, ReportsSpans}
use Rattle.imagesize_probe.specs.Run.{Files, OpensAs, OpensTo, WritesEach, RunsWith, WritesLine, WritesLines, WritesOne, WritesSpans, Loads, LoadsNone, ReportsWhole, SpansBehind, whole_length, line_behind, join_lines, lines_of, is_any_refused, names_in, wants_spans}
use Rattle.imagesize_probe.specs.Status.{exit_status}

-- a line was written and sent on, and then others
wrote_both : (first second a b c d : Option (List ℕ)) → IfSome first (Appends a b) → Keeps b c
    → IfSome second (Appends c d) →
    IfSome (join_lines first second) (Appends a d)
wrote_both (Some first) (Some second) a b c d wrote kept more =
    Appends-trans a c d first second (Appends-kept a b c first wrote kept) more
wrote_both _ _ a b c d _ _ _ = tt

-- names of which it is told what is behind them have exactly their lines
lines_written : (files : Files) (names : List (List ℕ)) (old new : Option (List ℕ)) (refused : Bool) →
    WritesEach (WritesLine (Some files)) names old new refused → WritesLines files names old new refused
lines_written files [] old new refused (same, none) = (subst (λ x. Appends old x []) (sym same) (Appends-nil old), none)
lines_written files (name ∷ names) old new refused (mid, sent, sized, others, line, kept, rest, some) =
    let behind = lines_written files names sent new others rest in (
      wrote_both (line_behind name (files name)) (lines_of files names) old mid sent new line.told.0 kept behind.0,
      search (rules, some, line.told.1, behind.1),
    )

-- what is written of one name more was written, and sent on
one_written : (writes : List ℕ → Option (List ℕ) → Option (List ℕ) → Bool → Type 0) (names : List (List ℕ))
    (name : List ℕ)
    (a b c d : Option (List ℕ)) (refused sized after : Bool) →
    WritesEach writes names a b refused → writes name b c sized → Keeps c d → after ≡ (refused || not sized) →
    WritesEach writes (names ++ name ∷ []) a d after
one_written writes [] name a b c d refused sized after before wrote kept so =
    let refuses = so ∙ ap (λ r. r || not sized) before.1 ∙ or_comm false (not sized) in
    (c, d, sized, false, subst (λ x. writes name x c sized) before.0 wrote, kept, (refl, refl), refuses)
one_written writes (first ∷ names) name a b c d refused sized after
    (mid, sent, was, others, line, on, rest, some) wrote kept so =
    let more = one_written writes names name sent b c d others sized (others || not sized) rest wrote kept refl in
    let refuses = so ∙ ap (λ r. r || not sized) some ∙ or_assoc (not was) others (not sized) in
    (mid, sent, was, (others || not sized), line, on, more, refuses)

-- the same of the names that were taken
pub one_more : {X : Type 0} (text_of : X → List ℕ) (names : List X) (i : ℕ) (name : X) (text : List ℕ) →
    i < length names → name ≡ get_or names i name → text ≡ text_of name →
    (writes : List ℕ → Option (List ℕ) → Option (List ℕ) → Bool → Type 0) (a b c d : Option (List ℕ))
    (refused sized after : Bool) →
    WritesEach writes (map text_of (take i names)) a b refused → writes text b c sized → Keeps c d →
    after ≡ (refused || not sized) →
    WritesEach writes (map text_of (take (i + 1) names)) a d after
one_more text_of names i name text there at is writes a b c d refused sized after before wrote kept so =
    let one : take (i + 1) names ≡ take i names ++ get_or names i name ∷ [] = (take_at_read names i name there).1 in
    let more : map text_of (take (i + 1) names) ≡ map text_of (take i names) ++ text ∷ [] =
    search (rules, one, ← at, is, map-append) in
    rw more (one_written writes (map text_of (take i names)) text a b c d refused sized after before wrote kept so)

-- the lines of the bytes that were read are those of all
whole_read : (d bytes name : List ℕ) (a b : Option (List ℕ)) (sized : Bool) → bytes ≡ take 16777217 d
    → ReportsWhole bytes name a b sized
    → ReportsWhole d name a b sized
whole_read d bytes name a b sized is wrote = record {
  long = λ long. wrote.long (rw is (omega (arith, length-take 16777217 d, long)));
  whole = λ short.
      let same : bytes ≡ d = is ∙ take_all 16777217 d (omega (arith, short)) in
      subst (λ x. ReportsSpans x name a b sized) same (wrote.whole (rw same short));
}

behind_read : (found : Result (List ℕ) ImageError) (bytes name : List ℕ) (a b : Option (List ℕ)) (sized : Bool) →
    IsOkAnd found (λ d. bytes ≡ take 16777217 d) → ReportsWhole bytes name a b sized → SpansBehind name found a b sized
behind_read (Ok d) bytes name a b sized is wrote = inl (whole_read d bytes name a b sized is wrote)
behind_read (Err e) bytes name a b sized is wrote = absurd is

-- a line alone has no spans below it
line_alone : (name : List ℕ) (a b : Option (List ℕ)) (sized : Bool) → AppendsLine name a b sized
    → AppendsLines name a b sized
line_alone name a b sized wrote = (b, [], wrote, Appends-nil b)

-- such lines are a line of the name and lines of spans
refused_lines : (name text : List ℕ) (a b : Option (List ℕ)) (sized : Bool) → IsOneLine text
    → Appends a b (refused_line name text) → sized ≡ false → AppendsLines name a b sized
refused_lines name text a b sized plain wrote refused = rw refused (b, [], (text, plain, wrote), Appends-nil b)

lacking_lines : (name : List ℕ) (a b : Option (List ℕ)) (sized : Bool) → LacksMemory name a b sized
    → AppendsLines name a b sized
lacking_lines name a b sized lacks = refused_lines name (codes "Out of memory") a b sized refl lacks.text lacks.refused

-- what was appended whole was appended in two parts
appended_apart : (a c : Option (List ℕ)) (first second : List ℕ) → Appends a c (first ++ second) →
    (mid : Option (List ℕ)) × Appends a mid first × Appends mid c second
appended_apart None c first second _ = (None, tt, tt)
appended_apart (Some a) None first second wrote = absurd wrote
appended_apart (Some a) (Some c) first second wrote = (Some (a ++ first), refl, search (rules, wrote, append_assoc))

-- the line of an answer is one of its name
answered_lines : (name : List ℕ) (found : Option ImageType) (r : Result ImageSize ImageError) (spans : List Span)
    (a b : Option (List ℕ)) (sized : Bool) →
    IsSomeAnd (option_map (λ text. text ++ span_lines spans) (answer_line name found r)) (Appends a b) → sized ≡ is_ok r
    →
    AppendsLines name a b sized
answered_lines name (Some image) (Ok size) spans a b sized wrote is =
    let (mid, first, second) = appended_apart a b (sized_line name image size) (span_lines spans) wrote in
    rw is (mid, spans, (image, size, first), second)
answered_lines name None (Ok size) spans a b sized wrote is = absurd wrote
answered_lines name found (Err e) spans a b sized wrote is = rw is (refused (error_text e) (plain_error e) wrote)
  where
    refused : (text : Option (List ℕ)) → IfSome text IsOneLine →
        IsSomeAnd (option_map (λ text. text ++ span_lines spans) (option_map (refused_line name) text)) (Appends a b) →
        AppendsLines name a b false
    refused None _ wrote = absurd wrote
    refused (Some text) plain wrote =
        let (mid, first, second) = appended_apart a b (refused_line name text) (span_lines spans) wrote in
        (mid, spans, (text, plain, first), second)

traced_lines : (d name : List ℕ) (a b : Option (List ℕ)) (sized : Bool) → ReportsSpans d name a b sized
    → AppendsLines name a b sized
traced_lines d name a b sized (inl traced) =
    answered_lines name (result_ok (kind_of d 0).answer) (meaning d 0).answer
    (meaning d 0).marks a b sized traced.text traced.size
traced_lines d name a b sized (inr (_, lacks)) = lacking_lines name a b sized lacks

whole_lines : (d name : List ℕ) (a b : Option (List ℕ)) (sized : Bool) → ReportsWhole d name a b sized
    → AppendsLines name a b sized
whole_lines d name a b sized wrote =
    ⊎_elim (λ long. let is = wrote.long long in
    refused_lines name (codes "file is longer than 16777216 bytes") a b sized refl is.text is.refused)
    (λ short. traced_lines d name a b sized (wrote.whole short))
    (cases_lt whole_length (length d))

-- the lines of what was read of a name
pub spans_written : (known : Option Files) (bytes name : List ℕ) (a b : Option (List ℕ)) (r : Result Bool Error) →
    Loads known name bytes → IfOk r (ReportsWhole bytes name a b) → IfOk r (WritesSpans known name a b)
spans_written known bytes name a b (Err e) _ _ = tt
spans_written None bytes name a b (Ok sized) _ wrote =
    record { lines = whole_lines bytes name a b sized wrote; told = tt }
spans_written (Some files) bytes name a b (Ok sized) loads wrote = record {
  lines = whole_lines bytes name a b sized wrote;
  told = behind_read (files name) bytes name a b sized loads wrote;
}

-- want of memory may stand for the lines of whatever is behind a name
lacks_behind : (found : Result (List ℕ) ImageError) (name : List ℕ) (a b : Option (List ℕ)) (sized : Bool) →
    LacksMemory name a b sized → SpansBehind name found a b sized
lacks_behind (Ok d) name a b sized lacks = inr lacks
lacks_behind (Err e) name a b sized lacks = inr lacks

refused_spans : (found : Result (List ℕ) ImageError) (name : List ℕ) (e : ImageError) (a b : Option (List ℕ))
    (sized : Bool) →
    (found ≡ Err e) ⊎ (e ≡ IoError Memory) → IfSome (error_text e) (λ text. Appends a b (refused_line name text)) →
    AppendsLine name a b sized → sized ≡ false → SpansBehind name found a b sized
refused_spans found name e a b sized (inl is) wrote line none =
    rw is (inl (record { text = wrote; line = subst (AppendsLine name a b) none line; refused = none }))
refused_spans found name e a b sized (inr is) wrote line none =
    lacks_behind found name a b sized (record { text = rw is at wrote; refused = none })

-- the line of why nothing was read of a name
pub spans_refused : (known : Option Files) (name : List ℕ) (e : ImageError) (a b : Option (List ℕ))
    (r : Result Bool Error) →
    LoadsNone known name e → OnOk r (IfSome (error_text e) (λ text. Appends a b (refused_line name text))) →
    IfOk r (AppendsLine name a b) → IfOk r (λ sized. sized ≡ false) → IfOk r (WritesSpans known name a b)
spans_refused known name e a b (Err _) _ _ _ _ = tt
spans_refused None name e a b (Ok sized) _ _ line _ = record { lines = line_alone name a b sized line; told = tt }
spans_refused (Some files) name e a b (Ok sized) none wrote line is = record {
  lines = line_alone name a b sized line;
  told = refused_spans (files name) name e a b sized none wrote line is;
}

-- Without the option the lines are exactly those of the names, where it is told what is behind them.
-- The status is by those that are refused.
pub plain_run : (files : Files) (arguments : List (List ℕ)) (old new : Option (List ℕ)) (r : Result ℕ Error) →
    IfOk r (RunsWith (Some files) arguments old new) → IfOk r (λ status. wants_spans arguments ≡ false →
    IfSome (lines_of files (names_in arguments)) (Appends old new)
    × (status ≡ exit_status (length (names_in arguments)) (is_any_refused files (names_in arguments))))
plain_run files arguments old new (Err e) _ = tt
plain_run files arguments old new (Ok status) ran = λ plain.
    let each = subst (λ spans. WritesEach (WritesOne spans (Some files)) (names_in arguments) old new ran.refused) plain
    ran.lines in
    let lines = lines_written files (names_in arguments) old new ran.refused each in
    (lines.0, ran.ends ∙ ap (exit_status (length (names_in arguments))) lines.1)

-- why a name was not opened is what is known of its file
unopened : {R : Type 0} (telling : R → Option Telling) (found : Result (List ℕ) ImageError) (e : ImageError)
    → OpensAs telling found (Err e) → found ≡ Err e
unopened telling (Ok bytes) e opens = absurd opens
unopened telling (Err why) e opens = cc

-- the line of why a name was not opened
pub line_refused : {R : Type 0} (telling : R → Option Telling) (known : Option Files) (name : List ℕ) (e : ImageError)
    (a b : Option (List ℕ)) (r : Result Bool Error) →
    OpensTo telling known name (Err e) → OnOk r (IfSome (option_map (refused_line name) (error_text e)) (Appends a b)) →
    IfOk r (AppendsLine name a b) → IfOk r (λ sized. sized ≡ false) → IfOk r (WritesLine known name a b)
line_refused telling known name e a b (Err _) _ _ _ _ = tt
line_refused telling None name e a b (Ok sized) _ _ line _ = record { line = line; told = tt }
line_refused telling (Some files) name e a b (Ok sized) opens wrote line none =
    let is : files name ≡ Err e = unopened telling (files name) e opens in
    record { line = line; told = rw is (wrote, none) }
