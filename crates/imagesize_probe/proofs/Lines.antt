-- What `report` writes, by what was found.
use Rattle.std.proofs.Common.{◌≡◌, ℕ, Bool, true, false, List, Option, None, Some, Result, Ok, Err, IsOk, IsErr, IsSome, IsSomeAnd, IfSome, is_ok, option_map, refl, arith, OnOk, IfOk}
use mathlib.Core.Logic.{⊎_elim}
use Rattle.std.proofs.lemmas.Bool.{false_from_ne_true}
use Rattle.std.specs.declared.io.Error.{Error}
use Rattle.std.specs.Result.{result_ok}
use Rattle.std.specs.Io.KnownBytes.{Appends}
use Rattle.imagesize.specs.Meaning.{kind_of, kind_reads, meaning, meaning_reads, size_reads}
use Rattle.imagesize.specs.Probed.{Probes, ProbesOf}
use Rattle.imagesize_types.specs.declared.size.ImageSize.{ImageSize}
use Rattle.imagesize.specs.declared.types.ImageType.{ImageType}
use Rattle.imagesize.specs.declared.calls.Probed.{Probed}
use Rattle.imagesize_probe.specs.Line.{answer_line, line_of, refused_line, Reports, ReportsOf}
use Rattle.imagesize_io.specs.Answers.{over_reader}
use Rattle.imagesize_source.specs.Errors.{is_stopped, is_stop}
use Rattle.imagesize_source.specs.Outcome.{stated}
use Rattle.imagesize_source.specs.declared.halt.Halt.{Halt}
use Rattle.imagesize_source.specs.Reading.{Reads, go_on}
use Rattle.imagesize_source.specs.Reason.{error_text}
use Rattle.imagesize_io.specs.Telling.{Telling}
use Rattle.imagesize_source.specs.declared.span.Span.{Span}
use Rattle.imagesize_source.specs.declared.error.ImageError.{ImageError}
use Rattle.imagesize_source.specs.declared.error.ImageError.TheVariants.{IoError}
use Rattle.imagesize_source.specs.declared.error.Reason.TheVariants.{Fault}

-- a refusal that is no failure has a text
has_text : (e : ImageError) → is_stop e ≡ false → IsSome (error_text e)
has_text (IoError (Fault error)) stops = (cc)
has_text _ _ = refl

-- what goes on from a refusal is no success
began : {X Y : Type 0} (marks : List Span) (r : Result X Halt) (f : X → Reads Y)
    → IsOk (stated (go_on marks r f).answer) → IsSome (result_ok (stated r))
began marks r f ok = grind (arith, ok)

-- where there is a size there is a type
pub sized_kind : (d : List ℕ) (offset : ℕ) → IsOk (meaning d offset).answer
    → IsSome (result_ok (kind_of d offset).answer)
unfolding meaning_reads
sized_kind d offset ok = began (kind_reads d offset).marks (kind_reads d offset).answer (λ found. size_reads found d) ok

-- of an answer that is no failure there is a line
pub line_there : (name : List ℕ) (found : Option ImageType) (r : Result ImageSize ImageError) → (IsOk r → IsSome found)
    → is_stopped r ≡ false → IsSome (answer_line name found r)
line_there name (Some image) (Ok size) _ _ = refl
line_there name None (Ok size) typed _ = (cc (typed refl))
line_there name found (Err e) _ going = text_there (error_text e) (has_text e going)
  where
    text_there : (text : Option (List ℕ)) → IsSome text → IsSome (option_map (refused_line name) text)
    text_there (Some text) _ = refl
    text_there None has = (cc)

-- a line that there is was written
line_written : (line old new : Option (List ℕ)) → IsSome line → IfSome line (Appends old new)
    → IsSomeAnd line (Appends old new)
line_written (Some line) old new _ wrote = wrote
line_written None old new has _ = (cc)

-- what was found where no failure ended it
found_line : (t : Telling) (name : List ℕ) (probed : Probed) (old new : Option (List ℕ)) →
    ProbesOf t probed → IfSome (answer_line name probed.kind probed.answer) (Appends old new) →
    is_stopped probed.answer ≡ false → IsSomeAnd (line_of name t) (Appends old new)
found_line t name probed old new probes wrote going =
    let same : (over_reader t meaning).answer ≡ probed.answer = probes.answer.answer going in
    let typed : IsOk (over_reader t meaning).answer
    → IsSome (result_ok (over_reader t kind_of).answer) = sized_kind t.bytes t.offset in
    let kind : probed.kind ≡ result_ok (over_reader t kind_of).answer = probes.whole going in
    rw same (line_written (answer_line name (result_ok (over_reader t kind_of).answer) probed.answer) old new
    (line_there name _ probed.answer (rw same at typed) going) (rw kind at wrote))

-- a size is no failure
size_goes : (r : Result ImageSize ImageError) → is_ok r ≡ true → is_stopped r ≡ false
size_goes r is = grind arith

none_is_err : (r : Result ImageSize ImageError) → is_ok r ≡ false → IsErr r
none_is_err r is = grind arith

-- what was written of what was found
pub reported : (t : Telling) (name : List ℕ) (probed : Probed) (old new : Option (List ℕ)) (sized : Bool) →
    ProbesOf t probed → IfSome (answer_line name probed.kind probed.answer) (Appends old new) →
    sized ≡ is_ok probed.answer → ReportsOf t name old new sized
reported t name probed old new sized probes wrote is =
    let going : t.can_fail ≡ false → is_stopped probed.answer ≡ false =
    λ faultless. false_from_ne_true (is_stopped probed.answer) (λ stops. cc ((probes.answer.fault stops).1)) in
    let ends : sized ≡ true → is_stopped probed.answer ≡ false = λ so. size_goes probed.answer (cc) in
    record {
      text = λ case. found_line t name probed old new probes wrote (⊎_elim going ends case);
      size = λ so.
          let same : (over_reader t meaning).answer ≡ probed.answer = probes.answer.answer (ends so) in
          let ok : is_ok probed.answer ≡ true = cc in
          rw same ok;
      refusal = λ faultless none.
          let same : (over_reader t meaning).answer ≡ probed.answer = probes.answer.answer (going faultless) in
          rw same (none_is_err probed.answer (cc));
    }

-- the same of a reader that may tell nothing
pub reports : (telling : Option Telling) (name : List ℕ) (probed : Probed) (old new : Option (List ℕ))
    (r : Result Bool Error) →
    Probes telling probed → OnOk r (IfSome (answer_line name probed.kind probed.answer) (Appends old new)) →
    IfOk r (λ sized. sized ≡ is_ok probed.answer) →
    IfOk r (Reports telling name old new)
reports telling name probed old new (Err e) _ _ _ = tt
reports None name probed old new (Ok sized) _ _ _ = tt
reports (Some t) name probed old new (Ok sized) probes wrote is =
    λ honest. reported t name probed old new sized (probes honest) wrote is
