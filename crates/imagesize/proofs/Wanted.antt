-- What known parts tell of each input that has them.
use Rattle.std.proofs.Common.{◌≡◌, ℕ, suc, ◌^◌, ◌+◌, ◌-◌, ◌<◌, ◌≤◌, Bool, true, false, ◌||◌, ◌&&◌, ◌⊎◌, cond, leb, List, [], ◌∷◌, ◌++◌, drop, slice_index, Option, None, Some, is_some, Result, Ok, Err, inl, inr, refl, sym, ap, ◌∙◌, subst, arith}
use Rattle.std.specs.Prelude.{option_map, unwrap_or}
use Rattle.std.proofs.lemmas.Bool.{cases_lt, or_left, or_right}
use Rattle.std.specs.Option.{ForSome}
use Rattle.std.specs.Result.{result_ok}
use Rattle.std.proofs.lemmas.Bool.Decides.{nat_tests}
use Rattle.imagesize.specs.Meaning.{kind_of, kind_reads, meaning, meaning_reads, size_of, size_reads}
use Rattle.imagesize.specs.Parted.{Fits, HasKnown, IfFound, IfWanted, IsProbed, Says, SaysOf, Tells, TellsOf, Wants, has_texts, texts_as, texts_of, found_or_wanted, wanted_of, with_type}
use Rattle.imagesize.specs.declared.parts.PartsAnswer.{PartsAnswer}
use Rattle.imagesize.specs.declared.parts.PartsAnswer.TheVariants.{Found, Wanted}
use Rattle.imagesize.specs.declared.types.ImageType.{ImageType}
use Rattle.imagesize.proofs.Endings.{slice_unstopped, only_fault}
use Rattle.imagesize_types.specs.declared.size.ImageSize.{ImageSize}
use Rattle.imagesize_source.specs.declared.error.ImageError.{ImageError}
use Rattle.imagesize_source.specs.declared.halt.Halt.{Halt}
use Rattle.imagesize_source.specs.declared.source.known.Missing.{Missing}
use Rattle.imagesize_source.specs.declared.span.Span.{Span}
use Rattle.imagesize_source.specs.Agreement.{Agrees, EndsBetween, IsLocal, Parting, is_covered, has_offset, has_whole}
use Rattle.imagesize_source.specs.Input.{span_at}
use Rattle.imagesize_source.specs.Known.{AllKnown, HasParts, Lacks, byte_in_parts, byte_of, filled_input, length_within, reaches, parts_state}
use Rattle.imagesize_source.specs.Errors.{is_stopped as is_stopped_error}
use Rattle.imagesize_source.specs.Halts.{with_error}
use Rattle.imagesize_source.specs.Outcome.{outcome_of, stated}
use Rattle.imagesize_source.specs.Reading.{Reads, go_on, is_faulted}
use Rattle.imagesize_source.proofs.Halts.{stated_ok, stated_same}
use Rattle.imagesize_source.specs.State.{Misses, State, Runs, parts_of}
use Rattle.imagesize_source.proofs.Among.{Among, any_left, any_right, covered-any, later_cut, middle}
use Rattle.imagesize_source.proofs.Agreement.{covered-left, covered-one, covered-right, same_by_local}
use Rattle.imagesize_source.proofs.Runs.{marks_onward}
use Rattle.imagesize_source.proofs.Known.{filled_at, has_known, known_below, length-filled_input, unknown_free}
use Rattle.imagesize_source.proofs.KnownReadings.{past-parts}
use Rattle.imagesize_source.proofs.Tests.{on_test}

-- ---- a source of parts is stopped by what it misses alone

-- The readings f on known parts: what they saw and missed, and their answer.
pub record Called {X : Type 0} (f : List ℕ → Reads X) (n : ℕ) (spans : List Span) (bytes : List ℕ) (log : List Span)
    (missed : Option Missing)
    (r : Result X Halt) : Type 0 where
  pub runs : Runs (parts_state n spans bytes [] None) (parts_state n spans bytes log missed) r
      (f (filled_input n spans bytes))
  pub seen : AllKnown n spans bytes log
  pub lacks : ForSome missed (Lacks (record { told = n; spans = spans; bytes = bytes }))

logged : (a b : State) (s t : List Span) → a ≡ b → a.recorded ≡ Some s → b.recorded ≡ Some t → s ≡ t
logged a b s t e here there = grind arith

is_short : (n : ℕ) → n < 2 ^ 63 → (parts_state n [] [] [] None).held.honest ≡ true
is_short n short = grind (arith, nat_tests)

some_is : {s t : List Span} → ◌≡◌ {A = Option (List Span)} (Some s) (Some t) → s ≡ t
some_is e = cc

-- ---- an input that has the parts, and local readings of it

-- the filled input has the bytes that are known
pub filled_known : (n : ℕ) (spans : List Span) (bytes : List ℕ) → HasKnown (filled_input n spans bytes) n spans bytes
filled_known n spans bytes = record {
  as_long = length-filled_input n spans bytes;
  known = λ offset byte is. filled_at n spans bytes offset (known_below n spans bytes offset (ap is_some is))
      ∙ ap (λ o. unwrap_or o 1) is;
}

-- and so has one that has the parts
pub parts_known : (d : List ℕ) (n : ℕ) (spans : List Span) (bytes : List ℕ) → HasParts d n spans bytes
    → HasKnown d n spans bytes
parts_known d n spans bytes has = grind (arith, has_known)

-- an offset that is known is one of a span
known_covered : (n : ℕ) (spans : List Span) (bytes : List ℕ) (offset : ℕ)
    → is_some (byte_in_parts n spans bytes offset) ≡ true
    → is_covered spans offset ≡ true
known_covered n [] bytes offset is = absurd cc
known_covered n (s ∷ spans) bytes offset is =
    let rest : List ℕ = drop (length_within n s) bytes in
    on_test (λ o. is_some o ≡ true → has_offset s offset || is_covered spans offset ≡ true) (reaches n s offset)
    (byte_of bytes (offset - s.start)) (byte_in_parts n spans rest offset)
    (λ has _. or_left (has_offset s offset) (is_covered spans offset) (grind (arith, nat_tests)))
    (λ _ later. or_right (has_offset s offset) (is_covered spans offset) (known_covered n spans rest offset later)) is

-- and of an input that has the parts each offset of a span is known
pub known_where_covered : (d : List ℕ) (n : ℕ) (spans : List Span) (bytes : List ℕ) (offset : ℕ)
    → HasParts d n spans bytes → offset < n
    → is_some (byte_in_parts n spans bytes offset) ≡ is_covered spans offset
known_where_covered d n spans bytes offset has below = grind (arith, known_covered, unknown_free)

some_byte : (o : Option ℕ) → is_some o ≡ true → (byte : ℕ) × (o ≡ Some byte)
some_byte o is = grind arith

-- one that has them has the byte of the filled input where it is known
same_known : (d : List ℕ) (n : ℕ) (spans : List Span) (bytes : List ℕ) (offset : ℕ) → HasKnown d n spans bytes
    → is_some (byte_in_parts n spans bytes offset) ≡ true
    → slice_index d offset ≡ slice_index (filled_input n spans bytes) offset
same_known d n spans bytes offset has is =
    let b = some_byte (byte_in_parts n spans bytes offset) is in
    has.known offset b.0 b.1 ∙ sym ((filled_known n spans bytes).known offset b.0 b.1)

agrees_known : (d : List ℕ) (n : ℕ) (spans : List Span) (bytes : List ℕ) (marks : List Span) → HasKnown d n spans bytes
    → AllKnown n spans bytes marks → Agrees (filled_input n spans bytes) d marks
agrees_known d n spans bytes marks has all = grind (arith, length-filled_input, same_known)

-- A property of the answer: it holds if it holds for what was found, and for what a failed read missed.
by_fault : {X T : Type 0} {f : List ℕ → Reads X} {n : ℕ} {spans : List Span} {bytes : List ℕ} {log : List Span}
    {missed : Option Missing} {r : Result X Halt} (P : PartsAnswer T → Type 0) (found : T) (texts : Bool) → n < 2 ^ 63
    → Called f n spans bytes log missed r → (is_faulted r ≡ false → P (Found found))
    → ((m : Missing) → Lacks (record { told = n; spans = spans; bytes = bytes }) m → Misses (parts_state n spans bytes [] None)
    (parts_state n spans bytes log (Some m)) (f (filled_input n spans bytes)).marks m → P (Wanted (wanted_of texts m)))
    → P (found_or_wanted found (option_map (wanted_of texts) (cond (is_faulted r) missed None)))
by_fault {f = f} {n = n} {spans = spans} {bytes = bytes} {log = log} {missed = missed} {r = r} P found texts short call answered missing =
    grind (arith, is_short)

module _ {X : Type 0} (texts : Bool) (f : List ℕ → Reads X) (is_local : IsLocal texts f) (d : List ℕ) (n : ℕ)
    (spans : List Span) (bytes : List ℕ)
    (has : HasKnown d n spans bytes) (short : n < 2 ^ 63) where
  abbrev filled : List ℕ
  filled = filled_input n spans bytes

  -- where nothing is missed, the answer is its own, since it agrees with what was read
  right : (log : List Span) (missed : Option Missing) (r : Result X Halt) → Called f n spans bytes log missed r
      → is_faulted r ≡ false
      → r ≡ (f d).answer
  right log missed r call no_fault =
      let honest = is_short n short in
      let on = only_fault r (f filled) refl call.runs no_fault in
      let marked : log ≡ (f filled).marks = logged (parts_state n spans bytes log missed)
      (parts_state n spans bytes ([] ++ (f filled).marks) None) log (f filled).marks
      (call.runs.state honest on ∙ past-parts n spans bytes [] None (f filled).marks) refl refl in
      let all : f d ≡ f filled = same_by_local f is_local filled d (agrees_known d n spans bytes (f filled).marks has
      (subst (λ l. AllKnown n spans bytes l) marked call.seen)) in
      sym (call.runs.answer honest on) ∙ ap (λ w. w.answer) (sym all)

  -- what is missed lies in one of its marks, and whole where no texts are read
  wanted_mark : (log : List Span) (s : Span) (made : List Span) (mark : Span) (rest : List Span)
      → AllKnown n spans bytes log → 0 < s.len
      → log ≡ made ++ span_at mark.start (s.start - mark.start)
      → (f filled).marks ≡ made ++ mark ∷ rest
      → mark.start ≤ s.start → s.start + s.len ≤ mark.start + mark.len
      → (is_covered (f d).marks s.start ≡ true) × (texts ≡ false → has_whole (f d).marks s ≡ true)
  wanted_mark log s made mark rest seen some is_log all from fits =
      elim (is_local filled d (has.as_long ∙ sym (length-filled_input n spans bytes))) [
        | inl same ↦ both (subst (Among mark) (sym (ap (λ w. w.marks) same ∙ all)) (middle made mark rest))
        | inr parts ↦ by_cut parts (later_cut made parts.seen rest parts.rest mark parts.mark (sym all ∙ parts.here))
      ]
    where
      whole : Among mark (f d).marks → has_whole (f d).marks s ≡ true
      whole among =
          let begins = from in let ends = fits in
          among (λ x. leb x.start s.start && leb (s.start + s.len) (x.start + x.len)) (grind (arith, nat_tests))

      begun : (x : Span) → Among x (f d).marks → has_offset x s.start ≡ true → is_covered (f d).marks s.start ≡ true
      begun x among there = covered-any (f d).marks s.start ∙ among (λ y. has_offset y s.start) there

      both : Among mark (f d).marks
          → (is_covered (f d).marks s.start ≡ true) × (texts ≡ false → has_whole (f d).marks s ≡ true)
      both among =
          let begins = from in let ends = fits in let has_one = some in
          (begun mark among (grind (arith, nat_tests)), λ _. whole among)

      not_seen : (parts : Parting texts filled d (f filled).marks (f d).marks)
          → is_covered (made ++ span_at mark.start (s.start - mark.start)) parts.offset ≡ true → ⊥
      not_seen parts here = parts.differs (same_known d n spans bytes parts.offset has
          (seen parts.offset (ap (λ l. is_covered l parts.offset) is_log ∙ here)))

      -- the inputs part behind what was seen
      later : (parts : Parting texts filled d (f filled).marks (f d).marks)
          → mark ≡ parts.mark → (parts.offset < s.start) ⊎ (s.start ≤ parts.offset) → s.start ≤ parts.offset
      later parts at (inr more) = more
      later parts at (inl less) =
          let has_it : has_offset mark parts.offset ≡ true = ap (λ x. has_offset x parts.offset) at ∙ parts.within in
          let above : mark.start ≤ parts.offset = grind (arith, nat_tests) in
          let same : mark.start + (parts.offset - mark.start) ≡ parts.offset = omega (arith, above) in
          let part : List Span = span_at mark.start (s.start - mark.start) in
          absurd (not_seen parts (covered-right made part parts.offset (subst (λ p. is_covered part p ≡ true) same
          (covered-one mark.start (s.start - mark.start) (parts.offset - mark.start) (omega (arith, less, above))))))

      by_cut : (parts : Parting texts filled d (f filled).marks (f d).marks)
          → Among parts.mark made ⊎ ((mark ≡ parts.mark) ⊎ ((more : List Span) → Among mark (parts.seen ++ more)))
          → (is_covered (f d).marks s.start ≡ true) × (texts ≡ false → has_whole (f d).marks s ≡ true)
      by_cut parts (inl before) = absurd (not_seen parts
          (covered-left made (span_at mark.start (s.start - mark.start)) parts.offset
          (covered-any made parts.offset ∙ before (λ x. has_offset x parts.offset) parts.within)))
      by_cut parts (inr (inl at)) =
          let there : Among parts.other (f d).marks =
          subst (Among parts.other) (sym parts.there) (middle parts.seen parts.other parts.others) in
          let starts : parts.other.start ≡ mark.start = parts.start ∙ ap (λ x. x.start) (sym at) in
          let after : s.start ≤ parts.offset = later parts at (cases_lt parts.offset s.start) in
          let also = parts.also in let begins = from in (
            begun parts.other there (grind (arith, nat_tests)),
            λ none. whole (subst (λ x. Among x (f d).marks) (parts.same none ∙ sym at) there),
          )
      by_cut parts (inr (inr among)) = both (subst (Among mark) (sym parts.there) (among (parts.other ∷ parts.others)))

  -- where something is missed, it is wanted
  pub says : {T : Type 0} (IsSo : T → Type 0) (found : T) (log : List Span) (missed : Option Missing)
      (r : Result X Halt)
      → Called f n spans bytes log missed r → (is_faulted r ≡ false → IsSo found)
      → Says texts IsSo (f d).marks n spans bytes
      (found_or_wanted found (option_map (wanted_of texts) (cond (is_faulted r) missed None)))
  says IsSo found log missed r call is_so = by_fault (Says texts IsSo (f d).marks n spans bytes) found texts short call is_so
      (λ m lacks is.
      let marked = wanted_mark log (wanted_of false m) is.made is.mark is.rest call.seen lacks.0
      (some_is is.recorded) is.all is.behind is.within in (
        marked.0,
        lacks.3,
        λ none. ap (λ (t : Bool). has_whole (f d).marks (wanted_of t m)) none ∙ marked.1 none,
      ))

  pub says_of : (log : List Span) (missed : Option Missing) (failure : ImageError) (budget : ℕ) (r : Result X Halt)
      → Called f n spans bytes log missed r → SaysOf texts (outcome_of (f d)) n spans bytes
      (found_or_wanted (with_error failure budget r) (option_map (wanted_of texts) (cond (is_faulted r) missed None)))
  says_of log missed failure budget r call =
      says (λ answer. answer ≡ (outcome_of (f d)).answer) (with_error failure budget r) log missed r call
      (λ no_fault. stated_same failure budget r (only_fault r (f filled) refl call.runs no_fault)
      ∙ ap stated (right log missed r call no_fault))

-- ---- the type beside a size

-- what the type wants is wanted
pub type_wanted : (d : List ℕ) (n : ℕ) (spans : List Span) (bytes : List ℕ) (w : Span)
    → Wants false (kind_of d 0).marks n spans bytes w
    → Wants (texts_of d) (meaning d 0).marks n spans bytes w
unfolding meaning_reads
type_wanted d n spans bytes w wants = grind (arith, marks_onward, covered-left, any_left)

-- an input without a type has no size, by the same error
no_size : (d : List ℕ) (k : Result ImageType Halt) (e : ImageError) → k ≡ (kind_reads d 0).answer → Err e ≡ stated k
    → Err e ≡ stated (meaning_reads d 0).answer
unfolding meaning_reads
no_size d k e same is = grind arith

-- a type that is refused is none
pub type_refused : (d : List ℕ) (e : ImageError) → ◌≡◌ {A = Result ImageType ImageError} (Err e) (kind_of d 0).answer
    → IsProbed d (None, Err e)
type_refused d e is = (
  ap (λ (r : Result ImageType ImageError). result_ok r) is,
  no_size d (kind_reads d 0).answer e refl is,
)

-- and a type that is found has its size
pub type_sized : (d : List ℕ) (n : ℕ) (spans : List Span) (bytes : List ℕ) (type : ImageType)
    (answer : PartsAnswer (Result ImageSize ImageError))
    → ◌≡◌ {A = Result ImageType ImageError} (Ok type) (kind_of d 0).answer
    → SaysOf (has_texts type) (size_of type d) n spans bytes answer
    → Says (texts_of d) (IsProbed d) (meaning d 0).marks n spans bytes (with_type type answer)
unfolding meaning_reads
type_sized d n spans bytes type (Found answer) is says = grind (arith, stated_ok, says)
type_sized d n spans bytes type (Wanted w) is says =
    let found = stated_ok (kind_reads d 0).answer type (sym is) in
    let first : List Span = (kind_reads d 0).marks in
    let marks : (meaning_reads d 0).marks ≡ first ++ (size_reads type d).marks =
    ap (λ r. (go_on first r (λ found. size_reads found d)).marks) found in (
      ap (λ s. is_covered s w.start) marks ∙ covered-right first (size_reads type d).marks w.start says.0,
      says.1,
      λ none. ap (λ s. has_whole s w) marks
          ∙ any_right (λ s. leb s.start w.start && leb (w.start + w.len) (s.start + s.len)) first
          (size_reads type d).marks (says.2 (ap texts_as is ∙ none)),
    )

pub tells : {T : Type 0} (texts : Bool) (IsSo : T → Type 0) (marks : List Span) (n : ℕ) (spans : List Span)
    (bytes : List ℕ)
    (answer : PartsAnswer T) → Says texts IsSo marks n spans bytes answer → AllKnown n spans bytes marks → Tells answer
tells texts IsSo marks n spans bytes answer says all = grind arith

-- a failure is never found
pub unstopped : {X : Type 0} (f : List ℕ → Reads X) (n : ℕ) (spans : List Span) (bytes : List ℕ) (texts : Bool)
    (log : List Span)
    (missed : Option Missing) (failure : ImageError) (budget : ℕ) (r : Result X Halt) → n < 2 ^ 63
    → Called f n spans bytes log missed r
    → IfFound (found_or_wanted (with_error failure budget r)
    (option_map (wanted_of texts) (cond (is_faulted r) missed None)))
    (λ answer. is_stopped_error answer ≡ false)
unstopped f n spans bytes texts log missed failure budget r short call =
    grind (arith, by_fault, slice_unstopped, only_fault)

-- over the filled input, all that a read requests reaches to the end of its span
pub reaches_end : {X : Type 0} (f : List ℕ → Reads X) (n : ℕ) (spans : List Span) (bytes : List ℕ) (texts : Bool)
    (log : List Span) (missed : Option Missing) (failure : ImageError) (budget : ℕ) (r : Result X Halt) → n < 2 ^ 63
    → texts ≡ true → Called f n spans bytes log missed r
    → IfWanted (found_or_wanted (with_error failure budget r)
    (option_map (wanted_of texts) (cond (is_faulted r) missed None)))
    (λ w. EndsBetween w.start (w.start + w.len) (f (filled_input n spans bytes)).marks)
reaches_end f n spans bytes texts log missed failure budget r short is_text call =
    by_fault (λ a. IfWanted a (λ w. EndsBetween w.start (w.start + w.len) (f (filled_input n spans bytes)).marks))
    (with_error failure budget r) texts short call (λ no_fault. tt)
    (λ m lacks is.
    let some = lacks.0 in let within = is.within in let reaches = is.reaches in
    rw (is_text, is.all) (middle is.made is.mark is.rest
    (λ s. leb (suc m.start) (s.start + s.len) && leb (s.start + s.len) (m.start + m.most)) (grind (arith, nat_tests))))

pub reaches_type : (type : ImageType) (answer : PartsAnswer (Result ImageSize ImageError)) (P : Span → Type 0)
    → IfWanted answer P → IfWanted (with_type type answer) P
reaches_type type answer P is = grind arith

-- the end of a read of the size is one of all reads
pub size_ends_of : (d : List ℕ) (type : ImageType) (answer : PartsAnswer (Result ImageSize ImageError))
    → ◌≡◌ {A = Result ImageType ImageError} (Ok type) (kind_of d 0).answer
    → IfWanted answer (λ w. EndsBetween w.start (w.start + w.len) (size_of type d).marks)
    → IfWanted answer (λ w. EndsBetween w.start (w.start + w.len) (meaning d 0).marks)
unfolding meaning_reads
size_ends_of d type answer is ends = grind (arith, stated_ok, any_right)

pub unstopped_type : (type : ImageType) (answer : PartsAnswer (Result ImageSize ImageError))
    → IfFound answer (λ r. is_stopped_error r ≡ false)
    → IfFound (with_type type answer) (λ found. is_stopped_error found.1 ≡ false)
unstopped_type type answer is = grind arith

pub fits : {T : Type 0} (texts : Bool) (n : ℕ) (spans : List Span) (bytes : List ℕ) (missed : Option Missing)
    (found : T) (test : Bool)
    → ForSome missed (Lacks (record { told = n; spans = spans; bytes = bytes }))
    → Fits n (found_or_wanted found (option_map (wanted_of texts) (cond test missed None)))
fits texts n spans bytes None found true lacks = tt
fits true n spans bytes (Some m) found true lacks =
    let is = lacks m refl in (let some = is.0 in let few = is.1 in omega arith, is.2)
fits false n spans bytes (Some m) found true lacks =
    let is = lacks m refl in (is.0, let few = is.1 in let within = is.2 in omega arith)
fits texts n spans bytes missed found false lacks = tt

-- all of what is told of the readings
pub tells_of : {X : Type 0} (texts : Bool) (f : List ℕ → Reads X) → IsLocal texts f → (n : ℕ) (spans : List Span)
    (bytes : List ℕ) (log : List Span) (missed : Option Missing) (failure : ImageError) (budget : ℕ) (r : Result X Halt)
    → Called f n spans bytes log missed r → TellsOf texts (λ d. outcome_of (f d)) n spans bytes
    (found_or_wanted (with_error failure budget r) (option_map (wanted_of texts) (cond (is_faulted r) missed None)))
tells_of texts f is_local n spans bytes log missed failure budget r call = record {
  says = λ d has short. says_of texts f is_local d n spans bytes has short log missed failure budget r call;
  fits = fits texts n spans bytes missed (with_error failure budget r) (is_faulted r) call.lacks;
  reaches = λ short is_text. reaches_end f n spans bytes texts log missed failure budget r short is_text call;
  unstopped = λ short. unstopped f n spans bytes texts log missed failure budget r short call;
}

-- ---- what the call left behind has the same parts

-- an answer says of each input that has the parts what these readings of it are
abbrev pub SaysOfEach : {X : Type 0} → Bool → (List ℕ → Reads X) → PartsAnswer (Result X ImageError) → ℕ → List Span
    → List ℕ → Type 0
SaysOfEach texts f answer n spans bytes = (d : List ℕ) → HasKnown d n spans bytes → n < 2 ^ 63
    → SaysOf texts (outcome_of (f d)) n spans bytes answer

-- what holds of the parts of a source holds of those that it has them from
pub moved : (P : ℕ → List Span → List ℕ → Type 0) (n m : ℕ) (spans others : List Span) (bytes content : List ℕ) → m ≡ n
    → others ≡ spans
    → content ≡ bytes → P m others content → P n spans bytes
moved P n m spans others bytes content told is_spans is_bytes p = grind arith

pub both_are : (s t : List Span) (xs ys : List ℕ) → ◌≡◌ {A = Option (List Span × List ℕ)} (Some (s, xs)) (Some (t, ys))
    → (s ≡ t) × (xs ≡ ys)
both_are s t xs ys e = grind arith

pub called : {X : Type 0} (f : List ℕ → Reads X) (n m k : ℕ) (spans others given : List Span)
    (bytes content their : List ℕ)
    (first log : List Span) (before missed : Option Missing) (r : Result X Halt) → k ≡ n → given ≡ spans → their ≡ bytes
    → first ≡ []
    → before ≡ None → Runs (parts_state k given their first before) (parts_state m others content log missed) r
    (f (filled_input k given their))
    → AllKnown m others content log → ForSome missed (Lacks (record { told = m; spans = others; bytes = content }))
    → Called f n spans bytes log missed r
called f n m k spans others given bytes content their first log before missed r told is_spans is_bytes none unmissed runs seen lacks =
    let parts = both_are others given content their (ap (λ a. parts_of a.backing) runs.frame) in
    let same : m ≡ k = ap (λ a. a.told) runs.frame in
    let run = rw (same, parts.0, parts.1) at runs in
    let known = rw (same, parts.0, parts.1) at seen in
    let missing = rw (same, parts.0, parts.1) at lacks in
    record {
      runs = rw (told, is_spans, is_bytes, none, unmissed) at run;
      seen = rw (told, is_spans, is_bytes) at known;
      lacks = rw (told, is_spans, is_bytes) at missing;
    }
