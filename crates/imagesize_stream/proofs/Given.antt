-- An input whose parts are given in rounds: what more of them leave known.
use Rattle.std.proofs.Common.{◌≡◌, ℕ, zero, suc, ◌+◌, ◌-◌, ◌<◌, ◌≤◌, max, min, inl, inr, List, [], ◌∷◌, ◌++◌, length, take, drop, Bool, false, cond, Option, Some, None, Ok, Err, refl, sym, ap, ◌∙◌, subst, arith}
use Rattle.std.proofs.Math.Seq.{take-add}
use Rattle.std.proofs.lemmas.Bool.{cases_lt}
use Rattle.std.proofs.lemmas.List.{drop-drop, drop_all, length-drop, length-take, take-append-drop, take_all, take_min}
use Rattle.std.specs.Result.{result_ok}
use Rattle.imagesize.specs.Meaning.{kind_reads, meaning_reads}
use Rattle.imagesize.specs.Parted.{texts_of}
use Rattle.imagesize.specs.declared.types.ImageType.{ImageType}
use Rattle.imagesize.specs.declared.types.ImageType.TheVariants.{Tga}
use Rattle.imagesize_fixed.specs.Tga.{is_tga_footer}
use Rattle.imagesize_pieces.proofs.Beginning.{begins_all, begins_left}
use Rattle.imagesize_pieces.proofs.Needing.{needs_among, needs_wider}
use Rattle.imagesize_pieces.specs.Stream.{AllBelow, Begins, EndsAt, NeedsAmong}
use Rattle.imagesize_pieces.specs.declared.stand.Stand.{Stand}
use Rattle.imagesize_source.specs.Input.{part}
use Rattle.imagesize_source.specs.declared.halt.Halt.TheVariants.{NotSupported}
use Rattle.imagesize_source.specs.declared.span.Span.{Span}
use Rattle.imagesize_stream.specs.Given.{HasPart, IsGiven, KnownBy, MayBeAt}
use Rattle.imagesize_stream.specs.Heard.{IsByFooter, OutOfHeader}
use Rattle.imagesize_stream.specs.Probe.{AheadBy, CameBy, CameTo, Continues, Counts, HoldsAt, HoldsBy, IfAwaiting, IsCut, IsNext, MarkedBy, NextBy, latest_by}
use Rattle.imagesize_stream.specs.Pushed.{stage_answer}
use Rattle.imagesize_stream.proofs.Coming.{awaiting_map, texts_stated}
use Rattle.imagesize_records.proofs.Far.{reach_few, reach_most, reach_some}
use Rattle.imagesize_types.specs.declared.size.ImageSize.{ImageSize}
use Rattle.imagesize_records.specs.declared.awaited.Awaited.{Awaited}
use Rattle.imagesize_stream.specs.declared.stage.Stage.{Stage}
use Rattle.imagesize_stream.specs.declared.stage.Stage.TheVariants.{Done, First, Footer, Records}

-- bytes from an offset on, as many as there are
pub cut_part : (d cut : List ℕ) (p n : ℕ) → cut ≡ part d p n → cut ≡ part d p (length cut)
unfolding part
cut_part d cut p n is =
    is ∙ sym (take_min n (drop p d)) ∙ ap (λ k. take k (drop p d)) (sym (ap length is ∙ length-take n (drop p d)))

-- the first bytes, and those after them
first_on : (d cut : List ℕ) (p : ℕ) → cut ≡ part d p (length cut) → take p d ++ cut ≡ take (p + length cut) d
unfolding part
first_on d cut p is = ap (λ xs. take p d ++ xs) is ∙ sym (take-add p (length cut) d)

-- an input begins with its first bytes
begins_first : (d : List ℕ) (told p : ℕ) → length d ≡ told → Begins (take p d) told d
begins_first d told p as_long = begins_left (take p d) (drop p d) told d
    (rw (take-append-drop p d) (begins_all d told (omega (arith, as_long))))

-- what begins with more of them begins with these
begins_less : (d e : List ℕ) (told p q : ℕ) → p ≤ q → Begins (take q d) told e → Begins (take p d) told e
begins_less d e told p q less begins =
    let more : p + (q - p) ≡ q = omega (arith, less) in
    begins_left (take p d) (take (q - p) (drop p d)) told e (rw (← take-add p (q - p) d, more) begins)

-- what is left of the first bytes
pub dropped : (n k : ℕ) (xs : List ℕ) → drop k (take n xs) ≡ take (n - k) (drop k xs)
dropped n zero xs = let e : n - 0 ≡ n = omega arith in rw e refl
dropped zero (suc k) xs = let e : 0 - suc k ≡ 0 = omega arith in rw e refl
dropped (suc n) (suc k) [] = sym (take_all (suc n - suc k) [] (omega arith))
dropped (suc n) (suc k) (x ∷ xs) = let e : suc n - suc k ≡ n - k = omega arith in rw e (dropped n k xs)

-- the bytes of two lists from a number of them on
pub drop_both : (n : ℕ) (xs ys : List ℕ) → drop n (xs ++ ys) ≡ drop n xs ++ drop (n - length xs) ys
drop_both zero xs ys = let e : 0 - length xs ≡ 0 = omega arith in rw e refl
drop_both (suc n) [] ys = let e : suc n - 0 ≡ suc n = omega arith in rw e refl
drop_both (suc n) (x ∷ xs) ys = let e : suc n - suc (length xs) ≡ n - length xs = omega arith in
    rw e (drop_both n xs ys)

-- bytes that were given from an earlier offset on
pub given_later : (d bytes : List ℕ) (offset p : ℕ) → offset ≤ p → p ≤ length d → HasPart d offset bytes
    → HasPart d p (drop (p - offset) bytes)
unfolding part
given_later d bytes offset p before within has =
    let left : length d - offset - (p - offset) ≡ length d - p = omega arith in
    let back : offset + (p - offset) ≡ p = omega arith in
    rw length-drop (simp (dropped, drop-drop, left, back) at (ap (drop (p - offset)) has))

-- those of the last bytes that came, where the last that came are kept
footer_left : (d buffer : List ℕ) (passed told : ℕ) → length d ≡ told → 18 ≤ passed → passed ≤ told
    → take 18 buffer ≡ drop (length (take passed d) - 18) (take passed d)
    → drop (told - passed) (take 18 buffer) ≡ drop (told - 18) (take passed d)
footer_left d buffer passed told as_long some within is =
    ap (drop (told - passed)) is ∙ drop-drop (told - passed) (length (take passed d) - 18) (take passed d)
    ∙ ap (λ k. drop k (take passed d)) (omega (arith, length-take passed d, as_long, some, within))

-- with more of them
pub footer_on : (d buffer new cut : List ℕ) (passed told : ℕ) → length d ≡ told → passed + length cut ≤ told
    → 18 ≤ length buffer → drop (told - passed) (take 18 buffer) ≡ drop (told - 18) (take passed d)
    → cut ≡ part d passed (length cut) → take (18 + length cut - length cut) new ≡ drop (length cut) (take 18 buffer ++ cut)
    → drop (told - (passed + length cut)) (take 18 new) ≡ drop (told - 18) (take (passed + length cut) d)
footer_on d buffer new cut passed told as_long within enough is is_part kept =
    let all : 18 + length cut - length cut ≡ 18 = omega arith in
    let at : length cut + (told - (passed + length cut)) ≡ told - passed = omega (arith, within) in
    let rest : told - passed - length (take 18 buffer) ≡ told - 18 - length (take passed d) =
    omega (arith, length-take 18 buffer, length-take passed d, as_long, within, enough) in
    ap (drop (told - (passed + length cut))) (rw all at kept)
    ∙ rw (drop-drop, at, drop_both, is, rest, ← drop_both (told - 18) (take passed d) cut)
    (ap (drop (told - 18)) (first_on d cut passed is_part))

-- all of them came
pub footer_came : (d new : List ℕ) (passed told : ℕ) → length d ≡ told → 18 ≤ told → told ≤ passed
    → drop (told - passed) (take 18 new) ≡ drop (told - 18) (take passed d) → take 18 new ≡ part d (length d - 18) 18
unfolding part
footer_came d new passed told as_long some all is =
    let none : told - passed ≡ 0 = omega (arith, all) in
    rw (take_all 18 (drop (length d - 18) d) (omega (arith, length-drop (length d - 18) d, as_long, some)), as_long)
    (rw (none, take_all passed d (omega (arith, as_long, all))) at is)

-- what a probe knows of an input that begins with the bytes that came
known_from : (stage : Stage) (kind : Option ImageType) (start offset passed told : ℕ) (buffer front d : List ℕ)
    → length d ≡ told → passed ≤ told → HoldsBy stage start offset passed → Begins front told d
    → IfAwaiting stage (front ≡ take passed d)
    → CameBy stage kind start offset passed told buffer front → KnownBy stage kind start offset passed told buffer d
known_from (Footer size) kind start offset passed told buffer front d as_long within holds begins is came =
    (came.3 d begins, footer_left d buffer passed told as_long holds within (rw is at came.1))
known_from (Done size) kind start offset passed told buffer front d as_long within holds begins is came =
    (came.0 d begins, came.1 d begins)
known_from stage kind start offset passed told buffer front d as_long within holds begins is came = rw is at came

awaiting_both : {P Q R : Type 0} (stage : Stage) → (P → Q → R) → IfAwaiting stage P → IfAwaiting stage Q
    → IfAwaiting stage R
awaiting_both stage f p q = grind arith

-- where bytes that are not needed are passed by
known_over : (stage : Stage) (kind : Option ImageType) (start offset passed end told : ℕ) (buffer d : List ℕ)
    → length d ≡ told → passed < start → HoldsBy stage start offset passed
    → AheadBy stage start passed end told → KnownBy stage kind start offset passed told buffer d
    → KnownBy stage kind start offset start told buffer d
known_over First kind start offset passed end told buffer d as_long over holds ahead known =
    absurd (omega (arith, over, holds.0))
known_over (Records next) kind start offset passed end told buffer d as_long over holds ahead known =
    let none : start - start ≡ 0 = omega arith in
    let many : start ≡ length (take start d) = omega (arith, length-take start d, as_long, ahead.1.0, ahead.1.1.0) in (
      (λ e begins. known.0 e (begins_less d e told passed start (omega (arith, over)) begins)),
      record {
        as_many = many;
        rest = rw none (sym (drop_all start (take start d) (omega (arith, many))));
        before = known.1.before;
        resumes = λ e begins. known.1.resumes e (begins_less d e told passed start (omega (arith, over)) begins);
      },
      known.2,
    )
known_over (Footer size) kind start offset passed end told buffer d as_long over holds ahead known = (
  known.0,
  drop_all (told - start) (take 18 buffer) (omega (arith, length-take 18 buffer, ahead.1.0, ahead.1.1.0))
      ∙ sym (drop_all (told - 18) (take start d) (omega (arith, length-take start d, ahead.1.0, ahead.1.1.0))),
)
known_over (Done size) kind start offset passed end told buffer d as_long over holds ahead known = known

pub known_behind : (stage : Stage) (kind : Option ImageType) (start offset passed next end told : ℕ) (buffer d : List ℕ)
    → length d ≡ told → next ≡ max passed start → HoldsBy stage start offset passed
    → AheadBy stage start passed end told → KnownBy stage kind start offset passed told buffer d
    → KnownBy stage kind start offset next told buffer d
known_behind stage kind start offset passed next end told buffer d as_long is holds ahead known =
    elim (cases_lt passed start) [
      | inl over ↦ subst (λ k. KnownBy stage kind start offset k told buffer d) (omega (arith, is, over))
          (known_over stage kind start offset passed end told buffer d as_long over holds ahead known)
      | inr none ↦ subst (λ k. KnownBy stage kind start offset k told buffer d) (omega (arith, is, none)) known
    ]

pub depends_behind : (stage : Stage) (start offset passed next end : ℕ) (d : List ℕ) → next ≡ max passed start
    → HoldsBy stage start offset passed → IfAwaiting stage (AllBelow passed (meaning_reads d 0).marks → ⊥)
    → MarkedBy (texts_of d) stage start passed end (meaning_reads d 0).marks
    → IfAwaiting stage (AllBelow next (meaning_reads d 0).marks → ⊥)
depends_behind stage start offset passed next end d is holds depends marked = grind arith

-- where no record is next
pub never_cut : (stage : Stage) (start end : ℕ) → ((next : Awaited) → stage ≡ Records next → ⊥) → IsCut stage start end end
never_cut stage start end never = grind arith

pub marked_behind : (texts : Bool) (stage : Stage) (start offset passed next end cut : ℕ) (marks : List Span)
    → next ≡ max passed start → IsCut stage start end cut → HoldsBy stage start offset passed
    → MarkedBy texts stage start passed end marks → MarkedBy texts stage start next cut marks
marked_behind texts stage start offset passed next end cut marks is ends holds marked = grind (arith, needs_wider)

-- before any byte came
pub none_given : (stage : Stage) (kind : Option ImageType) (stand : Stand) (buffer d : List ℕ)
    → length d ≡ stand.told → 132 ≤ length buffer → HoldsAt stage stand → CameTo stage kind stand buffer []
    → IsGiven stage kind stand buffer d
none_given stage kind stand buffer d as_long enough holds came =
    let none : IfAwaiting stage (◌≡◌ {A = List ℕ} [] (take stand.passed d)) = grind (arith, length-take {A = ℕ}) in record {
      as_long = as_long;
      known = known_from stage kind stand.start stand.offset stand.passed stand.told buffer [] d as_long stand.fits holds
          (record { first = refl; fits = omega (arith, as_long) }) none came;
    }

-- the footer tells it
pub footer_known : (d last : List ℕ) (size : ImageSize) (b : Bool) → IsByFooter size d
    → last ≡ part d (length d - 18) 18 → is_tga_footer last ≡ b
    → (result_ok (kind_reads d 0).answer ≡ cond b (Some Tga) None)
    × ((meaning_reads d 0).answer ≡ cond b (Ok size) (Err NotSupported))
footer_known d last size b by_footer is decides = grind arith

-- no bytes are those of any input
pub none_has : (d : List ℕ) (p : ℕ) → HasPart d p []
unfolding part
none_has d p = take_all (length d - p) [] (omega arith)

-- with more bytes of the input
pub given_on : (from to : Stage) (kind type : Option ImageType) (old new : Stand) (buffer after d cut : List ℕ)
    → Counts to old new cut → Continues from to kind type old new buffer after cut → length d ≡ old.told
    → CameTo from kind old buffer (take old.passed d) → cut ≡ part d old.passed (length cut) → MayBeAt to type new after d
given_on from to kind type old new buffer after d cut counts on as_long came is =
    let front : take old.passed d ++ cut ≡ take (old.passed + length cut) d = first_on d cut old.passed is in
    let begins : Begins (take old.passed d ++ cut) old.told d =
    rw front (begins_first d old.told (old.passed + length cut) as_long) in record {
      given = record {
        as_long = as_long ∙ sym counts.told;
        known = known_from to type new.start new.offset new.passed new.told after (take old.passed d ++ cut) d
            (as_long ∙ sym counts.told) new.fits counts.holds (rw counts.told begins)
            (awaiting_map to (λ at. front ∙ ap (λ k. take k d) (sym at)) counts.passed) (on.goes_on (take old.passed d) came);
      };
      depends = awaiting_both to (λ at rests below. rests (take old.passed d) came d begins as_long (λ p here.
          let early = below p here in let fits = new.fits in
          omega (arith, early, at, ap length front, length-take (old.passed + length cut) d, as_long, counts.told, fits)))
          counts.passed on.complete;
      marked = on.marked (take old.passed d) came d begins as_long;
    }

-- what is missing is ahead of what was passed by
pub next_behind : (stage : Stage) (start passed next end cut told : ℕ) → next ≡ max passed start
    → IsCut stage start end cut → AheadBy stage start passed end told → NextBy stage start next cut told
next_behind stage start passed next end cut told is ends ahead = grind (arith, reach_some)

module _ (kind : Option ImageType) (stage : Stage) (stand : Stand) (none : stage_answer kind stage ≡ None)
    (holds : HoldsAt stage stand) (next : IsNext stage stand) where
  pub next_none : (stand.passed < stand.end) × (stand.end ≤ stand.told) × (stand.end ≤ stand.passed + 1024)
  next_none = grind (arith, reach_most)

  -- where it ends at the latest
  pub early_none : stand.passed < 12 → stand.end ≤ 18
  early_none few = grind arith

  pub latest_none : stand.end ≤ latest_by stage stand.start stand.told
  latest_none = grind arith

  pub first_next : stand.passed ≡ 0 → min 18 stand.told ≤ stand.end
  first_next is = grind arith

-- the result depends on a byte of the requested span
pub marked_none : (kind : Option ImageType) (texts : Bool) (stage : Stage) (stand : Stand) (marks : List Span)
    → stage_answer kind stage ≡ None → MarkedBy texts stage stand.start stand.passed stand.end marks → OutOfHeader stand.passed
    → NeedsAmong texts stand.passed stand.end marks
marked_none kind texts First stand marks none marked out = marked.0 out
marked_none kind texts (Done size) stand marks none marked out = absurd cc
marked_none kind texts stage stand marks none marked out =
    needs_among texts _ _ stand.passed stand.end marks (omega arith) (omega arith) marked

-- where no text is read, a read ends where the span ends
pub exact_none : (kind : Option ImageType) (texts : Bool) (stage : Stage) (stand : Stand) (marks : List Span)
    → stage_answer kind stage ≡ None → IsNext stage stand → MarkedBy texts stage stand.start stand.passed stand.end marks
    → texts ≡ false → 18 < stand.end → EndsAt stand.end marks
exact_none kind texts stage stand marks none next marked without late = grind arith

-- before any byte came the stage is the first one
pub none_passed : (kind : Option ImageType) (stage : Stage) (stand : Stand) → stage_answer kind stage ≡ None
    → HoldsAt stage stand → stand.passed ≡ 0 → stand.start ≤ 0
none_passed kind stage stand none holds is = grind arith

-- In a format without texts, few bytes are requested.
pub few_none : (kind : Option ImageType) (stage : Stage) (stand : Stand) (buffer d : List ℕ) → stage_answer kind stage ≡ None
    → length d ≡ stand.told → HoldsAt stage stand → IsNext stage stand
    → KnownBy stage kind stand.start stand.offset stand.passed stand.told buffer d → texts_of d ≡ false
    → stand.end ≤ stand.passed + 132
few_none kind stage stand buffer d none as_long holds next known without =
    let begins = begins_first d stand.told stand.passed as_long in
    let texts = texts_stated (kind_reads d 0).answer in grind (arith, reach_few)
