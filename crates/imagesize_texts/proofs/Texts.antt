-- Texts that were read: what was made of them, and what holds of layouts that read them.
use Rattle.std.proofs.Common.{◌≡◌, ℕ, suc, ◌+◌, ◌-◌, ◌^◌, ◌<◌, ◌≤◌, min, Bool, true, false, not, cond, eqb, ltb, List, [], ◌∷◌, length, take, drop, Option, Result, Ok, Err, IfOk, refl, sym, ap, ◌∙◌, subst, arith}
use Rattle.std.proofs.lemmas.Bool.{and_parts}
use Rattle.std.proofs.lemmas.Bool.Decides.{nat_tests}
use Rattle.std.proofs.lemmas.List.{length-take}
use Rattle.std.proofs.lemmas.List.Folds.{list_any_at}
use Rattle.std.specs.Char.{is_ascii_whitespace}
use Rattle.std.specs.List.{list_any}
use Rattle.std.specs.Str.{is_utf8}
use Rattle.imagesize_source.specs.declared.halt.Halt.{Halt}
use Rattle.imagesize_source.specs.declared.halt.Halt.TheVariants.{Ended, NoDelimiter, NotUtf8}
use Rattle.imagesize_source.specs.declared.text.Text.{Text}
use Rattle.imagesize_source.specs.declared.text.Text.TheVariants.{Line, Word}
use Rattle.imagesize_source.specs.Chain.{Said}
use Rattle.imagesize_source.specs.Extension.{Plain, Never}
use Rattle.imagesize_source.specs.Input.{span_at}
use Rattle.imagesize_source.specs.Layout.{Layout, layout_reads, accept, text}
use Rattle.imagesize_source.specs.Layout.Layout.{refuse}
use Rattle.imagesize_source.specs.Reading.{just, refuses, put_behind, text_part, text_read, is_stop, map_answer, is_stopped}
use Rattle.imagesize_source.specs.State.{State, Runs, total}
use Rattle.imagesize_source.specs.Text.{is_ended, space_before}
use Rattle.imagesize_source.proofs.Advances.{Tells, Begins}
use Rattle.imagesize_source.proofs.Counts.{text_length, total-span_at}
use Rattle.imagesize_source.proofs.PastTheEnd.{saturated_by}
use Rattle.imagesize_source.proofs.Runs.{answered, part_is, plain_end, total-append, without_fault}
use Rattle.imagesize_source.proofs.Spends.{Onto}
use Rattle.imagesize_source.proofs.Tests.{on_test}
use Rattle.imagesize_texts.specs.Contents.{WordRead, word_room, last_byte, before_last, last_passes, no_end, utf8, line_text, line_length, word_text, ended_word, word_of, word_at, is_word_end, behind_space}
use Rattle.imagesize_texts.specs.Texts.{passed_line, word, text_as}
use Rattle.imagesize_source.proofs.Parts.{part_length}

-- a text that has no end or is not UTF-8 does not end the call at once
no_end_goes_on : (most count : ℕ) → is_stop (no_end most count) ≡ false
no_end_goes_on most count = on_test (λ e. is_stop e ≡ false) (eqb count most) (NoDelimiter most) Ended (λ _. refl) (λ _. refl)

utf8_goes_on : (bs : List ℕ) → is_stopped (utf8 bs) ≡ false
unfolding utf8
utf8_goes_on bs = on_test (λ r. is_stopped r ≡ false) (is_utf8 bs) (Ok bs) (Err NotUtf8) (λ _. refl) (λ _. refl)

seen_goes_on : {X Y : Type 0} (f : X → Y) (r : Result X Halt) → is_stopped (map_answer f r) ≡ is_stopped r
seen_goes_on f (Ok x) = refl
seen_goes_on f (Err e) = refl

-- a text has bytes where something was made of it
passes_some : (p : ℕ → Bool) (bs : List ℕ) → last_passes p bs ≡ true → 0 < length bs
passes_some p bs is = let some = (and_parts (ltb 0 (length bs)) (p (last_byte bs)) is).0 in grind (arith, nat_tests)

passes_last : (p : ℕ → Bool) (bs : List ℕ) → last_passes p bs ≡ true → p (last_byte bs) ≡ true
passes_last p bs is = (and_parts (ltb 0 (length bs)) (p (last_byte bs)) is).1

utf8_same : (bs text : List ℕ) → utf8 bs ≡ Ok text → bs ≡ text
unfolding utf8
utf8_same bs text = on_test (λ r. r ≡ Ok text → bs ≡ text) (is_utf8 bs) (Ok bs) (Err NotUtf8) (λ _ is. cc)
    (λ _ is. absurd cc)

seen_ok : {X Y : Type 0} (f : X → Y) (r : Result X Halt) (y : Y) → map_answer f r ≡ Ok y → (x : X) × (y ≡ f x)
seen_ok f (Ok x) y is = (x, cc)
seen_ok f (Err e) y is = absurd cc

-- the text ended where a byte that ends it is the last
any_last : (p q : ℕ → Bool) (bs : List ℕ) → last_passes p bs ≡ true → (p (last_byte bs) ≡ true → q (last_byte bs) ≡ true)
    → list_any q bs ≡ true
any_last p q bs is so = list_any_at q bs (length bs - 1) 0 (omega (arith, passes_some p bs is)) (so (passes_last p bs is))

behind_space_le : (bs : List ℕ) → length (behind_space bs) ≤ length bs
behind_space_le [] = omega arith
behind_space_le (b ∷ bs) =
    on_test (λ rest. length rest ≤ length (b ∷ bs)) (is_ascii_whitespace b) (behind_space bs) (b ∷ bs)
    (λ _. omega (arith, behind_space_le bs)) (λ _. omega arith)

drop_space : (bs : List ℕ) → drop (space_before Word bs) bs ≡ behind_space bs
drop_space [] = refl
drop_space (b ∷ bs) =
    let one : 1 + space_before Word bs ≡ suc (space_before Word bs) = omega arith in
    let Goal : Bool → Type 0 = λ is. drop (cond (not (not is)) (1 + space_before Word bs) 0) (b ∷ bs)
    ≡ cond is (behind_space bs) (b ∷ bs) in
    elim (is_ascii_whitespace b) as Goal [ true ↦ ap (λ n. drop n (b ∷ bs)) one ∙ drop_space bs | false ↦ refl ]

-- What is made of the bytes of a text: an error that does not end the call, or an answer. An answer takes all of the bytes. There
-- is at least one, and one of them ends the text.
pub record Made {A : Type 0} (t : Text) (most : ℕ) (f : List ℕ → Result A Halt) (taken : A → ℕ) : Type 0 where
  pub goes_on : (bs : List ℕ) → is_stopped (f bs) ≡ false
  pub ok : (bs : List ℕ) (x : A) → f bs ≡ Ok x → (length bs ≡ taken x) × (0 < length bs) × (is_ended t bs ≡ true)
  pub none : 0 < most → f [] ≡ Err Ended

-- a line takes one byte more than its text has, and the byte that ends it is among them
pub line_ok : (delimiter most : ℕ) (bs text : List ℕ) → line_text delimiter most bs ≡ Ok text
    → (length bs ≡ length text + 1)
    × (last_passes (λ b. eqb b delimiter) bs ≡ true)
unfolding line_text
line_ok delimiter most bs text =
    on_test (λ r. r ≡ Ok text → (length bs ≡ length text + 1) × (last_passes (λ b. eqb b delimiter) bs
    ≡ true)) (last_passes (λ b. eqb b delimiter) bs) (utf8 (before_last bs)) (Err (no_end most (length bs)))
    (λ ends is. (
      omega (
        arith,
        passes_some (λ b. eqb b delimiter) bs ends,
        ap length (utf8_same (before_last bs) text is),
        length-take (length bs - 1) bs,
      ),
      ends,
    ))
    (λ _ is. absurd cc)

pub line_made : (delimiter most : ℕ) → Made (Line delimiter) most (line_text delimiter most) (λ text. length text + 1)
unfolding line_text is_ended
line_made delimiter most = record {
  goes_on = λ bs. on_test (λ r. is_stopped r ≡ false) (last_passes (λ b. eqb b delimiter) bs) (utf8 (before_last bs)) _
      (λ _. utf8_goes_on (before_last bs)) (λ _. no_end_goes_on most (length bs));
  ok = λ bs text is. let ok = line_ok delimiter most bs text is in
      (ok.0, omega (arith, ok.0), any_last (λ b. eqb b delimiter) (λ b. eqb b delimiter) bs ok.1 (λ ends. ends));
  none = λ some. let test : eqb 0 most ≡ false = grind (arith, nat_tests) in rw test refl;
}

pub length_made : (delimiter most : ℕ) → Made (Line delimiter) most (line_length delimiter most) (λ n. n)
unfolding line_length is_ended
length_made delimiter most = record {
  goes_on = λ bs. on_test (λ r. is_stopped r ≡ false) (last_passes (λ b. eqb b delimiter) bs) (Ok (length bs)) _
      (λ _. refl) (λ _. no_end_goes_on most (length bs));
  ok = λ bs n. on_test (λ r. r ≡ Ok n → (length bs ≡ n) × (0 < length bs) × (list_any (λ b. eqb b delimiter) bs ≡ true))
      (last_passes (λ b. eqb b delimiter) bs) (Ok (length bs)) (Err (no_end most (length bs)))
      (λ ends is. (
        cc,
        passes_some (λ b. eqb b delimiter) bs ends,
        any_last (λ b. eqb b delimiter) (λ b. eqb b delimiter) bs ends (λ ends. ends),
      ))
      (λ _ is. absurd cc);
  none = λ some. let test : eqb 0 most ≡ false = grind (arith, nat_tests) in rw test refl;
}

-- a word takes the bytes that were read, of which there are some, and white space ends it
word_ok : (bs : List ℕ) (w : WordRead) → word_text bs ≡ Ok w → (length bs ≡ w.taken)
    × (last_passes (λ b. is_word_end b (length bs)) (behind_space bs) ≡ true)
unfolding word_text ended_word
word_ok bs w = on_test
    (λ r. r ≡ Ok w → (length bs ≡ w.taken) × (last_passes (λ b. is_word_end b (length bs)) (behind_space bs) ≡ true))
    (last_passes (λ b. is_word_end b (length bs)) (behind_space bs)) (word_of (length bs) (behind_space bs))
    (Err (no_end word_room (length bs)))
    (λ ends is.
    let text = seen_ok (word_at (length bs) (behind_space bs)) (utf8 (before_last (behind_space bs))) w is in
    (sym (ap (λ w. w.taken) text.1), ends))
    (λ _ is. absurd cc)

-- the last byte is white space, and there is room
word_end : (bs : List ℕ) (w : WordRead) → word_text bs ≡ Ok w
    → (is_ascii_whitespace (last_byte (behind_space bs)) ≡ true) × (ltb (length bs) word_room ≡ true)
word_end bs w is = and_parts (is_ascii_whitespace (last_byte (behind_space bs))) (ltb (length bs) word_room)
    (passes_last (λ b. is_word_end b (length bs)) (behind_space bs) (word_ok bs w is).1)

pub word_made : Made Word word_room word_text (λ w. w.taken)
unfolding word_text ended_word is_ended
word_made = record {
  goes_on = λ bs. on_test (λ r. is_stopped r ≡ false) (last_passes (λ b. is_word_end b (length bs)) (behind_space bs))
      (word_of (length bs) (behind_space bs)) _
      (λ _. seen_goes_on (word_at (length bs) (behind_space bs)) (utf8 (before_last (behind_space bs)))
      ∙ utf8_goes_on (before_last (behind_space bs)))
      (λ _. no_end_goes_on word_room (length bs));
  ok = λ bs w is.
      let ok = word_ok bs w is in
      let ends : ℕ → Bool = λ b. is_word_end b (length bs) in (
        ok.0,
        omega (arith, passes_some ends (behind_space bs) ok.1, behind_space_le bs),
        ap (list_any is_ascii_whitespace) (drop_space bs)
            ∙ any_last ends is_ascii_whitespace (behind_space bs) ok.1 (λ _. (word_end bs w is).0),
      );
  none = λ _. refl;
}

-- what was read of a text, by what is made of its bytes
module _ {A : Type 0} {t : Text} {most : ℕ} {f : List ℕ → Result A Halt} {taken : A → ℕ} (made : Made t most f taken) where
  pub text_runs : {a b : State} (d buffer : List ℕ) (offset n : ℕ) (r : Result A Halt) → length buffer ≡ most
      → Runs a b (Ok (take n buffer)) (text_read d t offset (length buffer)) → r ≡ f (take n buffer)
      → Runs a b r (text_as d t offset most f)
  text_runs {a} {b} d buffer offset n r long h is =
      let goes_on : is_stopped r ≡ false = ap is_stopped is ∙ made.goes_on (take n buffer) in
      answered r (text_as d t offset most f) (subst (λ k. Runs a b (Ok (take n buffer)) (text_read d t offset k)) long h) refl
      (λ read. ap f (part_is read) ∙ sym is) goes_on (without_fault r goes_on) (plain_end b r goes_on)

  pub text_made : {B : Type 0} (P : B → Type 0) (v : B → A) (buffer : List ℕ) (n : ℕ) (r : Result B Halt)
      → map_answer v r ≡ f (take n buffer)
      → ((x : B) → 0 < taken (v x) → taken (v x) ≤ n → taken (v x) ≤ length buffer → P x) → IfOk r P
  text_made P v buffer n (Ok x) is each =
      let ok = made.ok (take n buffer) (v x) (sym is) in
      let few = length-take n buffer in
      each x (omega (arith, ok.0, ok.1)) (omega (arith, ok.0)) (omega (arith, ok.0))
  text_made P v buffer n (Err why) is each = tt

pub same_answer : {A : Type 0} (r : Result A Halt) → map_answer (λ x. x) r ≡ r
same_answer (Ok x) = refl
same_answer (Err e) = refl

pub word_bound : {A : Type 0} (v : A → WordRead) (buffer : List ℕ) (n : ℕ) (r : Result A Halt)
    → (map_answer v r ≡ word_text (take n buffer))
    → IfOk r (λ w. (0 < (v w).taken) × ((v w).taken < word_room))
word_bound v buffer n (Ok x) is =
    let ok = word_made.ok (take n buffer) (v x) (sym is) in
    let few : length (take n buffer) < word_room =
    let test = (word_end (take n buffer) (v x) (sym is)).1 in grind (arith, nat_tests) in
    (omega (arith, ok.0, ok.1), omega (arith, ok.0, few))
word_bound v buffer n (Err why) is = tt

-- what holds of what goes on and of a refusal
pub found_by : {X Y : Type 0} (P : Layout Y → Type 0) (r : Result X Halt) (f : X → Layout Y)
    → ((x : X) → r ≡ Ok x → P (f x))
    → ((e : Halt) → P (refuse e)) → P (accept r f)
found_by P (Ok x) f goes_on out = goes_on x refl
found_by P (Err e) f goes_on out = out e

-- beyond the end of the input a text has no byte
none_left : (bs : List ℕ) → length bs ≡ 0 → bs ≡ []
none_left [] is = refl
none_left (b ∷ bs) is = absurd (omega arith)

text_none : (d : List ℕ) (t : Text) (offset k : ℕ) → length d ≤ offset → text_part d t offset k ≡ []
text_none d t offset k h =
    none_left (text_part d t offset k) (omega (arith, text_length d t offset k, part_length d offset k))

-- what holds of a layout that goes on from a text
module _ {A X : Type 0} {t : Text} {most : ℕ} {f : List ℕ → Result A Halt} {taken : A → ℕ} (made : Made t most f taken)
    (offset : ℕ) (g : A → Layout X)
  where
    -- where each text leads on to at most k bytes with its own, so does the reading
    pub text_total : (d : List ℕ) (k : ℕ) → most ≤ k
        → ((x : A) → taken x ≤ most → taken x + total (layout_reads d (g x)).marks ≤ k)
        → total (layout_reads d (text t offset most (λ bs. accept (f bs) g))).marks ≤ k
    text_total d k few rest =
        let bs : List ℕ = text_part d t offset most in
        let short : length bs ≤ most = omega (arith, text_length d t offset most, part_length d offset most) in
        let sum : length bs + total (layout_reads d (accept (f bs) g)).marks ≤ k =
        found_by (λ t. length bs + total (layout_reads d t).marks ≤ k) (f bs) g
        (λ x is. let same = (made.ok bs x is).0 in omega (arith, rest x (omega arith))) (λ e. omega arith) in
        omega (
          arith,
          total-span_at offset (length bs),
          total-append (span_at offset (length bs)) (layout_reads d (accept (f bs) g)).marks,
        )

    pub text_onto : (to : X → Option ℕ) (q : ℕ) → q ≤ offset → ((x : A) → Onto to (offset + taken x) (g x))
        → Onto to q (text t offset most (λ bs. accept (f bs) g))
    text_onto to q here rest = (
      here,
      λ bs. found_by (Onto to (offset + length bs)) (f bs) g
          (λ x is. subst (λ n. Onto to (offset + n) (g x)) (sym (made.ok bs x is).0) (rest x)) (λ e. tt),
    )

    pub text_plain : ((x : A) → Plain (g x)) → Plain (text t offset most (λ bs. accept (f bs) g))
    text_plain rest = λ bs. (
      λ open_end _. found_by Never (f bs) g (λ x is. absurd (let ended = (made.ok bs x is).2 in cc)) (λ e. tt),
      found_by Plain (f bs) g (λ x _. rest x) (λ e. tt),
    )

    -- past the end of the input the result is an error, and no span is seen
    pub text_beyond : (d : List ℕ) → length d ≤ offset → 0 < most
        → layout_reads d (text t offset most (λ bs. accept (f bs) g)) ≡ refuses Ended
    unfolding span_at
    text_beyond d far some =
        ap (λ bs. put_behind (span_at offset (length bs)) (layout_reads d (accept (f bs) g)))
        (text_none d t offset most far)
        ∙ ap (λ r. layout_reads d (accept r g)) (made.none some)

module _ {A C X : Type 0} {t : Text} {most : ℕ} {f : List ℕ → Result A Halt} {taken : A → ℕ} (made : Made t most f taken)
    (offset : ℕ) (g : A → Layout (Said C X))
  where
    pub text_tells : (P : ℕ → Type 0) → ((x : A) → 0 < taken x → Tells P (g x))
        → Tells P (text t offset most (λ bs. accept (f bs) g))
    text_tells P rest = λ bs. found_by (Tells P) (f bs) g
        (λ x is. let ok = made.ok bs x is in rest x (omega (arith, ok.0, ok.1))) (λ e. tt)

    pub text_begins : (q : ℕ) → q ≤ offset → Begins q (text t offset most (λ bs. accept (f bs) g))
    text_begins q here = (
      here,
      found_by (Tells (λ _. ⊥)) (f []) g (λ x is. absurd (omega (arith, (made.ok [] x is).1))) (λ e. tt),
    )

-- the same for a line that is passed and for a word
pub passed_tells_on : {C X : Type 0} (delimiter offset most : ℕ) (f : ℕ → Layout (Said C X)) (P : ℕ → Type 0)
    → ((n : ℕ) → 0 < n → Tells P (f n))
    → Tells P (passed_line delimiter offset most f)
passed_tells_on delimiter offset most = text_tells (length_made delimiter most) offset

pub passed_begins : {C X : Type 0} (delimiter offset most : ℕ) (f : ℕ → Layout (Said C X))
    → Begins offset (passed_line delimiter offset most f)
passed_begins delimiter offset most f = text_begins (length_made delimiter most) offset f offset (omega arith)

pub passed_beyond : {X : Type 0} (d : List ℕ) (delimiter offset most : ℕ) (f : ℕ → Layout X) → length d ≤ offset
    → 0 < most
    → layout_reads d (passed_line delimiter offset most f) ≡ refuses Ended
passed_beyond d delimiter offset most f = text_beyond (length_made delimiter most) offset f d

module _ {C X : Type 0} (offset : ℕ) (f : WordRead → Layout (Said C X)) where
  pub word_tells : (P : ℕ → Type 0) → ((w : WordRead) → 0 < w.taken → Tells P (f w)) → Tells P (word offset f)
  word_tells = text_tells word_made offset f

  pub word_begins : (q : ℕ) → q ≤ offset → Begins q (word offset f)
  word_begins = text_begins word_made offset f

pub word_beyond : {X : Type 0} (d : List ℕ) (offset : ℕ) (f : WordRead → Layout X) → length d ≤ offset
    → layout_reads d (word offset f)
    ≡ refuses Ended
word_beyond d offset f far = text_beyond word_made offset f d far (omega arith)

-- no input is so long that a text stands beyond 64 bits
pub text_saturated : {X : Type 0} {a b : State} {r : Result X Halt} (t : Text) (offset at k : ℕ)
    (f : List ℕ → Result X Halt)
    → Runs a b r (text_as a.held.input t at k f) → at ≡ min offset (2 ^ 64 - 1)
    → Runs a b r (text_as a.held.input t offset k f)
unfolding span_at
text_saturated t offset at k f = saturated_by (λ p d. text_as d t p k f) (just (f []) []) offset at
    (λ d p far. ap (λ bs. just (f bs) (span_at p (length bs))) (text_none d t p k far))
