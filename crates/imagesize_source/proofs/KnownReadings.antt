-- What a reading of known parts sees, and what it misses.
use Rattle.std.proofs.Common.{◌≡◌, ℕ, suc, ◌+◌, ◌-◌, ◌<◌, ◌≤◌, min, Bool, true, false, ◌&&◌, not, leb, List, [], ◌∷◌, ◌++◌, length, take, drop, Option, Some, Ok, Err, inl, inr, refl, sym, ap, ◌∙◌, subst, arith, append_assoc}
use Rattle.std.proofs.lemmas.Bool.{cases_Bool, cases_lt}
use Rattle.std.proofs.lemmas.Bool.Decides.{nat_tests}
use Rattle.std.proofs.lemmas.List.{length-append, length-take, length-drop, take-append-drop, take-take, take-append-le, append-nil}
use Rattle.std.proofs.Math.Bool.{and-false}
use Rattle.imagesize_source.specs.declared.halt.Halt.TheVariants.{Failed}
use Rattle.imagesize_source.specs.declared.source.known.Missing.{Missing}
use Rattle.imagesize_source.specs.declared.span.Span.{Span}
use Rattle.imagesize_source.specs.declared.text.Text.{Text}
use Rattle.imagesize_source.specs.Input.{part, span_at, span_of}
use Rattle.imagesize_source.specs.Known.{filled_input, parts_state}
use Rattle.imagesize_source.specs.Reading.{Reads, part_read, text_part, text_read}
use Rattle.imagesize_source.specs.State.{State, Runs, IsSound, state_after}
use Rattle.imagesize_source.specs.Text.{is_ended, text_front}
use Rattle.imagesize_source.proofs.Agreement.{span-some}
use Rattle.imagesize_source.proofs.Texts.{ended_more, front_all, front_any, front_length, front_more, front_take}
use Rattle.imagesize_source.proofs.Known.{length-filled_input}
use Rattle.imagesize_source.proofs.Parts.{part_length, part_front, part_whole}
use Rattle.imagesize_source.proofs.Slices.{given_runs}

-- the spans of readings are recorded behind those before
pub past-parts : (n : ℕ) (spans : List Span) (bytes : List ℕ) (log : List Span) (missed : Option Missing)
    (more : List Span)
    → state_after (parts_state n spans bytes log missed) more ≡ parts_state n spans bytes (log ++ more) missed
unfolding state_after
past-parts n spans bytes log missed [] = ap (λ s. parts_state n spans bytes s missed) (sym (append-nil log))
past-parts n spans bytes log missed (s ∷ more) = past-parts n spans bytes (log ++ s ∷ []) missed more
    ∙ ap (λ t. parts_state n spans bytes t missed) (append_assoc log (s ∷ []) more)

pub parts_sound : (n : ℕ) (spans : List Span) (bytes : List ℕ) (log : List Span) (missed : Option Missing)
    → IsSound (parts_state n spans bytes log missed)
parts_sound n spans bytes log missed = grind (arith, length-filled_input)

-- one that is not ended goes on behind its bytes
pub goes_behind : (t : Text) (xs ys : List ℕ) → is_ended t xs ≡ false → 0 < length ys
    → length xs < length (text_front t (xs ++ ys))
goes_behind t xs ys still some =
    let m : ℕ = length (text_front t (xs ++ ys)) in
    elim (cases_lt (length xs) m) [
      | inl less ↦ less
      | inr few ↦ absurd (elim (cases_Bool (is_ended t (xs ++ ys))) [
        | inl is ↦ (
            let front : text_front t (xs ++ ys) ≡ take m xs = sym (front_take t (xs ++ ys)) ∙ take-append-le m xs ys few in
            let ended : is_ended t (take m xs) ≡ true = ap (is_ended t) (sym front) ∙ front_any t (xs ++ ys) ∙ is in
            let whole = ended_more t (take m xs) (drop m xs) ended in
            let no : true ≡ false = sym whole ∙ ap (is_ended t) (take-append-drop m xs) ∙ still in cc
            )
        | inr open_end ↦ omega (arith, ap length (front_all t (xs ++ ys) open_end), length-append xs ys, few, some)
      ])
    ]

-- a part goes on behind its first bytes
pub part_split : (d : List ℕ) (offset k found : ℕ) → found ≤ k
    → part d offset k ≡ part d offset found ++ drop found (part d offset k)
part_split d offset k found few = sym (take-append-drop found (part d offset k))
    ∙ ap (λ bs. bs ++ drop found (part d offset k)) (part_front d offset found k few)

module _ (n : ℕ) (spans : List Span) (bytes : List ℕ) (log : List Span) (missed : Option Missing) where
  abbrev filled : List ℕ
  filled = filled_input n spans bytes

  abbrev before : State
  before = parts_state n spans bytes log missed

  -- a reading that was answered
  answers : {X : Type 0} (reads : Reads X) (b : State) (x : X)
      → b ≡ parts_state n spans bytes (log ++ reads.marks) missed → reads.answer ≡ Ok x → Runs before b (Ok x) reads
  answers reads b x after is =
      given_runs x (parts_sound n spans bytes log missed)
      (subst IsSound (sym after) (parts_sound n spans bytes (log ++ reads.marks) missed))
      (ap (λ (s : State). s.frame) after) (ap (λ (s : State). s.taken) after) is
      (after ∙ sym (past-parts n spans bytes log missed reads.marks))

  -- one that misses a byte
  fails : {X : Type 0} (reads : Reads X) (b : State) (w : Missing) (offset m found : ℕ)
      → b ≡ parts_state n spans bytes (log ++ span_at offset found) (Some w) → reads.marks ≡ span_at offset m → 0 < m
      → w.start ≡ offset + found → found + w.sure ≤ m → m ≤ found + w.most → Runs before b (Err Failed) reads
  fails {X} reads b w offset m found after marks some at within reaches =
      subst (λ s. Runs before s (Err Failed) reads) (sym after) (record {
        sound = parts_sound n spans bytes log missed;
        sound_after = parts_sound n spans bytes (log ++ span_at offset found) (Some w);
        frame = refl;
        taken = omega arith;
        within = λ honest. omega arith;
        answer = λ honest goes_on. absurd cc;
        state = λ honest goes_on. absurd cc;
        fault = λ honest faults. refl;
        misses = λ honest faults. record {
          told = record {
            made = [];
            mark = record { start = offset; len = m };
            rest = [];
            recorded = ap (λ i. Some (log ++ span_at offset i)) (omega (arith, at));
            all = marks ∙ span-some offset m some;
            behind = omega (arith, at);
            within = omega (arith, at, within);
            reaches = omega (arith, at, reaches);
          };
        };
        ended = record { budget = λ e. absurd cc; fault = λ faults. tt };
      })

  -- how long a reading of k bytes is
  wanted_is : (offset k wanted : ℕ) → wanted ≡ min k (n - offset) → wanted ≡ min k (length filled - offset)
  wanted_is offset k wanted is = omega (arith, is, length-filled_input n spans bytes)

  span_is : (offset k wanted : ℕ) → wanted ≡ min k (n - offset) → span_of filled offset k ≡ span_at offset wanted
  unfolding span_of
  span_is offset k wanted is = grind (arith, length-filled_input)

  pub parts_read : (b : State) (buffer : List ℕ) (offset wanted found : ℕ) → wanted ≡ min (length buffer) (n - offset)
      → found ≤ wanted → wanted ≤ found → take found buffer ≡ part filled offset found
      → b ≡ parts_state n spans bytes (log ++ span_at offset found) missed
      → Runs before b (Ok (take found buffer)) (part_read filled offset (length buffer))
  parts_read b buffer offset wanted found long fits all copied after =
      let same : found ≡ min (length buffer) (n - offset) = omega (arith, fits, all, long) in
      answers (part_read filled offset (length buffer)) b (take found buffer)
      (rw (span_is offset (length buffer) found same) after)
      (ap Ok (part_whole filled offset (length buffer) found (wanted_is offset (length buffer) found same) ∙ sym copied))

  pub parts_missing : (b : State) (k offset wanted found : ℕ) (w : Missing) → wanted ≡ min k (n - offset) → found < wanted
      → w.start ≡ offset + found → w.sure ≡ wanted - found → w.most ≡ wanted - found
      → b ≡ parts_state n spans bytes (log ++ span_at offset found) (Some w)
      → Runs {X = List ℕ} before b (Err Failed) (part_read filled offset k)
  parts_missing b k offset wanted found w long short at sure most after =
      fails (part_read filled offset k) b w offset wanted found after (span_is offset k wanted long) (omega (arith, short))
      at (omega (arith, sure, short)) (omega (arith, most, short))

  text_is : (t : Text) (offset k wanted found : ℕ) → wanted ≡ min k (n - offset) → found ≤ wanted
      → leb (suc found) wanted && not (is_ended t (part filled offset found)) ≡ false
      → text_part filled t offset k ≡ text_front t (part filled offset found)
  unfolding text_part
  text_is t offset k wanted found long fits uncut = elim (cases_Bool (is_ended t (part filled offset found))) [
    | inl is ↦ ap (text_front t) (part_split filled offset k found (omega (arith, long, fits)))
        ∙ front_more t (part filled offset found) (drop found (part filled offset k)) is
    | inr is ↦ (
        let test = rw is at uncut in
        let all : found ≡ wanted = grind (arith, nat_tests) in
        ap (text_front t) (part_whole filled offset k found (all ∙ wanted_is offset k wanted long))
        )
  ]

  pub parts_text : (b : State) (t : Text) (buffer : List ℕ) (offset wanted found count : ℕ)
      → wanted ≡ min (length buffer) (n - offset) → found ≤ wanted → take found buffer ≡ part filled offset found
      → leb (suc found) wanted && not (is_ended t (take found buffer)) ≡ false
      → count ≡ length (text_front t (take found buffer))
      → b ≡ parts_state n spans bytes (log ++ span_at offset count) missed
      → Runs before b (Ok (take count buffer)) (text_read filled t offset (length buffer))
  parts_text b t buffer offset wanted found count long fits copied uncut counts after =
      let is : text_part filled t offset (length buffer) ≡ text_front t (take found buffer) =
      rw copied (text_is t offset (length buffer) wanted found long fits (rw copied at uncut)) in
      let few : count ≤ found = omega (arith, counts, front_length t (take found buffer), length-take found buffer) in
      let got : take count buffer ≡ text_front t (take found buffer) =
      sym (take-take count found buffer few) ∙ ap (λ k. take k (take found buffer)) counts
      ∙ front_take t (take found buffer) in
      answers (text_read filled t offset (length buffer)) b (take count buffer)
      (after ∙ ap (λ k. parts_state n spans bytes (log ++ span_at offset k) missed) (counts ∙ ap length (sym is)))
      (ap Ok (is ∙ sym got))

  -- a text whose bytes are known, with the one that ends it
  pub parts_ended : (b : State) (t : Text) (buffer : List ℕ) (offset m : ℕ) → m ≤ length buffer → m ≤ n - offset
      → take m buffer ≡ part filled offset m
      → is_ended t (take m buffer) ≡ true → text_front t (take m buffer) ≡ take m buffer
      → b ≡ parts_state n spans bytes (log ++ span_at offset m) missed
      → Runs before b (Ok (take m buffer)) (text_read filled t offset (length buffer))
  parts_ended b t buffer offset m fits there known ended whole after =
      parts_text b t buffer offset (min (length buffer) (n - offset)) m m refl (omega (arith, fits, there)) known
      (rw ended (and-false (leb (suc m) (min (length buffer) (n - offset)))))
      (omega (arith, ap length whole, length-take m buffer, fits)) after

  -- a text whose first bytes do not end it, and of which more are wanted
  pub parts_text_missing : (b : State) (t : Text) (offset k wanted found : ℕ) (w : Missing)
      → wanted ≡ min k (n - offset) → found < wanted → is_ended t (part filled offset found) ≡ false → w.start ≡ offset + found
      → w.sure ≡ 1 → w.most ≡ wanted - found → b ≡ parts_state n spans bytes (log ++ span_at offset found) (Some w)
      → Runs {X = List ℕ} before b (Err Failed) (text_read filled t offset k)
  unfolding text_part
  parts_text_missing b t offset k wanted found w long short still at sure most after =
      let bs : List ℕ = part filled offset found in
      let rest : List ℕ = drop found (part filled offset k) in
      let full = length-filled_input n spans bytes in
      let long_k = part_length filled offset k in
      let long_bs : length bs ≡ found = omega (arith, part_length filled offset found, long, short, full) in
      let more : 0 < length rest = omega (arith, length-drop found (part filled offset k), long_k, long, short, full) in
      let behind = goes_behind t bs rest still more in
      let same = ap (λ xs. length (text_front t xs)) (part_split filled offset k found (omega (arith, long, short))) in
      let few = front_length t (part filled offset k) in
      fails (text_read filled t offset k) b w offset (length (text_front t (part filled offset k))) found after refl
      (omega (arith, behind, same)) at (omega (arith, sure, behind, same, long_bs)) (omega (arith, most, few, long_k, long, full, short))

-- whether the bytes that were found are cut, by how many they are
pub cut_is : (buffer : List ℕ) (found wanted offset told : ℕ) (cut ended : Bool)
    → wanted ≡ min (length buffer) (told - offset)
    → found ≤ wanted → cut ≡ (leb (suc (length (take found buffer))) wanted && not ended)
    → leb (suc found) wanted && not ended ≡ cut
cut_is buffer found wanted offset told cut ended long few is = grind (arith, length-take)
