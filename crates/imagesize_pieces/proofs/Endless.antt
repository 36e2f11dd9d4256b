-- Texts that miss a byte. With a 1 for each missing byte they go on as far as the read requests.
use Rattle.std.proofs.Common.{◌≡◌, ℕ, zero, suc, ◌+◌, ◌-◌, ◌<◌, ◌≤◌, min, Bool, true, false, ◌||◌, cond, List, [], ◌∷◌, ◌++◌, length, take, drop, get_or, replicate, Option, Some, Err, is_some, refl, sym, ap, ◌∙◌, subst, arith}
use Rattle.std.specs.Char.{is_ascii_whitespace}
use Rattle.std.specs.List.{list_any}
use Rattle.std.proofs.lemmas.Bool.Decides.{nat_tests}
use Rattle.std.proofs.lemmas.List.{drop_more, ext_get_or, length-append, length-drop, length-replicate, get_or-drop, get_or-replicate}
use Rattle.imagesize_source.specs.declared.halt.Halt.TheVariants.{Failed}
use Rattle.imagesize_source.specs.declared.source.known.Missing.{Missing}
use Rattle.imagesize_source.specs.declared.span.Span.{Span}
use Rattle.imagesize_source.specs.declared.text.Text.{Text}
use Rattle.imagesize_source.specs.declared.text.Text.TheVariants.{Line, Word}
use Rattle.imagesize_source.specs.Input.{part, span_at, span_of}
use Rattle.imagesize_source.specs.Known.{parts_state}
use Rattle.imagesize_source.specs.Reading.{part_read, text_part, text_read}
use Rattle.imagesize_source.specs.State.{State, Runs}
use Rattle.imagesize_source.specs.Text.{delimits, has_begun, is_ended, text_front}
use Rattle.imagesize_source.proofs.Known.{filled_at, length-filled_input}
use Rattle.imagesize_source.proofs.KnownReadings.{part_split, parts_missing}
use Rattle.imagesize_source.proofs.Parts.{part_at, part_front, part_length, part_whole}
use Rattle.imagesize_source.proofs.Texts.{front_all, front_length, front_take, line_front, through-cons, word_ended}
use Rattle.imagesize_source.proofs.Unended.{line_front_on, line_on, word_on}
use Rattle.imagesize_pieces.proofs.Streaming.{not_behind, unknown_behind}
use Rattle.imagesize_pieces.specs.Stream.{byte_at, came, stream_input}

-- no byte of those that are all 1 passes a test that 1 does not pass
ones_any : (p : ℕ → Bool) (n : ℕ) → p 1 ≡ false → list_any p (replicate n 1) ≡ false
ones_any p zero spared = refl
ones_any p (suc n) spared = ap (λ b. b || list_any p (replicate n 1)) spared ∙ ones_any p n spared

ones_ended : (t : Text) (n : ℕ) → delimits t 1 ≡ false → is_ended t (replicate n 1) ≡ false
unfolding is_ended
ones_ended (Line delimiter) n spared = ones_any (delimits (Line delimiter)) n spared
ones_ended Word zero spared = refl
ones_ended Word (suc n) spared = word_ended 1 (replicate n 1) ∙ ones_any is_ascii_whitespace n refl

-- nor do they end a text that the bytes before them do not end
ones_open : (t : Text) (xs : List ℕ) (n : ℕ) → delimits t 1 ≡ false → is_ended t xs ≡ false
    → is_ended t (xs ++ replicate n 1) ≡ false
ones_open (Line delimiter) xs n spared none = line_on delimiter xs (replicate n 1) none ∙ ones_ended (Line delimiter) n spared
ones_open Word xs n spared none = word_on xs (replicate n 1) none ∙ by_begun (has_begun xs) where
  by_begun : (b : Bool) → cond b (list_any is_ascii_whitespace (replicate n 1)) (is_ended Word (replicate n 1)) ≡ false
  by_begun true = ones_any is_ascii_whitespace n refl
  by_begun false = ones_ended Word n spared

module _ (told start : ℕ) (kept chunk : List ℕ) (fits : start + length kept + length chunk ≤ told) where
  abbrev fill : List ℕ
  fill = stream_input told start kept chunk

  abbrev bytes : List ℕ
  bytes = kept ++ chunk

  one_at : (offset : ℕ) → offset < told → is_some (byte_at told start kept chunk offset) ≡ false
      → get_or fill offset 0 ≡ 1
  one_at offset below none =
      let taken = filled_at told (came start kept chunk) bytes offset below in grind (arith, nat_tests)

  as_told : length fill ≡ told
  as_told = length-filled_input told (came start kept chunk) bytes

  -- a text of m bytes that misses its byte after those found: as the read of m bytes
  pub missing_by : (b : State) (log : List Span) (missed : Option Missing) (t : Text) (offset k found m : ℕ) (w : Missing)
      → length (text_part fill t offset k) ≡ m → found < m
      → w.start ≡ offset + found → w.sure ≡ m - found → w.most ≡ m - found
      → b ≡ parts_state told (came start kept chunk) bytes (log ++ span_at offset found) (Some w)
      → Runs {X = List ℕ} (parts_state told (came start kept chunk) bytes log missed) b (Err Failed)
      (text_read fill t offset k)
  unfolding text_part span_of
  missing_by b log missed t offset k found m w is short at sure most after =
      let xs : List ℕ = part fill offset k in
      let long = part_length fill offset k in
      let few : m ≤ length xs = omega (arith, is, front_length t xs) in
      let same : part fill offset m ≡ text_front t xs =
      sym (part_front fill offset m k (omega (arith, few, long))) ∙ ap (λ n. take n xs) (sym is) ∙ front_take t xs in
      let count : min m (length fill - offset) ≡ length (text_front t xs) = omega (arith, is, few, long) in
      let reads : ◌≡◌ (part_read fill offset m) (text_read fill t offset k) = rw (same, count) refl in
      subst (λ r. Runs {X = List ℕ} (parts_state told (came start kept chunk) bytes log missed) b (Err Failed) r) reads
      (parts_missing told (came start kept chunk) bytes log missed b m offset m found w (omega (arith, few, long, as_told)) short at
      sure most after)

  module _ (offset k wanted found : ℕ) (long : wanted ≡ min k (told - offset)) (short : found < wanted)
      (none : is_some (byte_at told start kept chunk (offset + found)) ≡ false) where
    whole : part fill offset k ≡ part fill offset found ++ drop found (part fill offset wanted)
    whole =
        part_whole fill offset k wanted (long ∙ ap (λ n. min k (n - offset)) (sym as_told))
        ∙ part_split fill offset wanted found (omega (arith, short))

    behind_ones : start ≤ offset + found → drop found (part fill offset wanted) ≡ replicate (wanted - found) 1
    behind_ones above =
        let behind = unknown_behind told start kept chunk (offset + found) (omega (arith, fits)) none above in
        let many : length (drop found (part fill offset wanted)) ≡ wanted - found =
        omega (arith, length-drop found (part fill offset wanted), part_length fill offset wanted, as_told, long) in
        ext_get_or 0 (drop found (part fill offset wanted)) (replicate (wanted - found) 1)
        (many ∙ sym (length-replicate (wanted - found) 1))
        (λ i below. grind (arith, get_or-drop {A = ℕ}, part_at, one_at, not_behind, get_or-replicate {A = ℕ}))

    -- it has all bytes that the read requests
    pub goes_whole : (t : Text) → is_ended t (part fill offset found) ≡ false → delimits t 1 ≡ false → start ≤ offset + found
        → length (text_part fill t offset k) ≡ wanted
    unfolding text_part
    goes_whole t still spared above =
        let none_ends : is_ended t (part fill offset k) ≡ false = ap (is_ended t)
        (whole ∙ ap (λ bs. part fill offset found ++ bs) (behind_ones above))
        ∙ ones_open t (part fill offset found) (wanted - found) spared still in
        omega (arith, ap length (front_all t (part fill offset k) none_ends), part_length fill offset k, as_told, long)

    -- or it ends with the 1
    pub goes_once : (t : Text) → is_ended t (part fill offset found) ≡ false → delimits t 1 ≡ true
        → length (text_part fill t offset k) ≡ found + 1
    unfolding text_part
    goes_once Word still hit = absurd cc
    goes_once (Line delimiter) still hit =
        let rest : List ℕ = drop (found + 1) (part fill offset wanted) in
        let first : get_or (part fill offset wanted) found 0 ≡ 1 =
        part_at fill offset wanted found short ∙ one_at (offset + found) (omega (arith, short, long)) none in
        let there : found < length (part fill offset wanted) =
        omega (arith, part_length fill offset wanted, as_told, long, short) in
        let split : part fill offset k ≡ part fill offset found ++ 1 ∷ rest =
        whole ∙ ap (λ bs. part fill offset found ++ bs) (drop_more (part fill offset wanted) found 0 there ∙ ap (λ b. b ∷ rest) first) in
        let line : text_front (Line delimiter) (1 ∷ rest) ≡ 1 ∷ [] =
        line_front delimiter (1 ∷ rest) ∙ grind (arith, through-cons) in
        let all : text_front (Line delimiter) (part fill offset k) ≡ part fill offset found ++ 1 ∷ [] =
        ap (text_front (Line delimiter)) split ∙ line_front_on delimiter (part fill offset found) (1 ∷ rest) still
        ∙ ap (λ bs. part fill offset found ++ bs) line in
        omega (
          arith,
          ap length all,
          length-append (part fill offset found) (1 ∷ []),
          part_length fill offset found,
          as_told,
          long,
          short,
        )
