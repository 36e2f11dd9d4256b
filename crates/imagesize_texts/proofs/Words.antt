-- Text, words and numbers, as std reads them.
use Rattle.std.proofs.Common.{◌≡◌, ℕ, suc, ◌+◌, ◌^◌, ◌<◌, ◌≤◌, Bool, true, false, cond, ltb, List, [], ◌∷◌, ◌++◌, map, length, take, drop, inl, inr, None, Some, Result, Ok, Err, refl, sym, ap, ◌∙◌, subst, append_assoc, arith}
use Rattle.std.proofs.lemmas.Bool.{and_parts, cases_lt}
use Rattle.std.specs.Prelude.{filter, ◌&&◌, ◌==◌, slice_index}
use Rattle.std.proofs.lemmas.Bool.Decides.{nat_tests}
use Rattle.std.proofs.lemmas.List.{append-nil, get_or-take, get_or_past, length-take, length-drop, take-append-drop}
use Rattle.std.proofs.Math.Seq.{drop-cons}
use Rattle.std.proofs.lemmas.List.Splits.{slice_split-cons_yes, slice_split-cons_no}
use Rattle.std.proofs.lemmas.Str.{NoCharPasses-nil, encodes-IsAscii, encode_ascii, IsUtf8-past_char, chars_from_encodes, chars_past_char, chars-nil, encodes-append, encodes-chars}
use Rattle.std.proofs.lemmas.Str.Ascii.{trim_ascii_start_is}
use Rattle.std.proofs.lemmas.Str.Parse.{IsNumeralModel, numerals_by_value, tells_all_ascii_digits}
use Rattle.std.specs.Char.{is_ascii_graphic, is_ascii_whitespace, is_whitespace, is_not_whitespace, encode_utf8}
use Rattle.std.specs.List.{prefix_len, slice_split, onto_first}
use Rattle.std.specs.Result.{result_ok}
use Rattle.std.specs.Str.{IsUtf8, IsAscii, is_utf8, chars, trim, skip_leading_whitespace, drop_trailing_whitespace, encode_utf8_all, all_ascii_digits, NoCharPasses, NonePass, EmptyOrStartsWithPassing, IsTrimAsciiStart, trim_start, trim_end}
use Rattle.std.specs.Str.Parse.{ParsesUnsigned, IsNumeral, digits_value, without_leading_plus}
use Rattle.imagesize_source.proofs.Tests.{on_test}
use Rattle.imagesize_texts.specs.Pnm.{is_blank, is_comment}
use Rattle.imagesize_texts.specs.Contents.{utf8, behind_space, is_number, number_text, char_words, words}

-- no byte is a text, and so is a `#`
no_bytes : utf8 [] ≡ Ok []
unfolding utf8 is_utf8 chars
no_bytes = refl

one_hash : utf8 (0x23 ∷ []) ≡ Ok (0x23 ∷ [])
unfolding utf8 is_utf8 chars encode_utf8
one_hash = refl

pub empty_text : (bs : List ℕ) → length bs ≡ 0 → utf8 bs ≡ Ok []
empty_text [] none = no_bytes
empty_text (b ∷ bs) none = absurd (omega (arith, none))

pub hash_text : (bs : List ℕ) → bs ≡ 0x23 ∷ [] → utf8 bs ≡ Ok (0x23 ∷ [])
hash_text bs is = ap utf8 is ∙ one_hash

-- the white space before a word, as std trims it
behind_space-prefix : (bs : List ℕ) → drop (prefix_len is_ascii_whitespace bs) bs ≡ behind_space bs
behind_space-prefix [] = refl
behind_space-prefix (b ∷ bs) =
    let one : 1 + prefix_len is_ascii_whitespace bs ≡ suc (prefix_len is_ascii_whitespace bs) = omega arith in
    let Goal : Bool → Type 0 = λ is. drop (cond is (1 + prefix_len is_ascii_whitespace bs) 0) (b ∷ bs)
    ≡ cond is (behind_space bs) (b ∷ bs) in
    elim (is_ascii_whitespace b) as Goal [
      | true ↦ ap (λ n. drop n (b ∷ bs)) one
          ∙ behind_space-prefix bs
      | false ↦ refl
    ]

pub behind_space_is : (bs rest : List ℕ) → IsTrimAsciiStart bs rest → rest ≡ behind_space bs
behind_space_is bs rest is = trim_ascii_start_is bs rest is ∙ behind_space-prefix bs

digits_are : IsNumeralModel (λ ds. all_ascii_digits ds ≡ true) (digits_value 10)
digits_are = numerals_by_value (λ ds. all_ascii_digits ds ≡ true) tells_all_ascii_digits

-- a text is a number where it is digits of a number of 64 bits
number_is : (text : List ℕ) → IsNumeral 10 (without_leading_plus text)
    → digits_value 10 (without_leading_plus text) < 2 ^ 64
    → is_number text ≡ true
unfolding is_number
number_is text is small = rw (digits_are.from (without_leading_plus text) is.1) (let some = is.0 in grind (arith, nat_tests))

is_numeral : (text : List ℕ) → is_number text ≡ true → IsNumeral 10 (without_leading_plus text)
    × (digits_value 10 (without_leading_plus text) < 2 ^ 64)
unfolding is_number
is_numeral text is =
    let ds : List ℕ = without_leading_plus text in
    let parts = and_parts (ltb 0 (length ds) && all_ascii_digits ds) (ltb (digits_value 10 ds) (2 ^ 64)) is in
    let digits = and_parts (ltb 0 (length ds)) (all_ascii_digits ds) parts.0 in
    let some : 0 < length ds = let test = digits.0 in grind (arith, nat_tests) in
    let small : digits_value 10 ds < 2 ^ 64 = let test = parts.1 in grind (arith, nat_tests) in
    ((some, digits_are.to ds digits.1), small)

-- what std parses as a number
pub parsed : {E : Type 0} (text : List ℕ) (r : Result ℕ E) → ParsesUnsigned 64 10 text r
    → result_ok r ≡ number_text text
unfolding number_text
parsed {E} text (Ok v) is = rw (number_is text is.0.0 is.0.1) (ap Some is.1)
parsed {E} text (Err e) is =
    sym (on_test (λ r. r ≡ None) (is_number text) (Some (digits_value 10 (without_leading_plus text))) None
    (λ test. absurd (is (is_numeral text test))) (λ _. refl))

-- white space before the words of some characters
char_words_gap : (gap cs : List ℕ) → NonePass is_not_whitespace gap → char_words (gap ++ cs) ≡ char_words cs
char_words_gap [] cs none = refl
char_words_gap (c ∷ gap) cs none =
    let white : is_whitespace c ≡ true = grind (arith, nat_tests) in
    ap (filter (λ word. ltb 0 (length word))) (slice_split-cons_yes is_whitespace c (gap ++ cs) white)
    ∙ char_words_gap gap cs none.1

split_word : (word cs : List ℕ) (parts : List (List ℕ)) → NonePass is_whitespace word
    → slice_split is_whitespace cs ≡ [] ∷ parts
    → slice_split is_whitespace (word ++ cs) ≡ word ∷ parts
split_word [] cs parts none is = is
split_word (c ∷ word) cs parts none is = slice_split-cons_no is_whitespace c (word ++ cs) none.0 ∙ ap (onto_first c)
    (split_word word cs parts none.1 is)

-- a word before them
char_words_word : (word cs : List ℕ) (parts : List (List ℕ)) → 0 < length word → NonePass is_whitespace word
    → slice_split is_whitespace cs ≡ [] ∷ parts → char_words (word ++ cs) ≡ word ∷ char_words cs
char_words_word [] cs parts some none is = absurd (omega (arith, some))
char_words_word (c ∷ word) cs parts some none is =
    let has : ltb 0 (length (c ∷ word)) ≡ true = grind (arith, nat_tests) in
    let rest : List (List ℕ) = filter (λ word. ltb 0 (length word)) parts in
    ap (filter (λ word. ltb 0 (length word))) (split_word (c ∷ word) cs parts none is)
    ∙ ap (λ test. cond test ((c ∷ word) ∷ rest) rest) has
    ∙ ap (λ words. (c ∷ word) ∷ words) (sym (ap (filter (λ word. ltb 0 (length word))) is))

-- the text behind some characters of a text is text
rest_utf8 : (cs : List ℕ) (text rest : List ℕ) → IsUtf8 text → text ≡ encode_utf8_all cs ++ rest → IsUtf8 rest
rest_utf8 [] text rest utf is = subst IsUtf8 is utf
rest_utf8 (c ∷ cs) text rest utf is =
    rest_utf8 cs (encode_utf8_all cs ++ rest) rest (IsUtf8-past_char text (encode_utf8_all cs ++ rest)
    c utf (is ∙ append_assoc (encode_utf8 c) (encode_utf8_all cs) rest)) refl

-- a text that begins with white space, or is empty, has no first part
split_starts : (rest more : List ℕ) → IsUtf8 rest → EmptyOrStartsWithPassing is_whitespace rest more
    → (parts : List (List ℕ))
    × (slice_split is_whitespace (chars rest) ≡ [] ∷ parts)
split_starts [] more utf starts = ([], ap (slice_split is_whitespace) chars-nil)
split_starts (b ∷ rest) more utf starts =
    let first = starts (omega arith) in (
      slice_split is_whitespace (chars more),
      ap (slice_split is_whitespace) (chars_past_char (b ∷ rest) more first.0 utf first.2)
          ∙ slice_split-cons_yes is_whitespace first.0 (chars more) first.1,
    )

some_chars : (cs bs : List ℕ) → encode_utf8_all cs ≡ bs → 0 < length bs → 0 < length cs
some_chars [] bs is some = absurd (omega (arith, ap length is))
some_chars (c ∷ cs) bs is some = omega arith

-- the words of a text are the first and those of what follows it
pub word_first : (text gap word rest more : List ℕ) → IsUtf8 text → text ≡ gap ++ (word ++ rest) → 0 < length word
    → NoCharPasses is_not_whitespace gap → NoCharPasses is_whitespace word
    → EmptyOrStartsWithPassing is_whitespace rest more
    → (words text ≡ word ∷ words rest) × IsUtf8 rest
unfolding words
word_first text gap word rest more utf is some gaps letters starts =
    let gs : List ℕ = gaps.0 in
    let ws : List ℕ = letters.0 in
    let whole : text ≡ encode_utf8_all (gs ++ ws) ++ rest =
    rw (encodes-append gs ws, gaps.1, letters.1, append_assoc gap word rest) is in
    let utf_rest : IsUtf8 rest = rest_utf8 (gs ++ ws) text rest utf whole in
    let all : encode_utf8_all ((gs ++ ws) ++ chars rest) ≡ text =
    rw (encodes-append (gs ++ ws) (chars rest), encodes-chars rest utf_rest) (sym whole) in
    let cs : chars text ≡ gs ++ (ws ++ chars rest) =
    sym (chars_from_encodes ((gs ++ ws) ++ chars rest) text utf all) ∙ append_assoc gs ws (chars rest) in
    let parts = split_starts rest more utf_rest starts in
    let some_ws = some_chars ws word letters.1 some in (
      ap (λ cs. map encode_utf8_all (char_words cs)) cs ∙ ap (map encode_utf8_all)
          (char_words_gap gs (ws ++ chars rest) gaps.2
          ∙ char_words_word ws (chars rest) parts.0 some_ws letters.2 parts.1)
          ∙ ap (λ w. w ∷ map encode_utf8_all (char_words (chars rest))) letters.1,
      utf_rest,
    )

-- a text of white space has none
pub word_none : (text : List ℕ) → IsUtf8 text → NoCharPasses is_not_whitespace text → words text ≡ []
unfolding words
word_none text utf none =
    let is : none.0 ≡ chars text = chars_from_encodes none.0 text utf none.1 in
    ap (λ cs. map encode_utf8_all (char_words cs)) (sym is ∙ sym (append-nil none.0)) ∙ ap (map encode_utf8_all)
    (char_words_gap none.0 [] none.2)

-- Some words were taken off a text, and these bytes are left.
pub record Taken (text : List ℕ) (ws : List (List ℕ)) (rest : List ℕ) : Type 0 where
  pub is : words text ≡ ws ++ words rest
  pub utf : IsUtf8 rest

pub taken_start : {text rest : List ℕ} → IsUtf8 text → rest ≡ text → Taken text [] rest
taken_start utf is = record { is = ap words (sym is); utf = subst IsUtf8 (sym is) utf }

-- a word comes off the front of some bytes, as a call of `next` says, and leaves others
abbrev pub TakesWord : (bytes word rest : List ℕ) → Type 0
TakesWord bytes word rest =
    (gap : List ℕ) × (bytes ≡ gap ++ (word ++ rest)) × (0 < length word) × NoCharPasses is_not_whitespace gap
    × NoCharPasses is_whitespace word × ((more : List ℕ) × EmptyOrStartsWithPassing is_whitespace rest more)

-- one more is
pub taken_next : {text : List ℕ} {ws : List (List ℕ)} {bytes word rest : List ℕ} → Taken text ws bytes
    → TakesWord bytes word rest
    → Taken text (ws ++ word ∷ []) rest
taken_next {text} {ws} {bytes} {word} {rest} taken step =
    let next = word_first bytes step.0 word rest step.5.0 taken.utf step.1 step.2 step.3 step.4 step.5.1 in
    record {
      is = taken.is ∙ ap (λ more. ws ++ more) next.0 ∙ sym (append_assoc ws (word ∷ []) (words rest));
      utf = next.1;
    }

-- or none is left
pub taken_end : {text : List ℕ} {ws : List (List ℕ)} {rest : List ℕ} → Taken text ws rest
    → NoCharPasses is_not_whitespace rest
    → words text ≡ ws
taken_end {text} {ws} {rest} taken none = taken.is ∙ ap (λ more. ws ++ more) (word_none rest taken.utf none)
    ∙ append-nil ws

-- a text whose first character is a visible one of ASCII keeps it when it is trimmed
visible_first : (b : ℕ) (bs : List ℕ) → IsUtf8 (b ∷ bs) → 33 ≤ b → b ≤ 126
    → trim (b ∷ bs) ≡ b ∷ encode_utf8_all (drop_trailing_whitespace (chars bs))
unfolding trim_start trim_end
visible_first b bs utf low high =
    let one : encode_utf8 b ≡ b ∷ [] = encode_ascii b (omega arith) in
    let text : List ℕ = b ∷ bs in
    let first : chars text ≡ b ∷ chars bs = chars_past_char text bs b utf (ap (λ e. e ++ bs) (sym one)) in
    let dark : is_whitespace b ≡ false = grind (arith, nat_tests) in
    let started : encode_utf8_all (skip_leading_whitespace (chars text)) ≡ text =
    rw (first, dark) (ap encode_utf8_all (sym first) ∙ encodes-chars text utf) in
    rw (started, first, dark, one) refl

-- so it is not blank, and begins a comment where it begins with a `#`
pub visible_word : (text : List ℕ) → IsUtf8 text → 0 < length text → is_ascii_graphic (slice_index text 0) ≡ true
    → (is_blank text ≡ false) × (is_comment text ≡ (slice_index text 0 == 0x23))
unfolding is_blank is_comment
visible_word [] utf some visible = absurd (omega (arith, some))
visible_word (b ∷ bs) utf some visible =
    let is = visible_first b bs utf (grind (arith, nat_tests)) (grind (arith, nat_tests)) in
    (ap (λ t. length t == 0) is ∙ grind (arith, nat_tests), ap (λ t. slice_index t 0 == 0x23) is)

-- a space before a text adds no word
pub space_before : (text : List ℕ) → IsUtf8 text → 0 < length text → slice_index text 0 ≡ 32
    → words (drop 1 text) ≡ words text
unfolding words
space_before [] utf some space = absurd (omega (arith, some))
space_before (b ∷ bs) utf some space =
    let one : encode_utf8 b ≡ b ∷ [] = encode_ascii b (omega (arith, space)) in
    let first : chars (b ∷ bs) ≡ b ∷ chars bs = chars_past_char (b ∷ bs) bs b utf (ap (λ e. e ++ bs) (sym one)) in
    let white : is_not_whitespace b ≡ false = ap is_not_whitespace space in
    sym (ap (λ cs. map encode_utf8_all (char_words cs)) first
    ∙ ap (map encode_utf8_all) (char_words_gap (b ∷ []) (chars bs) (white, tt)))

-- visible characters are no white space
none_white : (bs : List ℕ) → ((i : ℕ) → i < length bs → is_ascii_graphic (slice_index bs i) ≡ true)
    → NonePass is_whitespace bs
none_white [] visible = tt
none_white (b ∷ bs) visible =
    let is = visible 0 (omega arith) in
    (grind (arith, nat_tests), none_white bs (λ i there. visible (suc i) (omega (arith, there))))

-- a word of visible characters at the front of a text, with a space or nothing behind it
pub plain_front : (text : List ℕ) (end : ℕ) → IsUtf8 text → 0 < end → end ≤ length text
    → ((i : ℕ) → i < end → is_ascii_graphic (slice_index text i) ≡ true)
    → (end < length text → slice_index text end ≡ 32) → words text ≡ take end text ∷ words (drop end text)
unfolding encode_utf8
plain_front text end utf some there visible ended =
    let word : List ℕ = take end text in
    let seen : (i : ℕ) → i < length word → is_ascii_graphic (slice_index word i) ≡ true =
    λ i inside. let at : i < end = omega (arith, inside, length-take end text) in
    ap is_ascii_graphic (get_or-take end text i 0 at) ∙ visible i at in
    let ascii : IsAscii word =
    λ i. elim (cases_lt i (length word)) [
      | inl inside ↦ let is = seen i inside in grind (arith, nat_tests)
      | inr past ↦ subst (λ b. b < 128) (sym (get_or_past word i 0 past)) (omega arith)
    ] in
    (word_first text [] word (drop end text) (drop (suc end) text) utf (sym (take-append-drop end text))
    (omega (arith, length-take end text)) (NoCharPasses-nil is_not_whitespace) (word, encodes-IsAscii word ascii, none_white word seen)
    (λ more. let inside : end < length text = omega (arith, more, length-drop end text) in
    (32, refl, drop-cons text end 0 inside ∙ ap (λ b. b ∷ drop (suc end) text) (ended inside), refl))).0

-- no byte holds no word
pub no_words : (text : List ℕ) → length text ≡ 0 → words text ≡ []
unfolding words chars
no_words [] none = refl
no_words (b ∷ bs) none = absurd (omega (arith, none))
