-- A text at the front of some bytes, and what bytes behind it change.
use Rattle.std.proofs.Common.{◌≡◌, ℕ, suc, ◌+◌, ◌-◌, ◌<◌, ◌≤◌, Bool, true, false, ◌&&◌, ◌||◌, not, cond, List, [], ◌∷◌, ◌++◌, length, take, drop, None, Some, inl, inr, one-add, refl, sym, ap, ◌∙◌, arith, append_assoc}
use Rattle.std.proofs.lemmas.Bool.{cases_Bool, cond_both, or_parts}
use Rattle.std.proofs.lemmas.List.{length-append, length-drop, length-take, take-append-drop, take-take, take_all, take_at, take_rest}
use Rattle.std.specs.Char.{is_ascii_whitespace}
use Rattle.std.specs.List.{list_any, position, position_or_len}
use Rattle.imagesize_source.specs.declared.text.Text.{Text}
use Rattle.imagesize_source.specs.declared.text.Text.TheVariants.{Line, Word}
use Rattle.imagesize_source.specs.Text.{space_before, delimits, front_through, has_begun, text_front, is_ended}

-- one more byte than so many
one_more : (n : ℕ) → 1 + n + 1 ≡ suc (n + 1)
one_more n = omega arith

-- a byte that passes is the last, and one that does not goes before the rest
pub through-cons : (p : ℕ → Bool) (b : ℕ) (bs : List ℕ)
    → front_through p (b ∷ bs) ≡ cond (p b) (b ∷ []) (b ∷ front_through p bs)
through-cons p b bs = grind arith

-- a line is no white space and its bytes
pub line_front : (delimiter : ℕ) (bs : List ℕ)
    → text_front (Line delimiter) bs ≡ front_through (delimits (Line delimiter)) bs
unfolding text_front
line_front delimiter bs = refl

-- a byte of white space goes before a word, and any other begins it
pub word_front : (b : ℕ) (bs : List ℕ)
    → text_front Word (b ∷ bs) ≡ cond (is_ascii_whitespace b) (b ∷ text_front Word bs)
    (b ∷ front_through is_ascii_whitespace bs)
unfolding text_front
word_front b bs = cond_both (is_ascii_whitespace b) (b ∷ text_front Word bs) (b ∷ front_through is_ascii_whitespace bs)
    (λ bytes. text_front Word (b ∷ bs) ≡ bytes)
    (λ is. rw (is, one-add) refl)
    (λ is. rw (is, is, one_more) refl)

pub word_ended : (b : ℕ) (bs : List ℕ) → is_ended Word (b ∷ bs) ≡ cond (is_ascii_whitespace b) (is_ended Word bs)
    (list_any is_ascii_whitespace bs)
unfolding is_ended
word_ended b bs = grind arith

pub no_front : text_front Word [] ≡ []
unfolding text_front
no_front = refl

-- ---- a text byte by byte

-- The bytes of a text up to and with the one that ends it: the first that passes after the text has begun. A byte that does not
-- pass begins it.
abbrev pub cut : (ℕ → Bool) → Bool → List ℕ → List ℕ
cut p begun [] = []
cut p begun (b ∷ bs) = b ∷ cond (begun && p b) [] (cut p (begun || not (p b)) bs)

-- whether one of the bytes ends it
abbrev pub met : (ℕ → Bool) → Bool → List ℕ → Bool
met p begun [] = false
met p begun (b ∷ bs) = begun && p b || met p (begun || not (p b)) bs

-- whether it has begun after these bytes
abbrev pub begins : (ℕ → Bool) → Bool → List ℕ → Bool
begins p begun [] = begun
begins p begun (b ∷ bs) = begins p (begun || not (p b)) bs

-- whether it has begun before its first byte
abbrev pub at_once : Text → Bool
at_once (Line delimiter) = true
at_once Word = false

pub through_is : (p : ℕ → Bool) (bs : List ℕ) → front_through p bs ≡ cut p true bs
through_is p [] = refl
through_is p (b ∷ bs) = grind (arith, (through_is p bs))

pub any_is : (p : ℕ → Bool) (bs : List ℕ) → list_any p bs ≡ met p true bs
any_is p [] = refl
any_is p (b ∷ bs) = ap (λ is. p b || is) (any_is p bs)

pub front_is : (t : Text) (bs : List ℕ) → text_front t bs ≡ cut (delimits t) (at_once t) bs
front_is (Line delimiter) bs = line_front delimiter bs ∙ through_is (delimits (Line delimiter)) bs
front_is Word [] = no_front
front_is Word (b ∷ bs) = grind (arith, word_front, (front_is Word bs))

pub ended_is : (t : Text) (bs : List ℕ) → is_ended t bs ≡ met (delimits t) (at_once t) bs
unfolding is_ended
ended_is (Line delimiter) bs = any_is (delimits (Line delimiter)) bs
ended_is Word [] = refl
ended_is Word (b ∷ bs) = grind (arith, word_ended, any_is, (ended_is Word bs))

pub begun_stays : (p : ℕ → Bool) (bs : List ℕ) → begins p true bs ≡ true
begun_stays p [] = refl
begun_stays p (b ∷ bs) = begun_stays p bs

pub begun_is : (bs : List ℕ) → begins is_ascii_whitespace false bs ≡ has_begun bs
begun_is [] = refl
begun_is (b ∷ bs) = grind (arith, begun_stays, (begun_is bs))

-- what follows the byte that ends a text is not looked at
cut_more : (p : ℕ → Bool) (begun : Bool) (bs more : List ℕ) → met p begun bs ≡ true → cut p begun (bs ++ more) ≡ cut p begun bs
cut_more p begun [] more some = absurd cc
cut_more p begun (b ∷ bs) more some = (elim (begun && p b) as (λ is. is || met p (begun || not (p b)) bs ≡ true
    → b ∷ cond is [] (cut p (begun || not (p b)) (bs ++ more)) ≡ b ∷ cond is [] (cut p (begun || not (p b)) bs)) [
      | true ↦ λ h. refl
      | false ↦ λ h. ap (λ xs. b ∷ xs) (cut_more p (begun || not (p b)) bs more h)
    ]) some

-- where nothing ends it, all bytes are of the text
cut_all : (p : ℕ → Bool) (begun : Bool) (bs : List ℕ) → met p begun bs ≡ false → cut p begun bs ≡ bs
cut_all p begun [] none = refl
cut_all p begun (b ∷ bs) none =
    let parts = or_parts (begun && p b) (met p (begun || not (p b)) bs) none in
    rw (parts.0, cut_all p (begun || not (p b)) bs parts.1) refl

-- the byte that ends a text is of the text
met_cut : (p : ℕ → Bool) (begun : Bool) (bs : List ℕ) → met p begun (cut p begun bs) ≡ met p begun bs
met_cut p begun [] = refl
met_cut p begun (b ∷ bs) = grind (arith, (met_cut p (begun || not (p b)) bs))

-- if the first bytes do not end a text, it goes on after them
pub goes_behind : (p : ℕ → Bool) (begun : Bool) (xs ys : List ℕ) → met p begun xs ≡ false
    → (met p begun (xs ++ ys) ≡ met p (begins p begun xs) ys) × (cut p begun (xs ++ ys) ≡ xs ++ cut p (begins p begun xs) ys)
goes_behind p begun [] ys none = (refl, refl)
goes_behind p begun (x ∷ xs) ys none =
    let parts = or_parts (begun && p x) (met p (begun || not (p x)) xs) none in
    let rest = goes_behind p (begun || not (p x)) xs ys parts.1 in
    rw parts.0 (rest.0, ap (λ bs. x ∷ bs) rest.1)

-- ---- the texts that contracts name

pub front_more : (t : Text) (bs more : List ℕ) → is_ended t bs ≡ true → text_front t (bs ++ more) ≡ text_front t bs
front_more t bs more some = grind (arith, front_is, cut_more, ended_is)

pub front_all : (t : Text) (bs : List ℕ) → is_ended t bs ≡ false → text_front t bs ≡ bs
front_all t bs none = front_is t bs ∙ cut_all (delimits t) (at_once t) bs (sym (ended_is t bs) ∙ none)

pub front_any : (t : Text) (bs : List ℕ) → is_ended t (text_front t bs) ≡ is_ended t bs
front_any t bs = grind (arith, ended_is, front_is, met_cut)

-- a text that is ended stays so
pub ended_more : (t : Text) (xs ys : List ℕ) → is_ended t xs ≡ true → is_ended t (xs ++ ys) ≡ true
ended_more t xs ys is = sym (front_any t (xs ++ ys)) ∙ ap (is_ended t) (front_more t xs ys is) ∙ front_any t xs ∙ is

-- a text is the first of the bytes
pub front_first : (t : Text) (bs : List ℕ) → (rest : List ℕ) × (text_front t bs ++ rest ≡ bs)
unfolding text_front
front_first t bs =
    let n : ℕ = space_before t bs in
    let k : ℕ = position_or_len (delimits t) (drop n bs) + 1 in (
      drop k (drop n bs),
      append_assoc (take n bs) (take k (drop n bs)) (drop k (drop n bs)) ∙ ap (λ xs. take n bs ++ xs)
          (take-append-drop k (drop n bs)) ∙ take-append-drop n bs,
    )

-- the text of a text is itself
pub front_front : (t : Text) (bs : List ℕ) → is_ended t bs ≡ true → text_front t (text_front t bs) ≡ text_front t bs
front_front t bs some =
    let split = front_first t bs in
    sym (front_more t (text_front t bs) split.0 (front_any t bs ∙ some)) ∙ ap (text_front t) split.1

-- if no more bytes begin with the text of some bytes, they have the same text
pub front_same : (t : Text) (bs cs : List ℕ) → length cs ≤ length bs
    → take (length (text_front t bs)) cs ≡ text_front t bs
    → text_front t cs ≡ text_front t bs
front_same t bs cs few same = elim (cases_Bool (is_ended t bs)) [
  | inl some ↦ (let n : ℕ = length (text_front t bs) in
      ap (text_front t) (sym (take-append-drop n cs)) ∙ ap (λ xs. text_front t (xs ++ drop n cs)) same
      ∙ front_more t (text_front t bs) (drop n cs) (front_any t bs ∙ some) ∙ front_front t bs some)
  | inr none ↦ (let all : text_front t bs ≡ bs = front_all t bs none in
      ap (text_front t) (sym (take_all (length (text_front t bs)) cs (omega (arith, ap length all))) ∙ same ∙ all))
]

-- it is no longer than they are
pub front_length : (t : Text) (bs : List ℕ) → length (text_front t bs) ≤ length bs
front_length t bs = let split = front_first t bs in
    omega (arith, ap length split.1, length-append (text_front t bs) split.0)

-- where a position is found, or none is
pub found : (p : ℕ → Bool) (bs : List ℕ) (i : ℕ) → position p bs ≡ Some i → (position_or_len p bs ≡ i) × (i < length bs)
found p bs i is = grind arith

pub not_found : (p : ℕ → Bool) (bs : List ℕ) → position p bs ≡ None → length bs ≤ position_or_len p bs
not_found p bs is = grind arith

-- the length of a word that ends, by the offsets of its first byte and of the white space after it
pub word_closed : (bs : List ℕ) (start i : ℕ) → position (λ b. not (is_ascii_whitespace b)) bs ≡ Some start
    → position is_ascii_whitespace (take (length bs - start) (drop start bs)) ≡ Some i
    → start + i + 1 ≡ length (text_front Word bs)
unfolding text_front
word_closed bs start i begins closes = grind (arith, found, take_rest, length-append, length-take)

-- the text is as many of the first bytes
pub front_take : (t : Text) (bs : List ℕ) → take (length (text_front t bs)) bs ≡ text_front t bs
front_take t bs =
    let split = front_first t bs in
    ap (take (length (text_front t bs))) (sym split.1) ∙ take_at (text_front t bs) split.0 (length (text_front t bs)) refl

pub ruleset fronts = (line_front, front_length)

pub ruleset whole_fronts = (front_all, take_all, length-drop, take-append-drop)

-- the text of the first bytes is as many of all bytes
pub front_among : (t : Text) (bs : List ℕ) (most n : ℕ) → n ≡ length (text_front t (take most bs))
    → take n bs ≡ text_front t (take most bs)
front_among t bs most n counts =
    sym (take-take n most bs (omega (arith, counts, front_length t (take most bs), length-take most bs)))
    ∙ ap (λ k. take k (take most bs)) counts ∙ front_take t (take most bs)

pub ruleset copies = (front_among, front_any, front_front, front_length, length-take)
