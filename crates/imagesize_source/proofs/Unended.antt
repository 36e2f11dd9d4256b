-- How a text that its first bytes do not end goes on in the bytes after them.
use Rattle.std.proofs.Common.{◌≡◌, ℕ, ◌+◌, ◌-◌, ◌<◌, ◌≤◌, Bool, true, false, ◌&&◌, ◌||◌, not, cond, List, [], ◌∷◌, ◌++◌, length, take, drop, slice_index, inl, inr, refl, sym, ap, ◌∙◌, arith}
use Rattle.std.proofs.lemmas.Bool.{cases_Bool, or_parts}
use Rattle.std.proofs.lemmas.List.{length-append, take-append-drop, take-take, take_all, take_more}
use Rattle.std.specs.Char.{is_ascii_whitespace}
use Rattle.std.specs.List.{list_any}
use Rattle.imagesize_source.specs.Input.{part}
use Rattle.imagesize_source.proofs.Texts.{any_is, at_once, begins, begun_is, begun_stays, cut, ended_is, ended_more, front_is, goes_behind, met, through_is}
use Rattle.imagesize_source.specs.Text.{delimits, front_through, has_begun, is_ended, text_front}
use Rattle.imagesize_source.specs.declared.text.Text.{Text}
use Rattle.imagesize_source.specs.declared.text.Text.TheVariants.{Line, Word}

-- if bytes do not end a text: whether it ends in the bytes after them, and which bytes it has
text_on : (t : Text) (xs ys : List ℕ) → is_ended t xs ≡ false
    → (is_ended t (xs ++ ys) ≡ met (delimits t) (begins (delimits t) (at_once t) xs) ys)
    × (text_front t (xs ++ ys) ≡ xs ++ cut (delimits t) (begins (delimits t) (at_once t) xs) ys)
text_on t xs ys none =
    let on = goes_behind (delimits t) (at_once t) xs ys (sym (ended_is t xs) ∙ none) in
    (ended_is t (xs ++ ys) ∙ on.0, front_is t (xs ++ ys) ∙ on.1)

-- a line goes on as another line
pub line_on : (delimiter : ℕ) (xs ys : List ℕ) → is_ended (Line delimiter) xs ≡ false
    → is_ended (Line delimiter) (xs ++ ys) ≡ is_ended (Line delimiter) ys
line_on delimiter xs ys none = grind (arith, goes_behind, ended_is, front_is, begun_stays)

-- a line has the bytes before, and those of the line after them
pub line_front_on : (delimiter : ℕ) (xs ys : List ℕ) → is_ended (Line delimiter) xs ≡ false
    → text_front (Line delimiter) (xs ++ ys) ≡ xs ++ text_front (Line delimiter) ys
line_front_on delimiter xs ys none = (text_on (Line delimiter) xs ys none).1
    ∙ rw (begun_stays (delimits (Line delimiter)) xs, front_is (Line delimiter) ys) refl

-- a word goes on up to white space once it has begun, and as another word before
pub word_on : (xs ys : List ℕ) → is_ended Word xs ≡ false
    → is_ended Word (xs ++ ys) ≡ cond (has_begun xs) (list_any is_ascii_whitespace ys) (is_ended Word ys)
word_on xs ys none = (text_on Word xs ys none).0 ∙ rw (begun_is xs) (by_begun (has_begun xs)) where
  by_begun : (begun : Bool)
      → met is_ascii_whitespace begun ys ≡ cond begun (list_any is_ascii_whitespace ys) (is_ended Word ys)
  by_begun true = sym (any_is is_ascii_whitespace ys)
  by_begun false = sym (ended_is Word ys)

-- where the first bytes do not end a text, fewer of them do not either
pub open_first : (t : Text) (bs : List ℕ) (k most : ℕ) → k ≤ most → is_ended t (take most bs) ≡ false
    → is_ended t (take k bs) ≡ false
open_first t bs k most few none = elim (cases_Bool (is_ended t (take k bs))) [
  | inl ends ↦ (
      let whole : take k bs ++ drop k (take most bs) ≡ take most bs =
      ap (λ xs. xs ++ drop k (take most bs)) (sym (take-take k most bs few)) ∙ take-append-drop k (take most bs) in
      let also = ended_more t (take k bs) (drop k (take most bs)) ends in absurd (cc (ap (is_ended t) whole)))
  | inr still ↦ still
]

-- where a part does not end a text, the first bytes of another part from the same offset on do not either
pub open_part : (t : Text) (d bs : List ℕ) (offset searched found k : ℕ) → bs ≡ part d offset found → k ≤ searched → k ≤ found
    → is_ended t (part d offset searched) ≡ false → is_ended t (take k bs) ≡ false
unfolding part
open_part t d bs offset searched found k is few fits none = grind (arith, take-take, open_first)

-- if the last byte does not end a text, it shows whether the text has begun
begun_last : (p : ℕ → Bool) (begun : Bool) (xs : List ℕ) (b : ℕ) → met p begun (xs ++ b ∷ []) ≡ false
    → not (p b) ≡ begins p begun (xs ++ b ∷ [])
begun_last p true [] b none = ap not (or_parts (p b) false none).0
begun_last p false [] b none = refl
begun_last p begun (x ∷ xs) b none = begun_last p (begun || not (p x)) xs b
    (or_parts (begun && p x) (met p (begun || not (p x)) (xs ++ b ∷ [])) none).1

-- the same of bytes that are not empty
pub begun_at : (bs : List ℕ) → 0 < length bs → is_ended Word bs ≡ false
    → not (is_ascii_whitespace (slice_index bs (length bs - 1))) ≡ has_begun bs
begun_at bs some none =
    let n : ℕ = length bs - 1 in
    let split : take n bs ++ slice_index bs n ∷ [] ≡ bs =
    sym (take_more bs n 0 (omega arith)) ∙ take_all (n + 1) bs (omega arith) in
    begun_last is_ascii_whitespace false (take n bs) (slice_index bs n)
    (ap (met is_ascii_whitespace false) split ∙ sym (ended_is Word bs) ∙ none)
    ∙ ap (begins is_ascii_whitespace false) split ∙ begun_is bs

-- how a text goes on in more bytes: whether it is ended there, and how many of them it has
pub record GoesOn (t : Text) (xs ys : List ℕ) (ended : Bool) (n : ℕ) : Type 0 where
  pub end : is_ended t (xs ++ ys) ≡ ended
  pub long : length (text_front t (xs ++ ys)) ≡ length xs + n

goes_on : (t u : Text) (xs ys : List ℕ) (begun : Bool) → t ≡ u → is_ended t xs ≡ false
    → begins (delimits u) (at_once u) xs ≡ begun → GoesOn t xs ys (met (delimits u) begun ys) (length (cut (delimits u) begun ys))
goes_on t u xs ys begun is none has =
    let on = text_on u xs ys (rw is at none) in
    rw is (record {
      end = rw (on.0, has) refl;
      long = rw (on.1, has) (length-append xs (cut (delimits u) begun ys));
    })

-- a line goes on as the line after its first bytes
pub line_goes : (t : Text) (delimiter : ℕ) (xs ys : List ℕ) → t ≡ Line delimiter → is_ended t xs ≡ false
    → GoesOn t xs ys (is_ended (Line delimiter) ys) (length (text_front (Line delimiter) ys))
line_goes t delimiter xs ys is none = rw (ended_is (Line delimiter) ys, front_is (Line delimiter) ys)
    (goes_on t (Line delimiter) xs ys true is none (begun_stays (delimits (Line delimiter)) xs))

-- a word that has begun goes on up to white space
pub begun_goes : (t : Text) (xs ys : List ℕ) → t ≡ Word → is_ended t xs ≡ false → has_begun xs ≡ true
    → GoesOn t xs ys (list_any is_ascii_whitespace ys) (length (front_through is_ascii_whitespace ys))
begun_goes t xs ys is none begun = rw (any_is is_ascii_whitespace ys, through_is is_ascii_whitespace ys)
    (goes_on t Word xs ys true is none (begun_is xs ∙ begun))

-- one that has not begun goes on as the word after its first bytes
pub blank_goes : (t : Text) (xs ys : List ℕ) → t ≡ Word → is_ended t xs ≡ false → has_begun xs ≡ false
    → GoesOn t xs ys (is_ended Word ys) (length (text_front Word ys))
blank_goes t xs ys is none begun =
    rw (ended_is Word ys, front_is Word ys) (goes_on t Word xs ys false is none (begun_is xs ∙ begun))
