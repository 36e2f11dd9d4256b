-- What the bytes of a text hold.
use Rattle.std.specs.Prelude.{ℕ, ◌-◌, ◌^◌, Bool, ◌&&◌, List, [], ◌∷◌, take, map, filter, length, slice_index, nat_lt, ◌==◌, if◌then◌else◌, Option, None, Some, Result, Ok, Err}
use Rattle.std.specs.Char.{is_ascii_whitespace, is_whitespace}
use Rattle.std.specs.List.{slice_split}
use Rattle.std.specs.Str.{is_utf8, chars, encode_utf8_all, all_ascii_digits}
use Rattle.std.specs.Str.Parse.{digits_value, without_leading_plus}
use Rattle.imagesize_source.specs.declared.halt.Halt.{Halt}
use Rattle.imagesize_source.specs.declared.halt.Halt.TheVariants.{Ended, NoDelimiter, NotUtf8}
use Rattle.imagesize_source.specs.Reading.{map_answer}

-- the last byte, and the bytes before it
abbrev pub last_byte : List ℕ → ℕ
last_byte bs = slice_index bs (length bs - 1)

abbrev pub before_last : List ℕ → List ℕ
before_last bs = take (length bs - 1) bs

-- whether there is a last byte, and it passes
abbrev pub last_passes : (ℕ → Bool) → List ℕ → Bool
last_passes p bs = nat_lt 0 (length bs) && p (last_byte bs)

-- why a text has no end: none of its `most` bytes ends it, or the input ends first
abbrev pub no_end : ℕ → ℕ → Halt
no_end most count = if count == most then (NoDelimiter most) else Ended

-- the bytes as text; an error if they are not UTF-8 (RFC 3629, section 3)
unfoldable pub utf8 : List ℕ → Result (List ℕ) Halt
utf8 bs = if is_utf8 bs then Ok bs else Err NotUtf8

-- the text of a line of at most `most` bytes, without the delimiter that ends it
unfoldable pub line_text : ℕ → ℕ → List ℕ → Result (List ℕ) Halt
line_text delimiter most bs = if last_passes (λ b. b == delimiter) bs then utf8 (before_last bs) else Err (no_end most (length bs))

-- the length of such a line in bytes; it need not be UTF-8
unfoldable pub line_length : ℕ → ℕ → List ℕ → Result ℕ Halt
line_length delimiter most bs = if last_passes (λ b. b == delimiter) bs then Ok (length bs) else Err (no_end most (length bs))

-- A word: its text, the byte of white space that ends it, and its length in bytes. `taken` includes the white space
-- before the word and the byte that ends it.
pub record WordRead : Type 0 where
  pub text : List ℕ
  pub ended_by : ℕ
  pub taken : ℕ

-- a word is shorter than this number of bytes, with the white space before and after it
abbrev pub word_room : ℕ
word_room = 1024

-- the bytes after the white space before a word
abbrev pub behind_space : List ℕ → List ℕ
behind_space [] = []
behind_space (b ∷ bs) = if is_ascii_whitespace b then behind_space bs else b ∷ bs

-- the word at the front of these bytes; `count` includes the white space before it
abbrev pub word_at : ℕ → List ℕ → List ℕ → WordRead
word_at count bs text = record { text = text; ended_by = last_byte bs; taken = count }

abbrev pub word_of : ℕ → List ℕ → Result WordRead Halt
word_of count bs = map_answer (word_at count bs) (utf8 (before_last bs))

-- whether the byte ends a word: it is white space, and the word is short enough
abbrev pub is_word_end : ℕ → ℕ → Bool
is_word_end byte count = is_ascii_whitespace byte && nat_lt count word_room

-- the word that these bytes are; `count` includes the white space before it
unfoldable pub ended_word : ℕ → List ℕ → Result WordRead Halt
ended_word count bs = if last_passes (λ b. is_word_end b count) bs then word_of count bs else Err (no_end word_room count)

-- a word after white space
unfoldable pub word_text : List ℕ → Result WordRead Halt
word_text bs = ended_word (length bs) (behind_space bs)

-- whether the text is a number below 2^64: digits, with an optional `+` before them
unfoldable pub is_number : List ℕ → Bool
is_number text = (nat_lt 0 (length (without_leading_plus text)) && all_ascii_digits (without_leading_plus text)) && nat_lt
    (digits_value 10 (without_leading_plus text)) (2 ^ 64)

-- the number that a text is
unfoldable pub number_text : List ℕ → Option ℕ
number_text text = if is_number text then Some (digits_value 10 (without_leading_plus text)) else None

-- the words of a text, separated by white space (White_Space of the Unicode Character Database)
abbrev pub char_words : List ℕ → List (List ℕ)
char_words cs = filter (λ word. nat_lt 0 (length word)) (slice_split is_whitespace cs)

unfoldable pub words : List ℕ → List (List ℕ)
words text = map encode_utf8_all (char_words (chars text))
