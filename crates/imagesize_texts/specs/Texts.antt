-- Reads of texts: lines of a greatest length, and words.
use Rattle.std.specs.Prelude.{ℕ, List, length, Result}
use Rattle.imagesize_source.specs.declared.halt.Halt.{Halt}
use Rattle.imagesize_source.specs.declared.text.Text.{Text}
use Rattle.imagesize_source.specs.declared.text.Text.TheVariants.{Line, Word}
use Rattle.imagesize_source.specs.Input.{span_at}
use Rattle.imagesize_source.specs.Layout.{Layout, text, accept}
use Rattle.imagesize_source.specs.Reading.{Reads, just, text_part}
use Rattle.imagesize_texts.specs.declared.util.Word as declared
use Rattle.imagesize_texts.specs.Contents.{WordRead, word_room, line_text, line_length, word_text}

-- the text of a line of at most `most` bytes, which a delimiter ends
abbrev pub line_at : {X : Type 0} → ℕ → ℕ → ℕ → (List ℕ → Layout X) → Layout X
line_at delimiter offset most f = text (Line delimiter) offset most (λ bs. accept (line_text delimiter most bs) f)

-- the length of such a line in bytes; it need not be UTF-8
abbrev pub passed_line : {X : Type 0} → ℕ → ℕ → ℕ → (ℕ → Layout X) → Layout X
passed_line delimiter offset most f = text (Line delimiter) offset most (λ bs. accept (line_length delimiter most bs) f)

-- a word, after white space
abbrev pub word : {X : Type 0} → ℕ → (WordRead → Layout X) → Layout X
word offset f = text Word offset word_room (λ bs. accept (word_text bs) f)

-- the read of a text, with a function applied to its bytes
abbrev pub text_as : {X : Type 0} → List ℕ → Text → ℕ → ℕ → (List ℕ → Result X Halt) → Reads X
text_as d t offset k f = just (f (text_part d t offset k)) (span_at offset (length (text_part d t offset k)))

-- the reads of these three
abbrev pub line_read : List ℕ → ℕ → ℕ → ℕ → Reads (List ℕ)
line_read d delimiter offset most = text_as d (Line delimiter) offset most (line_text delimiter most)

abbrev pub length_read : List ℕ → ℕ → ℕ → ℕ → Reads ℕ
length_read d delimiter offset most = text_as d (Line delimiter) offset most (line_length delimiter most)

abbrev pub word_read : List ℕ → ℕ → Reads WordRead
word_read d offset = text_as d Word offset word_room word_text

-- a word as the code returns it
abbrev pub read_word_of : declared.Word → WordRead
read_word_of word = record { text = word.text.now; ended_by = word.ended_by; taken = word.taken }
