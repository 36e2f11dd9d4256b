-- The portable bitmaps, by pbm(5), pgm(5) and ppm(5) of Netpbm.
use Rattle.std.specs.Prelude.{ℕ, ◌+◌, Bool, List, length, codes, nat_le, slice_index, ◌&&◌, ◌==◌, if◌then◌else◌, Option, Result, ok_or}
use Rattle.std.specs.Str.{trim}
use Rattle.imagesize_types.specs.Head.{begins}
use Rattle.imagesize_types.specs.Sides.{size_if_known}
use Rattle.imagesize_types.specs.declared.size.ImageSize.{ImageSize}
use Rattle.imagesize_source.specs.declared.halt.Halt.{Halt}
use Rattle.imagesize_source.specs.declared.halt.Halt.TheVariants.{PnmDimensionsNotFound}
use Rattle.imagesize_source.specs.Chain.{Said, Decided, Next, Chain, chain_at}
use Rattle.imagesize_source.specs.Layout.{Layout, accept}
use Rattle.imagesize_source.specs.Layout.Layout.{«done»}
use Rattle.imagesize_source.specs.Reading.{Reads}
use Rattle.imagesize_source.specs.Walk.{Step}
use Rattle.imagesize_texts.specs.Contents.{WordRead, number_text}
use Rattle.imagesize_texts.specs.Texts.{passed_line, word}

-- whether the input begins with the letter P and a digit from 1 to 6
unfoldable pub is_pnm : List ℕ → Bool
is_pnm head = begins (codes "P") head && (nat_le 0x31 (slice_index head 1) && nat_le (slice_index head 1) 0x36)

-- whether a word begins a comment: its first character after white space is `#` (White_Space of the Unicode Character
-- Database)
unfoldable pub is_comment : List ℕ → Bool
is_comment text = slice_index (trim text) 0 == 0x23

-- whether a word is only such white space
unfoldable pub is_blank : List ℕ → Bool
is_blank text = length (trim text) == 0

-- the size; an error if one of the numbers is not known
abbrev pub pnm_size : Option ℕ → Option ℕ → Result ImageSize Halt
pnm_size width height = ok_or (size_if_known width height) PnmDimensionsNotFound

-- these bytes say nothing about the size
abbrev pub pnm_passed : ℕ → ℕ → Layout (Said (Unit {0}) ImageSize)
pnm_passed offset taken = done (Next tt (offset + taken))

-- a comment goes on to the end of its line, which may be the end of its first word
abbrev pub pnm_comment : ℕ → WordRead → Layout (Said (Unit {0}) ImageSize)
pnm_comment offset w =
    if w.ended_by == 0x0A then pnm_passed offset w.taken
    else passed_line 0x0A (offset + w.taken) 1024 (λ rest. pnm_passed offset (w.taken + rest))

-- the word after the width is the height
abbrev pub pnm_height : ℕ → WordRead → Layout (Said (Unit {0}) ImageSize)
pnm_height offset w = word (offset + w.taken) (λ next. accept (pnm_size (number_text w.text) (number_text (trim next.text)))
    (λ size. done (Decided size)))

abbrev pub pnm_word : ℕ → WordRead → Layout (Said (Unit {0}) ImageSize)
pnm_word offset w =
    if is_comment w.text then pnm_comment offset w
    else if is_blank w.text then pnm_passed offset w.taken
    else pnm_height offset w

-- the words after the magic number
abbrev pub pnm_words : Chain (Unit {0}) ImageSize
pnm_words = record { first = 2; said = λ passed offset. word offset (pnm_word offset) }

-- the first word that is neither blank nor in a comment is the width
abbrev pub pnm : List ℕ → Reads ImageSize
pnm d = chain_at pnm_words d

-- the next word, with what it leads to; the words before it leave nothing
abbrev pub words_step : Step (Unit {0}) ImageSize
words_step s offset = word offset (pnm_word offset)
