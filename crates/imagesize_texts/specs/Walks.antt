-- The header of a portable bitmap, part by part: a word, the rest of a comment, or the height.
use Rattle.std.specs.Prelude.{ℕ, ◌+◌, ◌==◌, if◌then◌else◌, Option}
use Rattle.std.specs.Str.{trim}
use Rattle.imagesize_types.specs.declared.size.ImageSize.{ImageSize}
use Rattle.imagesize_source.specs.Chain.{Said, Next}
use Rattle.imagesize_source.specs.Layout.{Layout, accept}
use Rattle.imagesize_source.specs.Layout.Layout.{«done»}
use Rattle.imagesize_source.specs.Walk.{decides}
use Rattle.imagesize_texts.specs.Contents.{WordRead, number_text}
use Rattle.imagesize_texts.specs.Pnm.{is_blank, is_comment, pnm_size}
use Rattle.imagesize_texts.specs.Texts.{passed_line, word}
use Rattle.imagesize_texts.specs.declared.formats.pnm.Part.{Part}
use Rattle.imagesize_texts.specs.declared.formats.pnm.Part.TheVariants.{Comment, Height, Word}

-- the part after a word; a comment may end with its first word, and the first other word is the width
abbrev pub part_after : WordRead → Part
part_after w =
    if is_comment w.text then (if w.ended_by == 0x0A then Word else Comment)
    else if is_blank w.text then Word
    else Height (number_text w.text)

abbrev pub word_step : ℕ → WordRead → Layout (Said Part ImageSize)
word_step offset w = done (Next (part_after w) (offset + w.taken))

-- a comment goes on to the end of its line
abbrev pub comment_step : ℕ → ℕ → Layout (Said Part ImageSize)
comment_step offset taken = done (Next Word (offset + taken))

-- the word after the width is the height
abbrev pub height_step : Option ℕ → WordRead → Layout (Said Part ImageSize)
height_step width w = accept (pnm_size width (number_text (trim w.text))) decides

-- the next part
abbrev pub pnm_step : Part → ℕ → Layout (Said Part ImageSize)
pnm_step Word offset = word offset (word_step offset)
pnm_step Comment offset = passed_line 0x0A offset 1024 (comment_step offset)
pnm_step (Height width) offset = word offset (height_step width)
