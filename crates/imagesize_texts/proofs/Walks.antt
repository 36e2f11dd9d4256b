-- A walk along the parts of a PNM's header: how it goes, and that it finds the size.
use Rattle.std.proofs.Common.{◌≡◌, ℕ, ◌+◌, ◌<◌, Bool, true, false, cond, eqb, List, Result, Ok, Err, refl, sym, ap, ◌∙◌, arith}
use Rattle.std.specs.Str.{trim}
use Rattle.imagesize_types.specs.declared.size.ImageSize.{ImageSize}
use Rattle.imagesize_source.specs.declared.halt.Halt.{Halt}
use Rattle.imagesize_source.specs.declared.halt.Halt.TheVariants.{Ended}
use Rattle.imagesize_source.specs.declared.text.Text.TheVariants as text
use Rattle.imagesize_source.specs.Chain.{Said, Decided}
use Rattle.imagesize_source.specs.Layout.{accept, done, layout_reads}
use Rattle.imagesize_source.specs.Reading.{Reads, and_then, uncounted}
use Rattle.imagesize_source.specs.Walk.{CanFollow, EndsBy, decides, run}
use Rattle.imagesize_source.proofs.Advances.{Begins, Tells, accepted_tells, states_follow}
use Rattle.imagesize_source.proofs.States.{goes, run_unfolds}
use Rattle.imagesize_texts.specs.Contents.{WordRead, line_length, number_text, word_room, word_text}
use Rattle.imagesize_texts.specs.Pnm.{is_blank, is_comment, pnm, pnm_height, pnm_passed, pnm_size, pnm_word, pnm_words}
use Rattle.imagesize_texts.specs.Texts.{passed_line}
use Rattle.imagesize_texts.specs.Walks.{comment_step, height_step, pnm_step, part_after, word_step}
use Rattle.imagesize_texts.specs.declared.formats.pnm.Part.{Part}
use Rattle.imagesize_texts.specs.declared.formats.pnm.Part.TheVariants.{Comment, Height, Word}
use Rattle.imagesize_texts.proofs.Alike.{alike, from, text_alike}
use Rattle.imagesize_texts.proofs.Pnm.{pnm_advances}
use Rattle.imagesize_texts.proofs.Texts.{passed_begins, passed_beyond, passed_tells_on, word_begins, word_beyond, word_tells}

-- a part tells an offset behind its own
pub pnm_tells : (part : Part) (offset : ℕ) → Tells (λ p. offset < p) (pnm_step part offset)
pnm_tells Word offset = word_tells offset (word_step offset) (λ p. offset < p) (λ w some. omega arith)
pnm_tells Comment offset = passed_tells_on 0x0A offset 1024 (comment_step offset) (λ p. offset < p) (λ taken some. omega arith)
pnm_tells (Height width) offset = word_tells offset (height_step width) (λ p. offset < p)
    (λ w _. accepted_tells Part (λ p. offset < p) (pnm_size width (number_text (trim w.text))))

pub pnm_begins : (part : Part) (offset : ℕ) → Begins offset (pnm_step part offset)
pnm_begins Word offset = word_begins offset (word_step offset) offset (omega arith)
pnm_begins Comment offset = passed_begins 0x0A offset 1024 (comment_step offset)
pnm_begins (Height width) offset = word_begins offset (height_step width) offset (omega arith)

pub pnm_follows : CanFollow pnm_step
pnm_follows = states_follow pnm_step pnm_tells pnm_begins

-- from the end of the input on there is no part
pub pnm_ends : (part : Part) → EndsBy pnm_step part (Err Ended)
pnm_ends Word d offset far = ap uncounted (word_beyond d offset (word_step offset) far)
pnm_ends Comment d offset far = ap uncounted (passed_beyond d 0x0A offset 1024 (comment_step offset) far (omega arith))
pnm_ends (Height width) d offset far = ap uncounted (word_beyond d offset (height_step width) far)

module _ (d : List ℕ) where
  abbrev on : Said Part ImageSize → Reads ImageSize
  on = goes pnm_step d (pnm_follows d)

  abbrev back : Said (Unit {0}) ImageSize → Reads ImageSize
  back = from pnm_step Word d

  comment_as : (offset taken : ℕ) → run pnm_step Comment (offset + taken) d
      ≡ and_then (layout_reads d (passed_line 0x0A (offset + taken) 1024 (λ rest. pnm_passed offset (taken + rest)))) back
  comment_as offset taken = run_unfolds pnm_step d (pnm_follows d) Comment (offset + taken)
      ∙ text_alike d (text.Line 0x0A) (offset + taken) 1024 (line_length 0x0A 1024) (comment_step (offset + taken))
      (λ rest. pnm_passed offset (taken + rest)) on back
      (λ rest. let same : offset + taken + rest ≡ offset + (taken + rest) = omega arith in
      ap (λ q. run pnm_step Word q d) same)

  height_as : (offset : ℕ) (w : WordRead) → run pnm_step (Height (number_text w.text)) (offset + w.taken) d
      ≡ and_then (layout_reads d (pnm_height offset w)) back
  height_as offset w = run_unfolds pnm_step d (pnm_follows d) (Height (number_text w.text)) (offset + w.taken)
      ∙ text_alike d text.Word (offset + w.taken) word_room word_text (height_step (number_text w.text))
      (λ next. accept (pnm_size (number_text w.text) (number_text (trim next.text))) (λ size. done (Decided size))) on back
      (λ next. sized (pnm_size (number_text w.text) (number_text (trim next.text))))
    where
      sized : (r : Result ImageSize Halt) → and_then (layout_reads d (accept r decides)) on
          ≡ and_then (layout_reads d (accept r (λ size. done (Decided size)))) back
      sized (Ok size) = refl
      sized (Err e) = refl

  -- after its first word a comment goes on, and after the width the height is read
  word_as : (offset : ℕ) (w : WordRead) → run pnm_step (part_after w) (offset + w.taken) d
      ≡ and_then (layout_reads d (pnm_word offset w)) back
  word_as offset w = by_tests (is_comment w.text) (eqb w.ended_by 0x0A) (is_blank w.text) where
    by_tests : (comment line blank : Bool)
        → run pnm_step (cond comment (cond line Word Comment) (cond blank Word (Height (number_text w.text)))) (offset + w.taken) d
        ≡ and_then (layout_reads d (cond comment (cond line (pnm_passed offset w.taken) (passed_line 0x0A (offset + w.taken) 1024
        (λ rest. pnm_passed offset (w.taken + rest)))) (cond blank (pnm_passed offset w.taken) (pnm_height offset w)))) back
    by_tests true true blank = refl
    by_tests true false blank = comment_as offset w.taken
    by_tests false line true = refl
    by_tests false line false = height_as offset w

-- the size is that of a walk along the parts
pub pnm_is : (d : List ℕ) → pnm d ≡ run pnm_step Word 2 d
pnm_is d = sym (alike pnm_step Word pnm_words d (pnm_advances d)
    (λ held offset. run_unfolds pnm_step d (pnm_follows d) Word offset
    ∙ text_alike d text.Word offset word_room word_text (word_step offset) (pnm_word offset) (on d) (back d) (word_as d offset)))
