-- PNM: how a walk along its words goes, how many bytes they are read from, and what it sees of an input.
use Rattle.std.proofs.Common.{◌≡◌, ℕ, ◌+◌, ◌<◌, eqb, List, Option, None, true, Err, refl, sym, ap, arith}
use Rattle.std.specs.Str.{trim}
use Rattle.imagesize_types.specs.declared.size.ImageSize.{ImageSize}
use Rattle.imagesize_source.specs.declared.halt.Halt.{Halt}
use Rattle.imagesize_source.specs.Chain.{Said, Decided, Advances}
use Rattle.imagesize_source.specs.Extension.{Plain}
use Rattle.imagesize_source.specs.declared.halt.Halt.TheVariants.{Ended}
use Rattle.imagesize_source.specs.Layout.{Layout, done, accept}
use Rattle.imagesize_source.specs.Reading.{uncounted}
use Rattle.imagesize_source.specs.Walk.{CanFollow, EndsBy, run}
use Rattle.imagesize_source.proofs.Advances.{Begins, Tells, advances, states_follow}
use Rattle.imagesize_source.proofs.Ahead.{Ahead, chain_ahead}
use Rattle.imagesize_source.proofs.Agreement.{with_texts}
use Rattle.imagesize_source.proofs.ChainLaws.{local_chain, lasts_chain}
use Rattle.imagesize_source.proofs.Spends.{said_to}
use Rattle.imagesize_source.proofs.Tests.{on_test}
use Rattle.imagesize_source.proofs.Way.{TextsLaws, answers_last}
use Rattle.imagesize_texts.specs.Contents.{WordRead, number_text}
use Rattle.imagesize_texts.specs.Pnm.{pnm, words_step, pnm_words, pnm_word, pnm_comment, pnm_passed, pnm_height, pnm_size, is_comment, is_blank}
use Rattle.imagesize_texts.specs.Texts.{passed_line}
use Rattle.imagesize_texts.proofs.Alike.{alone}
use Rattle.imagesize_texts.proofs.Texts.{found_by, length_made, text_begins, text_onto, text_plain, text_tells, word_beyond, word_made}

-- what holds of each way that a word can go
by_word : (P : Layout (Said (Unit {0}) ImageSize) → Type 0) (offset : ℕ) (w : WordRead) → P (pnm_passed offset w.taken)
    → P (passed_line 0x0A (offset + w.taken) 1024 (λ rest. pnm_passed offset (w.taken + rest))) → P (pnm_height offset w)
    → P (pnm_word offset w)
by_word P offset w passed comment height =
    on_test P (is_comment w.text) (pnm_comment offset w) _
    (λ _. on_test P (eqb w.ended_by 0x0A) (pnm_passed offset w.taken) (passed_line 0x0A (offset + w.taken) 1024
    (λ rest. pnm_passed offset (w.taken + rest))) (λ _. passed) (λ _. comment))
    (λ _. on_test P (is_blank w.text) (pnm_passed offset w.taken) (pnm_height offset w) (λ _. passed) (λ _. height))

-- and of the size that the width and the height give
by_size : (P : Layout (Said (Unit {0}) ImageSize) → Type 0) (width height : Option ℕ)
    → ((size : ImageSize) → P (done (Decided size)))
    → ((e : Halt) → P (accept (Err e) (λ (size : ImageSize). done (Decided size))))
    → P (accept (pnm_size width height) (λ size. done (Decided size)))
by_size P width height decided refused =
    found_by P (pnm_size width height) (λ size. done (Decided size)) (λ size _. decided size) refused

-- a word tells an offset behind its own
words_tell : (s : Unit {0}) (offset : ℕ) → Tells (λ p. offset < p) (words_step s offset)
words_tell s offset = text_tells word_made offset (pnm_word offset) (λ p. offset < p)
    (λ w some. by_word (Tells (λ p. offset < p)) offset w (omega arith)
    (text_tells (length_made 0x0A 1024) (offset + w.taken) (λ rest. pnm_passed offset (w.taken + rest)) (λ p. offset < p)
    (λ n _. omega arith))
    (text_tells word_made (offset + w.taken) (λ next. accept (pnm_size (number_text w.text) (number_text (trim next.text)))
    (λ size. done (Decided size))) (λ p. offset < p)
    (λ next _. by_size (Tells (λ p. offset < p)) (number_text w.text) (number_text (trim next.text)) (λ size. tt)
    (λ e. tt))))

words_begin : (s : Unit {0}) (offset : ℕ) → Begins offset (words_step s offset)
words_begin s offset = text_begins word_made offset (pnm_word offset) offset (omega arith)

pub words_follow : CanFollow words_step
words_follow = states_follow words_step words_tell words_begin

pub pnm_advances : (d : List ℕ) → Advances pnm_words d
pnm_advances = advances pnm_words (λ passed offset. words_tell tt offset) (λ passed offset. words_begin tt offset)

pub pnm_laws : TextsLaws 12 true true pnm
pnm_laws = record {
  local = local_chain pnm_words pnm_advances (λ passed offset. with_texts (pnm_words.said passed offset));
  -- the words are read from at most the bytes behind the magic number
  within = λ d. omega (
    arith,
    chain_ahead pnm_words d (pnm_advances d)
        (λ passed offset. text_onto word_made offset (pnm_word offset) (said_to (λ _. None)) offset (omega arith)
        (λ w. by_word (Ahead (offset + w.taken)) offset w (omega arith)
        (text_onto (length_made 0x0A 1024) (offset + w.taken) (λ rest. pnm_passed offset (w.taken + rest))
        (said_to (λ _. None)) (offset + w.taken) (omega arith) (λ n. omega arith))
        (text_onto word_made (offset + w.taken) (λ next. accept (pnm_size (number_text w.text)
        (number_text (trim next.text))) (λ size. done (Decided size))) (said_to (λ _. None)) (offset + w.taken)
        (omega arith)
        (λ next. by_size (Ahead (offset + w.taken + next.taken)) (number_text w.text) (number_text (trim next.text))
        (λ size. tt) (λ e. tt))))),
  );
  lasts = λ _. answers_last pnm (lasts_chain pnm_words pnm_advances
      (λ passed offset. text_plain word_made offset (pnm_word offset)
      (λ w. by_word Plain offset w tt
      (text_plain (length_made 0x0A 1024) (offset + w.taken) (λ rest. pnm_passed offset (w.taken + rest)) (λ n. tt))
      (text_plain word_made (offset + w.taken) (λ next. accept (pnm_size (number_text w.text)
      (number_text (trim next.text))) (λ size. done (Decided size)))
      (λ next. by_size Plain (number_text w.text) (number_text (trim next.text)) (λ size. tt) (λ e. tt))))));
}

-- from the end of the input on there is no word
pub words_end : (s : Unit {0}) → EndsBy words_step s (Err Ended)
words_end s d offset far = ap uncounted (word_beyond d offset (pnm_word offset) far)

-- the size is that of a walk along the words
pub words_are : (d : List ℕ) → pnm d ≡ run words_step tt 2 d
words_are d = sym (alone words_step words_follow pnm_words d (pnm_advances d) (λ held offset. refl))
