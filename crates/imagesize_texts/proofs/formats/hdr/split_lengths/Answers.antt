use Rattle.std.proofs.Common.{◌≡◌, ◌<◌, ℕ, List, [], ◌∷◌, length, None, ap, sym, ◌∙◌, arith, rules}
use Rattle.std.specs.Str.{IsUtf8}
use Rattle.imagesize_texts.specs.Contents.{words}
use Rattle.imagesize_texts.specs.Hdr.{second_and_fourth}
use Rattle.imagesize_texts.proofs.Hdr.{other_words, four_words}
use Rattle.imagesize_texts.proofs.Words.{Taken, TakesWord, taken_start, taken_next, taken_end}
use Rattle.imagesize_texts.proofs.formats.hdr.split_lengths.Goals as goal

-- a text of fewer words than four
few_words : (text : List ℕ) {ws : List (List ℕ)} → words text ≡ ws → length ws < 4
    → second_and_fourth (words text) ≡ None
few_words text is few = other_words (words text) (λ four. absurd (omega (arith, four, few, ap length is)))

-- the first two words are taken
two_taken : {text b0 b1 b2 w0 w1 : List ℕ} → IsUtf8 text → b0 ≡ text → TakesWord b0 w0 b1 → TakesWord b1 w1 b2
    → Taken text (w0 ∷ w1 ∷ []) b2
two_taken utf is first second = taken_next (taken_next (taken_start utf is) first) second

-- and two more
four_taken : {text b2 b3 b4 w0 w1 w2 w3 : List ℕ} → Taken text (w0 ∷ w1 ∷ []) b2 → TakesWord b2 w2 b3
    → TakesWord b3 w3 b4
    → Taken text (w0 ∷ w1 ∷ w2 ∷ w3 ∷ []) b4
four_taken two third fourth = taken_next (taken_next two third) fourth

pub returns-in_err-next : goal.returns-in_err-next
returns-in_err-next c =
    let t0 = taken_start c.utf8.text c.split_whitespace-words.ensures.rest in
    let none = few_words c.args.text.now (taken_end t0 c.in_err-next.ensures.steps.1) (omega arith) in
    search (rules, none, c.from_residual.ensures)

pub returns-in_err-height : goal.returns-in_err-height
returns-in_err-height c =
    let t1 = taken_next (taken_start c.utf8.text c.split_whitespace-words.ensures.rest) c.in_ok-next.ensures.steps in
    let none = few_words c.args.text.now (taken_end t1 c.in_err-height.ensures.steps.1) (omega arith) in
    search (rules, none, c.from_residual-in_err-height.ensures)

pub returns-in_err-next-2 : goal.returns-in_err-next-2
returns-in_err-next-2 c =
    let t2 = two_taken c.utf8.text c.split_whitespace-words.ensures.rest c.in_ok-next.ensures.steps
    c.in_ok-height.ensures.steps in
    let none = few_words c.args.text.now (taken_end t2 c.in_err-next-2.ensures.steps.1) (omega arith) in
    search (rules, none, c.from_residual-in_err-next-2.ensures)

pub returns-in_err-width : goal.returns-in_err-width
returns-in_err-width c =
    let t2 = two_taken c.utf8.text c.split_whitespace-words.ensures.rest c.in_ok-next.ensures.steps
    c.in_ok-height.ensures.steps in
    let t3 = taken_next t2 c.in_ok-next-2.ensures.steps in
    let none = few_words c.args.text.now (taken_end t3 c.in_err-width.ensures.steps.1) (omega arith) in
    search (rules, none, c.from_residual-in_err-width.ensures)

pub returns-in-Some : goal.returns-in-Some
returns-in-Some c =
    let t2 = two_taken c.utf8.text c.split_whitespace-words.ensures.rest c.in_ok-next.ensures.steps
    c.in_ok-height.ensures.steps in
    let t4 = four_taken t2 c.in_ok-next-2.ensures.steps c.in_ok-width.ensures.steps in
    let t5 = taken_next t4 c.in-Some.ensures.steps in
    sym (other_words (words c.args.text.now) (λ four. absurd (omega (arith, four, ap length t5.is))))

pub returns-in-None : goal.returns-in-None
returns-in-None c =
    let t2 = two_taken c.utf8.text c.split_whitespace-words.ensures.rest c.in_ok-next.ensures.steps
    c.in_ok-height.ensures.steps in
    let t4 = four_taken t2 c.in_ok-next-2.ensures.steps c.in_ok-width.ensures.steps in
    sym (ap second_and_fourth (taken_end t4 c.in-None.ensures.steps.1)
    ∙ four_words _ c.in_ok-height.height.now _ c.in_ok-width.width.now)
