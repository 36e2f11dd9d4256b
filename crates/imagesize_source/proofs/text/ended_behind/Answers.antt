use Rattle.std.proofs.Common.{◌≡◌, ℕ, ◌+◌, ◌≤◌, Bool, true, false, List, ◌++◌, length, Option, None, IfSome, sym, ◌∙◌, arith}
use Rattle.std.proofs.lemmas.List.{length-take}
use Rattle.std.specs.Char.{is_ascii_whitespace}
use Rattle.std.specs.List.{position_or_len}
use Rattle.imagesize_source.specs.Text.{is_ended, text_front}
use Rattle.imagesize_source.specs.declared.text.Text.{Text}
use Rattle.imagesize_source.specs.declared.text.Text.TheVariants.{Line, Word}
use Rattle.imagesize_source.proofs.Texts.{front_length}
use Rattle.imagesize_source.proofs.Unended.{GoesOn, begun_goes, blank_goes, line_goes}
use Rattle.imagesize_source.proofs.text.ended_behind.Goals as goal

-- the result of a search of the rest, for a text that goes on in it
found_behind : {t : Text} {xs ys : List ℕ} {ended : Bool} {n : ℕ} (r : Option ℕ) → GoesOn t xs ys ended n → n ≤ length ys
    → IfSome r (λ _. ended ≡ true) → IfSome r (λ k. k ≡ n) → (r ≡ None → ended ≡ false)
    → record {
      ended : IfSome r (λ _. is_ended t (xs ++ ys) ≡ true);
      within : IfSome r (λ k. k ≤ length ys);
      length : IfSome r (λ k. length xs + k ≡ length (text_front t (xs ++ ys)));
      «open» : r ≡ None → is_ended t (xs ++ ys) ≡ false;
    }
found_behind r on few ended long still = grind arith

pub returns-in-Line : goal.returns-in-Line
returns-in-Line c =
    let found = c.line_length.ensures in
    found_behind c.line_length.result (line_goes c.args.text _ c.args.first.now c.args.rest.now c.in-Line.is c.requires)
    (front_length (Line _) c.args.rest.now) found.ended found.length found.«open»

pub returns-in-Word : goal.returns-in-Word
returns-in-Word c =
    let found = c.through_white.ensures in
    found_behind c.through_white.result (begun_goes c.args.text c.args.first.now c.args.rest.now c.in-Word.is c.requires
    (sym c.has_begun.ensures ∙ c.if-has_begun.true))
    (omega (arith, length-take (position_or_len is_ascii_whitespace c.args.rest.now + 1) c.args.rest.now))
    found.ended found.length found.«open»

pub returns-in-Word-2 : goal.returns-in-Word-2
returns-in-Word-2 c =
    let found = c.word_length.ensures in
    found_behind c.word_length.result (blank_goes c.args.text c.args.first.now c.args.rest.now c.in-Word-2.is c.requires
    (sym c.has_begun.ensures ∙ c.if-has_begun.false))
    (front_length Word c.args.rest.now) found.ended found.length found.«open»
