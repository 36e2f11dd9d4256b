use Rattle.std.proofs.Common.{◌≡◌, ◌≢◌, ◌≤◌, ◌+◌, ℕ, List, [], ◌∷◌, ◌++◌, length, true, false, ap, ◌∙◌, sym, arith}
use Rattle.std.specs.Prelude.{slice_index}
use Rattle.std.proofs.lemmas.Bool.Decides.{nat_tests}
use Rattle.imagesize_source.specs.declared.text.Text.{Text}
use Rattle.imagesize_source.specs.declared.text.Text.TheVariants.{Line}
use Rattle.imagesize_source.specs.Text.{is_ended, text_front}
use Rattle.imagesize_source.proofs.Texts.{ended_is, front_is}
use Rattle.imagesize_source.proofs.Unended.{line_goes}
use Rattle.imagesize_io.proofs.reader.held.end_of.Goals as goal

-- the line at the front of the bytes ends, and has n bytes
abbrev Ends : ℕ → List ℕ → ℕ → Type 0
Ends d bs n = (is_ended (Line d) bs ≡ true) × (length (text_front (Line d) bs) ≡ n)

one : (d : ℕ) (bs : List ℕ) → 2 ≤ length bs → slice_index bs 0 ≡ d → Ends d bs 1
one d [] some is = absurd (omega (arith, some))
one d (b ∷ bs) some is = grind (arith, nat_tests, ended_is, front_is)

two : (d : ℕ) (bs : List ℕ) → 2 ≤ length bs → slice_index bs 0 ≢ d → slice_index bs 1 ≡ d → Ends d bs 2
two d [] some isnt is = absurd (omega (arith, some))
two d (b ∷ []) some isnt is = absurd (omega (arith, some))
two d (b ∷ c ∷ bs) some isnt is = grind (arith, nat_tests, ended_is, front_is)

-- a line that its first bytes do not end, and that ends in the rest
ends : {t : Text} {d n : ℕ} (xs ys : List ℕ) → t ≡ Line d → is_ended t xs ≡ false → Ends d ys n
    → (is_ended t (xs ++ ys) ≡ true) × (length xs + n ≡ length (text_front t (xs ++ ys)))
ends xs ys is none end =
    let goes = line_goes _ _ xs ys is none in (goes.end ∙ end.0, sym (goes.long ∙ ap (λ n. length xs + n) end.1))

pub returns-then-rest-delimiter-clause-ended : goal.returns-then-rest-delimiter-clause-ended
returns-then-rest-delimiter-clause-ended c =
    (ends c.args.first.now c.args.rest.now c.in-Line.is c.requires (one _ _ (omega (arith, c.if-rest-ge-SEARCHED.true)) c.if-rest-delimiter.true)).0

pub returns-then-rest-delimiter-clause-length : goal.returns-then-rest-delimiter-clause-length
returns-then-rest-delimiter-clause-length c =
    (ends c.args.first.now c.args.rest.now c.in-Line.is c.requires (one _ _ (omega (arith, c.if-rest-ge-SEARCHED.true)) c.if-rest-delimiter.true)).1

pub returns-then-rest-delimiter-2-clause-ended : goal.returns-then-rest-delimiter-2-clause-ended
returns-then-rest-delimiter-2-clause-ended c =
    (ends c.args.first.now c.args.rest.now c.in-Line.is c.requires (two _ _ (omega (arith, c.if-rest-ge-SEARCHED.true)) c.if-rest-delimiter.false
    c.if-rest-delimiter-2.true)).0

pub returns-then-rest-delimiter-2-clause-length : goal.returns-then-rest-delimiter-2-clause-length
returns-then-rest-delimiter-2-clause-length c =
    (ends c.args.first.now c.args.rest.now c.in-Line.is c.requires (two _ _ (omega (arith, c.if-rest-ge-SEARCHED.true)) c.if-rest-delimiter.false
    c.if-rest-delimiter-2.true)).1
