use Rattle.std.proofs.Common.{◌≡◌, ◌∙◌, ◌∷◌, List, ℕ, [], length, eqb-true, sym, ap}
use Rattle.imagesize_texts.specs.Hdr.{second_and_fourth}
use Rattle.imagesize_texts.specs.Contents.{words}
use Rattle.imagesize_texts.proofs.Hdr.{four_words}
use Rattle.imagesize_texts.proofs.Words.{no_words}
use Rattle.imagesize_texts.proofs.formats.hdr.plain_lengths.Goals as goal

-- four words, each with the words behind it
chained : (text r0 r1 r2 r3 : List ℕ) (w0 w1 w2 w3 : List ℕ) → words text ≡ w0 ∷ words r0 → words r0 ≡ w1 ∷ words r1
    → words r1 ≡ w2 ∷ words r2
    → words r2 ≡ w3 ∷ words r3 → length r3 ≡ 0 → words text ≡ w0 ∷ w1 ∷ w2 ∷ w3 ∷ []
chained text r0 r1 r2 r3 w0 w1 w2 w3 first second third fourth none =
    let rest = fourth ∙ ap (λ ws. w3 ∷ ws) (no_words r3 none) in
    first ∙ ap (λ ws. w0 ∷ ws) (second ∙ ap (λ ws. w1 ∷ ws) (third ∙ ap (λ ws. w2 ∷ ws) rest))

pub returns : goal.returns
returns c =
    let four = chained c.args.text.now c.in_ok-rest.rest.now c.in_ok-height.rest.now c.in_ok-rest-2.rest.now
    c.in_ok-width.rest.now c.in_ok-rest.field-0-0.now c.in_ok-height.height.now c.in_ok-rest-2.field-0-0.now c.in_ok-width.width.now
    c.in_ok-rest.ensures c.in_ok-height.ensures c.in_ok-rest-2.ensures c.in_ok-width.ensures
    (eqb-true _ _ (sym c.is_empty.ensures ∙ c.if-not-is_empty.false)) in
    ap second_and_fourth four
    ∙ four_words c.in_ok-rest.field-0-0.now c.in_ok-height.height.now c.in_ok-rest-2.field-0-0.now c.in_ok-width.width.now
