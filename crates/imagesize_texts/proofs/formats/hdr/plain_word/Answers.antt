use Rattle.std.proofs.Common.{◌≡◌, ◌<◌, ◌∙◌, ◌∷◌, List, ℕ, not, eqb, false, length, take, drop, sym, ap, arith}
use Rattle.std.proofs.lemmas.Bool.Decides.{nat_tests}
use Rattle.std.specs.Prelude.{slice_index}
use Rattle.imagesize_texts.specs.Contents.{words}
use Rattle.imagesize_texts.proofs.Words.{plain_front}
use Rattle.imagesize_texts.proofs.formats.hdr.plain_word.Goals as goal
use Rattle.imagesize_texts.proofs.formats.hdr.plain_word.Goals.{then-end-bytes, else-end-bytes}

a_space : (b : ℕ) → not (eqb b 32) ≡ false → b ≡ 32
a_space b is = grind (arith, nat_tests)

pub returns : goal.returns
returns c =
    let text : List ℕ = c.after_space-text.result.now in
    let bytes : List ℕ = c.as_bytes-bytes.result.now in
    let end : ℕ = c.loop-end.end in
    let ended : end < length bytes → slice_index bytes end ≡ 32 =
    λ inside. elim c.if-end-bytes.branch [
      | then-end-bytes w ↦ a_space _ (sym w.value-is ∙ c.if-bytes-end-ne32.false)
      | else-end-bytes w ↦ absurd (omega (arith, inside, w.if-end-bytes.false))
    ] in
    sym c.after_space-text.ensures
    ∙ ap words (sym c.as_bytes-bytes.ensures.value)
    ∙ plain_front bytes end c.as_bytes-bytes.ensures.utf8 (omega (arith, c.if-end-eq0.false)) c.loop-end.invariant.0
    c.loop-end.invariant.1 ended
    ∙ ap (λ t. take end t ∷ words (drop end t)) c.as_bytes-bytes.ensures.value
    ∙ ap (λ word. word ∷ words (drop end text)) (sym c.split_at.ensures.front)
    ∙ ap (λ rest. c.split_at.result.0.now ∷ words rest) (sym c.split_at.ensures.back)
