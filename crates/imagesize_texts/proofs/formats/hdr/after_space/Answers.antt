use Rattle.std.proofs.Common.{◌≡◌, ◌∙◌, sym, ap, arith}
use Rattle.std.proofs.lemmas.Str.{IsCharBoundary-after_ascii}
use Rattle.std.specs.Prelude.{slice_index}
use Rattle.imagesize_texts.specs.Contents.{words}
use Rattle.imagesize_texts.proofs.Words.{space_before}
use Rattle.imagesize_texts.proofs.formats.hdr.after_space.Goals as goal

pub range_from-requires : goal.range_from-requires
range_from-requires c = λ _.
    let is : slice_index c.args.text.now 0 ≡ 32 =
    ap (λ bs. slice_index bs 0) (sym c.as_bytes.ensures.value) ∙ c.if-first-eq32.true in
    IsCharBoundary-after_ascii c.args.text.now 0 c.utf8.text
    (omega (arith, c.in-len1-up.len_at_least, c.as_bytes.ensures.len)) (omega (arith, is))

pub returns-in-len1-up : goal.returns-in-len1-up
returns-in-len1-up c =
    let is : slice_index c.args.text.now 0 ≡ 32 =
    ap (λ bs. slice_index bs 0) (sym c.as_bytes.ensures.value) ∙ c.if-first-eq32.true in
    ap words c.range_from.ensures.value
    ∙ space_before c.args.text.now c.utf8.text
    (omega (arith, c.in-len1-up.len_at_least, c.as_bytes.ensures.len)) is
