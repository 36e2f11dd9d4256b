use Rattle.std.proofs.Common.{sym, ap, ◌∙◌, arith}
use Rattle.imagesize_texts.specs.Pnm.{is_comment}
use Rattle.imagesize_texts.proofs.Words.{visible_word}
use Rattle.imagesize_texts.proofs.formats.pnm.is_comment.Goals as goal

pub returns-in-len1-up : goal.returns-in-len1-up
returns-in-len1-up c =
    sym (visible_word c.as_bytes.result.now c.as_bytes.ensures.utf8 (omega (arith, c.in-len1-up.len_at_least))
    (sym c.is_ascii_graphic.ensures.value ∙ c.if-is_ascii_graphic.true)).1
    ∙ ap is_comment c.as_bytes.ensures.value
