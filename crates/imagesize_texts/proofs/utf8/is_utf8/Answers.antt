use Rattle.std.proofs.Common.{sym, ◌∙◌}
use Rattle.imagesize_texts.proofs.Ascii.{ascii_is_utf8, told_by}
use Rattle.imagesize_texts.proofs.utf8.is_utf8.Goals as goal

pub returns-then-is_ascii : goal.returns-then-is_ascii
returns-then-is_ascii c =
    c.if-is_ascii.true ∙ sym (ascii_is_utf8 c.args.bytes.now (c.is_ascii.ensures c.if-is_ascii.true))

pub returns-else-is_ascii : goal.returns-else-is_ascii
returns-else-is_ascii c = c.is_ok.ensures.value
    ∙ told_by c.args.bytes.now c.from_utf8.result c.from_utf8.ensures.cases (λ text is. is.1) (λ error is. is.0)
