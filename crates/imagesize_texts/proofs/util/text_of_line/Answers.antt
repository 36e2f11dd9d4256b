use Rattle.std.proofs.Common.{◌≡◌, length, sym, rules}
use Rattle.imagesize_texts.proofs.Words.{empty_text}
use Rattle.imagesize_texts.proofs.util.text_of_line.Goals as goal

pub returns-then-is_empty : goal.returns-then-is_empty
returns-then-is_empty c =
    let none : length c.args.bytes.now ≡ 0 = search rules in
    sym (empty_text c.args.bytes.now none)
