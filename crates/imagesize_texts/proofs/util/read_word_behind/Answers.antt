use Rattle.std.proofs.Common.{◌+◌, arith}
use Rattle.imagesize_source.specs.declared.text.Text.TheVariants.{Word}
use Rattle.imagesize_texts.specs.Contents.{word_room, word_text}
use Rattle.imagesize_texts.proofs.Texts.{text_saturated}
use Rattle.imagesize_texts.proofs.util.read_word_behind.Goals as goal

pub returns : goal.returns
returns g c = text_saturated Word (c.args.offset + c.args.distance) _ word_room word_text c.read_word.ensures.runs
    (omega arith)
