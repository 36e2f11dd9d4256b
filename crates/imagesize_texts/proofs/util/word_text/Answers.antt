use Rattle.std.proofs.Common.{length, ap, ◌∙◌}
use Rattle.imagesize_texts.specs.Contents.{ended_word, word_text}
use Rattle.imagesize_texts.proofs.Words.{behind_space_is}
use Rattle.imagesize_texts.proofs.util.word_text.Goals as goal

pub returns : goal.returns
unfolding word_text
returns c = c.ended_word.ensures
    ∙ ap (ended_word (length c.args.bytes.now)) (behind_space_is c.args.bytes.now c.trim_ascii_start.result.now
    c.trim_ascii_start.ensures.value)
