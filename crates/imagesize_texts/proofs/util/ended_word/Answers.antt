use Rattle.std.proofs.Common.{rules}
use Rattle.imagesize_texts.specs.Contents.{ended_word}
use Rattle.imagesize_texts.proofs.util.ended_word.Goals as goal

pub returns-in_ok-text_of_word-in-len1-up : goal.returns-in_ok-text_of_word-in-len1-up
unfolding ended_word
returns-in_ok-text_of_word-in-len1-up c = let is = c.text_of_word.ensures in search (rules, is)
