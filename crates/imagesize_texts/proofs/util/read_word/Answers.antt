use Rattle.std.proofs.Common.{rules, arith}
use Rattle.imagesize_texts.specs.Texts.{read_word_of}
use Rattle.imagesize_texts.proofs.Texts.{text_made, text_runs, word_bound, word_made}
use Rattle.imagesize_texts.proofs.util.read_word.Goals as goal

pub returns-clause-bound : goal.returns-clause-bound
returns-clause-bound g c =
    word_bound read_word_of c.read_text.new.buffer c.in_ok-count.count c.word_text.result c.word_text.ensures

pub returns-clause-pays : goal.returns-clause-pays
returns-clause-pays g c =
    text_made word_made _ read_word_of c.read_text.new.buffer c.in_ok-count.count c.word_text.result c.word_text.ensures
    (λ x some few fits. c.in_ok-count.ensures.pays (omega arith))

pub returns-clause-runs : goal.returns-clause-runs
returns-clause-runs g c = text_runs word_made _ c.read_text.new.buffer c.args.offset c.in_ok-count.count _ (search rules)
    c.in_ok-count.ensures.runs c.word_text.ensures
