use Rattle.std.proofs.Common.{rules, ◌≡◌, length, ◌∙◌, arith}
use Rattle.imagesize_texts.proofs.Texts.{length_made, same_answer, text_made, text_runs}
use Rattle.imagesize_texts.proofs.util.pass_line_capped.Goals as goal

pub returns-clause-bound : goal.returns-clause-bound
returns-clause-bound g c =
    let long : length c.read_text.new.buffer ≡ length c.args.buffer.now = search rules in
    text_made (length_made c.args.delimiter (length c.args.buffer.now)) _ (λ n. n) c.read_text.new.buffer c.in_ok-count.count
    c.line_length.result (same_answer _ ∙ c.line_length.ensures) (λ n some few fits. omega (arith, long))

pub returns-clause-runs : goal.returns-clause-runs
returns-clause-runs g c = text_runs (length_made c.args.delimiter (length c.args.buffer.now)) _ c.read_text.new.buffer
    c.args.offset c.in_ok-count.count _ (search rules) c.in_ok-count.ensures.runs c.line_length.ensures

pub returns-clause-some : goal.returns-clause-some
returns-clause-some g c =
    text_made (length_made c.args.delimiter (length c.args.buffer.now)) _ (λ n. n) c.read_text.new.buffer c.in_ok-count.count
    c.line_length.result (same_answer _ ∙ c.line_length.ensures) (λ n some few fits. some)

pub returns-clause-pays : goal.returns-clause-pays
returns-clause-pays g c =
    text_made (length_made c.args.delimiter (length c.args.buffer.now)) _ (λ n. n) c.read_text.new.buffer c.in_ok-count.count
    c.line_length.result (same_answer _ ∙ c.line_length.ensures) (λ n some few fits. c.in_ok-count.ensures.pays (omega arith))
