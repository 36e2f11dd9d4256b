use Rattle.std.proofs.Common.{rules, ◌≡◌, length, arith}
use Rattle.imagesize_texts.proofs.Texts.{line_made, text_made, text_runs}
use Rattle.imagesize_texts.proofs.util.read_line_capped.Goals as goal

pub returns-clause-bound : goal.returns-clause-bound
returns-clause-bound g c =
    let long : length c.read_text.new.buffer ≡ length c.args.buffer.now = search rules in
    text_made (line_made c.args.delimiter (length c.args.buffer.now)) _ (λ text. text.now) c.read_text.new.buffer
    c.in_ok-count.count c.line_text.result c.line_text.ensures
    (λ x some few fits. omega (arith, long))

pub returns-clause-pays : goal.returns-clause-pays
returns-clause-pays g c =
    text_made (line_made c.args.delimiter (length c.args.buffer.now)) _ (λ text. text.now) c.read_text.new.buffer
    c.in_ok-count.count c.line_text.result c.line_text.ensures
    (λ x some few fits. c.in_ok-count.ensures.pays (omega arith))

pub returns-clause-runs : goal.returns-clause-runs
returns-clause-runs g c = text_runs (line_made c.args.delimiter (length c.args.buffer.now)) _ c.read_text.new.buffer
    c.args.offset c.in_ok-count.count _ (search rules) c.in_ok-count.ensures.runs c.line_text.ensures
