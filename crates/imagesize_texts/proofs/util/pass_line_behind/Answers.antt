use Rattle.std.proofs.Common.{◌+◌, length, arith}
use Rattle.imagesize_source.specs.declared.text.Text.TheVariants.{Line}
use Rattle.imagesize_texts.specs.Contents.{line_length}
use Rattle.imagesize_texts.proofs.Texts.{text_saturated}
use Rattle.imagesize_texts.proofs.util.pass_line_behind.Goals as goal

pub returns-clause-runs : goal.returns-clause-runs
returns-clause-runs g c =
    text_saturated (Line c.args.delimiter) (c.args.offset + c.args.distance) _ (length c.args.buffer.now)
    (line_length c.args.delimiter (length c.args.buffer.now)) c.pass_line_capped.ensures.runs (omega arith)
