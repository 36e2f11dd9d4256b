use Rattle.std.proofs.Common.{◌+◌, arith}
use Rattle.imagesize_source.specs.declared.text.Text.TheVariants.{Line}
use Rattle.imagesize_texts.specs.Contents.{line_text}
use Rattle.imagesize_texts.proofs.Texts.{text_saturated}
use Rattle.imagesize_texts.proofs.formats.exr.read_name_behind.Goals as goal

pub returns-clause-runs : goal.returns-clause-runs
returns-clause-runs g c =
    text_saturated (Line 0) (c.args.offset + c.args.distance) _ c.args.names (line_text 0 c.args.names)
    c.read_name.ensures.runs (omega arith)
