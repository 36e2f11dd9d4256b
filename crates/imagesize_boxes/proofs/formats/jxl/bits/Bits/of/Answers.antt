use Rattle.std.proofs.Common.{rules, ◌∙◌}
use Rattle.imagesize_boxes.proofs.Fields.{little_16}
use Rattle.imagesize_boxes.proofs.formats.jxl.bits.Bits.of.Goals as goal

pub returns-clause-number : goal.returns-clause-number
returns-clause-number c = c.from_le_bytes.ensures ∙ little_16 c.args.bytes.now (search rules)
