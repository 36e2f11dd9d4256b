use Rattle.std.proofs.Common.{◌-◌, length, arith}
use Rattle.imagesize_texts.proofs.Ascii.{ascii_whole}
use Rattle.imagesize_texts.proofs.utf8.is_ascii.Goals as goal

pub returns-then-are_eight_ascii : goal.returns-then-are_eight_ascii
returns-then-are_eight_ascii c = λ is. ascii_whole c.args.bytes.now 8 (length c.args.bytes.now - 8) 8
    (omega (arith, c.if-count-ge-LANES.false)) (omega (arith, c.if-count-ge8.true))
    (c.are_eight_ascii.ensures c.if-are_eight_ascii.true) (c.are_eight_ascii-then-are_eight_ascii.ensures is)

pub returns-then-are_four_ascii : goal.returns-then-are_four_ascii
returns-then-are_four_ascii c = λ is. ascii_whole c.args.bytes.now 4 (length c.args.bytes.now - 4) 4
    (omega (arith, c.if-count-ge8.false)) (omega (arith, c.if-count-ge4.true))
    (c.are_four_ascii.ensures c.if-are_four_ascii.true) (c.are_four_ascii-then-are_four_ascii.ensures is)
