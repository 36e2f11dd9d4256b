use Rattle.imagesize_texts.proofs.Ascii.{sixteen_ascii}
use Rattle.imagesize_texts.proofs.utf8.are_sixteen_ascii.Goals as goal

pub returns-then-are_eight_ascii : goal.returns-then-are_eight_ascii
returns-then-are_eight_ascii c = λ is. sixteen_ascii c.args.index c.args.bytes.now
    (c.are_eight_ascii.ensures c.if-are_eight_ascii.true) (c.are_eight_ascii-then-are_eight_ascii.ensures is)
