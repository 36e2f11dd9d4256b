use Rattle.std.proofs.Common.{◌-◌, length, arith}
use Rattle.imagesize_texts.proofs.Ascii.{ascii_on, ascii_whole}
use Rattle.imagesize_texts.proofs.utf8.is_long_ascii.Goals as goal

pub loop-index-preserved : goal.loop-index-preserved
loop-index-preserved c =
    let at = c.loop-index.index in (
      omega (arith, c.loop-index-test.true),
      ascii_on c.args.bytes.now at at 16 (omega arith) c.loop-index.invariant.1
          (c.are_sixteen_ascii.ensures c.if-not-are_sixteen_ascii.false),
    )

pub returns : goal.returns
returns c = λ is. ascii_whole c.args.bytes.now c.loop-index.index (length c.args.bytes.now - 16) 16
    (omega (arith, c.loop-index-test.false)) (omega arith) c.loop-index.invariant.1 (c.are_sixteen_ascii-2.ensures is)
