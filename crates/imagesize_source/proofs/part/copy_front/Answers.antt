use Rattle.std.proofs.Common.{length, take, drop, ap, ◌∙◌, arith}
use Rattle.std.proofs.lemmas.List.{length-take, take-append-le, take-take}
use Rattle.imagesize_source.proofs.part.copy_front.Goals as goal

pub returns-then-buffer-ge-SHORT : goal.returns-then-buffer-ge-SHORT
returns-then-buffer-ge-SHORT c =
    let new = c.copy_from_slice.new.self in
    let same = c.copy_from_slice.ensures.after in
    take-append-le c.args.count new (drop 16 c.args.buffer.now)
    (omega (arith, c.if-count-le-SHORT.true, ap length same, length-take 16 c.args.bytes.now, c.if-bytes-ge-SHORT.true))
    ∙ ap (take c.args.count) same ∙ take-take c.args.count 16 c.args.bytes.now c.if-count-le-SHORT.true
