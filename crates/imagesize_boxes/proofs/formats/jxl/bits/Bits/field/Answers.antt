use Rattle.std.proofs.Common.{refl, ◌≡◌, leb, true, ◌+◌, ◌/◌, ◌^◌}
use Rattle.std.proofs.lemmas.Bool.Decides.{nat_tests}
use Rattle.std.proofs.Common.{arith}
use Rattle.imagesize_boxes.proofs.Fields.{masked}
use Rattle.imagesize_boxes.proofs.formats.jxl.bits.Bits.field.Goals as goal

pub returns : goal.returns
returns c =
    let there : leb (c.args.from + c.args.count) c.args.self.now.count ≡ true = grind (arith, nat_tests) in
    let value = masked (c.args.self.now.number / 2 ^ c.args.from) c.args.count c.requires.few in
    let low = c.lowest_64-behind.ensures in
    rw (low, there, value) refl
