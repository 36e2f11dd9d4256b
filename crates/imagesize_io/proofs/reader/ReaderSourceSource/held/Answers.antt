use Rattle.std.proofs.Common.{arith}
use Rattle.imagesize_io.specs.Telling.{account}
use Rattle.imagesize_io.proofs.HeldReads.{held_shown}
use Rattle.imagesize_io.proofs.reader.ReaderSourceSource.held.Goals as goal

pub new-requires-clause-shown : goal.new-requires-clause-shown
new-requires-clause-shown g c =
    let s = c.args.self.now in
    let known = c.in_ok-bytes.ensures in
    held_shown (account g.R.Told.telling g.R.Told.count g.R.Told.failure s.reader.now) s.ledger.progress s.ledger.window.items
    c.args.offset c.in_ok-bytes.bytes.now known.there known.ahead
    (omega (arith, c.len-length.ensures.value, c.len-length.ensures.fits, c.if-offset.false))
