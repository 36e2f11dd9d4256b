use Rattle.std.proofs.Common.{length, take, ap, ◌∙◌, arith}
use Rattle.imagesize_io.proofs.Buffered.{held_consumed}
use Rattle.imagesize_io.proofs.told.BufReaderTold.read_told.Goals as goal

pub returns-then-count-held-clause-reads : goal.returns-then-count-held-clause-reads
returns-then-count-held-clause-reads g c = (
  held_consumed g.R.Read.remaining c.args.self.now c.consume.new.self _ (length c.args.buffer.now) c.consume.ensures.buffer
      c.consume.ensures.inner c.consume.ensures.capacity
      (c.copy_front.ensures ∙ ap (λ held. take (length c.args.buffer.now) held) c.buffer-held.ensures),
  λ none. absurd (omega (arith, c.if-count-gt0.true, none)),
)
