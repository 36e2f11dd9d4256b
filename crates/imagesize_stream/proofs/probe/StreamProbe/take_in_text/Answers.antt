use Rattle.imagesize_stream.proofs.probe.StreamProbe.take_in_text.Goals as goal

pub returns : goal.returns
returns c = rw (c.keep_text.ensures.stays c.if-keep_text.false) at c.proceed.ensures
