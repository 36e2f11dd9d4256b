use Rattle.imagesize_uses.proofs.Spans.{copied_front}
use Rattle.imagesize_uses.proofs.remote.copy_part.Goals as goal

pub returns-clause-copied : goal.returns-clause-copied
returns-clause-copied c =
    copied_front c.args.bytes.now c.bytes_of_span.result.now c.copy_front.new.buffer c.args.offset c.args.most
    c.copy_front.result _
    c.bytes_of_span.ensures c.copy_front.ensures.count c.copy_front.ensures.copied
