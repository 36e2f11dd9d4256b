use Rattle.imagesize_source.specs.Errors.{end_of_input}
use Rattle.imagesize.proofs.Locality.{local_size}
use Rattle.imagesize.proofs.Wanted.{called, tells_of}
use Rattle.imagesize.specs.Meaning.{size_reads}
use Rattle.imagesize.specs.Parted.{has_texts}
use Rattle.imagesize.proofs.parts.size_as.Goals as goal

pub returns : goal.returns
returns c =
    let s = c.size-found.new.source in let new = c.forget.ensures in let same = new.same in
    rw (c.found_or_wanted.ensures, c.has_texts-texts.ensures)
    (tells_of (has_texts c.args.image) (size_reads c.args.image) (local_size c.args.image) _ _ _ s.log.spans s.missed end_of_input 0 _
    (called (size_reads c.args.image) _ _ _ _ _ _ _ _ _ _ _ _ _ _ (λ i. (same i).told) (λ i. (same i).spans.now) (λ i. (same i).bytes.now) new.seen new.missed
    c.size-found.ensures s.seen s.lacks))
