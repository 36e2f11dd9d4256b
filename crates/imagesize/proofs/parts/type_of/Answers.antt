use Rattle.std.proofs.Common.{false, ap, ◌∙◌}
use Rattle.imagesize.proofs.Locality.{local_kind}
use Rattle.imagesize.proofs.Wanted.{both_are, called, tells_of}
use Rattle.imagesize.specs.Meaning.{kind_reads}
use Rattle.imagesize_source.specs.Errors.{end_of_input}
use Rattle.imagesize_source.specs.State.{Frame, parts_of}
use Rattle.imagesize.proofs.parts.type_of.Goals as goal

pub returns-clause-tells : goal.returns-clause-tells
returns-clause-tells c =
    let s = c.detect-found.new.source in let new = c.forget.ensures in let same = new.same in
    rw c.found_or_wanted.ensures (tells_of false (λ x. kind_reads x 0) (local_kind 0) _ _ _ s.log.spans s.missed end_of_input 0 _
    (called (λ x. kind_reads x 0) _ _ _ _ _ _ _ _ _ _ _ _ _ _ (λ i. (same i).told) (λ i. (same i).spans.now) (λ i. (same i).bytes.now) new.seen new.missed
    c.detect-found.ensures s.seen s.lacks))

pub returns-clause-spans : goal.returns-clause-spans
returns-clause-spans c = (both_are _ _ _ _ (ap (λ (a : Frame). parts_of a.backing) c.detect-found.ensures.frame)).0 ∙ (λ i. (c.forget.ensures.same i).spans.now)

pub returns-clause-bytes : goal.returns-clause-bytes
returns-clause-bytes c = (both_are _ _ _ _ (ap (λ (a : Frame). parts_of a.backing) c.detect-found.ensures.frame)).1 ∙ (λ i. (c.forget.ensures.same i).bytes.now)

pub returns-clause-told : goal.returns-clause-told
returns-clause-told c = ap (λ (a : Frame). a.told) c.detect-found.ensures.frame ∙ (λ i. (c.forget.ensures.same i).told)
