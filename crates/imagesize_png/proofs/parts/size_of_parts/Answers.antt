use Rattle.std.proofs.Common.{◌≡◌, false, sym, subst}
use Rattle.imagesize.proofs.Wanted.{called, fits, says_of, unstopped}
use Rattle.imagesize.specs.Parted.{Fits, IfFound, SaysOf}
use Rattle.imagesize_png.proofs.Laws.{png_local}
use Rattle.imagesize_png.specs.Png.{png_of, png_reads}
use Rattle.imagesize_source.specs.Errors.{end_of_input, is_stopped}
use Rattle.imagesize_source.specs.Halts.{with_error}
use Rattle.imagesize_png.proofs.parts.size_of_parts.Goals as goal

pub returns : goal.returns
returns c =
    let old = c.args.source.now.known in let s = c.size-found.new.source in let new = c.forget.ensures in let same = new.same in
    let call = called (λ x. png_reads x 0) old.told _ _ old.spans.now _ _ old.bytes.now _ _ _ _ _ _ _
    (λ i. (same i).told) (λ i. (same i).spans.now) (λ i. (same i).bytes.now) new.seen new.missed c.size-found.ensures s.seen s.lacks in
    let back = sym c.found_or_wanted.ensures in
    record {
      says = λ d has short. subst (λ a. SaysOf false (png_of d 0) old.told old.spans.now old.bytes.now a) back
          (says_of false (λ x. png_reads x 0) (png_local 0) d old.told old.spans.now old.bytes.now has short
          s.log.spans s.missed end_of_input 0 _ call);
      fits = subst (λ a. Fits old.told a) back (fits false old.told old.spans.now old.bytes.now s.missed
          (with_error end_of_input 0 c.size-found.result) _ call.lacks);
      unstopped = λ short. subst (λ a. IfFound a (λ answer. is_stopped answer ≡ false)) back
          (unstopped (λ x. png_reads x 0) old.told old.spans.now old.bytes.now false s.log.spans s.missed end_of_input 0
          c.size-found.result short call);
    }
