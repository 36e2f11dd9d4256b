use Rattle.std.proofs.Common.{◌≡◌, ◌<◌, ◌^◌, false, subst}
use Rattle.imagesize.proofs.Wanted.{SaysOfEach, moved, tells}
use Rattle.imagesize.specs.Parted.{Fits, IfFound}
use Rattle.imagesize_png.specs.Png.{png_of, png_reads}
use Rattle.imagesize_source.specs.Errors.{is_stopped}
use Rattle.imagesize_png.proofs.parts.parts_size.Goals as goal

pub returns-clause-says : goal.returns-clause-says
returns-clause-says c =
    let new = c.source-source.ensures in
    moved (SaysOfEach false (λ d. png_reads d 0) c.size_of_parts.result) _ _ _ _ _ _
    new.told new.spans new.bytes c.size_of_parts.ensures.says

pub returns-clause-complete : goal.returns-clause-complete
returns-clause-complete c =
    λ d has short. tells false _ (png_of d 0).marks c.args.total c.args.spans.now c.args.bytes.now _
    (returns-clause-says c d has short)

pub returns-clause-fits : goal.returns-clause-fits
returns-clause-fits c =
    let new = c.source-source.ensures in
    moved (λ n spans bytes. Fits n c.size_of_parts.result) _ _ _ _ _ _ new.told new.spans new.bytes
    c.size_of_parts.ensures.fits

pub returns-clause-unstopped : goal.returns-clause-unstopped
returns-clause-unstopped c =
    let new = c.source-source.ensures in
    subst (λ n. n < 2 ^ 63
    → IfFound c.size_of_parts.result (λ answer. is_stopped answer ≡ false)) new.told c.size_of_parts.ensures.unstopped
