use Rattle.std.proofs.Common.{refl}
use Rattle.imagesize_source.proofs.Reached.{reached_end}
use Rattle.imagesize_source.proofs.Strides.{strides_start}
use Rattle.imagesize_walked.specs.Walks.{jpeg_first, jpeg_step}
use Rattle.imagesize_walked.proofs.Jpeg.{jpeg_is}
use Rattle.imagesize_walked.proofs.formats.jpeg.size.Goals as goal

pub returns : goal.returns
returns g c =
    let a = g.S.Source.state c.args.source.now in
    let on = c.pass_plain-offset.ensures.strides a jpeg_first 2 (strides_start jpeg_step a jpeg_first 2) in
    rw (jpeg_is a.held.input) (reached_end on.reached c.walk_on.result _ c.walk_on.ensures.runs (λ honest. refl))
