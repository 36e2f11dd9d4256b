use Rattle.std.proofs.Common.{◌+◌, ap, ◌∙◌, sym, arith}
use Rattle.imagesize_walked.proofs.Jpeg.{plain_strides}
use Rattle.imagesize_walked.proofs.formats.jpeg.pass_plain.Goals as goal

pub overflow_add-offset-in-loop-head : goal.overflow_add-offset-in-loop-head
overflow_add-offset-in-loop-head g c =
    record { fits = omega (arith, c.in-Some.ensures.short, c.in-Some.ensures.fits, c.u16.type_inv) }

pub loop-head-smaller : goal.loop-head-smaller
loop-head-smaller g c = omega (arith, c.in-Some.ensures.fits)

pub loop-head-preserved : goal.loop-head-preserved
loop-head-preserved g c = (
  omega (arith, c.loop-head.invariant.0),
  λ a s first on.
      plain_strides c.in-Some.head c.loop-head.offset _ c.in-Some.ensures.slice c.in-Some.ensures.short c.in-Some.ensures.fits
      c.in-Some.ensures.there (sym c.is_plain.ensures ∙ c.if-is_plain.true)
      (ap (λ n. c.loop-head.offset + (2 + n)) c.u16.ensures) (c.loop-head.invariant.1 a s first on),
)
