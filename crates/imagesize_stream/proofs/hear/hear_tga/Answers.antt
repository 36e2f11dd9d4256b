use Rattle.std.proofs.Common.{refl, sym, ◌∙◌, arith}
use Rattle.imagesize_fixed.specs.Tga.{tga, tga_by_header}
use Rattle.imagesize_stream.proofs.Footers.{footer_decides, header_sure, header_tells, never_refused, rests_on_more, short_refused, size_sure, type_on_more}
use Rattle.imagesize_stream.proofs.Hearing.{first_typed}
use Rattle.imagesize_records.specs.declared.opening.First.TheVariants as first
use Rattle.imagesize_stream.proofs.hear.hear_tga.Goals as goal

pub returns-then-told-lt18 : goal.returns-then-told-lt18
returns-then-told-lt18 c =
    let refused = short_refused c.args.bytes.now c.args.told c.args.head.now c.requires.first c.requires.fits c.if-told-lt18.true in
    (refused.0, refused.1, refl)

pub returns-then-bytes-lt18 : goal.returns-then-bytes-lt18
returns-then-bytes-lt18 c =
    let bytes = c.args.bytes.now in let told = c.args.told in let head = c.args.head.now in let few = c.if-bytes-lt18.true in
    let typed = first_typed bytes told c.requires.fits (first.MaybeTga head) c.requires.first in rw c.requires.stage (record {
      few = omega (arith, few);
      ends = (few, c.if-told-lt18.false);
      rests = rests_on_more bytes told head c.requires.first c.requires.fits c.if-told-lt18.false few;
      known = tt;
      typed = type_on_more bytes told head c.requires.first c.requires.fits c.if-told-lt18.false few;
      between = λ asked. absurd (omega (arith, asked, typed, few));
    })

pub returns-in_default : goal.returns-in_default
returns-in_default c = absurd (
    never_refused c.args.bytes.now c.args.told (tga_by_header c.args.head.now) c.in_default.field-0
    (rw c.in_default.is at c.read_first-sound.ensures.says) (rw c.in_default.is at c.read_first-sound.ensures.few)
    c.requires.fits c.if-bytes-lt18.false
    (header_sure c.args.bytes.now c.args.head.now c.in_default.field-0 c.if-bytes-lt18.false))

pub returns-in_default-size : goal.returns-in_default-size
returns-in_default-size c = absurd (
    never_refused c.args.bytes.now c.args.told tga c.in_default-size.field-0
    (rw c.in_default-size.is at c.read_first-size.ensures.says) (rw c.in_default-size.is at c.read_first-size.ensures.few)
    c.requires.fits c.if-bytes-lt18.false
    (size_sure c.args.bytes.now c.in_default-size.field-0 c.if-bytes-lt18.false))

pub returns-then-is_by_header : goal.returns-then-is_by_header
returns-then-is_by_header c =
    let tells = header_tells c.args.bytes.now c.args.told c.args.head.now c.requires.first c.requires.fits c.in-Ok.sound c.in-Ok-size.size
    ((rw c.in-Ok.is at c.read_first-sound.ensures.says) refl) ((rw c.in-Ok-size.is at c.read_first-size.ensures.says) refl)
    c.if-bytes-lt18.false (sym c.is_by_header.ensures ∙ c.if-is_by_header.true) in (tells.0, tells.1, refl)

pub returns : goal.returns
returns c = (
  refl,
  c.if-bytes-lt18.false,
  footer_decides c.args.bytes.now c.args.told c.args.head.now c.requires.first c.requires.fits c.in-Ok.sound
      c.in-Ok-size.size
      ((rw c.in-Ok.is at c.read_first-sound.ensures.says) refl) ((rw c.in-Ok-size.is at c.read_first-size.ensures.says) refl)
      c.if-bytes-lt18.false (sym c.is_by_header.ensures ∙ c.if-is_by_header.false),
)
