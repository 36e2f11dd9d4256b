use Rattle.std.proofs.Common.{rules, ◌≤◌, length, sym, ◌∙◌}
use Rattle.imagesize_boxes.proofs.JxlBoxes.{size_short, size_unsigned, size_signed}
use Rattle.imagesize_boxes.proofs.formats.jxl.header.codestream_size.Goals as goal

pub returns-then-len-lt2 : goal.returns-then-len-lt2
returns-then-len-lt2 c = sym (size_short c.args.bytes.now c.args.len c.if-len-lt2.true)

pub returns-then-not-has_signature : goal.returns-then-not-has_signature
returns-then-not-has_signature c =
    let within : c.args.len ≤ length c.args.bytes.now = search rules in
    sym (size_unsigned c.args.bytes.now c.args.len c.if-len-lt2.false within
    (sym c.has_signature.ensures ∙ c.if-not-has_signature.true))

pub returns : goal.returns
returns c =
    let within : c.args.len ≤ length c.args.bytes.now = search rules in
    let h = size_signed c.args.bytes.now c.args.len c.of.result.number c.of.result.count c.if-len-lt2.false within
    (sym c.has_signature.ensures ∙ c.if-not-has_signature.false)
    c.fits-bytes c.of.ensures.number c.of.ensures.count in
    rw c.ok_or.ensures.value (c.header_size.ensures ∙ sym h)
