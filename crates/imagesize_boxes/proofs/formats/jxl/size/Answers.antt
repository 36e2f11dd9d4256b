use Rattle.std.proofs.Common.{rules}
use Rattle.imagesize_boxes.proofs.JxlBoxes.{refused_start, sized_boxed, sized_whole}
use Rattle.imagesize_boxes.proofs.formats.jxl.size.Goals as goal

pub returns-in_err-front : goal.returns-in_err-front
returns-in_err-front g c =
    let h = refused_start _ c.in_err-front.ensures in search (rules, h)

pub returns-in-Some : goal.returns-in-Some
returns-in-Some g c =
    let run = rw c.in-Some.is at c.in_ok-front.ensures in
    rw c.size.ensures (sized_whole c.in-Some.front run)

pub returns-in-None : goal.returns-in-None
returns-in-None g c =
    let run = rw c.in-None.is at c.in_ok-front.ensures in sized_boxed _ run c.size_in_boxes.ensures
