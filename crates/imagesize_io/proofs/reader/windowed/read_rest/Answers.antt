use Rattle.std.proofs.Common.{◌≡◌, ◌+◌, ◌-◌, ◌++◌, ℕ, List, Result, Err, arith, rules, take}
use borrow.Rule.Slice.PartMut.{post_of}
use Rattle.imagesize_source.specs.declared.halt.Halt.{Halt}
use Rattle.imagesize_io.proofs.TextReads.{byte_last, byte_more, byte_out, byte_stopped, none_read, text_full, text_whole, then_on}
use Rattle.imagesize_io.proofs.reader.windowed.read_rest.Goals as goal

pub loop-count-init : goal.loop-count-init
loop-count-init g c = (none_read c.args.buffer.now c.requires.bound, c.requires.open)

pub loop-count-preserved : goal.loop-count-preserved
loop-count-preserved g c =
    let so_far = c.loop-count.invariant in
    let count : ℕ = c.loop-count.count in
    let post : List ℕ = post_of count (count + 1 - count) c.loop-count.buffer in
    let byte = byte_more c.loop-count.buffer c.read_called.new.buffer post so_far.0.bound (search rules) c.ranges.offset.fits
    (omega (arith, c.saturating_add-next.ensures)) so_far.0 c.args.text so_far.1 c.in_ok-read_called.ensures.reads c.if-branch-eq0.false
    (c.ended_behind.ensures.open c.in_default.is) in
    let more = c.in-Part.ensures in
    (then_on (take count c.loop-count.buffer ++ (c.read_called.new.buffer ++ post)) c.read_held_text.new.buffer byte.0 more.0, more.1)

pub returns-in_err-read_called : goal.returns-in_err-read_called
returns-in_err-read_called g c =
    let so_far = c.loop-count.invariant in
    let is : ◌≡◌ {A = Result ℕ Halt} c.from_residual.result (Err c.in_err-read_called.field-0.0) = search rules in
    rw is (byte_stopped c.loop-count.buffer c.read_called.new.buffer _ so_far.0.bound (search rules) c.ranges.offset.fits
    (omega (arith, c.saturating_add-next.ensures)) so_far.0 c.args.text so_far.1 c.in_err-read_called.ensures.reads)

pub returns-then-branch-eq0 : goal.returns-then-branch-eq0
returns-then-branch-eq0 g c =
    let so_far = c.loop-count.invariant in
    byte_out c.loop-count.buffer c.read_called.new.buffer _ so_far.0.bound (search rules) c.ranges.offset.fits
    (omega (arith, c.saturating_add-next.ensures)) so_far.0 c.args.text so_far.1 (rw c.if-branch-eq0.true at c.in_ok-read_called.ensures.reads)

pub returns-in-Some : goal.returns-in-Some
returns-in-Some g c =
    let so_far = c.loop-count.invariant in
    let text = c.in-Some.ensures in
    byte_last c.loop-count.buffer c.read_called.new.buffer _ so_far.0.bound (search rules) c.ranges.offset.fits
    (omega (arith, c.saturating_add-next.ensures)) so_far.0 c.args.text so_far.1 c.in_ok-read_called.ensures.reads c.if-branch-eq0.false
    text.ended text.length text.within

pub returns-in-Whole : goal.returns-in-Whole
returns-in-Whole g c = λ before a done.
    let so_far = c.loop-count.invariant in
    let count : ℕ = c.loop-count.count in
    let post : List ℕ = post_of count (count + 1 - count) c.loop-count.buffer in
    let byte = byte_more c.loop-count.buffer c.read_called.new.buffer post so_far.0.bound (search rules) c.ranges.offset.fits
    (omega (arith, c.saturating_add-next.ensures)) so_far.0 c.args.text so_far.1 c.in_ok-read_called.ensures.reads c.if-branch-eq0.false
    (c.ended_behind.ensures.open c.in_default.is) in
    let all = c.in-Whole.ensures in
    let on = then_on (take count c.loop-count.buffer ++ (c.read_called.new.buffer ++ post)) c.read_held_text.new.buffer byte.0 all.0 in
    text_whole c.read_held_text.new.buffer on.bound (on.reads before a done) all.1

pub returns : goal.returns
returns g c = λ before a done.
    let so_far = c.loop-count.invariant in
    text_full c.loop-count.buffer so_far.0.bound c.loop-count-test.false (so_far.0.reads before a done) so_far.1
