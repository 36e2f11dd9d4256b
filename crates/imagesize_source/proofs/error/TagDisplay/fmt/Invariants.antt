use Rattle.std.proofs.Common.{take}
use Rattle.std.specs.Fmt.{HasWritten, IsPlainFormatter}
use Rattle.imagesize_source.specs.Reason.{tag_text}
use Rattle.imagesize_source.proofs.error.TagDisplay.fmt.Given as goal

-- the bytes so far are written as they are shown
abbrev pub invariant-loop-byte : goal.invariant-loop-byte
invariant-loop-byte g l =
    IsPlainFormatter l.initial.f
    → HasWritten g.W.Write.write_str_gives l.initial.f (tag_text (take l.byte-index l.byte-items)) l.f
