use Rattle.std.proofs.Common.{◌≡◌, ℕ, List, ◌++◌, length, IsUtf8}
use Rattle.std.specs.Fmt.{HasWritten, IsPlainFormatter}
use Rattle.imagesize_probe.specs.Line.{one_line}
use Rattle.imagesize_probe.proofs.report.OneLineDisplay.fmt.Given as goal

-- the lines so far are written, and the others are left
abbrev pub invariant-loop-line : goal.invariant-loop-line
invariant-loop-line g l = IsUtf8 l.rest × ((done : List ℕ) × (one_line l.fn.self.0.now ≡ done ++ one_line l.rest)
    × (IsPlainFormatter l.initial.f → HasWritten g.W.Write.write_str_gives l.initial.f done l.f))

abbrev pub decreases-loop-line : goal.decreases-loop-line
decreases-loop-line g l = length l.rest
