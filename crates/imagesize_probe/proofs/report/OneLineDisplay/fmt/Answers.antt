use Rattle.std.proofs.Common.{[], ◌∷◌, ◌++◌, refl, arith, rules}
use Rattle.std.proofs.lemmas.Grind.{put_two, put_three}
use Rattle.std.proofs.lemmas.Str.Pattern.{split_parts}
use Rattle.imagesize_probe.proofs.Feeds.{next_line, last_line}
use Rattle.imagesize_probe.specs.Line.{one_line}
use Rattle.imagesize_probe.proofs.report.OneLineDisplay.fmt.Goals as goal

pub loop-line-preserved : goal.loop-line-preserved
loop-line-preserved g c =
    let (_, (done, is, written)) = c.loop-line.invariant in
    let line = c.in-Some.line.now in
    let cut = rw c.in-Some.is at (split_parts 10 c.loop-line.rest.now c.split_once.result
    c.split_once.ensures.cases (omega arith)) in (
      search rules,
      (
        done ++ (line ++ 32 ∷ []),
        next_line c.args.self.now.0.now done c.loop-line.rest.now line c.in-Some.after.now is cut.0 cut.1,
        λ plain.
            let first = written plain in
            let second = c.in_ok-write_str.ensures.writes first.plain refl in
            let third = c.in_ok-write_str-2.ensures.writes second.plain refl in
            put_three g.W.Write.write_str_gives _ _ _ _ done line (32 ∷ []) (done ++ (line ++ 32 ∷ []))
            first second third refl,
      ),
    )

pub returns-clause-writes : goal.returns-clause-writes
returns-clause-writes g c = λ plain ok.
    let (_, (done, is, written)) = c.loop-line.invariant in
    let none = rw c.in_default.is at (split_parts 10 c.loop-line.rest.now c.split_once.result
    c.split_once.ensures.cases (omega arith)) in
    let first = written plain in
    let second = c.write_str-2.ensures.writes first.plain ok in
    put_two g.W.Write.write_str_gives _ _ _ done c.loop-line.rest.now (one_line c.args.self.now.0.now) first second
    (last_line c.args.self.now.0.now done c.loop-line.rest.now is none)
