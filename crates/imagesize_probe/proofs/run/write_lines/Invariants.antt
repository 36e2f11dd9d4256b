use Rattle.std.proofs.Common.{◌≡◌, map, take}
use Rattle.std.specs.String.{string_bytes}
use Rattle.imagesize_probe.specs.Run.{WritesEach, WritesOne}
use Rattle.imagesize_probe.proofs.run.write_lines.Given as goal

abbrev pub invariant-loop-name : goal.invariant-loop-name
invariant-loop-name g l = record {
  known : g.O.Open.known l.opener ≡ g.O.Open.known l.fn.opener;
  written : WritesEach (WritesOne l.spans (g.O.Open.known l.fn.opener)) (map string_bytes (take l.name-index l.names))
      (g.W.Write.contents l.fn.output) (g.W.Write.contents l.output) l.refused;
}
