use Rattle.imagesize_probe.proofs.Feeds.{kept_text}
use Rattle.imagesize_probe.proofs.report.text_of.Goals as goal

pub returns : goal.returns
returns g c =
    kept_text (g.E.Display.output c.args.error) c.new-kept.result c.write.new.self c.new-kept.ensures.text
    c.new-kept.ensures.intact c.in_ok-write.ensures.writes
