use Rattle.imagesize_boxes.specs.Heif.{searched_box}
use Rattle.imagesize_source.proofs.Within.{nears_within, runs_within}
use Rattle.imagesize_boxes.proofs.formats.heif.BoxesRecords.read_record.Goals as goal

pub returns-clause-nears : goal.returns-clause-nears
returns-clause-nears g c = nears_within (g.S.Source.state c.args.source.now) (g.S.Source.state c.read_box.new.source) tt
    c.args.self.now c.args.offset c.read_box.result c.read_box.ensures.nears

pub returns-clause-runs : goal.returns-clause-runs
returns-clause-runs g c = runs_within (searched_box c.args.self.now.name c.args.offset) (λ _. c.args.self.now) tt
    c.args.offset c.read_box.result c.read_box.ensures.runs
