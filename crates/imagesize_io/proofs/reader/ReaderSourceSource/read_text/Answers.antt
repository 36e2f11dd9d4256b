use Rattle.std.proofs.Common.{rules}
use Rattle.imagesize_io.proofs.TextReads.{held_part, held_whole, open_none}
use Rattle.imagesize_io.proofs.reader.ReaderSourceSource.read_text.Goals as goal

pub read_held_text-requires-clause-open : goal.read_held_text-requires-clause-open
read_held_text-requires-clause-open g c = open_none c.args.text

pub returns-in-Whole-clause-pays : goal.returns-in-Whole-clause-pays
returns-in-Whole-clause-pays g c =
    let read = held_whole c.read_held_text.new.buffer c.in-Whole.ensures in
    let frame = (read.runs c.args.self.now.reader.ghost_name).frame in
    search (rules, read.pays, frame)

pub returns-in-Whole-clause-runs : goal.returns-in-Whole-clause-runs
returns-in-Whole-clause-runs g c =
    (held_whole c.read_held_text.new.buffer c.in-Whole.ensures).runs c.args.self.now.reader.ghost_name

pub returns-in-Part-clause-bound : goal.returns-in-Part-clause-bound
returns-in-Part-clause-bound g c =
    (held_part c.read_held_text.new.buffer c.read_rest.new.buffer c.in-Part.ensures c.read_rest.ensures).bound

pub returns-in-Part-clause-pays : goal.returns-in-Part-clause-pays
returns-in-Part-clause-pays g c =
    let read = held_part c.read_held_text.new.buffer c.read_rest.new.buffer c.in-Part.ensures c.read_rest.ensures in
    let frame = (read.runs c.args.self.now.reader.ghost_name).frame in
    search (rules, read.pays, frame)

pub returns-in-Part-clause-runs : goal.returns-in-Part-clause-runs
returns-in-Part-clause-runs g c =
    (held_part c.read_held_text.new.buffer c.read_rest.new.buffer c.in-Part.ensures c.read_rest.ensures).runs
    c.args.self.now.reader.ghost_name
