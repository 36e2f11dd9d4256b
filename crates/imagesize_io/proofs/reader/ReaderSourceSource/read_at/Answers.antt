use Rattle.imagesize_io.proofs.reader.ReaderSourceSource.read_at.Goals as goal

pub returns-then-read_held-clause-runs : goal.returns-then-read_held-clause-runs
returns-then-read_held-clause-runs g c = (c.read_held.ensures.reads c.if-read_held.true).reads.runs c.args.self.now.reader.ghost_name

pub returns-clause-runs : goal.returns-clause-runs
returns-clause-runs g c =
    rw (c.read_held.ensures.none c.if-read_held.false) at (c.read_called.ensures.reads.runs c.args.self.now.reader.ghost_name)
