use Rattle.std.proofs.Common.{rules}
use Rattle.imagesize_source.proofs.Runs.{steps, missed_before}
use Rattle.imagesize_texts.proofs.formats.pnm.WordsRecords.read_record.Goals as goal

pub returns-clause-runs : goal.returns-clause-runs
returns-clause-runs g c = let is = c.size_if_known-size.ensures in search (rules, steps, missed_before, is)
