use Rattle.std.proofs.Common.{refl}
use Rattle.imagesize.proofs.Meanings.{bounded_kind, read_answers}
use Rattle.imagesize.proofs.Memories.{memory_answers}
use Rattle.imagesize.proofs.Short.{answers_end, no_kind}
use Rattle.imagesize.specs.Meaning.{kind_of, kind_reads}
use Rattle.imagesize.proofs.calls.reader_type.Goals as goal

pub returns-in-Some-clause-short : goal.returns-in-Some-clause-short
returns-in-Some-clause-short g c = answers_end _ _ _ no_kind (memory_answers _ _ c.in_ok-opened.opened c.in-Some.bytes.now kind_of _
    c.in_ok-opened.ensures.told c.in-Some.ensures.told c.memory_type.ensures.value c.memory_type.ensures.unstopped)

pub returns-clause-answers : goal.returns-clause-answers
returns-clause-answers g c = rw c.with_error.ensures
    (read_answers kind_reads bounded_kind _ _ _ _ _ _ _ _ c.new-source.ensures.state refl c.in_ok-opened.ensures.told
    c.detect-found.ensures)

pub returns-clause-short : goal.returns-clause-short
returns-clause-short g c = answers_end _ _ _ no_kind (returns-clause-answers g c)
