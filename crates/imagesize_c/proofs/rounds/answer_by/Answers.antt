use Rattle.imagesize_c.proofs.rounds.answer_by.Goals as goal

pub returns-in-Wanted-clause-within : goal.returns-in-Wanted-clause-within
returns-in-Wanted-clause-within c = rw c.tell_wanted.ensures.told (λ d may wanted. c.in-Wanted.ensures.within d may)

pub returns-in-Wanted-clause-short : goal.returns-in-Wanted-clause-short
returns-in-Wanted-clause-short c = rw c.tell_wanted.ensures.told (λ wanted. (
  c.in-Wanted.ensures.short,
  record {
    early = c.in-Wanted.ensures.early;
    exact = λ d may. c.in-Wanted.ensures.exact d may;
    latest = c.in-Wanted.ensures.latest;
  },
))
