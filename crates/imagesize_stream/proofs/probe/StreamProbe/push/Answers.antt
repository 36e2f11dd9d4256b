use Rattle.std.proofs.Common.{◌-◌, ◌++◌, length, take, sym, ap, ◌∙◌, arith}
use Rattle.std.proofs.lemmas.List.{length-append}
use Rattle.imagesize_stream.proofs.Ending.{awaiting_none, rests_below, tells_all, type_complete}
use Rattle.imagesize_stream.specs.Pushed.{told_of}
use Rattle.imagesize_stream.proofs.probe.StreamProbe.push.Goals as goal

pub returns-clause-complete : goal.returns-clause-complete
returns-clause-complete c = λ none front came d begins as_long below.
    let told = c.args.self.now.stand.told in
    let rests = rw (c.pass_over.ensures.stays c.if-pass_over.false) at c.take_in.ensures.complete in
    rests_below front (take (told - length front) c.args.chunk.now) told
    (awaiting_none c.take_in.new.self.kind c.take_in.new.self.stage (sym c.answer.ensures.is ∙ none) rests front came) d begins
    as_long below

pub returns-clause-says : goal.returns-clause-says
returns-clause-says c = λ front came.
    let new = c.take_in.new.self in let told = c.args.self.now.stand.told in
    let same = c.pass_over.ensures.stays c.if-pass_over.false in
    let goes_on = rw same at c.take_in.ensures.goes_on in
    tells_all new.kind new.stage new.stand told new.buffer (front ++ take (told - length front) c.args.chunk.now) c.answer.result
    c.answer.ensures.is (c.take_in.ensures.told ∙ ap told_of same) (goes_on front came)

pub returns-clause-typed : goal.returns-clause-typed
returns-clause-typed c = λ none front came d begins as_long below.
    let told = c.args.self.now.stand.told in let new = c.take_in.new.self in
    let same = c.pass_over.ensures.stays c.if-pass_over.false in
    let goes_on = rw same at c.take_in.ensures.goes_on in let typed = rw same at c.take_in.ensures.typed in
    type_complete new.kind new.stage new.stand told new.buffer (front ++ take (told - length front) c.args.chunk.now) d none
    (c.take_in.ensures.told ∙ ap told_of same) (goes_on front came) (typed front came) begins as_long
    (λ p here. let early = below p here in omega (arith, early, length-append front (take (told - length front) c.args.chunk.now)))

pub returns-then-pass_over-clause-typed : goal.returns-then-pass_over-clause-typed
returns-then-pass_over-clause-typed c = λ none front came d begins as_long below.
    let told = c.args.self.now.stand.told in let new = c.pass_over.new.self in
    type_complete new.kind new.stage new.stand told new.buffer (front ++ take (told - length front) c.args.chunk.now) d none
    c.pass_over.ensures.told (c.pass_over.ensures.goes_on c.if-pass_over.true front came)
    (c.pass_over.ensures.typed c.if-pass_over.true front came) begins as_long
    (λ p here. let early = below p here in omega (arith, early, length-append front (take (told - length front) c.args.chunk.now)))
