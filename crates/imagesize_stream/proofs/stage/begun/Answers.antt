use Rattle.std.proofs.Common.{◌≡◌, inl, inr, Some, ◌<◌, ◌≤◌, length, take, refl, sym, ◌∙◌, subst, arith}
use Rattle.std.proofs.lemmas.List.{length-take}
use Rattle.imagesize.specs.Meaning.{meaning_reads}
use Rattle.imagesize.specs.Parted.{texts_of}
use Rattle.imagesize_pieces.proofs.Beginning.{begins_left}
use Rattle.imagesize_pieces.specs.Stream.{EndsAt}
use Rattle.imagesize_pieces.proofs.Needing.{needs_among}
use Rattle.imagesize_stream.proofs.Footers.{last_kept}
use Rattle.imagesize_stream.proofs.Coming.{awaiting_map, missing_on, opened_came}
use Rattle.imagesize_stream.specs.Heard.{Hears, OutOfHeader}
use Rattle.imagesize_stream.specs.Probe.{CameBy, CameTo}
use Rattle.imagesize_stream.specs.declared.stage.Stage.TheVariants.{Footer, Records}
use Rattle.imagesize_stream.proofs.stage.begun.Goals.{In-Records}
use Rattle.imagesize_stream.proofs.stage.begun.Goals as goal

-- the walk begins where the first bytes say
module _ (c : In-Records) where
  abbrev hears : Hears (take c.args.stand.now.passed c.args.buffer.now) c.args.stand.now.told c.hear-image.result.0
      (Records c.in-Records.next) c.hear-image.result.1
  hears = rw c.in-Records.is at c.hear-image.ensures.hears

  came : CameBy (Records c.in-Records.next) (Some hears.0) c.args.stand.now.start c.hear-image.result.1 c.args.stand.now.passed
      c.args.stand.now.told c.args.buffer.now (take c.args.stand.now.passed c.args.buffer.now)
  came = opened_came c.args.buffer.now c.args.stand.now.passed c.args.stand.now.start c.args.stand.now.told c.hear-image.result.1
      c.in-Records.next hears.0 c.requires.start (omega (arith, c.requires.few)) hears.3 hears.4 hears.6

pub returns-in-Some-clause-goes_on : goal.returns-in-Some-clause-goes_on
returns-in-Some-clause-goes_on c =
    let h = (goal.at.returns-in-Some-clause-goes_on c).In-Records in
    let on = rw c.in-Some.is at (c.walk.ensures.continues (Some (hears h).0)) in
    rw (hears h).1 (on.goes_on _ (came h))

pub returns-in_default-clause-goes_on : goal.returns-in_default-clause-goes_on
returns-in_default-clause-goes_on c =
    let h = (goal.at.returns-in_default-clause-goes_on c).In-Records in
    let on = rw c.in_default.is at (c.walk.ensures.continues (Some (hears h).0)) in
    rw (hears h).1 (on.goes_on _ (came h))

pub returns-in_default-clause-complete : goal.returns-in_default-clause-complete
returns-in_default-clause-complete c =
    let h = (goal.at.returns-in_default-clause-complete c).In-Records in
    (rw c.in_default.is at (c.walk.ensures.continues (Some (hears h).0))).complete _ (came h)

pub returns-in_default-clause-marked : goal.returns-in_default-clause-marked
returns-in_default-clause-marked c =
    let h = (goal.at.returns-in_default-clause-marked c).In-Records in
    (rw c.in_default.is at (c.walk.ensures.continues (Some (hears h).0))).marked _ (came h)

pub returns-in-Footer : goal.returns-in-Footer
returns-in-Footer c =
    let stand = c.args.stand.now in let buffer = c.args.buffer.now in
    let hears = rw c.in-Footer.is at c.hear-image.ensures.hears in let on = c.wait.ensures.continues in
    let last = last_kept buffer c.keep_behind.new.buffer stand.passed (omega (arith, c.requires.few)) hears.1 c.keep_behind.ensures in
    let came : CameTo (Footer c.in-Footer.size) c.hear-image.result.0 stand c.keep_behind.new.buffer (take stand.passed buffer) =
    rw hears.0 (last.0, last.1, tt, hears.2) in record {
      counts = c.wait.ensures.counts;
      goes_on = on.goes_on _ came;
      complete = awaiting_map c.wait.result (λ rests. rests _ came) on.complete;
      marked = on.marked _ came;
      typed = on.typed _ came;
    }

pub returns-in-First-clause-marked : goal.returns-in-First-clause-marked
returns-in-First-clause-marked c = rw c.in-First.is (λ d begins as_long.
    let front = take c.args.stand.now.passed c.args.buffer.now in
    let missing = rw c.in-First.is at c.hear-image.ensures.hears in
    let many : length front ≡ c.args.stand.now.passed =
    length-take c.args.stand.now.passed c.args.buffer.now ∙ omega (arith, c.requires.few) in
    let starts = begins_left front c.args.chunk.now c.args.stand.now.told d begins in (
      λ out. needs_among (texts_of d) (length front) _ _ _ (meaning_reads d 0).marks (omega (arith, many))
          (omega (arith, missing.ends.1))
          (missing.between (inl (subst OutOfHeader (sym many) out)) d starts as_long),
      λ late no_text. subst (λ e. EndsAt e (meaning_reads d 0).marks)
          (omega (arith, late, missing.ends.1))
          ((missing.between (inr (omega (arith, late))) d starts as_long).1 no_text),
    ))

pub returns-in-First-clause-counts : goal.returns-in-First-clause-counts
returns-in-First-clause-counts c =
    let many = length-take c.args.stand.now.passed c.args.buffer.now in
    let missing = rw c.in-First.is at c.hear-image.ensures.hears in let few = missing.few in
    let early : length (take c.args.stand.now.passed c.args.buffer.now) < 12 → c.hear-image.result.1 ≤ 12 =
    λ short. c.hear-image.ensures.head short c.in-First.is in
    let none = c.requires.all (omega (arith, many, few, c.requires.few)) in rw c.in-First.is (record {
      told = refl;
      holds = omega (arith, many, few, c.requires.few, c.requires.start);
      ahead = omega (arith, many, missing.ends, few, early, c.requires.few, c.requires.start);
      passed = omega (arith, none);
      whole = λ all. omega (arith, many, all, none, missing.ends, c.requires.few);
    })

pub returns-in-First-clause-typed : goal.returns-in-First-clause-typed
returns-in-First-clause-typed c =
    let many = length-take c.args.stand.now.passed c.args.buffer.now in
    let missing = rw c.in-First.is at c.hear-image.ensures.hears in
    rw c.in-First.is (missing_on c.hear-image.result.0 (take c.args.stand.now.passed c.args.buffer.now) c.args.chunk.now c.args.stand.now.told
    (c.requires.all (omega (arith, many, missing.few, c.requires.few))) missing.typed)
