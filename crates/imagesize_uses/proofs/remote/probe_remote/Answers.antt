use Rattle.std.proofs.Common.{◌≡◌, ◌+◌, ◌≤◌, length, take, drop, refl, ◌∙◌, arith, rules}
use Rattle.std.proofs.lemmas.List.{length-append, length-drop, length-take}
use Rattle.imagesize_uses.proofs.Rounds.{Requests, begun, ended, fetched, if_err, smaller}
use Rattle.imagesize_uses.proofs.remote.probe_remote.Given.{Over}
use Rattle.imagesize_uses.proofs.remote.probe_remote.Goals.{After-fetch_part}
use Rattle.imagesize_uses.proofs.remote.probe_remote.Goals as goal

-- the fetch of a requested span
module _ (g : Over) (c : After-fetch_part g) where
  requests : Requests (g.R.Remote.input c.args.remote.now) c.rounds.probe c.in-Wanted.span
  requests =
      let says = c.in-Wanted.ensures in let d = g.R.Remote.input c.args.remote.now in record {
        is = says.is;
        within = says.within d;
        fits = says.fits;
        reaches = says.reaches d;
        short = says.short;
        shorter = says.shorter d;
      }

  long : length (take c.in-Wanted.span.len c.rounds.buffer) ≡ c.in-Wanted.span.len
  long = omega (arith, length-take c.in-Wanted.span.len c.rounds.buffer, c.rounds.invariant.2, c.in-Wanted.ensures.short)

  asks : g.R.Remote.asked c.fetch_part.new.remote ≤ g.R.Remote.asked c.rounds.remote + c.in-Wanted.span.len
  asks = omega (arith, c.fetch_part.ensures.asks, long)

pub rounds-init : goal.rounds-init
rounds-init g c = (
  refl,
  begun (g.R.Remote.input c.args.remote.now) c.new-probe.result (g.R.Remote.fetches c.args.remote.now)
      (g.R.Remote.asked c.args.remote.now)
      (omega (arith, c.new-probe.ensures.total, c.length-whole.ensures.length, c.length-whole.ensures.short))
      c.new-probe.ensures.begins c.new-probe.ensures.first,
  search rules,
)

pub rounds-preserved : goal.rounds-preserved
rounds-preserved g c =
    let h = (goal.at.rounds-preserved g c).After-fetch_part in
    let got = rw (long g h, c.rounds.invariant.0) at c.in_ok-fetch_part-in-Wanted.ensures.bytes in (
      c.fetch_part.ensures.same ∙ c.rounds.invariant.0,
      fetched c.rounds.invariant.1 (requests g h) c.supply.new.self c.fetch_part.new.buffer c.supply.ensures.beyond got
          (c.supply.ensures.goes_on (g.R.Remote.input c.args.remote.now)) c.fetch_part.ensures.counts (asks g h),
      omega (
        arith,
        length-append c.fetch_part.new.buffer (drop c.in-Wanted.span.len c.rounds.buffer),
        length-drop c.in-Wanted.span.len c.rounds.buffer,
        c.fetch_part.auto.buffer,
        long g h,
        c.rounds.invariant.2,
        c.in-Wanted.ensures.short,
      ),
    )

pub rounds-smaller : goal.rounds-smaller
rounds-smaller g c =
    let h = (goal.at.rounds-smaller g c).After-fetch_part in
    smaller c.rounds.invariant.1 (requests g h) c.supply.new.self c.fetch_part.new.buffer c.supply.ensures.beyond
    (rw (long g h, c.rounds.invariant.0) at c.in_ok-fetch_part-in-Wanted.ensures.bytes)

pub returns-in-Found-clause-answer : goal.returns-in-Found-clause-answer
returns-in-Found-clause-answer g c =
    let is = c.in-Found.ensures.says (g.R.Remote.input c.args.remote.now) c.rounds.invariant.1.may in
    record { kind = is.0; answer = is.1 }

pub returns-in_err-fetch_part-in-Wanted-clause-few : goal.returns-in_err-fetch_part-in-Wanted-clause-few
returns-in_err-fetch_part-in-Wanted-clause-few g c =
    let h = (goal.at.returns-in_err-fetch_part-in-Wanted-clause-few g c).After-fetch_part in
    (ended c.rounds.invariant.1 (requests g h) c.fetch_part.ensures.counts (asks g h)).0

pub returns-in_err-fetch_part-in-Wanted-clause-most : goal.returns-in_err-fetch_part-in-Wanted-clause-most
returns-in_err-fetch_part-in-Wanted-clause-most g c =
    let h = (goal.at.returns-in_err-fetch_part-in-Wanted-clause-most g c).After-fetch_part in
    (ended c.rounds.invariant.1 (requests g h) c.fetch_part.ensures.counts (asks g h)).1

pub returns-in_err-fetch_part-in-Wanted-clause-some : goal.returns-in_err-fetch_part-in-Wanted-clause-some
returns-in_err-fetch_part-in-Wanted-clause-some g c =
    let h = (goal.at.returns-in_err-fetch_part-in-Wanted-clause-some g c).After-fetch_part in
    if_err c.from_residual.result (ended c.rounds.invariant.1 (requests g h) c.fetch_part.ensures.counts (asks g h)).2

pub returns-in_err-fetch_part-in-Wanted-clause-rounds : goal.returns-in_err-fetch_part-in-Wanted-clause-rounds
returns-in_err-fetch_part-in-Wanted-clause-rounds g c =
    let h = (goal.at.returns-in_err-fetch_part-in-Wanted-clause-rounds g c).After-fetch_part in
    (ended c.rounds.invariant.1 (requests g h) c.fetch_part.ensures.counts (asks g h)).3
