-- How a probe takes a chunk in, where its stage goes on with the bytes of the chunk that count.
use Rattle.std.proofs.Common.{◌≡◌, ℕ, ◌-◌, ◌≤◌, List, length, take, None, sym, ap, ◌∙◌, arith}
use Rattle.std.proofs.lemmas.List.{length-take}
use Rattle.imagesize_source.specs.Input.{part}
use Rattle.imagesize_stream.proofs.Coming.{awaiting_map}
use Rattle.imagesize_stream.proofs.Ending.{as_many}
use Rattle.imagesize_stream.proofs.Given.{cut_part}
use Rattle.imagesize_stream.specs.Given.{IsGiven, MayBeAt}
use Rattle.imagesize_stream.specs.Probe.{Continues, Counts}
use Rattle.imagesize_stream.specs.Pushed.{Came, TakesIn, answer_of, told_of}
use Rattle.imagesize_stream.specs.declared.probe.StreamProbe.{StreamProbe}

module _ (old new : StreamProbe) (chunk cut : List ℕ) (none : answer_of old ≡ None) (enough : 132 ≤ length old.buffer)
    (is : cut ≡ take (old.stand.told - old.stand.passed) chunk) where
  many : (front : List ℕ) → Came old front → old.stand.passed ≡ length front
  many front came = as_many old.kind old.stage old.stand old.buffer front none enough old.holds came

  counted : (front : List ℕ) → Came old front → take (told_of old - length front) chunk ≡ cut
  counted front came = rw (← many front came) (sym is)

  pub taken : Counts new.stage old.stand new.stand cut
      → Continues old.stage new.stage old.kind new.kind old.stand new.stand old.buffer new.buffer cut
      → ((d : List ℕ) → IsGiven old.stage old.kind old.stand old.buffer d → cut ≡ part d old.stand.passed (length cut)
      → MayBeAt new.stage new.kind new.stand new.buffer d)
      → TakesIn old new chunk
  taken counts on given = record {
    told = counts.told;
    ahead = counts.ahead;
    passed = rw (← is) counts.passed;
    keeps = rw none tt;
    idle = rw none tt;
    goes_on = λ front came. rw (counted front came) (on.goes_on front came);
    complete = awaiting_map new.stage (λ rests front came. rw (counted front came) (rests front came)) on.complete;
    whole = awaiting_map new.stage (λ left front came all.
        left (omega (arith, many front came, all, ap length is, length-take (old.stand.told - old.stand.passed) chunk)))
        counts.whole;
    typed = λ front came. rw (counted front came) (on.typed front came);
    parts = λ d may has.
        given d may (cut_part d cut old.stand.passed (length chunk) (is ∙ (rw may.as_long at has)));
  }
