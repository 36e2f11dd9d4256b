use Rattle.std.proofs.Common.{refl, arith}
use Rattle.imagesize.specs.Meaning.{meaning_reads}
use Rattle.imagesize.specs.Parted.{texts_of}
use Rattle.imagesize_stream.proofs.Coming.{awaiting_all}
use Rattle.imagesize_stream.proofs.Ending.{never_done}
use Rattle.imagesize_stream.proofs.Given.{depends_behind, known_behind, marked_behind, next_behind}
use Rattle.imagesize_stream.proofs.probe.StreamProbe.skip.Goals as goal

pub returns : goal.returns
returns c =
    let s = c.args.self.now in
    let stand = s.stand in record {
      told = refl;
      keeps = refl;
      idle = never_done _ s.kind s.stage c.in_default.not-Done;
      next = next_behind s.stage stand.start stand.passed c.max-self.result stand.end c.requested_end-self.result stand.told
          c.max-self.ensures c.requested_end-self.ensures c.requires;
      later = omega (arith, c.max-self.ensures);
      passed = awaiting_all s.stage c.max-self.ensures;
      parts = λ d may. record {
        given = record {
          as_long = may.given.as_long;
          known = known_behind s.stage s.kind stand.start stand.offset stand.passed c.max-self.result stand.end
              stand.told s.buffer d may.given.as_long c.max-self.ensures s.holds c.requires may.given.known;
        };
        depends = depends_behind s.stage stand.start stand.offset stand.passed c.max-self.result stand.end d
            c.max-self.ensures s.holds may.depends may.marked;
        marked = marked_behind (texts_of d) s.stage stand.start stand.offset stand.passed c.max-self.result stand.end
            c.requested_end-self.result (meaning_reads d 0).marks c.max-self.ensures c.requested_end-self.ensures s.holds
            may.marked;
      };
    }
