use Rattle.std.proofs.Common.{◌<◌, rules, ◌∙◌, ap, sym, subst, arith}
use Rattle.imagesize_uses.specs.Gate.{Decides, IsFaultOf, limit_of}
use Rattle.imagesize_uses.proofs.Limits.{decides, fault_below, took}
use Rattle.imagesize_uses.proofs.gate.admit_within.Goals as goal

pub returns : goal.returns
returns g c =
    let is = took _ c.admit.new.reader.reader.ghost_name (g.R.Told.count c.args.reader.now)
    (g.R.Told.count c.admit.new.reader.reader.now) c.saturating_add.result c.admit.new.reader.left c.admit.result.taken
    (search rules) c.admit.new.reader.short (search rules) c.admit.ensures.counts in
    let rest = is.rest in
    let back = sym (c.reader-1.given.1 (sym is.same)) in
    let fault : c.admit.result.taken < limit_of c.args.length
    → IsFaultOf (g.R.Told.failure c.admit.new.reader.reader.now) c.admit.result.verdict = λ below.
    fault_below c.admit.new.reader.spent c.admit.new.reader.left _ c.admit.result.verdict c.admit.new.reader.ends
    (omega (arith, rest, below, c.saturating_add.ensures)) c.admit.ensures.fault in
    record {
      admits = c.admit.ensures.admits;
      few = c.admit.ensures.few;
      many = c.admit.ensures.many;
      counts = ap (λ r. g.R.Told.count r) (sym back) ∙ is.rises;
      limit = omega (arith, rest, c.saturating_add.ensures);
      fault = λ below. subst (λ r. IsFaultOf (g.R.Told.failure r) c.admit.result.verdict) back (fault below);
      whole = subst (λ r. Decides (g.R.Told.telling c.args.reader.now) (g.R.Told.failure r) (limit_of c.args.length)
          c.args.most_pixels c.admit.result) back
          (decides (g.R.Told.telling c.args.reader.now) (g.R.Told.failure c.admit.new.reader.reader.now) _ _ c.admit.result
          c.admit.ensures.admits c.admit.ensures.few c.admit.ensures.many fault);
    }
