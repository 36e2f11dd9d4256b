use Rattle.std.proofs.Common.{subst, ℕ}
use Rattle.imagesize_fixed.specs.Tga.{is_tga}
use Rattle.imagesize_source.specs.Layout.{layout_reads}
use Rattle.imagesize_source.specs.State.{Runs}
use Rattle.imagesize_source.proofs.Layouts.{by_told}
use Rattle.imagesize_fixed.proofs.formats.tga.matches.Goals as goal

pub returns : goal.returns
returns g c = by_told
    (λ (n : ℕ). layout_reads (g.S.Source.state c.args.source.now).held.input (is_tga n c.args.head.now))
    (subst (λ (n : ℕ). Runs (g.S.Source.state c.args.source.now)
    (g.S.Source.state c.matches_by_length.new.source) c.matches_by_length.result
    (layout_reads (g.S.Source.state c.args.source.now).held.input (is_tga n c.args.head.now)))
    c.told-length.ensures.told c.matches_by_length.ensures)
