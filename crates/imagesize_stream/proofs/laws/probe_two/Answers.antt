use Rattle.std.proofs.Common.{ℕ, List, [], ap, ◌∙◌}
use Rattle.std.specs.Result.{result_ok}
use Rattle.imagesize.specs.Meaning.{kind_of, meaning}
use Rattle.imagesize_stream.proofs.Ending.{both_pieces}
use Rattle.imagesize_stream.proofs.laws.probe_two.Goals as goal

pub returns-clause-kind : goal.returns-clause-kind
returns-clause-kind c =
    let first = c.push.ensures.goes_on [] c.new-probe.ensures.begins in
    c.finish.ensures.kind _ (c.push-2.ensures.goes_on _ first)
    ∙ ap (λ (front : List ℕ). result_ok (kind_of front 0).answer)
    (both_pieces _ _ _ c.args.first.now c.args.second.now c.new-probe.ensures.told
    (c.push.ensures.told ∙ c.new-probe.ensures.told))

pub returns-clause-size : goal.returns-clause-size
returns-clause-size c =
    let first = c.push.ensures.goes_on [] c.new-probe.ensures.begins in
    c.finish.ensures.size _ (c.push-2.ensures.goes_on _ first)
    ∙ ap (λ (front : List ℕ). (meaning front 0).answer)
    (both_pieces _ _ _ c.args.first.now c.args.second.now c.new-probe.ensures.told
    (c.push.ensures.told ∙ c.new-probe.ensures.told))
