use Rattle.std.proofs.Common.{rules, tests, ◌∙◌, ap}
use Rattle.std.proofs.lemmas.Iterator.{YieldsList-from_slice}
use Rattle.std.proofs.lemmas.Iterator.Search.{find_from_yields_List}
use Rattle.std.specs.List.{find}
use Rattle.imagesize_c.specs.Numbers.{has_numbers, type_numbered}
use Rattle.imagesize_c.proofs.numbers.type_numbered.Goals as goal

-- the first type of the list that has the numbers
pub returns : goal.returns
unfolding type_numbered
returns c =
    let test = has_numbers c.args.number c.args.compression in
    let first = find_from_yields_List test _ _ c.find.result c.find.ensures.ran
    (YieldsList-from_slice c.all.result.now cc) (λ x b q k. search (rules, tests)) in
    c.copied.ensures ∙ first ∙ ap (find test) c.all.ensures
