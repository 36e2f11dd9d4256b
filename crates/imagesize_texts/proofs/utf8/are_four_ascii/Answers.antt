use Rattle.std.proofs.Common.{bit_and, eqb-true, sym, ap, ◌∙◌}
use Rattle.std.specs.Int.{w32, from_le_bytes}
use Rattle.imagesize_source.proofs.Numbers.{little_4}
use Rattle.imagesize_texts.proofs.Ascii.{part_ascii}
use Rattle.imagesize_texts.proofs.utf8.are_four_ascii.Goals as goal

pub returns : goal.returns
returns c = λ none. part_ascii 4 (from_le_bytes w32) little_4 c.args.index c.args.bytes.now c.type_inv.bytes c.requires
    (ap (λ n. bit_and n 2155905152) (sym c.four_at.ensures) ∙ eqb-true _ _ none)
