use Rattle.std.proofs.Common.{bit_and, eqb-true, sym, ap, ◌∙◌}
use Rattle.std.specs.Int.{w64, from_le_bytes}
use Rattle.imagesize_source.proofs.Numbers.{little_8}
use Rattle.imagesize_texts.proofs.Ascii.{part_ascii}
use Rattle.imagesize_texts.proofs.utf8.are_eight_ascii.Goals as goal

pub returns : goal.returns
returns c = λ none. part_ascii 8 (from_le_bytes w64) little_8 c.args.index c.args.bytes.now c.type_inv.bytes c.requires
    (ap (λ n. bit_and n 9259542123273814144) (sym c.eight_at.ensures) ∙ eqb-true _ _ none)
