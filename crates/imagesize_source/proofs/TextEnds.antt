-- Whether a text is ended.
use Rattle.std.proofs.Common.{◌≡◌, ℕ, ◌-◌, Bool, false, not, eqb, List, [], ◌∷◌, length, take, drop, None, Some, is_some, refl, sym, arith}
use Rattle.std.specs.List.{list_any, position}
use Rattle.std.proofs.lemmas.List.{drop_all, length-take, take_rest}
use Rattle.imagesize_source.proofs.Texts.{found, not_found, line_front, word_closed}

pub any_found : (p : ℕ → Bool) (bs : List ℕ) → list_any p bs ≡ is_some (position p bs)
any_found p [] = refl
any_found p (b ∷ bs) = grind (arith, (any_found p bs))

pub ruleset lines = (any_found, length-take, line_front)

pub ruleset words = (any_found, found, not_found, take_rest, drop_all, word_closed)
