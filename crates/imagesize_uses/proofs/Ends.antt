-- How many of some spans end after an offset.
use Rattle.std.proofs.Common.{ℕ, suc, leb, ◌+◌, ◌<◌, ◌≤◌, ◌&&◌, cond, List, [], ◌∷◌, length, arith}
use mathlib.Core.Logic.{⊎_elim}
use Rattle.std.proofs.lemmas.Bool.{or_cases}
use Rattle.std.proofs.lemmas.Bool.Decides.{nat_tests}
use Rattle.imagesize_source.specs.declared.span.Span.{Span}
use Rattle.imagesize_source.specs.Agreement.{EndsBetween}

abbrev pub ends_after : List Span → ℕ → ℕ
ends_after [] start = 0
ends_after (s ∷ spans) start = cond (leb (suc start) (s.start + s.len)) 1 0 + ends_after spans start

-- no more than there are spans
pub ends_few : (spans : List Span) (start : ℕ) → ends_after spans start ≤ length spans
ends_few [] start = omega arith
ends_few (s ∷ spans) start = let rest = ends_few spans start in grind (arith, nat_tests)

-- no more after a later offset
ends_fewer : (spans : List Span) (low next : ℕ) → low ≤ next → ends_after spans next ≤ ends_after spans low
ends_fewer [] low next later = omega arith
ends_fewer (s ∷ spans) low next later = let rest = ends_fewer spans low next later in grind (arith, nat_tests)

-- and fewer where one ends between them
pub ends_less : (spans : List Span) (low high next : ℕ) → low ≤ next → high ≤ next → EndsBetween low high spans
    → ends_after spans next < ends_after spans low
ends_less [] low high next later behind ends = absurd cc
ends_less (s ∷ spans) low high next later behind ends =
    let rest = ends_fewer spans low next later in
    ⊎_elim (λ here. grind (arith, nat_tests))
    (λ more. let less = ends_less spans low high next later behind more in grind (arith, nat_tests))
    (or_cases (leb (suc low) (s.start + s.len) && leb (s.start + s.len) high) _ ends)
