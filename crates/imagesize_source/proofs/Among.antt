-- One list of spans, cut at two of them.
use Rattle.std.proofs.Common.{arith, ◌≡◌, ℕ, Bool, true, ◌||◌, ◌⊎◌, List, [], ◌∷◌, ◌++◌, refl, ap}
use Rattle.std.specs.List.{list_any}
use Rattle.std.proofs.lemmas.Bool.{or_left, or_right}
use Rattle.imagesize_source.specs.declared.span.Span.{Span}
use Rattle.imagesize_source.specs.Agreement.{is_covered, has_offset}

-- a span is one of some: what holds of it holds of one of them
abbrev pub Among : Span → List Span → Type 0
Among m spans = (P : Span → Bool) → P m ≡ true → list_any P spans ≡ true

pub any_left : (P : Span → Bool) (s t : List Span) → list_any P s ≡ true → list_any P (s ++ t) ≡ true
any_left P [] t is = absurd cc
any_left P (x ∷ s) t is = grind (arith, (any_left P s t))

pub any_right : (P : Span → Bool) (s t : List Span) → list_any P t ≡ true → list_any P (s ++ t) ≡ true
any_right P [] t is = is
any_right P (x ∷ s) t is = or_right (P x) (list_any P (s ++ t)) (any_right P s t is)

-- a weaker test passes too
pub any_more : (P Q : Span → Bool) (spans : List Span) → ((s : Span) → P s ≡ true → Q s ≡ true) → list_any P spans ≡ true
    → list_any Q spans ≡ true
any_more P Q [] more is = absurd cc
any_more P Q (s ∷ spans) more is = grind (arith, or_left, (any_more P Q spans more))

pub middle : (before : List Span) (m : Span) (rest : List Span) → Among m (before ++ m ∷ rest)
middle [] m rest P is = or_left (P m) (list_any P rest) is
middle (x ∷ before) m rest P is = or_right (P x) (list_any P (before ++ m ∷ rest)) (middle before m rest P is)

pub covered-any : (spans : List Span) (offset : ℕ) → is_covered spans offset ≡ list_any (λ s. has_offset s offset) spans
covered-any [] offset = refl
covered-any (s ∷ spans) offset = ap (λ b. has_offset s offset || b) (covered-any spans offset)

pub tail_is : {x y : Span} {xs ys : List Span} → ◌≡◌ {A = List Span} (x ∷ xs) (y ∷ ys) → xs ≡ ys
tail_is e = cc

-- the second is before the first, is the first, or is behind it
pub later_cut : (made seen rest others : List Span) (m mark : Span) → made ++ m ∷ rest ≡ seen ++ mark ∷ others
    → Among mark made ⊎ ((m ≡ mark) ⊎ ((more : List Span) → Among m (seen ++ more)))
later_cut [] [] rest others m mark same = grind arith
later_cut [] (y ∷ seen) rest others m mark same = grind arith
later_cut (x ∷ made) [] rest others m mark same = grind arith
later_cut (x ∷ made) (y ∷ seen) rest others m mark same =
    grind (arith, (later_cut made seen rest others m mark (tail_is same)))
