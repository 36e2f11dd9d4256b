-- The derived order of an enum: values are ordered by the positions of their variants, and those of one variant by what they hold.
use mathlib.Core.Logic.{inl, inr}
use mathlib.Core.List.{List, [], ◌∷◌}
use denote.Struct.Field.{Field}
use denote.Struct.Values.{Values}
use denote.Enum.Declared.{Choice, Record}
use denote.Enum.Compared.{Each, by}
use Rattle.std.proofs.Common.{arith, ◌≡◌, ◌∙◌, refl, sym, eqb-true}
use Rattle.std.proofs.lemmas.Bool.{and_parts}
use Rattle.std.specs.Prelude.{ℕ, Bool, true, ◌==◌, ◌&&◌, ◌+◌, ◌<◌, ◌≤◌}
use Rattle.std.specs.Cmp.{Equal-is, nat_cmp_is}
use Rattle.std.specs.Ordering.{is_eq, nat_cmp, ordering_then}
use Rattle.std.specs.declared.cmp.Ordering.{Ordering}
use Rattle.std.specs.declared.cmp.Ordering.TheVariants.{Less, Equal, Greater}

-- Of the nth variant and those behind it, each that holds nothing has its position, and is equal to itself.
abbrev pub bare_agree : ℕ → (Fss : List (List Field)) → Each Ordering Fss → (Choice Fss → ℕ) → Bool
bare_agree n [] each offset = true
bare_agree n ([] ∷ Fss) each offset =
    (offset (inl tt) == n) && (is_eq (each.0 tt tt) && bare_agree (n + 1) Fss each.1 (λ c. offset (inr c)))
bare_agree n ((F ∷ Fs) ∷ Fss) each offset = bare_agree (n + 1) Fss each.1 (λ c. offset (inr c))

-- And each of the others has its position, and two values of it are ordered as `within` says.
abbrev pub HeldAgree : ℕ → (Fss : List (List Field)) → Each Ordering Fss → (Choice Fss → ℕ) → (Choice Fss → ℕ) → Type 0
HeldAgree n [] each offset within = Unit
HeldAgree n ([] ∷ Fss) each offset within = HeldAgree (n + 1) Fss each.1 (λ c. offset (inr c)) (λ c. within (inr c))
HeldAgree n ((F ∷ Fs) ∷ Fss) each offset within =
    ((x : Values (F ∷ Fs)) → offset (inl x) ≡ n) ×
    (((x y : Values (F ∷ Fs)) → each.0 x y ≡ nat_cmp (within (inl x)) (within (inl y))) ×
    HeldAgree (n + 1) Fss each.1 (λ c. offset (inr c)) (λ c. within (inr c)))

-- both together
abbrev AllAgree : ℕ → (Fss : List (List Field)) → Each Ordering Fss → (Choice Fss → ℕ) → (Choice Fss → ℕ) → Type 0
AllAgree n [] each offset within = Unit
AllAgree n (Fs ∷ Fss) each offset within =
    ((x : Values Fs) → offset (inl x) ≡ n) ×
    (((x y : Values Fs) → each.0 x y ≡ nat_cmp (within (inl x)) (within (inl y))) ×
    AllAgree (n + 1) Fss each.1 (λ c. offset (inr c)) (λ c. within (inr c)))

agrees : (n : ℕ) (Fss : List (List Field)) (each : Each Ordering Fss) (offset within : Choice Fss → ℕ) →
    bare_agree n Fss each offset ≡ true → HeldAgree n Fss each offset within → AllAgree n Fss each offset within
agrees n [] each offset within bare held = tt
agrees n ([] ∷ Fss) each offset within bare held =
    let both = and_parts (offset (inl tt) == n) _ bare in
    let behind = and_parts (is_eq (each.0 tt tt)) _ both.1 in
    let there : offset (inl tt) ≡ n = eqb-true _ _ both.0 in
    let tied : each.0 tt tt ≡ Equal = (Equal-is (each.0 tt tt)).0 behind.0 in
    let same : Equal ≡ nat_cmp (within (inl tt)) (within (inl tt)) =
    nat_cmp_is (within (inl tt)) (within (inl tt)) Equal refl in (
      λ _. there,
      (
        λ _ _. tied
            ∙ same,
        agrees (n + 1) Fss each.1 (λ c. offset (inr c)) (λ c. within (inr c)) behind.1 held,
      ),
    )
agrees n ((F ∷ Fs) ∷ Fss) each offset within bare held =
    (held.0, (held.1.0, agrees (n + 1) Fss each.1 (λ c. offset (inr c)) (λ c. within (inr c)) bare held.1.1))

from : (n : ℕ) (Fss : List (List Field)) (each : Each Ordering Fss) (offset within : Choice Fss → ℕ) →
    AllAgree n Fss each offset within → (c : Choice Fss) → n ≤ offset c
from n [] each offset within h c = absurd c
from n (Fs ∷ Fss) each offset within h (inl x) = rw (h.0 x) (omega arith)
from n (Fs ∷ Fss) each offset within h (inr c) =
    let above = from (n + 1) Fss each.1 (λ c. offset (inr c)) (λ c. within (inr c)) h.1.1 c in omega arith

listed_choices : (n : ℕ) (Fss : List (List Field)) (each : Each Ordering Fss) (offset within : Choice Fss → ℕ) →
    AllAgree n Fss each offset within → (c d : Choice Fss) →
    by Less Greater Fss each c d ≡ ordering_then (nat_cmp (offset c) (offset d)) (nat_cmp (within c) (within d))
listed_choices n [] each offset within h c d = absurd c
listed_choices n (Fs ∷ Fss) each offset within h (inl x) (inl y) =
    let same : offset (inl x) ≡ offset (inl y) = h.0 x ∙ sym (h.0 y) in
    let tied : Equal ≡ nat_cmp (offset (inl x)) (offset (inl y)) = nat_cmp_is _ _ Equal same in
    rw (← tied) (h.1.0 x y)
listed_choices n (Fs ∷ Fss) each offset within h (inl x) (inr d) =
    let above = from (n + 1) Fss each.1 (λ c. offset (inr c)) (λ c. within (inr c)) h.1.1 d in
    let first = h.0 x in
    let before : offset (inl x) < offset (inr d) = omega arith in
    let less : Less ≡ nat_cmp (offset (inl x)) (offset (inr d)) = nat_cmp_is _ _ Less before in
    rw (← less)
listed_choices n (Fs ∷ Fss) each offset within h (inr c) (inl y) =
    let above = from (n + 1) Fss each.1 (λ c. offset (inr c)) (λ c. within (inr c)) h.1.1 c in
    let first = h.0 y in
    let behind : offset (inl y) < offset (inr c) = omega arith in
    let greater : Greater ≡ nat_cmp (offset (inr c)) (offset (inl y)) = nat_cmp_is _ _ Greater behind in
    rw (← greater)
listed_choices n (Fs ∷ Fss) each offset within h (inr c) (inr d) =
    listed_choices (n + 1) Fss each.1 (λ c. offset (inr c)) (λ c. within (inr c)) h.1.1 c d

-- the same of an enum's values
pub listed : (N : Record) (each : Each Ordering N.parts) (offset within : N.D → ℕ) →
    bare_agree 0 N.parts each (λ c. offset (N.make c)) ≡ true →
    HeldAgree 0 N.parts each (λ c. offset (N.make c)) (λ c. within (N.make c)) → (x y : N.D) →
    by Less Greater N.parts each (N.as_values x) (N.as_values y)
    ≡ ordering_then (nat_cmp (offset x) (offset y)) (nat_cmp (within x) (within y))
listed N each offset within bare held x y =
    let all = agrees 0 N.parts each (λ c. offset (N.make c)) (λ c. within (N.make c)) bare held in
    rw (N.eta x, N.eta y) at
    (listed_choices 0 N.parts each (λ c. offset (N.make c)) (λ c. within (N.make c)) all (N.as_values x) (N.as_values y))
