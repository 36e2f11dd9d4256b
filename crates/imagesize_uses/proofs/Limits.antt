-- What a reader below a limit counts, and by what it fails.
use Rattle.std.proofs.Common.{◌≡◌, ℕ, ◌+◌, ◌-◌, ◌*◌, ◌^◌, ◌<◌, ◌≤◌, Bool, true, false, ◌||◌, Option, None, Some, Result, Ok, Err, IfOk, is_none, option_map, nat_eq, nat_le, refl, sym, ap, ◌∙◌, subst, arith}
use Rattle.std.specs.Prelude.{◌⊎◌, unwrap_or, if◌then◌else◌}
use Rattle.std.specs.declared.io.Error.{Error}
use mathlib.Core.Logic.{⊎_elim}
use Rattle.std.proofs.lemmas.Bool.{cases_lt, false_from_ne_true}
use Rattle.std.proofs.lemmas.Bool.Decides.{nat_tests}
use Rattle.std.proofs.lemmas.Nat.{mul-le}
use Rattle.imagesize.specs.Meaning.{meaning}
use Rattle.imagesize_io.specs.Answers.{IsLast, over_reader}
use Rattle.imagesize_io.specs.Telling.{Telling, may_fail}
use Rattle.imagesize_source.specs.Errors.{is_fault}
use Rattle.imagesize_source.specs.declared.error.ImageError.{ImageError}
use Rattle.imagesize_types.specs.Order.{area_of}
use Rattle.imagesize_types.specs.declared.size.ImageSize.{ImageSize}
use Rattle.imagesize_uses.specs.Gate.{Admits, Decides, IfNoSize, IfTooLarge, IsFaultOf, gate_verdict, kept_sum, limited_count, limited_failure, pair}
use Rattle.imagesize_uses.specs.declared.gate.Admission.{Admission}
use Rattle.imagesize_uses.specs.declared.gate.Rejection.{Rejection}
use Rattle.imagesize_uses.specs.declared.gate.Rejection.TheVariants.{TooLarge, NoSize}

-- ---- counts

below_square : (s t b d : ℕ) → s < t → b ≤ s → s * s + b ≡ t * t + d → ⊥
below_square s t b d less low is =
    let square = mul-le (s + 1) (s + 1) t t (omega (arith, less)) (omega (arith, less)) in
    let sum : (s + 1) * (s + 1) ≡ s * s + 2 * s + 1 = omega arith in
    omega (arith, square, sum, low, is)

-- the pair tells both numbers
pair_same : (a b c d : ℕ) → pair a b ≡ pair c d → (a ≡ c) × (b ≡ d)
pair_same a b c d is =
    let low : a + b ≤ c + d =
    ⊎_elim (λ less. absurd (below_square (c + d) (a + b) d b less (omega arith) (sym is))) (λ few. few)
    (cases_lt (c + d) (a + b)) in
    let high : c + d ≤ a + b =
    ⊎_elim (λ less. absurd (below_square (a + b) (c + d) b d less (omega arith) is)) (λ few. few)
    (cases_lt (a + b) (c + d)) in
    let sum : a + b ≡ c + d = omega (arith, low, high) in
    let squares : (a + b) * (a + b) ≡ (c + d) * (c + d) = ap (λ s. s * s) sum in
    let second : b ≡ d = omega (arith, squares, is) in
    (omega (arith, sum, second), second)

-- what stays tells the reader, and how its count moved
kept_same : (reader other : ℕ) (before after : Option ℕ) (left later taken : ℕ) → later + taken ≡ left
    → kept_sum other after later ≡ kept_sum reader before left
    → (other ≡ reader) × (after ≡ option_map (λ c. c + taken) before)
kept_same reader other None None left later taken rest is = ((pair_same other 0 reader 0 is).0, refl)
kept_same reader other None (Some n) left later taken rest is =
    let no = (pair_same other (n + later + 1) reader 0 is).1 in absurd (omega (arith, no))
kept_same reader other (Some m) None left later taken rest is =
    let no = (pair_same other 0 reader (m + left + 1) is).1 in absurd (omega (arith, no))
kept_same reader other (Some m) (Some n) left later taken rest is =
    let both = pair_same other (n + later + 1) reader (m + left + 1) is in
    let second = both.1 in
    let rise : n ≡ m + taken = omega (arith, second, rest) in
    (both.0, ap (λ (c : ℕ). Some c) rise)

-- a call took what is left less, and what stays is the same
same_rest : (k l left later taken : ℕ) → left < 2 ^ 64 → later < 2 ^ 64 → taken < 2 ^ 64
    → 2 ^ 64 - later + 2 ^ 66 * l ≡ 2 ^ 64 - left + 2 ^ 66 * k + taken → (l ≡ k) × (later + taken ≡ left)
same_rest k l left later taken short also few is =
    let same : l ≡ k = omega arith in
    (same, omega arith)

-- of a limited reader: it stands around the reader that it did, that one's count rose by what was taken, and so much less is left
pub record Taken (reader other : ℕ) (before after : Option ℕ) (left later taken : ℕ) : Type 0 where
  pub same : other ≡ reader
  pub rises : after ≡ option_map (λ c. c + taken) before
  pub rest : later + taken ≡ left

pub took : (reader other : ℕ) (before after : Option ℕ) (left later taken : ℕ) → left < 2 ^ 64 → later < 2 ^ 64
    → taken < 2 ^ 64
    → limited_count other after later ≡ option_map (λ c. c + taken) (limited_count reader before left)
    → Taken reader other before after left later taken
took reader other before after left later taken short also few is =
    let sum : 2 ^ 64 - later + 2 ^ 66 * kept_sum other after later
    ≡ 2 ^ 64 - left + 2 ^ 66 * kept_sum reader before left + taken =
    ap (λ o. unwrap_or o 0) is in
    let both = same_rest (kept_sum reader before left)
    (kept_sum other after later) left later taken short also few sum in
    let kept = kept_same reader other before after left later taken both.1 both.0 in
    record { same = kept.0; rises = kept.1; rest = both.1 }

-- ---- failures

last_below : (failure : Option (Option Error)) (e : ImageError) → IsLast (limited_failure None failure) e
    → IsLast failure e
last_below None e is = tt
last_below (Some last) e is = is

-- where something is left, a fault is that of the reader below
pub fault_below : (spent : Option Error) (left : ℕ) (failure : Option (Option Error)) (v : Result ImageSize Rejection)
    → is_none spent || nat_eq left 0 ≡ true → 0 < left → IsFaultOf (limited_failure spent failure) v
    → IsFaultOf failure v
fault_below None left failure (Err (NoSize e)) ends some fault = λ is. last_below failure e (fault is)
fault_below None left failure _ ends some fault = tt
fault_below (Some _) left failure v ends some fault = absurd (grind (arith, nat_tests))

no_fault : (v : Result ImageSize Rejection) → IsFaultOf (Some None) v → IfNoSize v (λ e. is_fault e ≡ false)
no_fault (Err (NoSize e)) fault = false_from_ne_true (is_fault e) (λ is. fault is)
no_fault _ fault = tt

-- ---- the verdict

-- what is said of an image without a fault is the verdict on it
judged : (most : ℕ) (answer : Result ImageSize ImageError) (v : Result ImageSize Rejection)
    → IfOk v (λ size. answer ≡ Ok size)
    → IfTooLarge v (λ size. answer ≡ Ok size) → IfNoSize v (λ e. is_fault e ≡ false → answer ≡ Err e)
    → IfOk v (λ size. size.width * size.height ≤ most) → IfTooLarge v (λ size. most < size.width * size.height)
    → IfNoSize v (λ e. is_fault e ≡ false) → v ≡ gate_verdict most answer
judged most answer (Ok size) image _ _ few _ _ =
    let test : nat_le (area_of size) most ≡ true = grind (arith, nat_tests) in
    sym (ap (gate_verdict most) image ∙ ap (λ (b : Bool). if b then Ok size else Err (TooLarge size)) test)
judged most answer (Err (TooLarge size)) _ image _ _ many _ =
    let test : nat_le (area_of size) most ≡ false = grind (arith, nat_tests) in
    sym (ap (gate_verdict most) image ∙ ap (λ (b : Bool). if b then Ok size else Err (TooLarge size)) test)
judged most answer (Err (NoSize e)) _ _ refused _ _ none = sym (ap (gate_verdict most) (refused none))

pub decides : (telling : Option Telling) (failure : Option (Option Error)) (limit most : ℕ) (a : Admission)
    → Admits (may_fail telling) most a
    → IfOk a.verdict (λ size. size.width * size.height ≤ most)
    → IfTooLarge a.verdict (λ size. most < size.width * size.height)
    → (a.taken < limit → IsFaultOf failure a.verdict) → Decides telling failure limit most a
decides None failure limit most a admits few many fault = tt
decides (Some t) failure limit most a admits few many fault = λ honest none below.
    let of_image = admits
    (record { short = honest.short; patient = λ no. absurd (let is : true ≡ false = no in cc) }) in
    judged most (over_reader t meaning).answer a.verdict of_image.image of_image.too_large of_image.refused few many
    (no_fault a.verdict (subst (λ f. IsFaultOf f a.verdict) none (fault below)))
