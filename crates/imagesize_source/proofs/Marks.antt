-- Spans in front of spans in front of readings, and sums of numbers of records.
use Rattle.std.proofs.Common.{◌≡◌, ℕ, zero, suc, ◌+◌, List, ◌++◌, append_assoc, sym, ap, arith}
use Rattle.imagesize_source.specs.declared.span.Span.{Span}
use Rattle.imagesize_source.specs.Reading.{Reads, plus, put_behind}

pub plus-is : (k n : ℕ) → plus k n ≡ k + n
plus-is zero n = omega arith
plus-is (suc k) n = omega (arith, plus-is k n)

pub plus-zero : (n : ℕ) → plus n 0 ≡ n
plus-zero n = omega (arith, plus-is n 0)

pub plus-assoc : (j k n : ℕ) → plus (plus j k) n ≡ plus j (plus k n)
plus-assoc j k n = grind (arith, plus-is)

-- readings behind spans behind spans
pub behind-behind : {X : Type 0} (s t : List Span) (r : Reads X) → put_behind s (put_behind t r) ≡ put_behind (s ++ t) r
behind-behind s t r = ap (λ marks. record r { marks = marks }) (sym (append_assoc s t r.marks))
