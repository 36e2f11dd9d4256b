-- Pieces of a codestream, also without a byte.
use Rattle.std.proofs.Common.{◌≡◌, ◌≢◌, ℕ, false, cond, eqb, List, [], Result, Ok, refl, sym, ap, subst, arith}
use Rattle.std.proofs.lemmas.Bool.Decides.{nat_tests}
use Rattle.std.proofs.lemmas.List.{append-nil}
use Rattle.imagesize_source.specs.declared.halt.Halt.{Halt}
use Rattle.imagesize_source.specs.Input.{part, span_of}
use Rattle.imagesize_source.specs.Reading.{just, part_read}
use Rattle.imagesize_source.specs.Layout.{layout_reads, bytes_there}
use Rattle.imagesize_source.specs.Layout.Layout.{«done»}
use Rattle.imagesize_source.specs.State.{State, Runs, IsSound}
use Rattle.imagesize_source.proofs.Reached.{reads_nothing}
use Rattle.imagesize_boxes.specs.Jxl.{piece_at}

-- no byte is no reading
pub piece_none : {a : State} (offset : ℕ) → IsSound a → Runs a a (Ok []) (layout_reads a.held.input (piece_at offset 0))
unfolding piece_at
piece_none {a} offset sound = reads_nothing a (Ok []) sound refl tt

-- bytes that were read
pub piece_some : {a b : State} {r : Result (List ℕ) Halt} (offset k n : ℕ) → k ≢ 0 → n ≡ k
    → Runs a b r (part_read a.held.input offset n) → Runs a b r (layout_reads a.held.input (piece_at offset k))
unfolding piece_at
piece_some {a} {b} {r} offset k n some long h =
    let test : eqb k 0 ≡ false = grind (arith, nat_tests) in
    let reads : layout_reads a.held.input (cond (eqb k 0) (done []) (bytes_there offset k (λ piece. done piece)))
    ≡ part_read a.held.input offset k =
    rw test (ap (just (Ok (part a.held.input offset k)))
    (append-nil (span_of a.held.input offset k)))
    in
    subst (λ w. Runs a b r w) (sym reads) (subst (λ m. Runs a b r (part_read a.held.input offset m)) long h)
