-- What a read of bytes in memory does to their count.
use Rattle.std.proofs.Common.{◌≡◌, ℕ, ◌+◌, ◌^◌, ◌<◌, ◌≤◌, List, length, take, Option, None, Result, Ok, Err, IfOk, IfErr, refl, sym, ap, ◌∙◌, arith}
use Rattle.std.specs.Prelude.{option_map}
use Rattle.std.specs.declared.io.Error.{Error}
use Rattle.std.specs.declared.io.traits.SeekFrom.TheVariants.{Start}
use Rattle.std.proofs.lemmas.List.{length-take}
use Rattle.std.proofs.lemmas.Bool.Decides.{nat_tests}
use Rattle.imagesize_io.proofs.Windows.{past-span}
use Rattle.imagesize_io.specs.Memory.{IsMemory, IsPaid, IsSpent, counting_state}
use Rattle.imagesize_io.specs.ReaderState.{Opens, start_state}
use Rattle.imagesize_io.specs.Telling.{SeekTells, Telling, at_offset}
use Rattle.imagesize_io.specs.declared.reader.Opened.{Opened}
use Rattle.imagesize_source.proofs.Counts.{total-span_at}
use Rattle.imagesize_source.specs.Input.{span_at}
use Rattle.imagesize_source.specs.Reading.{Reads, map_answer, text_part, text_read}
use Rattle.imagesize_source.specs.State.{Runs}
use Rattle.imagesize_source.specs.declared.halt.Halt.{Halt}
use Rattle.imagesize_source.specs.declared.halt.Halt.TheVariants.{Spent}
use Rattle.imagesize_source.specs.declared.text.Text.{Text}

-- a read whose bytes were counted
paid_runs : (d got : List ℕ) (reads : Reads (List ℕ)) (front left place front' left' place' offset n : ℕ) → length d < 2 ^ 63
    → left ≤ length d + 64 → reads.answer ≡ Ok got → reads.marks ≡ span_at offset n
    → IsPaid front left place front' left' place' offset n
    → Runs (counting_state d front left place) (counting_state d front' left' place') (Ok got) reads
paid_runs d got reads front left place front' left' place' offset n short within is marks paid =
    let past = past-span (counting_state d front left place) offset n (refl, refl) in grind (arith, total-span_at)

-- a read that the budget does not have
spent_runs : (d : List ℕ) (reads : Reads (List ℕ)) (front left place front' left' place' offset n : ℕ) → length d < 2 ^ 63
    → left ≤ length d + 64 → reads.marks ≡ span_at offset n → IsSpent front left left' offset n
    → Runs {X = List ℕ} (counting_state d front left place) (counting_state d front' left' place') (Err Spent) reads
spent_runs d reads front left place front' left' place' offset n short within marks spent = grind (arith, total-span_at)

-- a read of which the bytes were counted, if the budget has them
pub counted : (d buffer : List ℕ) (reads : Reads (List ℕ)) (r : Result ℕ Halt) (front left place front' left' place' offset n : ℕ)
    → length d < 2 ^ 63 → left ≤ length d + 64 → reads.answer ≡ Ok (take n buffer) → reads.marks ≡ span_at offset n
    → IfOk r (λ k. (k ≡ n) × IsPaid front left place front' left' place' offset n)
    → IfErr r (λ halt. (halt ≡ Spent) × IsSpent front left left' offset n)
    → Runs (counting_state d front left place) (counting_state d front' left' place') (map_answer (λ k. take k buffer) r) reads
counted d buffer reads (Ok k) front left place front' left' place' offset n short within is marks paid spent =
    rw paid.0 (paid_runs d (take n buffer) reads front left place front' left' place' offset n short within is marks paid.1)
counted d buffer reads (Err halt) front left place front' left' place' offset n short within is marks paid spent =
    rw spent.0 (spent_runs d reads front left place front' left' place' offset n short within marks spent.1)

-- the span of a text
pub text_marks : (d buffer : List ℕ) (t : Text) (offset n : ℕ) → take n buffer ≡ text_part d t offset (length buffer)
    → n ≤ length buffer → (text_read d t offset (length buffer)).marks ≡ span_at offset n
text_marks d buffer t offset n is fits =
    let long : length (text_part d t offset (length buffer)) ≡ n = ap length (sym is) ∙ length-take n buffer ∙ omega (arith, fits) in
    ap (span_at offset) long

-- a reader in memory goes where a seek within its bytes sends it
pub left_at : (old new : Option Telling) (d : List ℕ) (position : ℕ) (r : Result ℕ Error) → SeekTells old new (Start position) r
    → IsMemory old d → position ≤ length d → new ≡ option_map (λ t. at_offset t position) old
left_at old new d position r seeks memory within = grind (arith, nat_tests)

-- bytes in memory are the source over their reader, once it was opened
pub counting_starts : (telling mid : Option Telling) (opened : Opened) (d : List ℕ) → length d < 2 ^ 63
    → Opens telling mid (Ok opened) → IsMemory mid d → counting_state d 0 (length d + 64) (length d) ≡ start_state mid None 0 opened.told
counting_starts telling mid opened d short opens memory = grind (arith, nat_tests)
