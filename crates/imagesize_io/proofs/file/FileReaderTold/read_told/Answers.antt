use Rattle.std.proofs.Common.{◌≡◌, ◌+◌, ℕ, min, Result, Ok, Err, Some, IfErr, length, take, refl, ap, ◌∙◌, arith}
use Rattle.std.proofs.lemmas.Bool.Decides.{nat_tests}
use Rattle.imagesize_io.specs.File.{held_of}
use Rattle.imagesize_io.proofs.Blocks.{fetched, lost}
use Rattle.imagesize_io.proofs.file.FileReaderTold.read_told.Goals as goal
use Rattle.imagesize_io.proofs.file.FileReaderTold.read_told.Goals.{then-is_empty+in_ok-fetch, else-is_empty}

pub returns-clause-reads : goal.returns-clause-reads
returns-clause-reads g c = λ none. elim c.if-is_empty.branch [
  | then-is_empty+in_ok-fetch w ↦
      let f = w.in_ok-fetch.ensures in
      let is = w.self-is in
      let read = w.fetch.new.self in
      let n : ℕ = c.min-count.result in
      let held : c.held-held.result.now ≡ held_of read = rw is at c.held-held.ensures.held in
      let few : n ≡ min (length c.copy_front.new.buffer) (length (held_of read)) =
      omega (arith, c.min-count.ensures, ap length held, c.copy_front.auto.buffer) in
      let gave = fetched g.R.Read.remaining (g.R.Read.remaining f.reads.0) c.args.self.now read (record read { offset = read.offset + n })
      c.copy_front.new.buffer w.in_ok-fetch.field-0 n none f.reads.2 f.reads.3 f.block.0 f.block.1 f.block.2 f.offset few
      (c.copy_front.ensures ∙ ap (take n) held) refl refl refl in
      rw is (
        f.reads.0,
        f.reads.1,
        gave.0,
        f.position ∙ ap Some gave.1,
        f.block.1,
        rw f.block.0 f.block.2,
      )
  | else-is_empty w ↦ absurd (grind (arith, nat_tests, ap length (c.held.ensures ∙ none), w.if-is_empty.ensures))
]

-- what holds anyway holds after an error
if_failed : {X E A : Type 0} (r : Result X E) → A → IfErr r (λ _. A)
if_failed (Ok x) holds = tt
if_failed (Err e) holds = holds

pub returns-in_err-fetch-clause-fails : goal.returns-in_err-fetch-clause-fails
returns-in_err-fetch-clause-fails g c =
    let f = c.in_err-fetch.ensures in
    let few : length (held_of c.args.self.now) ≡ 0 =
    grind (arith, nat_tests, ap length c.held.ensures, c.is_empty.ensures, c.if-is_empty.true) in
    if_failed c.from_residual.result (f.offset, f.fails.0, lost c.args.self.now c.fetch.new.self few f.offset f.fails.0 f.fails.1)
