use Rattle.std.proofs.Common.{arith, ap, ◌∙◌, ℕ, List, length, take, get_or, Some, is_some, ◌+◌, ◌<◌, ◌≤◌, ◌≡◌, ◌++◌}
use Rattle.std.proofs.lemmas.Bool.Decides.{nat_tests}
use Rattle.std.proofs.lemmas.List.{length-take-le, take_at}
use Rattle.imagesize_pieces.specs.Stream.{byte_at, came, stream_input}
use Rattle.imagesize_pieces.proofs.Streaming.{last_none, run_ends}
use Rattle.imagesize_source.specs.Input.{part}
use Rattle.imagesize_source.proofs.Gathering.{gathered_run, known_run, run_there}
use Rattle.imagesize_pieces.proofs.arrived.ArrivedKnown.gather.Goals as goal

-- the first known bytes of a read, in an empty front of the buffer
first_copied : (n start : ℕ) (kept chunk run buffer new after : List ℕ) (offset count : ℕ) → count ≤ length run
    → new ≡ take 0 buffer ++ take count run ++ after
    → ((i : ℕ) → i < length run → byte_at n start kept chunk (offset + i) ≡ Some (get_or run i 0))
    → take count new ≡ part (stream_input n start kept chunk) offset count
first_copied n start kept chunk run buffer new after offset count few is_new is =
    ap (take count) is_new ∙ take_at (take count run) after count (length-take-le count run few)
    ∙ (run_there n (came start kept chunk) (kept ++ chunk) run offset count is few).1

pub returns-then-count-buffer-clause-copied : goal.returns-then-count-buffer-clause-copied
returns-then-count-buffer-clause-copied c =
    let s = c.args.self.now in
    first_copied s.told s.start s.kept.now s.chunk.now c.near-first.result.now c.args.buffer.now c.put-count.new.buffer _
    c.args.offset c.put-count.result (omega (arith, c.put-count.ensures.count)) c.put-count.ensures.copied c.near-first.ensures.known

pub returns-clause-copied : goal.returns-clause-copied
returns-clause-copied c =
    let s = c.args.self.now in
    let first = c.put-count.ensures in
    let second = c.put.ensures in
    gathered_run s.told (came s.start s.kept.now s.chunk.now) (s.kept.now ++ s.chunk.now) c.near.result.now
    c.put-count.new.buffer c.put.new.buffer c.args.offset c.put-count.result c.put.result
    (first_copied s.told s.start s.kept.now s.chunk.now c.near-first.result.now c.args.buffer.now c.put-count.new.buffer _
    c.args.offset c.put-count.result (omega (arith, first.count)) first.copied c.near-first.ensures.known)
    (omega (arith, first.count, c.put-count.auto.buffer)) (omega (arith, second.count))
    (omega (arith, first.count, second.count, c.put-count.auto.buffer, c.requires)) second.copied
    c.near.ensures.known

pub returns-clause-known : goal.returns-clause-known
returns-clause-known c =
    let s = c.args.self.now in
    known_run s.told (came s.start s.kept.now s.chunk.now) (s.kept.now ++ s.chunk.now) c.near.result.now c.args.offset
    c.put-count.result c.put.result
    (λ i below. ap is_some (c.near-first.ensures.known i (omega (arith, below, c.put-count.ensures.count))))
    (omega (arith, c.put.ensures.count)) c.near.ensures.known

pub returns-clause-missing : goal.returns-clause-missing
returns-clause-missing c = λ more.
    let s = c.args.self.now in
    let count : ℕ = c.put-count.result in
    let first : count ≡ length c.near-first.result.now =
    omega (arith, c.put-count.ensures.count, c.if-count-buffer.false, c.put-count.auto.buffer) in
    let second : c.put.result ≡ length c.near.result.now = omega (arith, c.put.ensures.count, c.put-count.auto.buffer, more) in
    let some : 0 < length c.near-first.result.now = grind (arith, nat_tests, c.is_empty.ensures, c.if-is_empty.false) in
    let ends = run_ends s.told s.start s.kept.now s.chunk.now c.near-first.result.now c.args.offset c.near-first.ensures.near
    (omega (arith, first, some)) in
    ap (λ p. is_some (byte_at s.told s.start s.kept.now s.chunk.now p)) (omega (arith, second))
    ∙ last_none s.told s.start s.kept.now s.chunk.now c.near.result.now (c.args.offset + count)
    (omega (arith, ends.0)) (omega (arith, ends.1, first)) c.near.ensures.near
