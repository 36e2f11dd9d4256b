-- ILBM: how a walk along its chunks goes, how many bytes they are read from, and what it sees of an input.
use Rattle.std.proofs.Common.{◌≡◌, false, ℕ, ◌+◌, ◌<◌, ◌≤◌, true, List, length, Err, ap, sym, refl, arith}
use Rattle.imagesize_walked.specs.Ilbm.{ilbm, ilbm_chunks, ilbm_named, bitmap_header, chunk_bytes, chunk_length, is_bitmap_header, is_body, ilbm_chunk}
use Rattle.imagesize_walked.specs.Walks.{ilbm_step}
use Rattle.imagesize_walked.specs.declared.formats.ilbm.Chunks.{Chunks}
use Rattle.imagesize_types.specs.declared.size.ImageSize.{ImageSize}
use Rattle.imagesize_source.specs.declared.halt.Halt.TheVariants.{Corrupted, Ended}
use Rattle.imagesize_source.specs.Reading.{refuses, uncounted}
use Rattle.imagesize_source.specs.Chain.{Said, Next, Advances}
use Rattle.imagesize_source.specs.Counts.{AtMost}
use Rattle.imagesize_source.specs.Extension.{Plain}
use Rattle.imagesize_source.specs.Layout.{Layout, refuse, done, layout_reads}
use Rattle.imagesize_source.specs.Walk.{CanFollow, EndsBy, after, decides, run}
use Rattle.imagesize_source.proofs.Advances.{Begins, Tells, advances, begins_bind, states_follow, tells_bind}
use Rattle.imagesize_source.proofs.Ahead.{Ahead, chain_ahead}
use Rattle.imagesize_source.proofs.PastTheEnd.{bytes_beyond}
use Rattle.imagesize_source.proofs.Agreement.{without_texts}
use Rattle.imagesize_source.proofs.ChainLaws.{local_chain, lasts_chain, chain_cost}
use Rattle.imagesize_source.proofs.States.{ends_after, run_is}
use Rattle.imagesize_source.proofs.Tests.{on_test}
use Rattle.imagesize_source.proofs.Way.{RecordedLaws, answers_last}

-- what holds of each chunk, by its name
by_name : (P : Layout (Said (Unit {0}) ImageSize) → Type 0) (offset : ℕ) (head : List ℕ) → P (refuse Corrupted)
    → P (bitmap_header offset) → P (done (Next tt (offset + chunk_bytes (chunk_length head)))) → P (ilbm_named offset head)
by_name P offset head body header other =
    on_test P (is_bitmap_header head) (bitmap_header offset) _ (λ _. header)
    (λ _. on_test P (is_body head) (refuse Corrupted) (done (Next tt (offset + chunk_bytes (chunk_length head))))
    (λ _. body)
    (λ _. other))

-- a chunk tells an offset behind its own
chunk_tells : (offset : ℕ) → Tells (λ p. offset < p) (ilbm_chunk offset)
chunk_tells offset head = by_name (Tells (λ p. offset < p)) offset head tt (λ width height. tt) (omega arith)

chunk_begins : (offset : ℕ) → Begins offset (ilbm_chunk offset)
chunk_begins offset = (omega arith, omega arith)

pub ilbm_advances : (d : List ℕ) → Advances ilbm_chunks d
ilbm_advances = advances ilbm_chunks (λ passed offset. chunk_tells offset) (λ passed offset. chunk_begins offset)

-- a chunk is read from at most 12 bytes
chunk_at_most : (passed : List (Unit {0})) (offset : ℕ) → AtMost 12 (ilbm_chunks.said passed offset)
chunk_at_most passed offset =
    (omega arith, λ head. by_name (AtMost 4) offset head tt (omega arith, λ width. (omega arith, λ height. tt)) tt)

-- from the end of the input on there is no chunk
chunk_ends : (d : List ℕ) (offset : ℕ) → length d ≤ offset
    → uncounted (layout_reads d (ilbm_chunk offset)) ≡ refuses Ended
chunk_ends d offset h = ap uncounted (bytes_beyond d offset 8 (λ head. ilbm_named offset head) h (omega arith))

pub ilbm_tells : (s : Chunks) (offset : ℕ) → Tells (λ p. offset < p) (ilbm_step s offset)
ilbm_tells s offset = tells_bind (λ p. offset < p) (ilbm_chunk offset) (after (λ _. s) decides) (chunk_tells offset) (λ y. tt)
    (λ v q up. up)

pub ilbm_begins : (s : Chunks) (offset : ℕ) → Begins offset (ilbm_step s offset)
ilbm_begins s offset =
    begins_bind offset (ilbm_chunk offset) (after (λ _. s) decides) (chunk_begins offset) (λ y. tt) (λ y. tt)

pub ilbm_follows : CanFollow ilbm_step
ilbm_follows = states_follow ilbm_step ilbm_tells ilbm_begins

pub ilbm_ends : (s : Chunks) → EndsBy ilbm_step s (Err Ended)
ilbm_ends s d offset far = ends_after d (ilbm_chunk offset) (λ _. s) (Err Ended) (chunk_ends d offset far)

-- the size of an interleaved bitmap is what its chunks give, from the first one on
pub ilbm_is : (s : Chunks) (d : List ℕ) → ilbm d ≡ run ilbm_step s 12 d
ilbm_is s d = sym (run_is ilbm_step d (ilbm_follows d) ilbm_chunks (λ x. x) (λ x _. x) (λ _ _. Unit {0}) (ilbm_advances d)
    (λ passed x offset _. refl) (λ passed x offset v q _ got. tt) s tt)

-- With its type it is read from at most 28 bytes more than the input has: the chunks stand behind the form's type.
pub ilbm_laws : RecordedLaws 12 18 20 true false ilbm
ilbm_laws = record {
  local = local_chain ilbm_chunks ilbm_advances
      (λ passed offset. without_texts false 12 (ilbm_chunks.said passed offset) (chunk_at_most passed offset));
  cost = λ d. omega (arith, chain_cost ilbm_chunks d (ilbm_advances d) 12 chunk_at_most);
  within = λ d. omega (
    arith,
    chain_ahead ilbm_chunks d (ilbm_advances d) (λ passed offset. (
      omega arith,
      λ head. by_name (Ahead (offset + 8)) offset head tt (omega arith, λ width. (omega arith, λ height. tt)) (omega arith),
    )),
  );
  lasts = λ _. answers_last ilbm (lasts_chain ilbm_chunks ilbm_advances
      (λ passed offset head. by_name Plain offset head tt (λ width height. tt) tt));
}
