-- What a layer of a reader's source did, by what the layer below it did.
use Rattle.std.proofs.Common.{◌≡◌, ℕ, ◌+◌, ◌-◌, ◌<◌, ◌≤◌, max, true, List, ◌++◌, length, take, Option, Some, Ok, Err, refl, sym, ap, ◌∙◌, arith}
use Rattle.std.proofs.lemmas.Bool.Decides.{nat_tests}
use Rattle.std.proofs.lemmas.List.{length-take}
use Rattle.std.specs.declared.io.Error.{Error}
use Rattle.imagesize_source.specs.declared.halt.Halt.{Halt}
use Rattle.imagesize_source.specs.Errors.{is_fault}
use Rattle.imagesize_source.specs.Input.{part}
use Rattle.imagesize_source.specs.Reading.{part_read}
use Rattle.imagesize_source.specs.State.{Runs}
use Rattle.imagesize_source.proofs.Counts.{total_there}
use Rattle.imagesize_source.proofs.Layouts.{no_part}
use Rattle.imagesize_source.proofs.Parts.{part_length, part_whole}
use Rattle.imagesize_io.specs.declared.reader.Ledger.{Ledger}
use Rattle.imagesize_io.specs.ReaderState.{ReadsAt, held_at, kept_window, reader_frame, reader_state, with_window}
use Rattle.imagesize_io.specs.Standing.{ReadsFrom, Standing, stand}
use Rattle.imagesize_io.specs.StopOf.{kept_error, last_failed}
use Rattle.imagesize_io.specs.Telling.{Account}
use Rattle.imagesize_io.proofs.Filling.{part-add}
use Rattle.imagesize_io.proofs.Windows.{Claims, claims, counted_runs, grown, part-behind, part-window, part_marks, placed_at, read_on, reader_sound, same_frame, same_on}

-- the read of a part, by what it gave where the source is honest
part_runs : (old new : Ledger) (a b : Account) (home offset n : ℕ) (whole : List ℕ) → n ≤ length whole
    → reader_frame b home new.progress ≡ reader_frame a home old.progress → old.progress.taken ≤ new.progress.taken
    → ((s : Standing) → Claims a.telling old.progress old.window.items s
    → (part (with_window old.window.items s.bytes) offset (length whole) ≡ take n whole)
    × (reader_state b home new.progress new.window.items ≡ read_on (reader_state a home old.progress old.window.items) offset n))
    → Runs (reader_state a home old.progress old.window.items) (reader_state b home new.progress new.window.items) (Ok (take n whole))
    (part_read (held_at (stand a.telling old.progress) old.window.items).input offset (length whole))
part_runs old new a b home offset n whole fits frame taken gives =
    counted_runs offset n (reader_sound a home old.progress old.window.items) (reader_sound b home new.progress new.window.items)
    (refl, refl) frame taken (λ honest.
    let k = claims a.telling old.progress old.window.items honest in
    let gave = gives k.0 k.1 in
    let d : List ℕ = (held_at (stand a.telling old.progress) old.window.items).input in
    let bytes : part d offset (length whole) ≡ take n whole =
    ap (λ h. part h.input offset (length whole)) k.1.held ∙ gave.0 in (
      ap Ok bytes,
      part_marks d offset (length whole) n
          (omega (arith, part_length d offset (length whole), ap length bytes, length-take n whole, fits)),
      gave.1,
    ))

-- A read that gives only bytes of the window changes nothing.
pub reads_none : {l : Ledger} {a : Account} {offset n : ℕ} (buffer : List ℕ) → n ≤ length buffer
    → (0 < n → offset ≤ 32) → offset + n ≤ max offset (length l.window.items)
    → ((s : Standing) → Claims a.telling l.progress l.window.items s
    → part (with_window l.window.items s.bytes) offset (length buffer) ≡ take n buffer) → ReadsAt l l a a offset buffer (Ok n)
reads_none {l} {a} {offset} {n} buffer fits near within gives = record {
  bound = fits;
  pays = λ some far. absurd (omega (arith, near, some, far));
  keeps = omega arith;
  runs = λ home. part_runs l l a a home offset n buffer fits refl (omega arith) (λ s k. (gives s k, sym (same_on _ offset n within)));
}

-- a read past the reported length gives nothing
pub reads_end : {l : Ledger} {a : Account} {offset : ℕ} (buffer : List ℕ) → l.progress.told < offset
    → ReadsAt l l a a offset buffer (Ok 0)
reads_end buffer far = reads_none buffer (omega arith) (λ some. absurd (omega (arith, some))) (omega arith)
    (λ s k. no_part _ _ _ (omega (arith, far, k.at.told, k.long, ap (λ h. length h.input) k.held)))

-- what a read took from the window, and asked the reader for after that
pub record Copies (window whole more : List ℕ) (offset at : ℕ) : Type 0 where
  pub small : length window ≤ 32
  pub behind : at ≡ max offset (length window)
  pub long : length whole + offset ≡ at + length more
  pub some : 0 < length more

-- a part may begin in the window and go on behind it
part-across : (w d : List ℕ) (offset at k n : ℕ) → at ≡ max offset (length w) → k + offset ≡ at + n
    → part (with_window w d) offset k ≡ part w offset k ++ part d at n
part-across w d offset at k n behind sum =
    let m : ℕ = at - offset in
    let add = part-add (with_window w d) offset m n in
    let front = part-window w d offset m (omega arith) in
    let whole = part_whole w offset k m (omega arith) in
    let rest = part-behind w d at n (omega arith) in
    grind (arith, add, front, whole, rest)

-- the error that is kept of a failure is a fault
kept_fault : (fault : Option Error) (failure : Option (Option Error)) → last_failed fault failure ≡ Some (kept_error fault)
    → is_fault (kept_error fault) ≡ true
kept_fault fault failure is = grind arith

module _ {old new : Ledger} {a b : Account} {offset at : ℕ} {whole more : List ℕ}
    (copy : Copies old.window.items whole more offset at) where
  -- What follows the window came from the reader.
  pub reads_behind : {m n : ℕ}
      → ReadsFrom old.progress new.progress (stand a.telling old.progress) (stand b.telling new.progress) a b at more (Ok n)
      → new.window.items ≡ kept_window old.window.items at (take n more) → new.progress.taken ≤ old.progress.budget
      → m + offset ≡ at + n → take m whole ≡ part old.window.items offset (length whole) ++ take n more
      → ReadsAt old new a b offset whole (Ok m)
  reads_behind {m} {n} read window limit sum bytes =
      let fits : m ≤ length whole = omega (arith, copy.long, read.bound) in
      record {
        bound = fits;
        pays = λ some far.
            (read.pays (omega (arith, far, copy.behind)) (omega (arith, some, far, copy.behind, copy.small)), limit);
        keeps = read.keeps.counts;
        runs = λ home.
            let frame = same_frame a b home old.progress new.progress read.keeps.counts read.keeps.since read.keeps.behind in
            part_runs old new a b home offset m whole fits frame read.keeps.counts.taken (λ s k.
            let w : List ℕ = old.window.items in
            let gives = rw k.at.is at read.stand in
            let grows = grown w new.window.items s.bytes (take n more) offset at m n copy.small k.fits copy.behind sum gives.1
            (omega (arith, gives.2)) window in
            let across = part-across w s.bytes offset at (length whole) (length more) copy.behind copy.long in
            let rest = part_whole s.bytes at (length more) n gives.2 in
            grind (arith, nat_tests, placed_at));
      }

  -- The reader was stopped.
  pub stops_behind : {halt : Halt}
      → ReadsFrom old.progress new.progress (stand a.telling old.progress) (stand b.telling new.progress) a b at more (Err halt)
      → ReadsAt old new a b offset whole (Err halt)
  stops_behind {halt} read = record {
    bound = tt;
    pays = tt;
    keeps = read.keeps.counts;
    runs = λ home.
        let sound = reader_sound a home old.progress old.window.items in
        let sound_after = reader_sound b home new.progress new.window.items in
        let known = claims a.telling old.progress old.window.items in
        let frame = same_frame a b home old.progress new.progress read.keeps.counts read.keeps.since read.keeps.behind in
        grind (arith, total_there, kept_fault);
  }

-- of a read behind the window nothing is copied
pub reads_past : {old new : Ledger} {a b : Account} {offset n : ℕ} {more : List ℕ} → Copies old.window.items more more offset offset
    → ReadsFrom old.progress new.progress (stand a.telling old.progress) (stand b.telling new.progress) a b offset more (Ok n)
    → new.window.items ≡ kept_window old.window.items offset (take n more) → new.progress.taken ≤ old.progress.budget
    → ReadsAt old new a b offset more (Ok n)
reads_past {old} {offset = offset} {n = n} {more = more} copy read window limit =
    reads_behind copy read window limit (omega arith)
    (ap (λ l. l ++ take n more) (sym (no_part old.window.items offset (length more) (omega (arith, copy.behind)))))
