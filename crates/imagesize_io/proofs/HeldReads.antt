-- What is read from the bytes that a reader holds is what calls of the reader would give.
use Rattle.std.proofs.Common.{◌≡◌, ℕ, ◌+◌, ◌-◌, ◌≤◌, ◌<◌, min, List, [], length, take, drop, Option, None, Ok, IfSome, ap, ◌∙◌, sym, arith}
use Rattle.std.proofs.lemmas.Bool.Decides.{nat_tests}
use Rattle.std.proofs.lemmas.List.{append-nil, drop_min, length-drop, length-take, take_all}
use Rattle.imagesize_source.specs.Input.{part}
use Rattle.imagesize_io.specs.declared.progress.Progress.{Progress}
use Rattle.imagesize_io.specs.declared.reader.Ledger.{Ledger}
use Rattle.imagesize_io.specs.Held.{Holds, HoldsFrom}
use Rattle.imagesize_io.specs.ReaderState.{ReadsAt, held_at, kept_window}
use Rattle.imagesize_source.specs.Shown.{AreShown}
use Rattle.imagesize_io.proofs.Windows.{part-behind, reader_sound}
use Rattle.imagesize_io.specs.Standing.{Passed, stand, GivesFrom}
use Rattle.imagesize_io.specs.Telling.{Account, Telling}
use Rattle.imagesize_io.proofs.Layers.{reads_past}
use Rattle.imagesize_source.proofs.Parts.{part_behind as part-drop, part_front, part_length, part_none}

-- the later ones of the bytes from an offset on
drop_held : (d held : List ℕ) (offset ahead n : ℕ) → held ≡ part d offset (length held)
    → ahead ≤ length held → n ≤ length (take (length held - ahead) (drop ahead held))
    → take n (take (length held - ahead) (drop ahead held)) ≡ part d (offset + ahead) n
drop_held d held offset ahead n holds within few =
    let split : ahead + (length held - ahead) ≡ length held = omega arith in
    let rest = part-drop d offset ahead (length held - ahead) in
    grind (arith, take_all, part_front, length-take, length-drop)

-- what a reader holds from an offset on, by the slices that the code takes
pub holds_from : (telling : Option Telling) (held : List ℕ) (present offset ahead n : ℕ) → Holds telling held
    → ahead ≡ offset - present → ahead ≤ length held → n ≤ length (take (length held - ahead) (drop ahead held))
    → HoldsFrom telling present offset (take n (take (length held - ahead) (drop ahead held)))
holds_from telling held present offset ahead n holds is within few = grind (arith, drop_held, length-take)

pub holds_none : (telling : Option Telling) → Holds telling []
holds_none telling = grind (arith, part_none)

-- what is left of the bytes of a cursor
pub holds_rest : (d bytes : List ℕ) (p offset start : ℕ) → bytes ≡ d → offset ≡ p → start ≡ min (length bytes) offset
    → take (length bytes - start) (drop start bytes)
    ≡ part d p (length (take (length bytes - start) (drop start bytes)))
unfolding part
holds_rest d bytes p offset start is at from = grind (arith, take_all, drop_min, length-drop, length-take)

-- a window that has no byte from the offset on, and has no room
pub full_window : (window : List ℕ) (offset : ℕ) (bytes : List ℕ) → length window ≤ 32 → 32 ≤ offset
    → kept_window window offset bytes ≡ window
full_window window offset bytes small far = grind (arith, nat_tests, append-nil {A = ℕ})

-- bytes that the reader holds are those from the offset on, wherever the numbers agree with it
held_gives : (telling : Option Telling) (p q : Progress) (offset n : ℕ) (held bytes : List ℕ) → HoldsFrom telling p.offset offset held
    → n ≤ length held → bytes ≡ take n held → p.offset ≤ offset → Passed p q offset n
    → GivesFrom (stand telling p) (stand telling q) offset q.offset bytes (Ok n)
    × IfSome (stand telling p) (λ s. q.taken ≤ p.taken + min (length bytes) (length s.bytes - offset))
held_gives telling p q offset n held bytes holds few is ahead passed =
    grind (arith, nat_tests, part_front, part_length, take_all, length-take)

-- Bytes that the reader holds are what a read from the offset on gives, and so are the first of them.
pub held_front : {old new : Ledger} {a : Account} {offset n : ℕ} (held bytes : List ℕ)
    → HoldsFrom a.telling old.progress.offset offset held → (0 < length held → a.count ≡ None) → n ≤ length held → 0 < n
    → bytes ≡ take n held
    → old.progress.offset ≤ offset → offset ≤ old.progress.told → length old.window.items ≤ offset
    → length old.window.items ≤ 32
    → new.window.items ≡ kept_window old.window.items offset bytes → Passed old.progress new.progress offset n
    → new.progress.taken ≤ old.progress.budget
    → ReadsAt old new a a offset bytes (Ok n)
held_front {old} {new} {a} {offset} {n} held bytes holds uncounted few many is ahead near far small kept passed limit =
    let p : Progress = old.progress in
    let q : Progress = new.progress in
    let long : length bytes ≡ n = ap length is ∙ omega (arith, length-take n held, few) in
    let none : a.count ≡ None = uncounted (omega (arith, few, many)) in
    let gives = held_gives a.telling p q offset n held bytes holds few is ahead passed in
    reads_past (omega (arith, small, far, long, many)) (grind (arith, gives))
    (kept ∙ ap (kept_window old.window.items offset) (sym (take_all n bytes (omega (arith, long))))) limit

-- bytes that the reader holds are those that its source claims
pub held_shown : (a : Account) (p : Progress) (window : List ℕ) (offset : ℕ) (bytes : List ℕ)
    → HoldsFrom a.telling p.offset offset bytes → p.offset ≤ offset → length window ≤ offset
    → AreShown (held_at (stand a.telling p) window) offset bytes p.told
held_shown a p window offset bytes holds ahead far =
    let sound = reader_sound a 0 p window in grind (arith, nat_tests, part-behind)
