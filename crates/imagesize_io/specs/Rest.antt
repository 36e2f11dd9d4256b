-- Reads that go on in a text, of which some bytes were read before.
use Rattle.std.specs.Prelude.{◌≡◌, ℕ, false, ◌≤◌, List, length, take, Result, Ok}
use Rattle.imagesize_source.specs.declared.halt.Halt.{Halt}
use Rattle.imagesize_source.specs.declared.text.Text.{Text}
use Rattle.imagesize_source.specs.Text.{is_ended}
use Rattle.imagesize_io.specs.declared.reader.Ledger.{Ledger}
use Rattle.imagesize_io.specs.declared.reader.held.HeldText.{HeldText}
use Rattle.imagesize_io.specs.declared.reader.held.HeldText.TheVariants.{Whole, Part}
use Rattle.imagesize_io.specs.Held.{IsWhole}
use Rattle.imagesize_io.specs.ReaderState.{ReadsAt, ReadsText}
use Rattle.imagesize_io.specs.Telling.{Account}

-- If these first bytes were read from an offset on, n bytes are read now.
pub record GoesOn (old new : Ledger) (a b : Account) (offset : ℕ) (first buffer : List ℕ) (n : ℕ) : Type 0 where
  pub bound : n ≤ length buffer
  pub onward : length first ≤ n
  pub reads : (before : Ledger) (c : Account) → ReadsAt before old c a offset first (Ok (length first))
      → ReadsAt before new c b offset (take n buffer) (Ok n)

-- what a read of some bytes of a text did: now the whole text is read, or bytes that do not end it
abbrev pub ReadsMore : (old new : Ledger) (a b : Account) (t : Text) (offset : ℕ) (first buffer : List ℕ) → HeldText → Type 0
ReadsMore old new a b t offset first buffer (Whole n) = GoesOn old new a b offset first buffer n × IsWhole t (take n buffer)
ReadsMore old new a b t offset first buffer (Part n) = GoesOn old new a b offset first buffer n × (is_ended t (take n buffer) ≡ false)

-- what a read of the rest of a text did: if these first bytes of the text were read, it is a read of the text
abbrev pub ReadsRest : (old new : Ledger) (a b : Account) (t : Text) (offset : ℕ) (first buffer : List ℕ) (r : Result ℕ Halt) → Type 0
ReadsRest old new a b t offset first buffer r =
    (before : Ledger) (c : Account) → ReadsAt before old c a offset first (Ok (length first)) → ReadsText before new c b t offset buffer r
