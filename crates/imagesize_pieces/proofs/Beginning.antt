-- What the bytes so far tell of every input that begins with them.
use Rattle.std.proofs.Common.{◌≡◌, ℕ, ◌+◌, ◌-◌, ◌<◌, ◌≤◌, min, List, ◌++◌, length, take, drop, get_or, refl, sym, ap, ◌∙◌, arith}
use Rattle.std.specs.Option.{ForSome}
use Rattle.std.specs.Prelude.{Option, nat_le, true, unwrap_or}
use Rattle.std.proofs.lemmas.List.{drop_min, length-append, length-drop, length-take, get_or-drop, get_or-take, take_all, take_at, take-take}
use Rattle.imagesize_source.proofs.Known.{filled_at, length-filled_input}
use Rattle.imagesize_source.specs.Known.{AllKnown, Lacks}
use Rattle.imagesize_source.specs.Sharing.{Shares}
use Rattle.imagesize_source.specs.declared.source.known.Missing.{Missing}
use Rattle.imagesize_source.specs.declared.span.Span.{Span}
use Rattle.imagesize_pieces.specs.Stream.{Begins, came, known_of, stream_input}
use Rattle.imagesize_pieces.proofs.Keeping.{drop_split}
use Rattle.imagesize_pieces.proofs.Streaming.{came_at, known_within}

-- what begins with more bytes is as long as they are
pub begins_at : (front d : List ℕ) (told offset : ℕ) → Begins front told d → offset < length front
    → (offset < length d) × (get_or d offset 0 ≡ get_or front offset 0)
begins_at front d told offset begins below = (
  omega (arith, length-take (length front) d, ap length begins.first, below),
  sym (get_or-take (length front) d offset 0 below) ∙ ap (λ bs. get_or bs offset 0) begins.first,
)

-- and begins with the first of them
pub begins_left : (front chunk : List ℕ) (told : ℕ) (d : List ℕ) → Begins (front ++ chunk) told d → Begins front told d
begins_left front chunk told d begins = record {
  first = sym (take-take (length front) (length (front ++ chunk)) d (omega (arith, length-append front chunk)))
      ∙ ap (take (length front)) begins.first ∙ take_at front chunk (length front) refl;
  fits = begins.fits;
}

-- the bytes so far begin themselves
pub begins_all : (front : List ℕ) (told : ℕ) → length front ≤ told → Begins front told front
begins_all front told fits = record { first = take_all (length front) front (omega arith); fits = fits }

-- what is held of the bytes so far
pub record Run (front kept unread : List ℕ) (start : ℕ) : Type 0 where
  pub is : kept ++ unread ≡ drop start front
  pub ends : start + (length kept + length unread) ≡ length front

-- what was kept from an offset on, and what came after the bytes before
pub run_held : (front chunk kept : List ℕ) (from passed : ℕ) → passed ≡ length front → kept ≡ drop from front
    → Run (front ++ chunk) kept (drop (from - passed) chunk) (min from (passed + length chunk))
run_held front chunk kept from passed as_many is_kept = record {
  is = rw (is_kept, as_many, ← length-append front chunk, drop_min from (front ++ chunk), drop_split from front chunk) refl;
  ends = omega (
    arith,
    as_many,
    ap length is_kept,
    length-drop from front,
    length-drop (from - passed) chunk,
    length-append front chunk,
  );
}

-- a source of the bytes that arrived, with what it saw and missed
pub record ArrivedSource : Type 0 where
  pub told : ℕ
  pub start : ℕ
  pub kept : List ℕ
  pub chunk : List ℕ
  pub spans : List Span
  pub missed : Option Missing
  pub within : start + length kept + length chunk ≤ told
  pub seen : AllKnown told (came start kept chunk) (kept ++ chunk) spans
  pub lacks : ForSome missed (Lacks (known_of told start kept chunk))
  pub sure : ForSome missed (λ m. nat_le start m.start ≡ true → m.sure ≡ m.most)

-- what a source holds are these bytes, from its first offset on
abbrev pub Holds : List ℕ → ArrivedSource → Type 0
Holds front s = Run front s.kept s.chunk s.start

-- the input as it reads it
abbrev pub arrived_input : ArrivedSource → List ℕ
arrived_input s = stream_input s.told s.start s.kept s.chunk

module _ (s : ArrivedSource) {front : List ℕ} (run : Holds front s) where
  -- the byte that the source reads, where it came
  byte_here : (offset : ℕ) → s.start ≤ offset → offset < length front → get_or (arrived_input s) offset 0 ≡ get_or front offset 0
  byte_here offset above below =
      let fits : s.start + (length s.kept + length s.chunk) ≤ s.told = omega (arith, s.within) in
      let ends = run.ends in
      let back : s.start + (offset - s.start) ≡ offset = omega (arith, above) in
      filled_at s.told (came s.start s.kept s.chunk) (s.kept ++ s.chunk) offset (omega (arith, below, ends, fits))
      ∙ ap (λ o. unwrap_or o 1) (came_at s.told s.start s.kept s.chunk offset fits above (omega (arith, below, ends)))
      ∙ rw (run.is, get_or-drop s.start front (offset - s.start) 0, back) refl

  -- an input that begins with the bytes so far shares what is known
  pub begins_shares : (d : List ℕ) → Begins front s.told d → Shares d (arrived_input s) s.spans
  begins_shares d begins = record {
    no_longer = let few = begins.fits in
        omega (arith, few, length-filled_input s.told (came s.start s.kept s.chunk) (s.kept ++ s.chunk));
    there = λ offset here.
        let within = known_within s.told s.start s.kept s.chunk offset (s.seen offset here) in
        let early : offset < length front = omega (arith, within.1, run.ends) in
        let there = begins_at front d s.told offset begins early in
        (there.0, there.1 ∙ sym (byte_here offset within.0 early));
  }
