-- What a read sees through the window of a reader's source.
use Rattle.std.proofs.Common.{◌≡◌, ℕ, ◌+◌, ◌-◌, ◌^◌, ◌<◌, ◌≤◌, min, max, true, List, ◌++◌, length, take, drop, Option, Some, None, Ok, refl, sym, ap, arith}
use Rattle.std.proofs.lemmas.Bool.Decides.{nat_tests}
use Rattle.std.proofs.lemmas.List.{append_assoc, drop-append-le, drop-drop, length-append, length-drop, length-take, take-append-drop, take-append-le, take_min}
use Rattle.std.proofs.Math.Seq.{drop-append-add}
use Rattle.imagesize_source.specs.Input.{part, span_at, span_of}
use Rattle.imagesize_source.specs.Reading.{Reads, part_read}
use Rattle.imagesize_source.specs.State.{State, Held, Runs, IsSound, state_after, new_bytes, front_after, place_after}
use Rattle.imagesize_source.proofs.Counts.{total-span_at}
use Rattle.imagesize_source.proofs.Parts.{part_front, part_length}
use Rattle.imagesize_io.specs.declared.progress.Progress.{Progress}
use Rattle.imagesize_io.specs.ReaderState.{held_at, kept_window, reader_frame, reader_state, with_window}
use Rattle.imagesize_io.specs.Standing.{Standing, behind, drift, stand, KeepsCounts}
use Rattle.imagesize_io.specs.Telling.{Account, Telling}
use Rattle.imagesize_io.proofs.Standings.{StandsAt, stands_at}

length-with_window : (w d : List ℕ) → length w ≤ length d → length (with_window w d) ≡ length d
length-with_window w d fits = simp (length-append, length-drop) (omega arith)

-- what an honest source claims
abbrev pub claim_of : Standing → List ℕ → Held
claim_of s w = record { honest = true; input = with_window w s.bytes; can_fail = s.can_fail }

-- What is known about an honest source: its reader has this standing, and the source claims its bytes behind the window.
pub record Claims (telling : Option Telling) (p : Progress) (w : List ℕ) (s : Standing) : Type 0 where
  pub at : StandsAt telling p s
  pub fits : length w ≤ length s.bytes
  pub held : held_at (stand telling p) w ≡ claim_of s w
  pub long : length (held_at (stand telling p) w).input ≡ length s.bytes

claims_by : (telling : Option Telling) (p : Progress) (w : List ℕ) (s : Standing) → (held_at (stand telling p) w).honest ≡ true
    → stand telling p ≡ Some s → Claims telling p w s
claims_by telling p w s honest is = let at = stands_at telling p s is in grind (arith, nat_tests, length-with_window)

pub claims : (telling : Option Telling) (p : Progress) (w : List ℕ) → (held_at (stand telling p) w).honest ≡ true
    → (s : Standing) × Claims telling p w s
claims telling p w honest = by_stand (stand telling p) refl where
  by_stand : (st : Option Standing) → stand telling p ≡ st → (s : Standing) × Claims telling p w s
  by_stand None is = absurd (let none = ap (λ st. (held_at st w).honest) is in cc)
  by_stand (Some s) is = (s, claims_by telling p w s honest is)

-- an honest source reports the true length
pub reader_sound : (a : Account) (home : ℕ) (p : Progress) (w : List ℕ) → IsSound (reader_state a home p w)
reader_sound a home p w = grind (arith, nat_tests, length-with_window)

-- the state after a read, whether or not it has a span
abbrev pub read_on : State → ℕ → ℕ → State
read_on a offset n = record a {
  front = front_after a.front offset n;
  taken = a.taken + new_bytes a.front offset n;
  place = place_after a.front a.place offset n;
}

-- a read that gives no byte past the first ones changes nothing
pub same_on : (a : State) (offset n : ℕ) → offset + n ≤ max offset a.front → read_on a offset n ≡ a
same_on a offset n near = grind (arith, nat_tests)

-- a source counts, and records nothing
abbrev pub CountsOnly : State → Type 0
CountsOnly a = (a.frame.counts ≡ true) × (a.recorded ≡ None)

pub past-span : (a : State) (offset n : ℕ) → CountsOnly a → state_after a (span_at offset n) ≡ read_on a offset n
unfolding state_after span_at
past-span a offset n only = grind (arith, nat_tests)

-- a read by what it gave, where the source is honest
pub counted_runs : {a c : State} {reads : Reads (List ℕ)} {got : List ℕ} (offset n : ℕ) → IsSound a → IsSound c → CountsOnly a
    → c.frame ≡ a.frame → a.taken ≤ c.taken
    → (a.held.honest ≡ true → (reads.answer ≡ Ok got) × (reads.marks ≡ span_at offset n) × (c ≡ read_on a offset n))
    → Runs a c (Ok got) reads
counted_runs {a} offset n sound sound_after only frame taken gives =
    let past = past-span a offset n only in grind (arith, total-span_at)

-- the span of a part
pub part_marks : (d : List ℕ) (offset k n : ℕ) → n ≡ min k (length d - offset) → (part_read d offset k).marks ≡ span_at offset n
unfolding span_of
part_marks d offset k n is = ap (span_at offset) (sym is)

-- what never changes
pub same_frame : (a b : Account) (home : ℕ) (p q : Progress) → KeepsCounts p q → drift b.count q.taken ≡ drift a.count p.taken
    → behind b.telling q ≡ behind a.telling p → reader_frame b home q ≡ reader_frame a home p
same_frame a b home p q keeps since same = cc

-- a part of the window is one of the whole
pub part-window : (w d : List ℕ) (offset k : ℕ) → k ≤ length w - offset → part (with_window w d) offset k ≡ part w offset k
unfolding part
part-window w d offset k fits = grind (arith, drop-append-le, take-append-le, length-drop)

-- and a part behind the window one of the bytes behind the reader
pub part-behind : (w d : List ℕ) (offset k : ℕ) → length w ≤ offset → part (with_window w d) offset k ≡ part d offset k
unfolding part
part-behind w d offset k far =
    let split : length w + (offset - length w) ≡ offset = omega arith in
    rw (← split, drop-append-add, drop-drop) refl

-- a window may take in the bytes that follow it
window-grows : (w d : List ℕ) (n : ℕ) → n ≤ length d - length w → (length (w ++ part d (length w) n) ≡ length w + n)
    × (with_window (w ++ part d (length w) n) d ≡ with_window w d)
unfolding part
window-grows w d n fits =
    let long : length (w ++ take n (drop (length w) d)) ≡ length w + n =
    simp (length-append, length-take, length-drop) (omega arith) in
    (long, rw (long, append_assoc, ← drop-drop n (length w) d, take-append-drop) refl)

-- The window after a read of m bytes from an offset on still agrees with the reader's bytes.
pub record Grown (w w' d : List ℕ) (offset m : ℕ) : Type 0 where
  pub fits : length w' ≤ length d
  pub same : with_window w' d ≡ with_window w d
  pub front : length w' ≡ front_after (length w) offset m

kept_bytes : (w d got : List ℕ) (at n : ℕ) → at ≡ length w → got ≡ part d at n → n ≤ length d - at
    → take (32 - length w) got ≡ part d (length w) (min (32 - length w) n)
kept_bytes w d got at n here gave enough = let least = take_min (32 - length w) got in grind (arith, part_front, part_length)

pub grown : (w w' d got : List ℕ) (offset at m n : ℕ) → length w ≤ 32 → length w ≤ length d → at ≡ max offset (length w)
    → m + offset ≡ at + n → got ≡ part d at n → n ≤ length d - at → w' ≡ kept_window w at got → Grown w w' d offset m
grown w w' d got offset at m n small fits behind sum gave enough is =
    let grows = window-grows w d (min (32 - length w) n) in
    let bytes = λ (here : at ≡ length w). kept_bytes w d got at n here gave enough in
    grind (arith, nat_tests)

-- the offset where the reader is left
pub placed_at : (front place place' offset at m n : ℕ) → at ≡ max offset front → m + offset ≡ at + n
    → (0 < n → place' ≡ min (at + n) (2 ^ 64 - 1)) → (n ≡ 0 → place' ≡ place)
    → (0 < n → at + n < 2 ^ 63) → place' ≡ place_after front place offset m
placed_at front place place' offset at m n behind sum moves stays small = grind (arith, nat_tests)
