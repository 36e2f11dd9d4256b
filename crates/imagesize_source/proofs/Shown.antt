-- What is read of the bytes that a source holds, and what it is for that source.
use Rattle.std.proofs.Common.{◌≡◌, ℕ, ◌+◌, ◌-◌, ◌^◌, ◌<◌, ◌≤◌, true, false, List, [], ◌∷◌, ◌++◌, length, take, drop, None, Result, Ok, refl, sym, ap, ◌∙◌, arith}
use Rattle.std.proofs.lemmas.List.{length-drop, length-take, take_all}
use Rattle.imagesize_source.specs.declared.halt.Halt.{Halt}
use Rattle.imagesize_source.specs.declared.span.Span.{Span}
use Rattle.imagesize_source.specs.declared.text.Text.{Text}
use Rattle.imagesize_source.specs.Input.{part, span_at}
use Rattle.imagesize_source.specs.Reading.{Reads, is_faulted, part_read, text_part, text_read}
use Rattle.imagesize_source.specs.Shown.{AreShown}
use Rattle.imagesize_source.specs.Layout.{Layout}
use Rattle.imagesize_source.specs.State.{State, Held, Runs, Follows, shown_state, shown_by, rejoined, state_after, step}
use Rattle.imagesize_source.specs.Text.{is_ended, text_front}
use Rattle.imagesize_source.proofs.Agreement.{span-some, whole_span}
use Rattle.imagesize_source.proofs.Counts.{total-span_at}
use Rattle.imagesize_source.proofs.KnownReadings.{part_split}
use Rattle.imagesize_source.proofs.Parts.{part_behind, part_front}
use Rattle.imagesize_source.proofs.Texts.{front_more}
use Rattle.std.specs.Prelude.{option_map}

-- the state after a read past the first bytes
shown_state_after : (told budget front : ℕ) (held : Held) (taken place offset n : ℕ) → front ≤ 32 → 32 ≤ offset → 0 < n
    → shown_state told budget front held (taken + n) (offset + n)
    ≡ state_after (shown_state told budget front held taken place) (span_at offset n)
unfolding state_after
shown_state_after told budget front held taken place offset n few far some = grind (arith, span-some)

-- a read whose bytes are there
pub shown_reads : (told budget front : ℕ) (held : Held) (taken place offset n : ℕ) (got : List ℕ) (reads : Reads (List ℕ))
    → (held.honest ≡ true → (told ≡ length held.input) × (length held.input < 2 ^ 63)) → front ≤ 32 → 32 ≤ offset → 0 < n
    → (held.honest ≡ true → (reads.answer ≡ Ok got) × (reads.marks ≡ span_at offset n))
    → Runs (shown_state told budget front held taken place) (shown_state told budget front held (taken + n) (offset + n)) (Ok got) reads
shown_reads told budget front held taken place offset n got reads sound few far some is =
    grind (arith, total-span_at, shown_state_after)

-- bytes from a later offset on are shown, too
pub shown_behind : (held : Held) (start : ℕ) (bytes : List ℕ) (told offset ahead : ℕ) → AreShown held start bytes told
    → offset ≡ start + ahead → ahead ≤ length bytes
    → AreShown held offset (take (length bytes - ahead) (drop ahead bytes)) told
shown_behind held start bytes told offset ahead shown at within = λ honest.
    let known = shown honest in
    let m : ℕ = length bytes - ahead in
    let all : take m (drop ahead bytes) ≡ drop ahead bytes = take_all m (drop ahead bytes) (omega (arith, length-drop ahead bytes)) in
    let long : length (take m (drop ahead bytes)) ≡ m = ap length all ∙ length-drop ahead bytes in
    let split : ahead + m ≡ length bytes = omega (arith, within) in (
      all ∙ ap (drop ahead) known.0 ∙ ap (λ k. drop ahead (part held.input start k)) (sym split)
          ∙ part_behind held.input start ahead m ∙ rw (at, long) refl,
      known.1,
      known.2,
    )

-- what a read of the first bytes there gives
pub shown_part : (held : Held) (offset : ℕ) (bytes buffer : List ℕ) (told : ℕ) → AreShown held offset bytes told
    → offset + length bytes ≤ told → length buffer ≤ length bytes → buffer ≡ take (length buffer) bytes
    → held.honest ≡ true
    → ((part_read held.input offset (length buffer)).answer ≡ Ok (take (length buffer) buffer))
    × ((part_read held.input offset (length buffer)).marks ≡ span_at offset (length buffer))
shown_part held offset bytes buffer told shown within few is honest = grind (arith, part_front, whole_span)

-- and of a text that ends among them
pub shown_text : (held : Held) (offset n : ℕ) (t : Text) (bytes buffer : List ℕ) (told : ℕ) → AreShown held offset bytes told
    → n ≤ length bytes → n ≤ length buffer → take n buffer ≡ take n bytes → is_ended t (take n bytes) ≡ true
    → text_front t (take n bytes) ≡ take n bytes → held.honest ≡ true
    → ((text_read held.input t offset (length buffer)).answer ≡ Ok (take n buffer))
    × ((text_read held.input t offset (length buffer)).marks ≡ span_at offset n)
unfolding text_part
shown_text held offset n t bytes buffer told shown there fits copied ended whole honest =
    let d : List ℕ = held.input in
    let k : ℕ = length buffer in
    let front : part d offset n ≡ take n bytes = sym (part_front d offset n (length bytes) there) ∙ ap (take n) (sym (shown honest).0) in
    let text : text_front t (part d offset k) ≡ take n buffer =
    rw (part_split d offset k n fits, front) (front_more t (take n bytes) (drop n (part d offset k)) ended ∙ whole ∙ sym copied) in
    (ap Ok text, ap (λ xs. span_at offset (length xs)) text ∙ ap (span_at offset) (omega (arith, length-take n buffer, fits)))

-- reads change nothing else of the bytes that a source holds
pub shown_again : (told budget front : ℕ) (held : Held) (taken place : ℕ) (a : State)
    → (shown_state told budget front held taken place).frame ≡ (shown_by a).frame
    → shown_state told budget front held taken place ≡ shown_by (rejoined a taken place)
shown_again told budget front held taken place a same = grind arith

-- two sources that count are changed alike by reads
same_after : (a h : State) (marks : List Span) → a.frame.counts ≡ true → h.frame.counts ≡ true → a.recorded ≡ None
    → h.front ≡ a.front → h.taken ≡ a.taken → h.place ≡ a.place
    → state_after a marks
    ≡ record a { front = (state_after h marks).front; taken = (state_after h marks).taken; place = (state_after h marks).place }
unfolding state_after
same_after a h [] counts counts' plain front taken place = rw (front, taken, place) refl
same_after a h (s ∷ marks) counts counts' plain front taken place =
    same_after (step a s) (step h s) marks counts counts' (ap (option_map (λ spans. spans ++ s ∷ [])) plain)
    (rw (counts, counts', front) refl) (rw (counts, counts', front, taken) refl) (rw (counts, counts', front, place) refl)
    ∙ rw plain refl

-- what a call over the bytes that a source holds is for the source
pub record_back : {X : Type 0} {told budget front : ℕ} {held : Held} {taken place : ℕ} {b h : State} (r : Result X Halt)
    (t : Layout X) → b.frame.counts ≡ true → b.recorded ≡ None → h ≡ shown_by b → is_faulted r ≡ false
    → Follows h (shown_state told budget front held taken place) r t → Follows b (rejoined b taken place) r t
record_back {X} {told} {budget} {front} {held} {taken} {place} {b} {h} r t counts plain shown no_fault given =
    grind (arith, same_after)
