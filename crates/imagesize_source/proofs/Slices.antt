-- What a reading of a slice sees.
use Rattle.std.proofs.Common.{◌≡◌, ℕ, ◌-◌, ◌^◌, ◌<◌, min, List, [], ◌∷◌, ◌++◌, length, take, drop, Ok, refl, sym, ap, ◌∙◌, arith}
use Rattle.std.proofs.lemmas.List.{drop_min, take_at, take_min, take_rest}
use Rattle.imagesize_source.specs.declared.span.Span.{Span}
use Rattle.imagesize_source.specs.Input.{part}
use Rattle.imagesize_source.specs.Reading.{Reads, part_read, text_part, text_read}
use Rattle.imagesize_source.specs.Text.{text_front}
use Rattle.imagesize_source.proofs.Texts.{front_take}
use Rattle.imagesize_source.specs.declared.text.Text.{Text}
use Rattle.imagesize_source.specs.State.{State, Runs, IsSlice, IsSound, state_after, slice_state}
use Rattle.imagesize_source.proofs.Parts.{part_length}
use Rattle.imagesize_source.proofs.Runs.{runs_free}

past-slice : (d : List ℕ) (spans : List Span) → state_after (slice_state d) spans ≡ slice_state d
unfolding state_after
past-slice d [] = refl
past-slice d (s ∷ spans) = past-slice d spans

pub front_is : (d buffer old : List ℕ) (offset n : ℕ) → n ≡ min (length old) (length d - offset)
    → buffer ≡ part d offset (length old)
    ++ drop n old → length buffer ≡ length old → take n buffer ≡ part d offset (length buffer)
front_is d buffer old offset n count copied kept = grind (arith, take_at, part_length)

-- a reading that was answered, and for which nothing was taken
pub given_runs : {X : Type 0} {a b : State} {reads : Reads X} (x : X) → IsSound a → IsSound b → b.frame ≡ a.frame
    → b.taken ≡ a.taken
    → reads.answer ≡ Ok x → b ≡ state_after a reads.marks → Runs a b (Ok x) reads
given_runs x sound sound_after same none is passed = runs_free (Ok x) sound sound_after same none is passed refl tt

-- reads of a slice change nothing, and give what is there
pub slice_gives : {X : Type 0} {reads : Reads X} (a : State) (x : X) → IsSlice a → length a.held.input < 2 ^ 63
    → reads.answer ≡ Ok x → Runs a a (Ok x) reads
slice_gives {X} {reads} a x is short got = grind (arith, past-slice)

-- a reading of a slice, from an offset that is the one asked for
pub slice_reads : (d buffer old : List ℕ) (offset from n : ℕ) → length d < 2 ^ 63 → n ≡ min (length old) (length d - from)
    → buffer ≡ part d from (length old) ++ drop n old → length buffer ≡ length old → from ≡ offset
    → Runs (slice_state d) (slice_state d)
    (Ok (take n buffer)) (part_read d offset (length buffer))
slice_reads d buffer old offset from n short count copied kept there = slice_gives (slice_state d) (take n buffer) refl short
    (ap Ok (ap (λ p. part d p (length buffer)) (sym there) ∙ sym (front_is d buffer old from n count copied kept)))

-- what is there of the bytes from an offset on, by the slices that the code takes
pub slice_part : (d : List ℕ) (offset first k n : ℕ) → first ≡ min offset (length d)
    → n ≡ min (length (take (length d - first) (drop first d))) k
    → take n (take (length d - first) (drop first d)) ≡ part d offset k
unfolding part
slice_part d offset first k n first_is n_is =
    let rest : take (length d - first) (drop first d) ≡ drop offset d = take_rest d first ∙ rw first_is (drop_min offset d) in
    let long : n ≡ min k (length (drop offset d)) = n_is ∙ ap (λ xs. min (length xs) k) rest ∙ omega arith in
    ap (λ xs. take n xs) rest ∙ ap (λ m. take m (drop offset d)) long ∙ take_min k (drop offset d)

-- the text in it
pub slice_text : (d found : List ℕ) (t : Text) (offset from k m : ℕ) → found ≡ part d from k
    → m ≡ length (text_front t found)
    → from ≡ offset → take m found ≡ text_part d t offset k
unfolding text_part
slice_text d found t offset from k m found_is m_is there = grind (arith, front_take)

-- the reading of a text of a slice
pub slice_reads_text : (d buffer : List ℕ) (t : Text) (offset count : ℕ) → length d < 2 ^ 63
    → take count buffer ≡ text_part d t offset (length buffer)
    → Runs (slice_state d) (slice_state d) (Ok (take count buffer)) (text_read d t offset (length buffer))
slice_reads_text d buffer t offset count short is =
    slice_gives (slice_state d) (take count buffer) refl short (ap Ok (sym is))
