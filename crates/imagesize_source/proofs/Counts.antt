-- How many bytes are read, and how many offsets are seen.
use Rattle.std.proofs.Common.{◌≡◌, ℕ, zero, suc, ◌+◌, ◌-◌, ◌*◌, ◌<◌, ◌≤◌, min, max, Bool, true, false, cond, ◌||◌, List, [], ◌∷◌, length, get_or, Ok, refl, ap, ◌∙◌, arith}
use Rattle.std.proofs.Math.Nat.{mul-add}
use Rattle.std.proofs.lemmas.Bool.Decides.{nat_tests}
use Rattle.std.proofs.lemmas.List.Sums.{sum_by-cons, sum_by-le-sum_by}
use Rattle.std.specs.Prelude.{count_by}
use Rattle.std.specs.List.{range_with_len}
use Rattle.imagesize_source.proofs.Runs.{total-append}
use Rattle.imagesize_source.proofs.Texts.{front_length}
use Rattle.imagesize_source.specs.declared.span.Span.{Span}
use Rattle.imagesize_source.specs.declared.text.Text.{Text}
use Rattle.imagesize_source.specs.Agreement.{has_offset, is_covered}
use Rattle.imagesize_source.specs.Counts.{offsets, AtMost, Each, IfBytes}
use Rattle.imagesize_source.specs.Input.{part, span_at, span_of}
use Rattle.imagesize_source.specs.Layout.{Layout, done, refuse, field, reading, begin_record, layout_reads, bind}
use Rattle.imagesize_source.specs.Reading.{Reads, Reading, and_then, plus, number_read, text_part, read_of, most}
use Rattle.imagesize_source.specs.State.{State, state_after, step, total, new_bytes, front_after, place_after, place_by}
use Rattle.imagesize_source.proofs.Marks.{plus-is}
use Rattle.imagesize_source.proofs.Parts.{part_length}
use Rattle.std.proofs.lemmas.Bool.{or_right}

-- a span has no more bytes than were asked for
pub total-span_at : (offset n : ℕ) → total (span_at offset n) ≡ n
unfolding span_at
total-span_at offset n = grind arith

-- a read has the requested bytes that the input has
pub total_there : (d : List ℕ) (offset k : ℕ) → total (span_of d offset k) ≡ min k (length d - offset)
unfolding span_of
total_there d offset k = total-span_at offset (min k (length d - offset))

pub total-span_of : (d : List ℕ) (offset k : ℕ) → total (span_of d offset k) ≤ k
total-span_of d offset k = omega (arith, total_there d offset k)

pub total_behind : (d : List ℕ) (offset k : ℕ) → total (span_of d offset k) ≤ length d - offset
total_behind d offset k = omega (arith, total_there d offset k)

-- a text is no longer than the part that it is looked for in
pub text_length : (d : List ℕ) (t : Text) (offset k : ℕ) → length (text_part d t offset k) ≤ length (part d offset k)
unfolding text_part
text_length d t offset k = front_length t (part d offset k)

-- the same of any reading
pub total_reading : (d : List ℕ) (r : Reading) (offset : ℕ) → total (read_of d r offset).marks ≤ most r
total_reading d r offset = grind (arith, total-span_of, text_length, total-span_at, part_length)

-- what is owed of a reading of bytes
pub of_bytes : {P : Type 0} (r : Reading) → IfBytes r P → P
of_bytes r h = grind arith

-- Readings are of at most so many bytes, and `each` for a record that is begun.
abbrev pub Bounded : {X : Type 0} → ℕ → ℕ → Reads X → Type 0
Bounded outside each r = total r.marks ≤ outside + each * r.begun

-- so much for the records that are begun before others
pub each_plus : (each k n : ℕ) → each * plus k n ≡ each * k + each * n
each_plus each k n = ap (λ m. each * m) (plus-is k n) ∙ mul-add each k n

-- readings behind readings
pub bounded_then : {X Y : Type 0} (each j k : ℕ) (r : Reads X) (f : X → Reads Y) → Bounded j each r
    → ((x : X) → r.answer ≡ Ok x → Bounded k each (f x)) → Bounded (j + k) each (and_then r f)
bounded_then each j k r f here rest = grind (arith, total-append, each_plus)

-- readings behind readings are at most as many as both
pub then_within : {X Y : Type 0} (r : Reads X) (f : X → Reads Y) (j k : ℕ) → total r.marks ≤ j
    → ((x : X) → r.answer ≡ Ok x → total (f x).marks ≤ k) → total (and_then r f).marks ≤ j + k
then_within r f j k one two = omega (arith, bounded_then 0 j k r f (omega arith) (λ x is. omega (arith, two x is)))

-- a layout that asks for at most k bytes reads no more of any input
pub at_most : {X : Type 0} (d : List ℕ) (k : ℕ) (t : Layout X) → AtMost k t → total (layout_reads d t).marks ≤ k
at_most d k (field order offset n f) h =
    omega (
      arith,
      h.0,
      then_within (number_read d order offset n) (λ v. layout_reads d (f v)) n (k - n)
          (total-span_of d offset n) (λ v is. at_most d (k - n) (f v) (h.1 v)),
    )
at_most d k (reading r offset f) h =
    let few = of_bytes r h in
    omega (
      arith,
      few.0,
      then_within (read_of d r offset) (λ bs. layout_reads d (f bs)) (most r) (k - most r)
          (total_reading d r offset) (λ bs is. at_most d (k - most r) (f bs) (few.1 bs)),
    )
at_most d k (begin_record t) h = at_most d k t h
at_most d k _ h = omega arith

-- a layout that asks for at most so many bytes
pub bounded_layout : {X : Type 0} (each k : ℕ) (d : List ℕ) (t : Layout X) → AtMost k t
    → Bounded k each (layout_reads d t)
bounded_layout each k d t few = omega (arith, at_most d k t few)

-- a record that asks for at most so many bytes, or the end of a list
pub bounded_each : {X : Type 0} (each : ℕ) (d : List ℕ) (t : Layout X) → Each each t
    → Bounded 0 each (layout_reads d t)
bounded_each each d (begin_record t) few = grind (arith, at_most)
bounded_each each d (done x) few = omega arith
bounded_each each d (refuse e) few = omega arith
bounded_each each d (field order offset n f) few = bounded_layout each 0 d (field order offset n f) few
bounded_each each d (reading r offset f) few = bounded_layout each 0 d (reading r offset f) few

-- at most j bytes are at most k, where k is no less
pub at_most_more : {X : Type 0} (j k : ℕ) (t : Layout X) → j ≤ k → AtMost j t → AtMost k t
at_most_more j k (field order offset n f) le h =
    (omega (arith, h.0), λ v. at_most_more (j - n) (k - n) (f v) (omega arith) (h.1 v))
at_most_more j k (reading r offset f) le h =
    let rest : (bs : List ℕ) (i m : ℕ) → i ≤ m → AtMost i (f bs) → AtMost m (f bs) = λ bs i m. at_most_more i m (f bs) in
    grind (arith, rest)
at_most_more j k (begin_record t) le h = at_most_more j k t le h
at_most_more j k _ le h = tt

-- a layout behind another asks for as many bytes as both
bind_within : {X Y : Type 0} (j k m : ℕ) (t : Layout X) (g : X → Layout Y) → j + k ≤ m → AtMost j t
    → ((x : X) → AtMost k (g x)) → AtMost m (bind t g)
bind_within j k m (done x) g fits h rest = at_most_more k m (g x) (omega arith) (rest x)
bind_within j k m (refuse e) g fits h rest = tt
bind_within j k m (field order offset n f) g fits h rest =
    (omega (arith, h.0), λ v. bind_within (j - n) k (m - n) (f v) g (omega (arith, h.0)) (h.1 v) rest)
bind_within j k m (reading r offset f) g fits h rest =
    let on : (bs : List ℕ) (i n : ℕ) → i + k ≤ n → AtMost i (f bs) → AtMost n (bind (f bs) g) =
    λ bs i n few at. bind_within i k n (f bs) g few at rest in
    grind (arith, on)
bind_within j k m (begin_record t) g fits h rest = bind_within j k m t g fits h rest

pub at_most_bind : {X Y : Type 0} (j k : ℕ) (t : Layout X) (g : X → Layout Y) → AtMost j t → ((x : X) → AtMost k (g x))
    → AtMost (j + k) (bind t g)
at_most_bind j k t g h rest = bind_within j k (j + k) t g (omega arith) h rest

pub count-cons : (p : ℕ → Bool) (x : ℕ) (xs : List ℕ) → count_by p (x ∷ xs) ≡ cond (p x) 1 0 + count_by p xs
count-cons p x xs = sum_by-cons (λ y. cond (p y) 1 0) x xs

tests_or : (b c : Bool) → cond (b || c) 1 0 ≤ cond b 1 0 + cond c 1 0
tests_or b c = grind arith

count_or : (p q : ℕ → Bool) (xs : List ℕ) → count_by (λ x. p x || q x) xs ≤ count_by p xs + count_by q xs
count_or p q [] = omega arith
count_or p q (x ∷ xs) =
    omega (arith, count-cons (λ y. p y || q y) x xs, count-cons p x xs, count-cons q x xs, count_or p q xs, tests_or (p x) (q x))

pub tests_fewer : (b c : Bool) → (b ≡ true → c ≡ true) → cond b 1 0 ≤ cond c 1 0
tests_fewer b c h = grind arith

-- what fewer offsets have is counted no more often
pub count_fewer : (p q : ℕ → Bool) (xs : List ℕ) → ((x : ℕ) → p x ≡ true → q x ≡ true) → count_by p xs ≤ count_by q xs
count_fewer p q xs h = grind (arith, sum_by-le-sum_by)

count_span : (s : Span) (a n : ℕ) → count_by (has_offset s) (range_with_len a n) ≤ (s.start + s.len) - max a s.start
count_span s a zero = omega arith
count_span s a (suc n) =
    let here : cond (has_offset s a) 1 0 + ((s.start + s.len) - max (a + 1) s.start) ≤ (s.start + s.len) - max a s.start =
    grind (arith, nat_tests) in
    omega (arith, count-cons (has_offset s) a (range_with_len (a + 1) n), count_span s (a + 1) n)

-- one more span has no more offsets than it is long
offsets_more : (n : ℕ) (s : Span) (spans : List Span) → offsets n (s ∷ spans) ≤ s.len + offsets n spans
offsets_more n s spans =
    omega (arith, count_or (has_offset s) (is_covered spans) (range_with_len 0 n), count_span s 0 n)

-- the spans have no more offsets than they are long
offsets_total : (n : ℕ) (spans : List Span) → offsets n spans ≤ total spans
offsets_total n [] =
    let none = count_fewer (λ _. false) (has_offset (record { start = 0; len = 0 })) (range_with_len 0 n) (λ x h. absurd cc) in
    omega (arith, count_span (record { start = 0; len = 0 }) 0 n)
offsets_total n (s ∷ spans) = omega (arith, offsets_more n s spans, offsets_total n spans)

-- the span of the first bytes that a source holds
abbrev front_span : State → Span
front_span a = record { start = 0; len = a.front }

-- one reading covers no offset that the front afterwards and the bytes that it took do not cover
step_covers : (front offset n at : ℕ) (rest : Bool)
    → has_offset (record { start = 0; len = front }) at || (has_offset (record { start = offset; len = n }) at || rest) ≡ true
    → has_offset (record {
      start = max (front_after front offset n) offset;
      len = new_bytes front offset n - (front_after front offset n - front);
    }) at || (has_offset (record { start = 0; len = front_after front offset n }) at || rest) ≡ true
step_covers front offset n at rest h = grind (arith, nat_tests)

-- what one reading adds to the offsets and to the bytes taken
step_covers_all : (n : ℕ) (a : State) (s : Span) (spans : List Span) → a.frame.counts ≡ true
    → offsets n (front_span a ∷ s ∷ spans)
    + a.taken + (step a s).front ≤ offsets n (front_span (step a s) ∷ spans) + (step a s).taken + a.front
step_covers_all n a s spans counts =
    let w : ℕ = front_after a.front s.start s.len in
    let m : ℕ = new_bytes a.front s.start s.len in
    let more : Span = record { start = max w s.start; len = m - (w - a.front) } in
    let after : Span = record { start = 0; len = w } in
    let fewer = count_fewer (is_covered (front_span a ∷ s ∷ spans)) (is_covered (more ∷ after ∷ spans)) (range_with_len 0 n)
    (λ at h. step_covers a.front s.start s.len at (is_covered spans at) h) in
    let one = offsets_more n more (after ∷ spans) in
    let grows : w - a.front ≤ m = grind (arith, nat_tests) in
    let above : a.front ≤ w = grind (arith, nat_tests) in
    rw counts (omega arith)

-- what the front or the spans cover was taken
covers_past : (n : ℕ) (a : State) (spans : List Span) → a.frame.counts ≡ true
    → offsets n (front_span a ∷ spans) + a.taken
    ≤ (state_after a spans).taken + a.front
unfolding state_after
covers_past n a [] counts = omega (arith, offsets_total n (front_span a ∷ []))
covers_past n a (s ∷ spans) counts = omega (arith, step_covers_all n a s spans counts, covers_past n (step a s) spans counts)

-- the place of a source that counts is that of the spans
pub place_past : (a : State) (spans : List Span) → a.frame.counts ≡ true
    → (state_after a spans).place ≡ place_by a.front a.place spans
unfolding state_after
place_past a [] counts = refl
place_past a (s ∷ spans) counts = place_past (step a s) spans counts ∙ rw counts refl

-- spans that end within an input leave no reader past its end
pub place_within : (n front place : ℕ) (spans : List Span) → place ≤ n
    → ((k : ℕ) (s : Span) → k < length spans → (get_or spans k s).start + (get_or spans k s).len ≤ n)
    → place_by front place spans ≤ n
place_within n front place [] near ends = near
place_within n front place (s ∷ spans) near ends =
    place_within n (front_after front s.start s.len) (place_after front place s.start s.len) spans
    (one_within n front place s.start s.len near (ends 0 s (omega arith)))
    (λ k t below. ends (suc k) t (omega (arith, below))) where
      one_within : (n front place offset k : ℕ) → place ≤ n → offset + k ≤ n → place_after front place offset k ≤ n
      one_within n front place offset k near ends = grind (arith, nat_tests)

-- each offset of the spans was taken, by a source that held nothing before
pub offsets_past : (n : ℕ) (a : State) (spans : List Span) → a.frame.counts ≡ true → a.front ≡ 0
    → offsets n spans + a.taken
    ≤ (state_after a spans).taken
offsets_past n a spans counts none = grind (arith, or_right, covers_past)
