-- A layout sees an input by its readings alone.
use Rattle.std.proofs.Common.{◌≡◌, ℕ, suc, ◌+◌, ◌-◌, ◌<◌, ◌≤◌, min, Bool, true, false, ◌⊎◌, inl, inr, get_or, append_assoc, List, [], ◌∷◌, ◌++◌, length, take, Result, Ok, Err, refl, sym, ap, ◌∙◌, arith}
use Rattle.std.proofs.lemmas.List.{append-nil, take-take}
use Rattle.std.proofs.lemmas.Bool.Decides.{nat_tests}
use Rattle.imagesize_source.specs.declared.halt.Halt.{Halt}
use Rattle.imagesize_source.specs.declared.span.Span.{Span}
use Rattle.imagesize_source.specs.declared.endian.Endian.{Endian}
use Rattle.std.proofs.lemmas.Bool.{cases_eq, cases_lt, or_cases, or_left, or_right}
use Rattle.imagesize_source.specs.Counts.{AtMost, CostsBy, Each}
use Rattle.imagesize_source.specs.Agreement.{AllRead, Agrees, Alike, IsLocal, IsRead, Parting, has_offset, is_covered}
use Rattle.imagesize_source.specs.Input.{part, span_at, span_of}
use Rattle.imagesize_source.specs.Layout.{Layout, field, reading, begin_record, layout_reads}
use Rattle.imagesize_source.specs.declared.text.Text.{Text}
use Rattle.imagesize_source.specs.Text.{text_front}
use Rattle.imagesize_source.proofs.Texts.{front_same, front_take}
use Rattle.imagesize_source.proofs.Runs.{marks_onward}
use Rattle.imagesize_source.specs.Reading.{Reads, Reading, AllOf, PartOf, TextOf, after_records, just, go_on, put_behind, and_then, bytes_at, bytes_read, number_at, number_read, text_part, text_read, read_of}
use Rattle.imagesize_source.proofs.Parts.{part_length, parts_long, part_at}

pub covered-left : (s t : List Span) (offset : ℕ) → is_covered s offset ≡ true → is_covered (s ++ t) offset ≡ true
covered-left [] t offset h = absurd cc
covered-left (x ∷ s) t offset h = elim (or_cases (has_offset x offset) (is_covered s offset) h) [
  | inl here ↦ or_left (has_offset x offset) (is_covered (s ++ t) offset) here
  | inr later ↦ or_right (has_offset x offset) (is_covered (s ++ t) offset) (covered-left s t offset later)
]

pub covered-right : (s t : List Span) (offset : ℕ) → is_covered t offset ≡ true → is_covered (s ++ t) offset ≡ true
covered-right [] t offset h = h
covered-right (x ∷ s) t offset h = or_right (has_offset x offset) (is_covered (s ++ t) offset) (covered-right s t offset h)

-- an offset of a span
pub covered-one : (offset n i : ℕ) → i < n → is_covered (span_at offset n) (offset + i) ≡ true
unfolding span_at
covered-one offset n i h = grind arith

-- all of so many bytes are there
pub whole_span : (d : List ℕ) (offset n : ℕ) → n ≤ length d - offset → span_of d offset n ≡ span_at offset n
unfolding span_of
whole_span d offset n all = let same : min n (length d - offset) ≡ n = omega arith in ap (span_at offset) same

-- what goes on from an answer rests on its spans
pub agrees_first : {d e : List ℕ} {X Y : Type 0} (spans : List Span) (r : Result X Halt) (f : X → Reads Y)
    → Agrees d e (go_on spans r f).marks → Agrees d e spans
agrees_first spans r f a = grind (arith, covered-left)

-- ---- where two inputs part

-- some span has an offset that one of them has
pub covered_one_of : (before : List Span) (mark : Span) (rest : List Span) (offset : ℕ) → has_offset mark offset ≡ true
    → is_covered (before ++ mark ∷ rest) offset ≡ true
covered_one_of before mark rest offset is = grind (arith, covered-right)

-- inputs that agree do not part
pub same_by_local : {texts : Bool} {X : Type 0} (r : List ℕ → Reads X) → IsLocal texts r → (d e : List ℕ)
    → Agrees d e (r d).marks
    → r e ≡ r d
same_by_local r is_local d e a = elim (is_local d e a.as_long) [
  | inl same ↦ same
  | inr parts ↦ absurd (parts.differs (a.same_byte parts.offset (rw parts.here
      (covered_one_of parts.seen parts.mark parts.rest parts.offset parts.within))))
]

-- two lists of one length are the same, or differ at a first offset
record Differ (xs ys : List ℕ) : Type 0 where
  at : ℕ
  below : at < length xs
  before : take at ys ≡ take at xs
  unlike : get_or ys at 0 ≡ get_or xs at 0 → ⊥

differ : (xs ys : List ℕ) → length ys ≡ length xs → (ys ≡ xs) ⊎ Differ xs ys
differ [] [] long = inl refl
differ [] (y ∷ ys) long = absurd (omega (arith, long))
differ (x ∷ xs) [] long = absurd (omega (arith, long))
differ (x ∷ xs) (y ∷ ys) long = by_rest (cases_eq y x) (differ xs ys (omega (arith, long))) where
  by_rest : (y ≡ x) ⊎ (y ≡ x → ⊥) → (ys ≡ xs) ⊎ Differ xs ys → (y ∷ ys ≡ x ∷ xs) ⊎ Differ (x ∷ xs) (y ∷ ys)
  by_rest (inr apart) rest = inr (record { at = 0; below = omega arith; before = refl; unlike = apart })
  by_rest (inl same) (inl rest) = inl (rw (same, rest) refl)
  by_rest (inl same) (inr d) = inr (record {
    at = suc d.at;
    below = omega (arith, d.below);
    before = rw (same, d.before) refl;
    unlike = d.unlike;
  })

-- bytes have one span
pub span-some : (offset n : ℕ) → 0 < n → span_at offset n ≡ record { start = offset; len = n } ∷ []
unfolding span_at
span-some offset n some = grind arith

-- if the bytes from an offset on differ within two spans, the inputs part there
parting_at : {texts : Bool} (d e : List ℕ) (offset k m n : ℕ) (x : Differ (part d offset k) (part e offset k)) → x.at < m
    → x.at < n → (texts ≡ false → n ≡ m) → Parting texts d e (span_at offset m) (span_at offset n)
parting_at d e offset k m n x within also same = record {
  seen = [];
  mark = record { start = offset; len = m };
  other = record { start = offset; len = n };
  rest = [];
  others = [];
  here = span-some offset m (omega (arith, within));
  there = span-some offset n (omega (arith, also));
  start = refl;
  same = λ none. ap (λ k. record { start = offset; len = k }) (same none);
  offset = offset + x.at;
  within = grind (arith, nat_tests);
  also = grind (arith, nat_tests);
  differs = λ equal. x.unlike (part_at e offset k x.at below ∙ equal ∙ sym (part_at d offset k x.at below));
} where
  below : x.at < k
  below = omega (arith, x.below, part_length d offset k)

-- what two inputs give for their bytes there is equal, or the inputs part
alike_made : {texts : Bool} {X : Type 0} (f : List ℕ → Result X Halt) (d e : List ℕ) (offset k : ℕ) → length e ≡ length d
    → (part e offset k ≡ part d offset k → f e ≡ f d)
    → Alike texts d e (just (f d) (span_of d offset k)) (just (f e) (span_of e offset k))
unfolding span_of
alike_made f d e offset k long same = elim (differ (part d offset k) (part e offset k) (parts_long d e offset k long)) [
  | inl is ↦ inl (rw (long, same is) refl)
  | inr x ↦ (let n = part_length d offset k in
      inr (parting_at d e offset k (min k (length d - offset)) (min k (length e - offset)) x (omega (arith, x.below))
      (omega (arith, x.below)) (λ none. rw long refl)))
]

-- the read of a number is local, and so is the read of bytes
pub local_number : {texts : Bool} (order : Endian) (offset k : ℕ) → IsLocal texts (λ d. number_read d order offset k)
unfolding number_at bytes_at
local_number order offset k d e long =
    alike_made (λ x. number_at x order offset k) d e offset k long (λ same. rw (long, same) refl)

pub local_bytes : {texts : Bool} (offset k : ℕ) → IsLocal texts (λ d. bytes_read d offset k)
unfolding bytes_at
local_bytes offset k d e long = alike_made (λ x. bytes_at x offset k) d e offset k long (λ same. rw (long, same) refl)

-- if bytes first differ after the end of a text, they have that text
same_text : (t : Text) (cs bs : List ℕ) (i : ℕ) → length bs ≡ length cs → take i bs ≡ take i cs → length (text_front t cs) ≤ i
    → text_front t bs ≡ text_front t cs
same_text t cs bs i equal same few =
    let n : ℕ = length (text_front t cs) in
    front_same t cs bs (omega arith)
    (sym (take-take n i bs few) ∙ ap (take n) same ∙ take-take n i cs few ∙ front_take t cs)

-- a text is the same, or the inputs part within both
alike_text : {texts : Bool} (d e : List ℕ) (t : Text) (offset k : ℕ) → texts ≡ true → length e ≡ length d
    → Alike texts d e (text_read d t offset k) (text_read e t offset k)
unfolding text_part
alike_text d e t offset k read long =
    let xs : List ℕ = part d offset k in
    let ys : List ℕ = part e offset k in
    let equal = parts_long d e offset k long in
    let made = λ (same : text_front t ys ≡ text_front t xs). ap (λ bs. just (Ok bs) (span_at offset (length bs))) same in
    elim (differ xs ys equal) [
      | inl same ↦ inl (made (ap (text_front t) same))
      | inr x ↦ elim (cases_lt x.at (length (text_front t xs))) [
        | inr early ↦ inl (made (same_text t xs ys x.at equal x.before early))
        | inl within ↦ elim (cases_lt x.at (length (text_front t ys))) [
          | inr early ↦ inl (made (sym (same_text t ys xs x.at (sym equal) (sym x.before) early)))
          | inl also ↦ inr (parting_at d e offset k (length (text_front t xs)) (length (text_front t ys)) x within also
              (λ none. absurd cc))
        ]
      ]
    ]

-- each layout is read where texts are
pub with_texts : {X : Type 0} (t : Layout X) → AllRead true t
with_texts (field order offset k f) = λ v. with_texts (f v)
with_texts (reading r offset f) = let rest : (bs : List ℕ) → AllRead true (f bs) = λ bs. with_texts (f bs) in grind (arith, rest)
with_texts (begin_record t) = with_texts t
with_texts _ = tt

-- and one whose bytes are counted has no texts
pub without_texts : (texts : Bool) {X : Type 0} (k : ℕ) (t : Layout X) → AtMost k t → AllRead texts t
without_texts texts k (field order offset n f) few = λ v. without_texts texts (k - n) (f v) (few.1 v)
without_texts texts k (reading r offset f) few =
    let rest : (bs : List ℕ) (j : ℕ) → AtMost j (f bs) → AllRead texts (f bs) = λ bs j. without_texts texts j (f bs) in
    grind (arith, rest)
without_texts texts k (begin_record t) few = without_texts texts k t few
without_texts texts k _ few = tt

pub each_texts : (texts : Bool) {X : Type 0} (k : ℕ) (t : Layout X) → Each k t → AllRead texts t
each_texts texts k t few = grind (arith, without_texts)

pub costed_texts : (texts : Bool) {X : Type 0} (f : X → ℕ) (e u : ℕ) (t : Layout X) → CostsBy f e u t → AllRead texts t
costed_texts texts f e u (field order offset n g) few = λ v. costed_texts texts f e (u + n) (g v) (few.1 v)
costed_texts texts f e u (reading r offset g) few =
    let rest : (bs : List ℕ) (v : ℕ) → CostsBy f e v (g bs) → AllRead texts (g bs) = λ bs v. costed_texts texts f e v (g bs) in
    grind (arith, rest)
costed_texts texts f e u (begin_record t) few = costed_texts texts f e u t few
costed_texts texts f e u _ few = tt

alike_reading : {texts : Bool} (d e : List ℕ) (r : Reading) (offset : ℕ) → IsRead texts r → length e ≡ length d
    → Alike texts d e (read_of d r offset) (read_of e r offset)
alike_reading d e (AllOf k) offset is long = local_bytes offset k d e long
alike_reading d e (PartOf k) offset is long = alike_made (λ x. Ok (part x offset k)) d e offset k long (λ same. ap Ok same)
alike_reading d e (TextOf t k) offset is long = alike_text d e t offset k is long

-- If two inputs part in some reads, they part in reads with more spans before and after. `plain` says whether the first reads
-- have texts, and `texts` whether the others do.
parting_among : {plain texts : Bool} {d e : List ℕ} {s t all whole : List Span} (before more others : List Span)
    → (texts ≡ false → plain ≡ false) → all ≡ before ++ (s ++ more) → whole ≡ before ++ (t ++ others)
    → Parting plain d e s t → Parting texts d e all whole
parting_among before more others fewer is also x = record {
  seen = before ++ x.seen;
  mark = x.mark;
  other = x.other;
  rest = x.rest ++ more;
  others = x.others ++ others;
  here = is ∙ ap (λ s. before ++ (s ++ more)) x.here ∙ simp append_assoc;
  there = also ∙ ap (λ s. before ++ (s ++ others)) x.there ∙ simp append_assoc;
  start = x.start;
  same = λ none. x.same (fewer none);
  offset = x.offset;
  within = x.within;
  also = x.also;
  differs = x.differs;
}

pub alike_more : {X : Type 0} (texts : Bool) (d e : List ℕ) (p q : Reads X) → Alike false d e p q → Alike texts d e p q
alike_more texts d e p q alike = grind arith

-- what goes on from answers that are alike, where it is alike behind each
pub alike_then : {texts : Bool} {X Y : Type 0} (d e : List ℕ) (p q : Reads X) (f g : X → Reads Y) → Alike texts d e p q
    → ((x : X) → p.answer ≡ Ok x → q.answer ≡ Ok x → Alike texts d e (f x) (g x))
    → Alike texts d e (and_then p f) (and_then q g)
alike_then d e p q f g (inr parts) rest = grind (arith, marks_onward, append_assoc)
alike_then {texts} {X} {Y} d e p q f g (inl same) rest = rw same (by_answer p.answer refl) where
  by_answer : (r : Result X Halt) → p.answer ≡ r
      → Alike texts d e (after_records p.begun (go_on p.marks r f)) (after_records p.begun (go_on p.marks r g))
  by_answer (Err x) is = inl refl
  by_answer (Ok x) is = elim (rest x is (ap (λ w. w.answer) same ∙ is)) [
    | inl rest_same ↦ inl (ap (λ w. after_records p.begun (put_behind p.marks w)) rest_same)
    | inr parts ↦ inr (parting_among p.marks [] [] (λ none. none) (simp append-nil) (simp append-nil) parts)
  ]

-- a layout is local
pub alike_layout : {texts : Bool} {X : Type 0} (d e : List ℕ) (t : Layout X) → AllRead texts t → length e ≡ length d
    → Alike texts d e (layout_reads d t) (layout_reads e t)
alike_layout d e (field order offset k f) read long =
    alike_then d e _ _ _ _ (local_number order offset k d e long) (λ v is also. alike_layout d e (f v) (read v) long)
alike_layout d e (reading r offset f) read long =
    alike_then d e _ _ _ _ (alike_reading d e r offset read.0 long) (λ bs is also. alike_layout d e (f bs) (read.1 bs) long)
alike_layout d e (begin_record t) read long = grind (arith, (alike_layout d e t read long))
alike_layout d e _ read long = inl refl

pub local_layout : {texts : Bool} {X : Type 0} (t : Layout X) → AllRead texts t → IsLocal texts (λ d. layout_reads d t)
local_layout t read d e long = alike_layout d e t read long

-- readings behind readings
pub local_then : {texts : Bool} {X Y : Type 0} (r : List ℕ → Reads X) (f : X → List ℕ → Reads Y) → IsLocal texts r
    → ((x : X) → IsLocal texts (f x)) → IsLocal texts (λ d. and_then (r d) (λ x. f x d))
local_then r f first rest d e long = grind (arith, alike_then)

-- readings that take the length of the input
pub local_length : {texts : Bool} {X : Type 0} (f : ℕ → List ℕ → Reads X) → ((n : ℕ) → IsLocal texts (f n))
    → IsLocal texts (λ d. f (length d) d)
local_length {texts} f each d e long = grind arith
