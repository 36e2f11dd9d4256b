-- What bytes behind an input change of the answer of a layout: nothing, where no reading was cut.
use Rattle.std.proofs.Common.{◌≡◌, ℕ, ◌-◌, ◌<◌, ◌≤◌, min, false, List, ◌++◌, length, drop, Result, Ok, refl, sym, ap, ◌∙◌, arith}
use Rattle.std.proofs.lemmas.List.{length-append, length-drop, drop-append-le, take-append-drop, take-append-le}
use Rattle.imagesize_source.specs.declared.halt.Halt.{Halt}
use Rattle.imagesize_source.specs.declared.span.Span.{Span}
use Rattle.imagesize_source.specs.declared.text.Text.{Text}
use Rattle.imagesize_source.specs.Text.{is_ended}
use Rattle.imagesize_source.proofs.Texts.{front_all, front_any, front_more}
use Rattle.imagesize_source.specs.declared.endian.Endian.{Endian}
use Rattle.imagesize_source.specs.Input.{part, span_at, span_of}
use Rattle.imagesize_source.specs.Layout.{Layout, field, reading, begin_record, layout_reads}
use Rattle.imagesize_source.specs.Layout.Layout.{«done»}
use Rattle.imagesize_source.specs.Numbers.{number}
use Rattle.imagesize_source.specs.Extension.{Lasts, Plain, Never, WhereCut}
use Rattle.imagesize_source.specs.Reading.{Reads, after_records, and_then, number_read, Reading, go_on, bytes_at, number_at, text_part, read_of, map_answer}
use Rattle.imagesize_source.proofs.Layouts.{then_gives}
use Rattle.imagesize_source.proofs.Parts.{part_front, part_length, part_whole}

-- bytes behind the input are not among those that are all there
part_more : (d x : List ℕ) (offset k : ℕ) → k ≤ length d - offset → part (d ++ x) offset k ≡ part d offset k
unfolding part
part_more d x offset k h = grind (arith, length-drop, drop-append-le, take-append-le)

span_more : (d x : List ℕ) (offset k : ℕ) → k ≤ length d - offset → span_of (d ++ x) offset k ≡ span_of d offset k
unfolding span_of
span_more d x offset k h = ap (span_at offset) (omega (arith, length-append d x, h))

-- all of k bytes are there where their reading is answered
pub bytes_ok : (d a : List ℕ) (offset k : ℕ) → bytes_at d offset k ≡ Ok a → k ≤ length d - offset
unfolding bytes_at
bytes_ok d a offset k is = grind arith

pub number_ok : (d : List ℕ) (order : Endian) (offset k v : ℕ) → number_at d order offset k ≡ Ok v → k ≤ length d - offset
unfolding number_at bytes_at
number_ok d order offset k v is = grind arith

pub bytes_more : (d x : List ℕ) (offset k : ℕ) → k ≤ length d - offset → bytes_at (d ++ x) offset k ≡ bytes_at d offset k
unfolding bytes_at
bytes_more d x offset k h = grind (arith, length-append, part_more)

pub number_more : (d x : List ℕ) (order : Endian) (offset k : ℕ) → k ≤ length d - offset
    → number_at (d ++ x) order offset k ≡ number_at d order offset k
unfolding number_at
number_more d x order offset k h = ap (map_answer (number order)) (bytes_more d x offset k h)

-- what has an answer goes on from an answer
pub onward_ok : {X Y : Type 0} (P : Type 0) (spans : List Span) (r : Result X Halt) (f : X → Reads Y) (y : Y)
    → (go_on spans r f).answer ≡ Ok y → ((x : X) → r ≡ Ok x → (f x).answer ≡ Ok y → P) → P
onward_ok P spans r f y is each = grind arith

-- a layout that is always refused has no answer
never_ok : {X : Type 0} (d : List ℕ) (t : Layout X) (v : X) → Never t → (layout_reads d t).answer ≡ Ok v → ⊥
never_ok d (field order offset k f) v never is = onward_ok ⊥ _ _ _ v is (λ n got ok. never_ok d (f n) v (never n) ok)
never_ok d (reading r offset f) v never is = onward_ok ⊥ _ _ _ v is (λ bs got ok. never_ok d (f bs) v (never bs) ok)
never_ok d (begin_record t) v never is = never_ok d t v never is
never_ok d _ v never is = grind arith

-- bytes behind the input follow those that are there
pub part_grows : (d x : List ℕ) (offset k : ℕ) → (rest : List ℕ) × (part (d ++ x) offset k ≡ part d offset k ++ rest)
part_grows d x offset k =
    let m : ℕ = min k (length d - offset) in
    let first = part_front (d ++ x) offset m k (omega arith) ∙ part_more d x offset m (omega arith) ∙ sym (part_whole d offset k m refl) in
    let rest : List ℕ = drop m (part (d ++ x) offset k) in
    (rest, sym (take-append-drop m (part (d ++ x) offset k)) ∙ ap (λ bs. bs ++ rest) first)

-- a text that has ended is not changed by them, nor is one of as many bytes as it may have
text_more : (d x : List ℕ) (t : Text) (offset k : ℕ)
    → (is_ended t (text_part d t offset k) ≡ false → length (text_part d t offset k) < k → ⊥)
    → text_part (d ++ x) t offset k ≡ text_part d t offset k
unfolding text_part
text_more d x t offset k uncut =
    let grows = part_grows d x offset k in
    let any = front_any t (part d offset k) in
    grind (arith, grows, any, uncut, front_more, part_more, part_length, front_all)

-- what holds of the bytes of a reading that was not cut
otherwise : (P Q : Type 0) (r : Reading) (bs : List ℕ) → WhereCut r bs P Q → Q
otherwise P Q r bs h = grind arith

-- bytes behind the input do not change a reading that was answered and not cut
reading_more : (P Q : Type 0) (d x : List ℕ) (r : Reading) (offset : ℕ) (bs : List ℕ) → (P → ⊥) → WhereCut r bs P Q
    → (read_of d r offset).answer ≡ Ok bs → read_of (d ++ x) r offset ≡ read_of d r offset
reading_more P Q d x r offset bs not_cut h is =
    grind (arith, bytes_ok, span_more, bytes_more, part_more, part_length, text_more)

-- what goes on is the same, where the readings are so whose answer it goes on from
pub onward_more : {X Y : Type 0} (r r' : Reads X) (f g : X → Reads Y) (y : Y) → (and_then r f).answer ≡ Ok y
    → ((x : X) → r.answer ≡ Ok x → (f x).answer ≡ Ok y → r' ≡ r) → ((x : X) → (f x).answer ≡ Ok y → g x ≡ f x)
    → and_then r' g ≡ and_then r f
onward_more r r' f g y is same rest = grind arith

-- Extension: where a plain layout has an answer, it has it over the input and any bytes behind it, with the same marks.
pub more : {X : Type 0} (d x : List ℕ) (t : Layout X) (v : X) → Plain t → (layout_reads d t).answer ≡ Ok v
    → layout_reads (d ++ x) t ≡ layout_reads d t
more d x (field order offset k f) v p is =
    onward_more (number_read d order offset k) (number_read (d ++ x) order offset k) _ _ v is
    (λ n got ok. grind (arith, number_ok, span_more, number_more)) (λ n ok. more d x (f n) v (p n) ok)
more d x (reading r offset f) v p is =
    onward_more (read_of d r offset) (read_of (d ++ x) r offset) _ _ v is
    (λ bs got ok. reading_more (Never (f bs)) (Plain (f bs)) d x r offset bs (λ never. never_ok d (f bs) v never ok) (p bs) got)
    (λ bs ok. more d x (f bs) v (otherwise (Never (f bs)) (Plain (f bs)) r bs (p bs)) ok)
more d x (begin_record t) v p is = ap (after_records 1) (more d x t v p is)
more d x _ v p is = refl

-- the answer alone
pub more_answer : {X : Type 0} (d x : List ℕ) (t : Layout X) (v : X) → Plain t → (layout_reads d t).answer ≡ Ok v
    → (layout_reads (d ++ x) t).answer ≡ Ok v
more_answer d x t v p is = ap (λ r. r.answer) (more d x t v p is) ∙ is

-- readings behind readings last where both do
pub lasts_then : {X Y : Type 0} (r : List ℕ → Reads X) (f : X → List ℕ → Reads Y) → Lasts r → ((y : X) → Lasts (f y))
    → Lasts (λ d. and_then (r d) (λ y. f y d))
lasts_then r f first rest d x v is = onward_more (r d) (r (d ++ x)) (λ y. f y d) (λ y. f y (d ++ x)) v is
    (λ y got _. first d x y got) (λ y ok. rest y d x v ok)

-- the read of a number lasts
pub number_lasts : (order : Endian) (offset k : ℕ) → Lasts (λ d. number_read d order offset k)
number_lasts order offset k d x v is =
    let one = then_gives (number_read d order offset k) in
    sym (then_gives (number_read (d ++ x) order offset k))
    ∙ more d x (field order offset k «done») v (λ _. tt) (ap (λ r. r.answer) one ∙ is) ∙ one
