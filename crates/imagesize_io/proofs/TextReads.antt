-- Reads of a text, one after another, are one read of it, and no byte after it is read.
use Rattle.std.proofs.Common.{◌≡◌, ◌≢◌, ℕ, ◌+◌, ◌-◌, ◌^◌, ◌<◌, ◌≤◌, min, Bool, true, false, List, [], ◌∷◌, ◌++◌, length, take, drop, Result, Ok, Err, IfErr, None, refl, sym, ap, ◌∙◌, subst, arith}
use Rattle.std.proofs.lemmas.Bool.Decides.{nat_tests}
use Rattle.std.proofs.lemmas.List.{append-nil, length-append, length-drop, length-take, take-append-drop, take-append-le, take_all, take_at}
use Rattle.std.proofs.Math.Seq.{take-append-add}
use Rattle.imagesize_source.specs.declared.halt.Halt.{Halt}
use Rattle.imagesize_source.specs.declared.text.Text.{Text}
use Rattle.imagesize_source.specs.Input.{part, span_at, span_of}
use Rattle.imagesize_source.specs.Reading.{part_read, text_read, Reads, just, text_part, map_answer, is_stopped, is_faulted}
use Rattle.imagesize_source.specs.State.{State, Runs, EndedBy, total, state_after, new_bytes, front_after, place_after}
use Rattle.imagesize_source.specs.Text.{delimits, text_front, is_ended}
use Rattle.imagesize_source.proofs.Agreement.{whole_span}
use Rattle.imagesize_source.proofs.Counts.{total-span_at, total_there}
use Rattle.imagesize_source.proofs.Layouts.{runs_as}
use Rattle.imagesize_source.proofs.Parts.{part_front, part_length, part_none}
use Rattle.imagesize_source.proofs.Runs.{part_is, past-past, runs_then, total-append}
use Rattle.imagesize_source.proofs.Texts.{at_once, begins, cut, ended_is, front_all, front_any, front_front, front_is, front_more, front_take, goes_behind}
use Rattle.imagesize_io.specs.declared.reader.Ledger.{Ledger}
use Rattle.imagesize_io.specs.declared.reader.held.HeldText.TheVariants.{Whole, Part}
use Rattle.imagesize_io.specs.Held.{IsWhole}
use Rattle.imagesize_io.specs.ReaderState.{ReadsAt, ReadsText, reader_state}
use Rattle.imagesize_io.specs.Rest.{GoesOn, ReadsMore, ReadsRest}
use Rattle.imagesize_io.specs.Telling.{Account}
use Rattle.imagesize_io.proofs.Filling.{part-add}
use Rattle.imagesize_io.proofs.Layers.{reads_none}
use Rattle.imagesize_io.proofs.Windows.{part_marks, past-span, read_on}

abbrev state_of : Account → ℕ → Ledger → State
state_of a home l = reader_state a home l.progress l.window.items

-- the reads of two spans, one after the other, leave a reader as one read of both does
joined : (a : State) (offset n m : ℕ) → a.frame.counts ≡ true → a.recorded ≡ None
    → state_after (state_after a (span_at offset n)) (span_at (offset + n) m) ≡ state_after a (span_at offset (n + m))
joined a offset n m counts bare =
    let first : ℕ = front_after a.front offset n in
    let front : front_after first (offset + n) m ≡ front_after a.front offset (n + m) = grind (arith, nat_tests) in
    let taken : a.taken + new_bytes a.front offset n + new_bytes first (offset + n) m ≡ a.taken + new_bytes a.front offset (n + m) =
    grind (arith, nat_tests) in
    let place : place_after first (place_after a.front a.place offset n) (offset + n) m ≡ place_after a.front a.place offset (n + m) =
    grind (arith, nat_tests) in
    ap (λ s. state_after s (span_at (offset + n) m)) (past-span a offset n (counts, bare))
    ∙ past-span (read_on a offset n) (offset + n) m (counts, bare)
    ∙ rw (front, taken, place) (sym (past-span a offset (n + m) (counts, bare)))

-- a function applied to the value of a result keeps its errors
mapped : {X Y : Type 0} (f : X → Y) (b : State) (r : Result X Halt) → (is_stopped (map_answer f r) ≡ is_stopped r)
    × (is_faulted (map_answer f r) ≡ is_faulted r) × (IfErr r (EndedBy b) → IfErr (map_answer f r) (EndedBy b))
mapped f b (Ok x) = (refl, refl, λ ended. ended)
mapped f b (Err e) = (refl, refl, λ ended. ended)

-- reads, stated as other reads that see no less and leave the same state
runs_seen : {X Y : Type 0} {a b : State} {r : Result X Halt} {reads : Reads X} (f : X → Y) (other : Reads Y) → Runs a b r reads
    → b.missed ≡ None → (a.held.honest ≡ true → (total reads.marks ≤ total other.marks)
    × (reads.answer ≡ r → (other.answer ≡ map_answer f r) × (state_after a reads.marks ≡ state_after a other.marks)))
    → Runs a b (map_answer f r) other
runs_seen {b = b} {r} f other h untold same =
    let ends = mapped f b r in
    record {
      sound = h.sound;
      sound_after = h.sound_after;
      frame = h.frame;
      taken = h.taken;
      within = λ honest. omega (arith, h.within honest, (same honest).0);
      answer = λ honest on. ((same honest).1 (h.answer honest (sym ends.0 ∙ on))).0;
      state = λ honest on. let calm = sym ends.0 ∙ on in h.state honest calm ∙ ((same honest).1 (h.answer honest calm)).1;
      fault = λ honest faults. h.fault honest (sym ends.1 ∙ faults);
      misses = λ honest faults. record { told = rw untold tt };
      ended = ends.2 h.ended;
    }

-- no bytes end no text
pub open_none : (t : Text) → is_ended t [] ≡ false
open_none t = ended_is t []

-- nothing is read of a text
pub nothing_read : {l : Ledger} {a : Account} (offset : ℕ) → ReadsAt l l a a offset [] (Ok 0)
nothing_read offset = reads_none [] (omega arith) (λ some. absurd (omega (arith, some))) (omega arith) (λ s k. part_none _ offset)

-- a text that some bytes do not end has a byte after them, where there is one
cut_some : (p : ℕ → Bool) (begun : Bool) (bs : List ℕ) → min 1 (length bs) ≤ length (cut p begun bs)
cut_some p begun [] = omega arith
cut_some p begun (b ∷ bs) = omega arith

front_some : (t : Text) (xs ys : List ℕ) → is_ended t xs ≡ false → length xs + min 1 (length ys) ≤ length (text_front t (xs ++ ys))
front_some t xs ys none =
    let begun : Bool = begins (delimits t) (at_once t) xs in
    let on = goes_behind (delimits t) (at_once t) xs ys (sym (ended_is t xs) ∙ none) in
    omega (arith, ap length (front_is t (xs ++ ys) ∙ on.1), length-append xs (cut (delimits t) begun ys), cut_some (delimits t) begun ys)

-- a text that ends in the bytes after its first ones has one of them
pub ends_some : (t : Text) (xs ys : List ℕ) (n : ℕ) → is_ended t xs ≡ false → is_ended t (xs ++ ys) ≡ true
    → length xs + n ≡ length (text_front t (xs ++ ys)) → 0 < n
ends_some t xs [] n none ended long = absurd (let same = ap (is_ended t) (append-nil xs) in cc)
ends_some t xs (y ∷ ys) n none ended long = omega (arith, front_some t xs (y ∷ ys) none, long)

-- the bytes up to the end of a text are a whole text
pub whole_front : (t : Text) (xs ys : List ℕ) (n : ℕ) → is_ended t (xs ++ ys) ≡ true → length xs + n ≡ length (text_front t (xs ++ ys))
    → IsWhole t (xs ++ take n ys)
whole_front t xs ys n ended long =
    let front : text_front t (xs ++ ys) ≡ xs ++ take n ys =
    sym (front_take t (xs ++ ys)) ∙ ap (λ k. take k (xs ++ ys)) (sym long) ∙ take-append-add xs ys n in
    subst (IsWhole t) front (λ more. front_more t (text_front t (xs ++ ys)) more (front_any t (xs ++ ys) ∙ ended)
    ∙ front_front t (xs ++ ys) ended)

-- reads of two parts, one behind the other, are one read of both
module _ {a m c : State} {n here : ℕ} {got : List ℕ} {r : Result (List ℕ) Halt} (offset k : ℕ)
    (first : Runs a m (Ok got) (part_read a.held.input offset n)) (long : length got ≡ n) (short : offset < 2 ^ 64)
    (counts : a.frame.counts ≡ true) (bare : a.recorded ≡ None) (untold : c.missed ≡ None)
    (here_is : here ≡ min (offset + n) (2 ^ 64 - 1)) (second : Runs m c r (part_read m.held.input here k)) where
  then_runs : Runs a c (map_answer (λ bs. got ++ bs) r) (part_read a.held.input offset (n + k))
  then_runs = runs_seen (λ bs. got ++ bs) (part_read a.held.input offset (n + k))
      (runs_then (part_read a.held.input offset n) (λ v h. part_read h.input here k) first second) untold (λ honest.
      let d : List ℕ = a.held.input in
      let there : part d offset n ≡ got = part_is (first.answer honest refl) in
      let reaches : n ≤ length d - offset = omega (arith, part_length d offset n, ap length there, long) in
      let behind : here ≡ offset + n = omega (arith, reaches, short, (first.sound honest).1, here_is) in
      let left : ℕ = min k (length d - (offset + n)) in
      let sum : n + left ≡ min (n + k) (length d - offset) = omega (arith, reaches) in
      let rest : left ≡ min k (length d - here) = ap (λ p. min k (length d - p)) (sym behind) in (
        simp total-append (omega (arith, total_there d offset n, total_there d here k, total_there d offset (n + k), rest, sum)),
        λ is. (
          ap Ok (sym (part-add d offset n k) ∙ ap (λ bs. bs ++ part d (offset + n) k) there ∙ ap (λ p. got ++ part d p k) (sym behind))
              ∙ ap (map_answer (λ bs. got ++ bs)) is,
          sym (past-past a (span_of d offset n) (span_of d here k))
              ∙ ap (λ s. state_after (state_after a s) (span_of d here k)) (whole_span d offset n reaches)
              ∙ ap (λ s. state_after (state_after a (span_at offset n)) s) (part_marks d here k left rest)
              ∙ ap (λ p. state_after (state_after a (span_at offset n)) (span_at p left)) behind
              ∙ joined a offset n left counts bare ∙ ap (state_after a) (sym (part_marks d offset (n + k) (n + left) sum)),
        ),
      ))

-- all of the bytes were read
all_run : {old new : Ledger} {a b : Account} {offset : ℕ} {got : List ℕ} → ReadsAt old new a b offset got (Ok (length got))
    → (home : ℕ) → Runs (state_of a home old) (state_of b home new) (Ok got) (part_read (state_of a home old).held.input offset (length got))
all_run {got = got} read home = rw (take_all (length got) got (omega arith)) at (read.runs home)

-- a read of bytes, where these are the text
text_as : {a b : State} {got : List ℕ} (t : Text) (offset n k : ℕ) → Runs a b (Ok got) (part_read a.held.input offset n)
    → (part a.held.input offset n ≡ got → text_front t (part a.held.input offset k) ≡ got)
    → Runs a b (Ok got) (text_read a.held.input t offset k)
unfolding span_of text_part
text_as {a} t offset n k run is = runs_as (text_read a.held.input t offset k) run (λ honest.
    let there = part_is (run.answer honest refl) in
    ap (λ j. just (Ok (part a.held.input offset n)) (span_at offset j)) (sym (part_length a.held.input offset n))
    ∙ ap (λ bs. just (Ok bs) (span_at offset (length bs))) (there ∙ sym (is there)))

-- bytes that were read, if they are the text
text_read_as : {old new : Ledger} {a b : Account} {t : Text} {offset n : ℕ} (buffer : List ℕ) → n ≤ length buffer
    → ReadsAt old new a b offset (take n buffer) (Ok n)
    → ((d : List ℕ) → part d offset n ≡ take n buffer → text_front t (part d offset (length buffer)) ≡ take n buffer)
    → ReadsText old new a b t offset buffer (Ok n)
text_read_as {t = t} {offset} {n} buffer fits read is =
    let long : length (take n buffer) ≡ n = omega (arith, length-take n buffer, fits) in
    record {
      bound = fits;
      pays = λ some far. (read.pays some far).0;
      runs = λ home. text_as t offset n (length buffer) (rw (take_all n (take n buffer) (omega (arith, long)), long) at (read.runs home)) (is _);
    }

-- a whole text
pub text_whole : {old new : Ledger} {a b : Account} {t : Text} {offset n : ℕ} (buffer : List ℕ) → n ≤ length buffer
    → ReadsAt old new a b offset (take n buffer) (Ok n) → IsWhole t (take n buffer) → ReadsText old new a b t offset buffer (Ok n)
text_whole {t = t} {offset} {n} buffer fits read whole = text_read_as buffer fits read (λ d there.
    let all : List ℕ = part d offset (length buffer) in
    let front : take n all ≡ take n buffer = part_front d offset n (length buffer) fits ∙ there in
    ap (text_front t) (sym (take-append-drop n all) ∙ ap (λ bs. bs ++ drop n all) front) ∙ whole (drop n all))

-- a text that fills the buffer
pub text_full : {old new : Ledger} {a b : Account} {t : Text} {offset n : ℕ} (buffer : List ℕ) → n ≤ length buffer → length buffer ≤ n
    → ReadsAt old new a b offset (take n buffer) (Ok n) → is_ended t (take n buffer) ≡ false → ReadsText old new a b t offset buffer (Ok n)
text_full {t = t} {offset} {n} buffer fits full read still =
    let all : length buffer ≡ n = omega (arith, fits, full) in
    text_read_as buffer fits read (λ d there. ap (λ k. text_front t (part d offset k)) all ∙ ap (text_front t) there ∙ front_all t (take n buffer) still)

-- two reads, one behind the other
module _ {before mid new : Ledger} {c a b : Account} {offset here : ℕ} {got : List ℕ} (more : List ℕ) (short : offset < 2 ^ 64)
    (read : ReadsAt before mid c a offset got (Ok (length got))) (here_is : here ≡ min (offset + length got) (2 ^ 64 - 1)) where
  reads_then : (r : Result ℕ Halt) → ReadsAt mid new a b here more r → (home : ℕ) → Runs (state_of c home before) (state_of b home new)
      (map_answer (λ i. take i (got ++ more)) (map_answer (λ j. length got + j) r))
      (part_read (state_of c home before).held.input offset (length (got ++ more)))
  reads_then r after home = rw (length-append got more, ← with_first r)
      (then_runs offset (length more) (all_run read home) refl short refl refl refl here_is (after.runs home)) where
        with_first : (x : Result ℕ Halt) → map_answer (λ bs. got ++ bs) (map_answer (λ j. take j more) x)
            ≡ map_answer (λ i. take i (got ++ more)) (map_answer (λ j. length got + j) x)
        with_first (Ok j) = ap Ok (sym (take-append-add got more j))
        with_first (Err e) = refl

  -- the second gives bytes
  pub reads_join : {k : ℕ} → 0 < k → ReadsAt mid new a b here more (Ok k) → ReadsAt before new c b offset (got ++ more) (Ok (length got + k))
  reads_join {k} some after =
      let told = read.keeps.told in
      let budget = read.keeps.budget in
      record {
        bound = omega (arith, length-append got more, after.bound);
        pays = λ _ far.
            let paid = after.pays some (omega (arith, far, told, here_is, short)) in
            (omega (arith, paid.0, read.keeps.taken), omega (arith, paid.1, budget, read.keeps.taken));
        keeps = search (arith, read.keeps, after.keeps);
        runs = reads_then (Ok k) after;
      }

  module _ {t : Text} (still : is_ended t got ≡ false) (one : length more ≡ 1) (tail : List ℕ) where
    -- the second meets the end of the input
    pub text_out : ReadsAt mid new a b here more (Ok 0) → ReadsText before new c b t offset (got ++ (more ++ tail)) (Ok (length got))
    unfolding text_part
    text_out after =
        let buffer : List ℕ = got ++ (more ++ tail) in
        let most : ℕ = length (got ++ more) in
        let long : most ≡ length got + 1 = omega (arith, length-append got more, one) in
        let fits : most ≤ length buffer = omega (arith, long, one, length-append got (more ++ tail), length-append more tail) in
        record {
          bound = omega (arith, fits, long);
          pays = λ some far. omega (arith, (read.pays some far).0, after.keeps.taken);
          runs = λ home. rw (take_at got (more ++ tail) (length got) refl)
              (text_as t offset most (length buffer) (rw (take_at got more (length got + 0) (omega arith)) at (reads_then (Ok 0) after home))
              (λ there.
              let d : List ℕ = (state_of c home before).held.input in
              let short : length (part d offset (length buffer)) ≤ most =
              omega (arith, part_length d offset most, part_length d offset (length buffer), ap length there, long) in
              ap (text_front t) (sym (take_all most (part d offset (length buffer)) short) ∙ part_front d offset most (length buffer) fits ∙ there)
              ∙ front_all t got still));
        }

    -- the second fails
    pub text_stopped : {e : Halt} → ReadsAt mid new a b here more (Err e) → ReadsText before new c b t offset (got ++ (more ++ tail)) (Err e)
    unfolding text_part
    text_stopped {e} after = record {
      bound = tt;
      pays = tt;
      runs = λ home.
          let d : List ℕ = (state_of c home before).held.input in
          let buffer : List ℕ = got ++ (more ++ tail) in
          let all : List ℕ = part d offset (length buffer) in
          let fits : length got ≤ length buffer = omega (arith, length-append got (more ++ tail)) in
          runs_seen (λ bs. bs) (text_read d t offset (length buffer)) (reads_then (Err e) after home) refl (λ honest.
          let there : part d offset (length got) ≡ got = part_is ((all_run read home).answer honest refl) in
          let split : all ≡ got ++ drop (length got) all = sym (take-append-drop (length got) all)
          ∙ ap (λ xs. xs ++ drop (length got) all) (part_front d offset (length got) (length buffer) fits ∙ there) in (
            rw total-span_at (omega (
              arith,
              total_there d offset (length (got ++ more)),
              front_some t got (drop (length got) all) still,
              ap (λ xs. length (text_front t xs)) split,
              length-drop (length got) all,
              part_length d offset (length buffer),
              length-append got more,
              length-append got (more ++ tail),
              length-append more tail,
              one,
            )),
            λ is. absurd cc,
          ));
    }

-- bytes that were read into a buffer behind its first ones
pub more_front : {count n : ℕ} (first rest post : List ℕ) → length first ≡ count → n ≤ length rest
    → take (count + n) (first ++ (rest ++ post)) ≡ first ++ take n rest
more_front {n = n} first rest post long fits = ap (λ k. take (k + n) (first ++ (rest ++ post))) (sym long)
    ∙ take-append-add first (rest ++ post) n ∙ ap (λ bs. first ++ bs) (take-append-le n rest post fits)

pub more_read : {old new : Ledger} {a b : Account} {offset here count n : ℕ} {first : List ℕ} (rest post : List ℕ)
    → length first ≡ count → n ≤ length rest → offset < 2 ^ 64 → here ≡ min (offset + count) (2 ^ 64 - 1) → 0 < n
    → ReadsAt old new a b here (take n rest) (Ok n) → GoesOn old new a b offset first (first ++ (rest ++ post)) (count + n)
more_read {new = new} {b = b} {offset} {n = n} {first} rest post long fits short here_is some read = record {
  bound = omega (arith, length-append first (rest ++ post), length-append rest post, long, fits);
  onward = omega (arith, long);
  reads = λ before c done. rw (more_front first rest post long fits, ← long)
      (reads_join (take n rest) short done (here_is ∙ ap (λ k. min (offset + k) (2 ^ 64 - 1)) (sym long)) some read);
}

-- where nothing is read, nothing changes
pub none_read : {l : Ledger} {a : Account} {offset count : ℕ} (buffer : List ℕ) → count ≤ length buffer
    → GoesOn l l a a offset (take count buffer) buffer count
none_read {l} {a} {offset} {count} buffer fits =
    let long : length (take count buffer) ≡ count = omega (arith, length-take count buffer, fits) in
    record { bound = fits; onward = omega (arith, long); reads = λ before c done. rw long at done }

-- a whole text that is held
pub held_whole : {old new : Ledger} {a b : Account} {t : Text} {offset n : ℕ} (buffer : List ℕ)
    → ReadsMore old new a b t offset [] buffer (Whole n) → ReadsText old new a b t offset buffer (Ok n)
held_whole {a = a} {offset = offset} buffer held =
    text_whole buffer held.0.bound (held.0.reads _ a (nothing_read offset)) held.1

-- the first bytes of a text that are held, and then its rest
pub held_part : {old mid new : Ledger} {a b c : Account} {t : Text} {offset n : ℕ} {r : Result ℕ Halt} (buffer after : List ℕ)
    → ReadsMore old mid a b t offset [] buffer (Part n) → ReadsRest mid new b c t offset (take n buffer) after r
    → ReadsText old new a c t offset after r
held_part {a = a} {offset = offset} {n} buffer after held rest =
    let long : length (take n buffer) ≡ n = omega (arith, length-take n buffer, held.0.bound) in
    rest _ a (rw long (held.0.reads _ a (nothing_read offset)))

-- reads that go on after other reads
pub then_on : {old mid new : Ledger} {a m b : Account} {offset n k : ℕ} {first : List ℕ} (buffer more : List ℕ)
    → GoesOn old mid a m offset first buffer n → GoesOn mid new m b offset (take n buffer) more k → GoesOn old new a b offset first more k
then_on {n = n} buffer more one two =
    let long : length (take n buffer) ≡ n = omega (arith, length-take n buffer, one.bound) in
    record { bound = two.bound; onward = omega (arith, one.onward, two.onward, long); reads = λ before c done. two.reads before c (rw long (one.reads before c done)) }

-- the first bytes of a buffer, and the byte behind them
abbrev pub first_of : ℕ → List ℕ → List ℕ
first_of count bytes = take count (take (count + 1) bytes)

abbrev pub last_of : ℕ → List ℕ → List ℕ
last_of count bytes = take (length (take (count + 1) bytes) - count) (drop count (take (count + 1) bytes))

-- one more byte of a text, of which the first bytes were read
module _ {count : ℕ} (buffer more post : List ℕ) (within : count ≤ length buffer) (one : length more ≡ 1) where
  long : length (take count buffer) ≡ count
  long = omega (arith, length-take count buffer, within)

  front : take (count + 1) (take count buffer ++ (more ++ post)) ≡ take count buffer ++ more
  front = more_front {n = 1} (take count buffer) more post long (omega (arith, one))
      ∙ ap (λ bs. take count buffer ++ bs) (take_all 1 more (omega (arith, one)))

  seen : first_of count (take count buffer ++ (more ++ post)) ++ last_of count (take count buffer ++ (more ++ post)) ≡ take count buffer ++ more
  seen =
      let read : List ℕ = take (count + 1) (take count buffer ++ (more ++ post)) in
      ap (λ bs. take count read ++ bs) (take_all (length read - count) (drop count read) (omega (arith, length-drop count read)))
      ∙ take-append-drop count read ∙ front

  at_end : {here : ℕ} (offset : ℕ) → here ≡ min (offset + count) (2 ^ 64 - 1) → here ≡ min (offset + length (take count buffer)) (2 ^ 64 - 1)
  at_end offset here_is = here_is ∙ ap (λ j. min (offset + j) (2 ^ 64 - 1)) (sym long)

  module _ {old now new : Ledger} {a m b : Account} {offset here : ℕ} {start : List ℕ} (short : offset < 2 ^ 64)
      (here_is : here ≡ min (offset + count) (2 ^ 64 - 1)) (on : GoesOn old now a m offset start buffer count) where
    byte_read : {k : ℕ} → ReadsAt now new m b here more (Ok k) → k ≢ 0
        → GoesOn old new a b offset start (take count buffer ++ (more ++ post)) (count + 1)
    byte_read {k} read some =
        let all : k ≡ 1 = omega (arith, read.bound, one, some) in
        let there : ReadsAt now new m b here (take 1 more) (Ok 1) = rw (take_all 1 more (omega (arith, one)), ← all) read in
        then_on buffer (take count buffer ++ (more ++ post)) on
        (more_read more post long (omega (arith, one)) short here_is (omega arith) there)

    module _ (t : Text) (still : is_ended t (take count buffer) ≡ false) where
      pub byte_stopped : {e : Halt} → ReadsAt now new m b here more (Err e)
          → ReadsRest old new a b t offset start (take count buffer ++ (more ++ post)) (Err e)
      byte_stopped read before c done = text_stopped more short (rw long (on.reads before c done)) (at_end offset here_is) still one post read

      -- the input has none
      pub byte_out : ReadsAt now new m b here more (Ok 0) → ReadsRest old new a b t offset start (take count buffer ++ (more ++ post)) (Ok count)
      byte_out read before c done = subst (λ n. ReadsText before new c b t offset (take count buffer ++ (more ++ post)) (Ok n)) long
          (text_out more short (rw long (on.reads before c done)) (at_end offset here_is) still one post read)

      -- it does not end the text
      pub byte_more : {k : ℕ} → ReadsAt now new m b here more (Ok k) → k ≢ 0
          → is_ended t (first_of count (take count buffer ++ (more ++ post)) ++ last_of count (take count buffer ++ (more ++ post))) ≡ false
          → ReadsMore old new a b t offset start (take count buffer ++ (more ++ post)) (Part (count + 1))
      byte_more read some goes_on = (byte_read read some, ap (is_ended t) (front ∙ sym seen) ∙ goes_on)

      -- it ends the text
      pub byte_last : {k last : ℕ} → ReadsAt now new m b here more (Ok k) → k ≢ 0
          → is_ended t (first_of count (take count buffer ++ (more ++ post)) ++ last_of count (take count buffer ++ (more ++ post))) ≡ true
          → length (first_of count (take count buffer ++ (more ++ post))) + last ≡ length (text_front t
          (first_of count (take count buffer ++ (more ++ post)) ++ last_of count (take count buffer ++ (more ++ post))))
          → last ≤ length (last_of count (take count buffer ++ (more ++ post)))
          → ReadsRest old new a b t offset start (take count buffer ++ (more ++ post)) (Ok (count + last))
      byte_last {last = last} read some ended whole few before c done =
          let first : List ℕ = take count buffer in
          let all : List ℕ = first ++ (more ++ post) in
          let on_now = byte_read read some in
          let there : length (first_of count all) ≡ count = omega (arith, length-take count (take (count + 1) all), length-take (count + 1) all, on_now.bound) in
          let is_one : last ≡ 1 = omega (
            arith,
            front_some t first more still,
            ap (λ bs. length (text_front t bs)) seen,
            whole,
            there,
            one,
            few,
            ap length seen,
            length-append (first_of count all) (last_of count all),
            length-append first more,
            long,
          ) in
          let sum : length first + 1 ≡ length (text_front t (first ++ more)) =
          omega (arith, ap (λ bs. length (text_front t bs)) seen, whole, is_one, there, long) in
          rw is_one (text_whole all on_now.bound (on_now.reads before c done)
          (subst (IsWhole t) (sym (more_front {n = 1} first more post long (omega (arith, one))))
          (whole_front t first more 1 (ap (is_ended t) (sym seen) ∙ ended) sum)))
