-- What a read from the bytes that a buffered reader holds leaves.
use Rattle.std.proofs.Common.{◌≡◌, ℕ, ◌++◌, ◌==◌, Bool, true, false, List, take, drop, Option, None, Some, if◌then◌else◌, sym, ap, subst, ◌∙◌}
use Rattle.std.proofs.lemmas.List.{append_assoc, take-append-drop}
use Rattle.std.specs.Io.Buffered.{reader_buffer, reader_capacity, reader_inner, reader_remaining}
use Rattle.std.specs.Io.KnownBytes.{Consumes, prepend_known}
use Rattle.std.specs.declared.io.buffered.BufReader.{BufReader}

-- the first bytes of what is held, and then the rest of it
consumed : (is_none : Bool) (held rest bytes : List ℕ) (inner : Option (List ℕ)) (n : ℕ) → rest ≡ drop n held → bytes ≡ take n held
    → Consumes (if is_none then None else prepend_known held inner) (if is_none then None else prepend_known rest inner) bytes
consumed true held rest bytes inner n rest_is bytes_is = tt
consumed false held rest bytes None n rest_is bytes_is = tt
consumed false held rest bytes (Some more) n rest_is bytes_is =
    sym (rw (rest_is, bytes_is) (sym (append_assoc (take n held) (drop n held) more) ∙ ap (λ xs. xs ++ more) (take-append-drop n held)))

-- a read of as many bytes as are held or fewer
pub held_consumed : {T A : Type 0} (remaining : T → Option (List ℕ)) (old new : BufReader T A) (bytes : List ℕ) (n : ℕ)
    → reader_buffer new ≡ drop n (reader_buffer old) → reader_inner new ≡ reader_inner old → reader_capacity new ≡ reader_capacity old
    → bytes ≡ take n (reader_buffer old) → Consumes (reader_remaining remaining old) (reader_remaining remaining new) bytes
held_consumed remaining old new bytes n rest inner capacity is =
    subst (λ k. Consumes (reader_remaining remaining old) (if k == 0 then None else prepend_known (reader_buffer new) (remaining (reader_inner new))) bytes)
    (sym capacity)
    (subst (λ i. Consumes (reader_remaining remaining old) (if reader_capacity old == 0 then None else prepend_known (reader_buffer new) (remaining i)) bytes)
    (sym inner) (consumed (reader_capacity old == 0) (reader_buffer old) (reader_buffer new) bytes (remaining (reader_inner old)) n rest is))
