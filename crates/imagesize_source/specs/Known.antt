-- The known bytes of an input.
use Rattle.std.specs.Prelude.{◌≡◌, ℕ, ◌+◌, ◌-◌, ◌^◌, ◌<◌, ◌≤◌, min, Bool, true, false, ◌&&◌, List, [], ◌∷◌, ◌++◌, length, drop, map, slice_index, nat_le, nat_lt, if◌then◌else◌, Option, None, Some, is_some, unwrap_or, flat_map, Err}
use Rattle.std.specs.List.{range_with_len}
use Rattle.imagesize_source.specs.declared.halt.Halt.{Halt}
use Rattle.imagesize_source.specs.declared.source.known.Missing.{Missing}
use Rattle.imagesize_source.specs.declared.span.Span.{Span}
use Rattle.imagesize_source.specs.declared.text.Text.{Text}
use Rattle.imagesize_source.specs.Agreement.{is_covered}
use Rattle.imagesize_source.specs.Errors.{end_of_input}
use Rattle.imagesize_source.specs.Input.{part, span_at}
use Rattle.imagesize_source.specs.Reading.{text_read}
use Rattle.imagesize_source.specs.State.{State, Parts, Runs}

-- how many bytes of a span lie within an input of n bytes
abbrev pub length_within : ℕ → Span → ℕ
length_within n s = min s.len (n - s.start)

-- whether the span contains the offset, in an input of n bytes
abbrev pub reaches : ℕ → Span → ℕ → Bool
reaches n s offset = nat_le s.start offset && nat_lt (offset - s.start) (length_within n s)

abbrev pub byte_of : List ℕ → ℕ → Option ℕ
byte_of bytes i = if nat_lt i (length bytes) then Some (slice_index bytes i) else None

-- The byte at an offset, from the first part that contains it. `bytes` are those of the parts, one part after
-- another.
abbrev pub byte_in_parts : ℕ → List Span → List ℕ → ℕ → Option ℕ
byte_in_parts n [] bytes offset = None
byte_in_parts n (s ∷ spans) bytes offset =
    if reaches n s offset then byte_of bytes (offset - s.start) else byte_in_parts n spans (drop (length_within n s) bytes) offset

-- An input that has the known bytes, and 1 at every other offset. No text ends with a 1, so each text in it goes on as
-- far as it can.
unfoldable pub filled_input : ℕ → List Span → List ℕ → List ℕ
filled_input n spans bytes = map (λ offset. unwrap_or (byte_in_parts n spans bytes offset) 1) (range_with_len 0 n)

-- the bytes of an input in these spans, one span after another
abbrev pub bytes_of : List ℕ → List Span → List ℕ
bytes_of d spans = flat_map (λ s. part d s.start s.len) spans

-- The input has n bytes, and `content` is its bytes in the spans. A part of a span past the end of the input has no
-- bytes.
pub record HasParts (d : List ℕ) (n : ℕ) (spans : List Span) (content : List ℕ) : Type 0 where
  pub as_long : length d ≡ n
  pub bytes : bytes_of d spans ≡ content

-- each offset of the seen spans is known
abbrev pub AllKnown : ℕ → List Span → List ℕ → List Span → Type 0
AllKnown n spans bytes seen = (offset : ℕ) → is_covered seen offset ≡ true → is_some (byte_in_parts n spans bytes offset) ≡ true

-- From the offset `floor` on, these last parts give the same bytes as all parts.
abbrev pub LeavesOut : ℕ → List Span → List ℕ → ℕ → List Span → List ℕ → Type 0
LeavesOut n spans bytes floor rest content =
    (offset : ℕ) → floor ≤ offset → byte_in_parts n spans bytes offset ≡ byte_in_parts n rest content offset

-- The known parts as a source. It counts no bytes, and a read of a missing byte fails.
abbrev pub parts_state : ℕ → List Span → List ℕ → List Span → Option Missing → State
parts_state n spans bytes seen missed = record {
  frame = record { told = n; budget = 0; counts = false; backing = Parts spans bytes };
  held = record { honest = nat_lt n (2 ^ 63); input = filled_input n spans bytes; can_fail = true };
  front = 0;
  taken = 0;
  place = 0;
  recorded = Some seen;
  missed = Some missed;
  failure = end_of_input;
  failed = None;
}

-- What is known of an input: its length, and the bytes of some spans, one span after another.
pub record KnownBytes : Type 0 where
  pub told : ℕ
  pub spans : List Span
  pub bytes : List ℕ

-- whether the byte at an offset is known
abbrev pub is_known : KnownBytes → ℕ → Bool
is_known k offset = is_some (byte_in_parts k.told k.spans k.bytes offset)

-- these bytes are known, from an offset on
abbrev pub AreKnown : KnownBytes → ℕ → List ℕ → Type 0
AreKnown k offset run = (i : ℕ) → i < length run → byte_in_parts k.told k.spans k.bytes (offset + i) ≡ Some (slice_index run i)

-- the input in which each byte that is not known is 1
abbrev pub input_of : KnownBytes → List ℕ
input_of k = filled_input k.told k.spans k.bytes

-- the known bytes as a source
abbrev pub known_state : KnownBytes → List Span → Option Missing → State
known_state k seen missed = parts_state k.told k.spans k.bytes seen missed

-- the missing bytes lie within the input, and the first of them is not known
abbrev pub Lacks : KnownBytes → Missing → Type 0
Lacks k m = (0 < m.sure) × (m.sure ≤ m.most) × (m.start + m.most ≤ k.told) × (is_known k m.start ≡ false)

-- the offset after the last byte that a failed read requests
abbrev pub end_of : Option Missing → ℕ
end_of None = 0
end_of (Some m) = m.start + m.most

-- A read of a text knows its first `found` bytes and misses `m`. It fails as `text_read` says.
abbrev pub MissesText : KnownBytes → Text → ℕ → ℕ → ℕ → Missing → Type 0
MissesText k text offset found most m =
    (seen : List Span) (missed : Option Missing) (b : State) → b ≡ known_state k (seen ++ span_at offset found) (Some m)
    → Runs {X = List ℕ} (known_state k seen missed) b (Err Halt.Failed) (text_read (input_of k) text offset most)
