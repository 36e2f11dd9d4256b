-- Texts on one line.
use Rattle.std.proofs.Common.{◌≡◌, ◌≢◌, ◌∙◌, ap, sym, refl, arith, rules, ℕ, zero, suc, ◌/◌, ◌%◌, ◌<◌, Bool, true, false, ◌||◌, ◌==◌, if◌then◌else◌, List, [], ◌∷◌, ◌++◌, length, get_or, Option, None, Some, Result, Ok, Err, IfSome, OnOk, decimal, option_map, append-nil, append_assoc}
use Rattle.std.proofs.lemmas.Bool.{cond_both}
use Rattle.std.proofs.lemmas.Bool.Decides.{nat_tests}
use Rattle.std.proofs.lemmas.List.{map-append}
use Rattle.std.proofs.lemmas.List.Folds.{list_any-append}
use Rattle.std.specs.Fmt.{WritesText, digit_glyph, digits, digits_onto}
use Rattle.std.specs.Fmt.InlineText.{AppendsIfIntact, IsIntact, inline_text}
use Rattle.std.specs.declared.fmt.InlineText.{InlineText}
use Rattle.std.specs.declared.io.Error.{Error}
use Rattle.std.specs.Io.KnownBytes.{Appends}
use Rattle.std.specs.List.{FoldsTo, concat, list_any}
use Rattle.imagesize_probe.specs.Line.{is_line_feed, one_line, refused_line, IsOneLine}
use Rattle.imagesize_source.specs.Reason.{error_text, shown_byte, tag_text}
use Rattle.imagesize_source.specs.declared.error.ImageError.{ImageError}
use Rattle.imagesize_source.specs.declared.error.ImageError.TheVariants.{IoError}
use Rattle.imagesize_source.specs.declared.error.Reason.TheVariants.{Fault, BudgetSpent, NoDelimiter, InvalidHeifBoxSize, InvalidJxlBoxSize}

-- what is written for a byte is no line feed
no_feed : (b : Bool) (byte : ℕ) → is_line_feed byte ≡ b → is_line_feed (if b then 32 else byte) ≡ false
no_feed b byte is = grind (arith, is)

-- a text with its line feeds replaced has none
pub one_line_plain : (text : List ℕ) → IsOneLine (one_line text)
one_line_plain [] = refl
one_line_plain (byte ∷ text) =
    let here : is_line_feed (if is_line_feed byte then 32 else byte) ≡ false = no_feed (is_line_feed byte) byte refl in
    rw here (one_line_plain text)

-- a text without a line feed stays as it is
first_stays : (b : Bool) (byte : ℕ) (text : List ℕ) → (b || list_any is_line_feed text) ≡ false
    → (IsOneLine text → one_line text ≡ text) → (if b then 32 else byte) ∷ one_line text ≡ byte ∷ text
first_stays true byte text plain _ = absurd (cc)
first_stays false byte text plain stays = ap (λ rest. byte ∷ rest) (stays plain)

pub plain_stays : (text : List ℕ) → IsOneLine text → one_line text ≡ text
plain_stays [] _ = refl
plain_stays (byte ∷ text) plain = first_stays (is_line_feed byte) byte text plain (plain_stays text)

-- the same by index
plain_at : (text : List ℕ) → ((i : ℕ) → i < length text → get_or text i 0 ≢ 10) → IsOneLine text
plain_at [] _ = refl
plain_at (byte ∷ text) none =
    let other : byte ≢ 10 = none 0 (omega arith) in
    let here : is_line_feed byte ≡ false = grind (arith, nat_tests, other) in
    rw here (plain_at text (λ i less. none (suc i) (omega arith)))

-- what was written up to a line feed, and a space for it
pub next_line : (text done rest line after : List ℕ) → one_line text ≡ done ++ one_line rest
    → rest ≡ line ++ (10 ∷ after) → ((i : ℕ) → i < length line → get_or line i 0 ≢ 10)
    → one_line text ≡ (done ++ (line ++ (32 ∷ []))) ++ one_line after
next_line text done rest line after is cut none =
    let stays : one_line line ≡ line = plain_stays line (plain_at line none) in
    let both : one_line (line ++ (10 ∷ after)) ≡ one_line line ++ (32 ∷ one_line after) = simp map-append in
    search (rules, is, cut, both, stays, append_assoc)

-- what is left is without a line feed
pub last_line : (text done rest : List ℕ) → one_line text ≡ done ++ one_line rest
    → ((i : ℕ) → i < length rest → get_or rest i 0 ≢ 10) → done ++ rest ≡ one_line text
last_line text done rest is none = ap (λ l. done ++ l) (sym (plain_stays rest (plain_at rest none))) ∙ sym is

-- several writes to a kept text append what they wrote together
kept_calls : {n : ℕ} (s : InlineText n) (parts : List (List ℕ)) (t : InlineText n) → FoldsTo AppendsIfIntact s parts t
    → IsIntact s → inline_text t ≡ inline_text s ++ concat parts
kept_calls s [] t same intact = ap inline_text (sym same) ∙ sym (append-nil (inline_text s))
kept_calls s (part ∷ parts) t calls intact =
    let first = calls.1 intact in
    kept_calls calls.0 parts t calls.2 first.0 ∙ ap (λ l. l ++ concat parts) first.1
    ∙ append_assoc (inline_text s) part (concat parts)

-- a text that was stored whole
pub kept_text : {n : ℕ} (o : Option (List ℕ)) (s t : InlineText n) → inline_text s ≡ [] → IsIntact s
    → WritesText AppendsIfIntact s o t → IfSome o (λ text. inline_text t ≡ text)
kept_text None s t _ _ _ = tt
kept_text (Some text) s t none intact wrote =
    kept_calls s wrote.parts t wrote.calls intact ∙ ap (λ l. l ++ concat wrote.parts) none ∙ wrote.whole

-- a digit is no line feed, and a number has none
plain_glyph : (upper : Bool) (d : ℕ) → is_line_feed (digit_glyph upper d) ≡ false
plain_glyph upper d = grind (arith, nat_tests)

plain_digits : (k base : ℕ) (upper : Bool) (n : ℕ) (text : List ℕ) → IsOneLine text
    → IsOneLine (digits_onto k base upper n text)
plain_digits zero base upper n text plain = plain
plain_digits (suc k) base upper n text plain =
    let more : IsOneLine (digit_glyph upper (n % base) ∷ text) = rw (plain_glyph upper (n % base)) plain in
    cond_both (n / base == 0) (digit_glyph upper (n % base) ∷ text) _ IsOneLine (λ _. more)
    (λ _. plain_digits k base upper (n / base) (digit_glyph upper (n % base) ∷ text) more)

plain_decimal : (n : ℕ) → IsOneLine (decimal n)
unfolding digits
plain_decimal n = plain_digits 64 10 false n [] refl

-- a tag is shown without a line feed
plain_shown : (byte : ℕ) → is_line_feed (shown_byte byte) ≡ false
plain_shown byte = grind (arith, nat_tests)

plain_tag : (tag : List ℕ) → IsOneLine (tag_text tag)
plain_tag [] = refl
plain_tag (byte ∷ tag) = rw (plain_shown byte) (plain_tag tag)

-- the stated text of an error is without a line feed
pub plain_error : (e : ImageError) → IfSome (error_text e) IsOneLine
plain_error (IoError (Fault error)) = tt
plain_error (IoError (BudgetSpent budget)) = simp (list_any-append, plain_decimal)
plain_error (IoError (NoDelimiter max_size)) = simp (list_any-append, plain_decimal)
plain_error (IoError (InvalidHeifBoxSize size)) = simp plain_decimal
plain_error (IoError (InvalidJxlBoxSize tag size)) = simp (list_any-append, plain_decimal, plain_tag)
plain_error _ = refl

-- the line of an error with a stated text has that very text
stated_line : (text : Option (List ℕ)) (name : List ℕ) (a b : Option (List ℕ)) → IfSome text IsOneLine
    → IfSome text (λ t. Appends a b (refused_line name (one_line t)))
    → IfSome text (λ t. Appends a b (refused_line name t)) × IfSome (option_map (refused_line name) text) (Appends a b)
stated_line None name a b _ _ = (tt, tt)
stated_line (Some text) name a b plain wrote = let same = rw (plain_stays text plain) at wrote in (same, same)

module _ (e : ImageError) (name : List ℕ) (a b : Option (List ℕ)) where
  pub error_line : (r : Result Bool Error)
      → OnOk r (IfSome (error_text e) (λ t. Appends a b (refused_line name (one_line t))))
      → OnOk r (IfSome (error_text e) (λ t. Appends a b (refused_line name t)))
  error_line (Err _) _ = tt
  error_line (Ok _) wrote = (stated_line (error_text e) name a b (plain_error e) wrote).0

  -- the same, as the line of an answer
  pub error_answer : (r : Result Bool Error)
      → OnOk r (IfSome (error_text e) (λ t. Appends a b (refused_line name (one_line t))))
      → OnOk r (IfSome (option_map (refused_line name) (error_text e)) (Appends a b))
  error_answer (Err _) _ = tt
  error_answer (Ok _) wrote = (stated_line (error_text e) name a b (plain_error e) wrote).1
