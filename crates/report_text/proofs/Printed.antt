-- A printed line is read as the line that its first word begins.
use Rattle.std.proofs.Common.{◌≡◌, ◌==◌, ℕ, ◌+◌, ◌*◌, ◌^◌, ◌<◌, ◌≤◌, true, false, List, [], ◌∷◌, ◌++◌, length, All, None, Some, refl, ap, arith}
use Rattle.std.specs.Prelude.{◌≢◌, codes, decimal, slice_index}
use Rattle.std.specs.List.{list_all}
use Rattle.std.proofs.lemmas.Bool.Decides.{nat_tests}
use Rattle.std.proofs.lemmas.List.{length-append}
use Rattle.std.proofs.lemmas.List.Elements.{All-nil, All-cons}
use Rattle.deck_lines.specs.declared.line.Mode.TheVariants as modes
use Rattle.deck_lines.specs.declared.line_word.LineWord.{LineWord}
use Rattle.deck_lines.specs.Canonical as plain
use Rattle.deck_lines.specs.Grammar.{bad_byte, behind, is_line_byte, line_of, line_word_of, text_line}
use Rattle.deck_lines.proofs.Texts.{IsPlain, ArePlain, placed, all_words, text_line_bytes, bad_byte-none, less_return-same}
use Rattle.deck_lines.proofs.ReadLine.{below_limit}
use Rattle.std.proofs.lemmas.Bool.{and_parts}
use Rattle.report_text.specs.Lines.{line, spaced}
use Rattle.report_text.proofs.Digits.{digits_few, digits_plain}

-- ---- words

-- a word of printed bytes, at most as long as the longest of a report
pub record IsShown (w : List ℕ) : Type 0 where
  pub plain : IsPlain w
  pub short : length w ≤ 24

abbrev pub AreShown : List (List ℕ) → Type 0
AreShown [] = Unit {0}
AreShown (w ∷ ws) = IsShown w × AreShown ws

pub AreShown-append : (vs ws : List (List ℕ)) → AreShown vs → AreShown ws → AreShown (vs ++ ws)
AreShown-append [] ws p q = q
AreShown-append (v ∷ vs) ws p q = (p.0, AreShown-append vs ws p.1 q)

shown_plain : (ws : List (List ℕ)) → AreShown ws → ArePlain ws
unfolding ArePlain
shown_plain [] h = tt
shown_plain (w ∷ ws) h = (h.0.plain, shown_plain ws h.1)

pub digits_shown : (n : ℕ) → n < 2 ^ 64 → IsShown (decimal n)
digits_shown n h = record { plain = digits_plain n h; short = omega (arith, digits_few n h) }

-- ---- the text of a line

same_spaces : (ws : List (List ℕ)) → spaced ws ≡ plain.spaced ws
same_spaces [] = refl
same_spaces (w ∷ ws) = ap (λ (t : List ℕ). 32 ∷ w ++ t) (same_spaces ws)

spaced_length : (ws : List (List ℕ)) → AreShown ws → length (plain.spaced ws) ≤ 25 * length ws
spaced_length [] h = omega arith
spaced_length (w ∷ ws) h = omega (arith, length-append (32 ∷ w) (plain.spaced ws), h.0.short, spaced_length ws h.1)

line_byte : (b : ℕ) → is_line_byte b ≡ true → b ≢ 10
line_byte b h e = grind (arith, nat_tests)

pub no_feed : (text : List ℕ) → list_all is_line_byte text ≡ true → All (λ b. b ≢ 10) text
no_feed [] h = All-nil (λ (b : ℕ). b ≢ 10)
no_feed (b ∷ bs) h = let p = and_parts (is_line_byte b) (list_all is_line_byte bs) h in All-cons (λ (c : ℕ). c ≢ 10) b bs (line_byte b p.0) (no_feed bs p.1)

-- ---- the line of a text

-- a word that begins a line of a certificate
pub record Begins (word : LineWord) (first : List ℕ) : Type 0 where
  pub shown : IsShown first
  pub no_comment : (slice_index first 0 == 35) ≡ false
  pub known : line_word_of modes.Certificate first ≡ Some word

-- the text of a line without its line feed
abbrev pub text_of : List ℕ → List (List ℕ) → List ℕ
text_of first others = first ++ plain.spaced others

first_read : (word : LineWord) (first : List ℕ) (others : List (List ℕ)) (text : List ℕ) → Begins word first → bad_byte 1 text ≡ None
    → text_line modes.Certificate text (record { column = 1; text = first } ∷ placed (1 + length first) others) ≡ behind word (length text + 1) (placed (1 + length first) others)
first_read word first others text b none = rw (b.no_comment, none, b.known) refl

pub record IsReadable (word : LineWord) (first : List ℕ) (others : List (List ℕ)) : Type 0 where
  pub reads : line_of modes.Certificate (text_of first others) ≡ behind word (length (text_of first others) + 1) (placed (1 + length first) others)
  pub unbroken : All (λ b. b ≢ 10) (text_of first others)
  pub whole : line first others ≡ text_of first others ++ codes "\n"

pub readable : (word : LineWord) (first : List ℕ) (others : List (List ℕ)) → Begins word first → AreShown others → length others ≤ 100 → IsReadable word first others
unfolding line_of
readable word first others b h few =
    let text = text_of first others in
    let bytes : list_all is_line_byte text ≡ true = text_line_bytes first others b.shown.plain (shown_plain others h) in
    let short : length text ≤ 4096 = omega (arith, length-append first (plain.spaced others), b.shown.short, spaced_length others h, few) in
    record {
      reads = rw (below_limit (length text) short, less_return-same text bytes, all_words first others b.shown.plain (shown_plain others h))
          (first_read word first others text b (bad_byte-none 1 text bytes));
      unbroken = no_feed text bytes;
      whole = ap (λ (t : List ℕ). first ++ t ++ codes "\n") (same_spaces others);
    }
