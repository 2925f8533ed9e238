-- Words that are put one space apart, and numbers that are written out.
use Rattle.std.proofs.Common.{◌≡◌, ◌==◌, ℕ, zero, suc, ◌+◌, ◌-◌, ◌*◌, ◌/◌, ◌%◌, ◌^◌, ◌<◌, ◌≤◌, Bool, true, false, cond, ◌&&◌, ◌||◌, List, [], ◌∷◌, ◌++◌, length, Option, None, Some, refl, ap, ◌∙◌, arith}
use Rattle.std.specs.Prelude.{nat_le, slice_index, decimal}
use Rattle.std.specs.List.{list_all}
use Rattle.std.proofs.lemmas.Bool.Decides.{nat_tests}
use Rattle.std.proofs.lemmas.List.Folds.{list_all-append}
use Rattle.std.proofs.lemmas.Fmt.{decimal_by_steps, decimal_nonempty, length-decimal-le}
use Rattle.std.proofs.lemmas.Bool.{and_parts}
use Rattle.deck_lines.specs.Words.{Piece, is_space, is_digit, words_from, number_after, number_of, IsWord}
use Rattle.deck_lines.specs.Grammar.{is_line_byte, bad_byte, less_return}
use Rattle.deck_lines.specs.Canonical.{spaced}
use Rattle.deck_lines.proofs.Bytewise.{IsParted, word_at}

-- ---- bytes

-- a byte that is printed, and no space
abbrev pub is_plain : ℕ → Bool
is_plain b = nat_le 33 b && nat_le b 126

-- a word of such bytes
pub record IsPlain (w : List ℕ) : Type 0 where
  pub some : 0 < length w
  pub bytes : list_all is_plain w ≡ true

plain_no_space : (b : ℕ) → is_plain b ≡ true → is_space b ≡ false
plain_no_space b h = grind (arith, nat_tests)

plain_word : (w : List ℕ) → list_all is_plain w ≡ true → IsWord w
plain_word [] h = tt
plain_word (b ∷ bs) h = let p = and_parts (is_plain b) (list_all is_plain bs) h in (plain_no_space b p.0, plain_word bs p.1)

or-true : (b : Bool) → (b || true) ≡ true
or-true true = refl
or-true false = refl

plain_line : (w : List ℕ) → list_all is_plain w ≡ true → list_all is_line_byte w ≡ true
plain_line [] h = refl
plain_line (b ∷ bs) h = let p = and_parts (is_plain b) (list_all is_plain bs) h in rw (p.0, or-true (is_space b), plain_line bs p.1) refl

pub bad_byte-none : (column : ℕ) (text : List ℕ) → list_all is_line_byte text ≡ true → bad_byte column text ≡ None
bad_byte-none column [] h = refl
bad_byte-none column (b ∷ bs) h = let p = and_parts (is_line_byte b) (list_all is_line_byte bs) h in rw (p.0, bad_byte-none (column + 1) bs p.1) refl

no_return : (b : ℕ) → is_line_byte b ≡ true → (b == 13) ≡ false
no_return b h = grind (arith, nat_tests)

return_nowhere : (text : List ℕ) (i : ℕ) → list_all is_line_byte text ≡ true → (slice_index text i == 13) ≡ false
return_nowhere [] i h = refl
return_nowhere (b ∷ bs) zero h = no_return b (and_parts (is_line_byte b) (list_all is_line_byte bs) h).0
return_nowhere (b ∷ bs) (suc i) h = return_nowhere bs i (and_parts (is_line_byte b) (list_all is_line_byte bs) h).1

pub less_return-same : (text : List ℕ) → list_all is_line_byte text ≡ true → less_return text ≡ text
less_return-same text h = rw (return_nowhere text (length text - 1) h) refl

-- ---- words

-- words that stand one space apart, behind the place of a space
unfoldable pub placed : ℕ → List (List ℕ) → List Piece
placed column [] = []
placed column (w ∷ ws) = record { column = column + 1; text = w } ∷ placed (column + 1 + length w) ws

unfoldable pub past : ℕ → List (List ℕ) → ℕ
past column [] = column
past column (w ∷ ws) = past (column + 1 + length w) ws

pub placed-append : (column : ℕ) (vs ws : List (List ℕ)) → placed column (vs ++ ws) ≡ placed column vs ++ placed (past column vs) ws
unfolding placed past
placed-append column [] ws = refl
placed-append column (v ∷ vs) ws = ap (λ (ps : List Piece). record { column = column + 1; text = v } ∷ ps) (placed-append (column + 1 + length v) vs ws)

unfoldable pub ArePlain : List (List ℕ) → Type 0
ArePlain [] = Unit {0}
ArePlain (w ∷ ws) = IsPlain w × ArePlain ws

pub ArePlain-append : (vs ws : List (List ℕ)) → ArePlain vs → ArePlain ws → ArePlain (vs ++ ws)
unfolding ArePlain
ArePlain-append [] ws p q = q
ArePlain-append (v ∷ vs) ws p q = (p.0, ArePlain-append vs ws p.1 q)

spaced_parted : (ws : List (List ℕ)) → IsParted (spaced ws)
spaced_parted [] = tt
spaced_parted (w ∷ ws) = refl

word_placed : (column next : ℕ) (w rest : List ℕ) → IsPlain w → IsParted rest → next ≡ column + length w → words_from column (w ++ rest) ≡ record { column = column; text = w } ∷ words_from next rest
word_placed column next [] rest p parted e = absurd (omega (arith, p.some))
word_placed column next (b ∷ run) rest p parted e = word_at column next b run rest (plain_word (b ∷ run) p.bytes) parted e

pub words_placed : (column : ℕ) (ws : List (List ℕ)) → ArePlain ws → words_from column (spaced ws) ≡ placed column ws
unfolding placed ArePlain
words_placed column [] p = refl
words_placed column (w ∷ ws) p = word_placed (column + 1) (column + 1 + length w) w (spaced ws) p.0 (spaced_parted ws) refl ∙ ap (λ (ps : List Piece). record { column = column + 1; text = w } ∷ ps) (words_placed (column + 1 + length w) ws p.1)

pub all_words : (first : List ℕ) (ws : List (List ℕ)) → IsPlain first → ArePlain ws → words_from 1 (first ++ spaced ws) ≡ record { column = 1; text = first } ∷ placed (1 + length first) ws
all_words first ws p q = word_placed 1 (1 + length first) first (spaced ws) p (spaced_parted ws) refl ∙ ap (λ (ps : List Piece). record { column = 1; text = first } ∷ ps) (words_placed (1 + length first) ws q)

spaced_line : (ws : List (List ℕ)) → ArePlain ws → list_all is_line_byte (spaced ws) ≡ true
unfolding ArePlain
spaced_line [] p = refl
spaced_line (w ∷ ws) p = list_all-append is_line_byte w (spaced ws) ∙ rw (plain_line w p.0.bytes, spaced_line ws p.1) refl

pub text_line_bytes : (first : List ℕ) (ws : List (List ℕ)) → IsPlain first → ArePlain ws → list_all is_line_byte (first ++ spaced ws) ≡ true
text_line_bytes first ws p q = list_all-append is_line_byte first (spaced ws) ∙ rw (plain_line first p.bytes, spaced_line ws q) refl

-- ---- numbers

number_after-append : (m n : ℕ) (ds es : List ℕ) → number_after m ds ≡ Some n → number_after m (ds ++ es) ≡ number_after n es
number_after-append m n [] es e = let same : m ≡ n = cc in ap (λ (x : ℕ). number_after x es) same
number_after-append m n (d ∷ ds) es e = after_digit (is_digit d) (number_after (10 * m + (d - 48)) ds) (number_after (10 * m + (d - 48)) (ds ++ es)) n (number_after n es) e (λ rest. number_after-append (10 * m + (d - 48)) n ds es rest)
  where
    after_digit : (b : Bool) (short long : Option ℕ) (n : ℕ) (end : Option ℕ) → cond b short None ≡ Some n → (short ≡ Some n → long ≡ end) → cond b long None ≡ end
    after_digit true short long n end e h = h e
    after_digit false short long n end e h = absurd cc

-- digits that spell a number
pub record Spells (n : ℕ) (ds : List ℕ) : Type 0 where
  pub value : number_after 0 ds ≡ Some n
  pub bytes : list_all is_plain ds ≡ true

digit_true : (d : ℕ) → d < 10 → is_digit (48 + d) ≡ true
digit_true d h = grind (arith, nat_tests)

digit_plain : (d : ℕ) → d < 10 → is_plain (48 + d) ≡ true
digit_plain d h = grind (arith, nat_tests)

one_digit : (m d : ℕ) → d < 10 → number_after m ((48 + d) ∷ []) ≡ Some (10 * m + d)
one_digit m d h = let e : 10 * m + (48 + d - 48) ≡ 10 * m + d = omega arith in rw (digit_true d h, e) refl

spells_digit : (n : ℕ) → n < 10 → Spells n ((48 + n) ∷ [])
spells_digit n h = record { value = let e : 10 * 0 + n ≡ n = omega arith in one_digit 0 n h ∙ ap (λ (x : ℕ). Some x) e; bytes = rw (digit_plain n h) refl }

spells_more : (n : ℕ) (ds : List ℕ) → 10 ≤ n → Spells (n / 10) ds → Spells n (ds ++ (48 + n % 10) ∷ [])
spells_more n ds h s =
    let low : n % 10 < 10 = omega arith in
    let e : 10 * (n / 10) + n % 10 ≡ n = omega arith in
    record {
      value = number_after-append 0 (n / 10) ds ((48 + n % 10) ∷ []) s.value ∙ one_digit (n / 10) (n % 10) low ∙ ap (λ (x : ℕ). Some x) e;
      bytes = list_all-append is_plain ds ((48 + n % 10) ∷ []) ∙ rw (s.bytes, digit_plain (n % 10) low) refl;
    }

pub spells : (n : ℕ) → n < 2 ^ 64 → Spells n (decimal n)
spells n h = decimal_by_steps Spells spells_digit spells_more n h

pub number_of-decimal : (n : ℕ) → n < 10 ^ 10 → number_of (decimal n) ≡ Some n
number_of-decimal n h =
    let few : length (decimal n) ≤ 10 = length-decimal-le 10 n (omega arith) h (omega arith) in
    let some : 0 < length (decimal n) = decimal_nonempty n (omega arith) in
    spelled (decimal n) n (omega arith) (omega arith) ((spells n (omega arith)).value)
  where
    spelled : (ds : List ℕ) (n : ℕ) → 1 ≤ length ds → length ds ≤ 18 → number_after 0 ds ≡ Some n → number_of ds ≡ Some n
    spelled ds n low high e = let t : (nat_le 1 (length ds) && nat_le (length ds) 18) ≡ true = grind (arith, nat_tests) in rw t e

pub decimal_plain : (n : ℕ) → n < 10 ^ 10 → IsPlain (decimal n)
decimal_plain n h = record { some = decimal_nonempty n (omega arith); bytes = (spells n (omega arith)).bytes }

pub decimal_short : (n : ℕ) → n < 10 ^ 10 → length (decimal n) ≤ 10
decimal_short n h = length-decimal-le 10 n (omega arith) h (omega arith)
