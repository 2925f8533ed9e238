-- Words and numbers, byte by byte.
use Rattle.std.proofs.Common.{◌≡◌, ◌<◌, ◌≤◌, ◌+◌, ◌-◌, ◌^◌, ℕ, Bool, true, false, cond, eqb, List, [], ◌∷◌, ◌++◌, length, take, drop, get_or, refl, sym, ap, subst, ◌∙◌, arith, inl, inr, lit<}
use Rattle.std.proofs.Math.Nat.{pow-le-pow_right}
use Rattle.std.proofs.lemmas.Bool.{ne_eqb, eq-eqb, cases_lt}
use Rattle.std.proofs.lemmas.List.{drop_more, drop_all, take_more, take-append-drop, drop-drop, length-take, length-drop, get_or-drop}
use Rattle.deck_lines.specs.Words.{Piece, is_space, joined, words_from, IsWord}

-- up to 17 digits stand for a number below 10^17
pub few_digits : (n i : ℕ) → n < 10 ^ i → i < 18 → n < 10 ^ 17
few_digits n i lt few = omega (arith, lt, pow-le-pow_right {n = 10} (lit< tt) {i = i} {j = 17} (omega (arith, few)))

-- ---- words

word_push : (text : List ℕ) (b : ℕ) → IsWord text → is_space b ≡ false → IsWord (text ++ b ∷ [])
word_push [] b h k = (k, tt)
word_push (c ∷ text) b h k = (h.0, word_push text b h.1 k)

-- ---- no word begins before its text

Above : ℕ → List Piece → Type 0
Above column [] = Unit {0}
Above column (w ∷ ws) = column ≤ w.column

Above-weaker : (low high : ℕ) (ws : List Piece) → low ≤ high → Above high ws → Above low ws
unfolding Above
Above-weaker low high [] le h = tt
Above-weaker low high (w ∷ ws) le h = omega (arith, h)

Above-cond : (t : Bool) (column : ℕ) (xs ys : List Piece) → Above column xs → Above column ys → Above column (cond t xs ys)
Above-cond true column xs ys h k = h
Above-cond false column xs ys h k = k

Above-joined : (column b : ℕ) (ws : List Piece) → Above column (joined column b ws)
unfolding Above
Above-joined column b [] = omega arith
Above-joined column b (w ∷ ws) = Above-cond (eqb w.column (column + 1)) column (record { column = column; text = b ∷ w.text } ∷ ws) (record { column = column; text = b ∷ [] } ∷ w ∷ ws) (omega arith) (omega arith)

Above-from : (column : ℕ) (bs : List ℕ) → Above column (words_from column bs)
unfolding Above
Above-from column [] = tt
Above-from column (b ∷ bs) =
    Above-cond (is_space b) column (words_from (column + 1) bs) (joined column b (words_from (column + 1) bs))
    (Above-weaker column (column + 1) (words_from (column + 1) bs) (omega arith) (Above-from (column + 1) bs))
    (Above-joined column b (words_from (column + 1) bs))

alone : (column b : ℕ) (ws : List Piece) → Above (column + 2) ws → joined column b ws ≡ record { column = column; text = b ∷ [] } ∷ ws
unfolding Above
alone column b [] h = refl
alone column b (w ∷ ws) h = rw (ne_eqb w.column (column + 1) (λ e. omega (arith, e, h))) refl

-- ---- a word, and the words behind it

-- the text is at its end, or goes on with a space
abbrev pub IsParted : List ℕ → Type 0
IsParted [] = Unit {0}
IsParted (b ∷ bs) = is_space b ≡ true

pub word_at : (column next b : ℕ) (run rest : List ℕ) → IsWord (b ∷ run) → IsParted rest → next ≡ column + length (b ∷ run) → words_from column (b ∷ run ++ rest) ≡ record { column = column; text = b ∷ run } ∷ words_from next rest
word_at column next b [] [] h p e = rw h.0 refl
word_at column next b [] (s ∷ rest) h p e =
    let n : next ≡ column + 1 = omega (arith, e) in
    rw (n, h.0, p) (alone column b (words_from (column + 1 + 1) rest) (Above-weaker (column + 2) (column + 1 + 1) (words_from (column + 1 + 1) rest) (omega arith) (Above-from (column + 1 + 1) rest)))
word_at column next b (c ∷ run) rest h p e =
    rw (h.0, word_at (column + 1) next c run rest h.1 p (omega (arith, e)), eq-eqb (column + 1) (column + 1) refl) refl

parted : (line : List ℕ) (end : ℕ) → (end < length line → is_space (get_or line end 0) ≡ true) → IsParted (drop end line)
parted line end h =
    elim (cases_lt end (length line)) [
      | inl lt ↦ rw (drop_more line end 0 lt) (h lt)
      | inr le ↦ rw (drop_all end line le) tt
    ]

some_word : (text : List ℕ) → 0 < length text → (b : ℕ) × (run : List ℕ) × (text ≡ b ∷ run)
some_word [] h = absurd (omega (arith, h))
some_word (b ∷ run) h = (b, run, refl)

cut : (line : List ℕ) (start end : ℕ) (run : List ℕ) → take (end - start) (drop start line) ≡ run → start + (end - start) ≡ end → drop start line ≡ run ++ drop end line
cut line start end run e far = sym (take-append-drop (end - start) (drop start line)) ∙ ap (λ (t : List ℕ). t ++ drop (end - start) (drop start line)) e ∙ ap (λ (t : List ℕ). run ++ t) (drop-drop (end - start) start line ∙ ap (λ (i : ℕ). drop i line) far)

pub word_step : (line : List ℕ) (start end : ℕ) → start < end → end ≤ length line → IsWord (take (end - start) (drop start line)) → (end < length line → is_space (get_or line end 0) ≡ true)
    → words_from (start + 1) (drop start line) ≡ record { column = start + 1; text = take (end - start) (drop start line) } ∷ words_from (end + 1) (drop end line)
word_step line start end lt le word stops =
    let len : length (take (end - start) (drop start line)) ≡ end - start = omega (arith, length-take (end - start) (drop start line), length-drop start line) in
    let w = some_word (take (end - start) (drop start line)) (omega (arith, len)) in
    let parts : drop start line ≡ w.0 ∷ w.1 ++ drop end line = cut line start end (w.0 ∷ w.1) w.2 (omega arith) in
    let size : length (w.0 ∷ w.1) ≡ end - start = sym (ap length w.2) ∙ len in
    let one = word_at (start + 1) (end + 1) w.0 w.1 (drop end line) (subst IsWord w.2 word) (parted line end stops) (omega (arith, size)) in
    ap (words_from (start + 1)) parts ∙ one ∙ ap (λ (t : List ℕ). record { column = start + 1; text = t } ∷ words_from (end + 1) (drop end line)) (sym w.2)

pub word_more : (line : List ℕ) (start i : ℕ) → start ≤ i → i < length line → IsWord (take (i - start) (drop start line)) → is_space (get_or line i 0) ≡ false → IsWord (take (i + 1 - start) (drop start line))
word_more line start i le lt word here =
    let k : i + 1 - start ≡ i - start + 1 = omega arith in
    let j : start + (i - start) ≡ i = omega arith in
    rw (k, take_more (drop start line) (i - start) 0 (omega (arith, length-drop start line))) (word_push (take (i - start) (drop start line)) _ word (rw (get_or-drop start line (i - start) 0, j) here))
