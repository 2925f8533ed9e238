-- The line of the text of a statement.
use Rattle.std.proofs.Common.{◌≡◌, ◌==◌, ℕ, ◌+◌, ◌*◌, ◌≤◌, true, false, ◌&&◌, List, [], ◌∷◌, ◌++◌, length, map, None, Some, Ok, refl, sym, ap, subst, ◌∙◌, append_assoc, arith, inl, inr}
use Rattle.std.specs.Prelude.{nat_le, nat_lt, codes, decimal, slice_index}
use Rattle.std.specs.List.{list_all}
use Rattle.std.specs.Str.{bytes_eq}
use Rattle.std.proofs.lemmas.Bool.Decides.{nat_tests}
use Rattle.std.proofs.lemmas.Bool.{and_parts, eqb-true, leb-true, or_cases}
use Rattle.std.proofs.lemmas.List.{length-append}
use Rattle.std.proofs.lemmas.Slice.Eq.{bytes_eq-Decides}
use Rattle.deck_lines.specs.declared.form.Naming.{Naming}
use Rattle.deck_lines.specs.declared.form.Naming.TheVariants as naming
use Rattle.deck_lines.specs.declared.head_word.HeadWord.{HeadWord}
use Rattle.deck_lines.specs.declared.head_word.HeadWord.TheVariants as words
use Rattle.deck_lines.specs.declared.line.Line.TheVariants as lines
use Rattle.deck_lines.specs.declared.line.Mode.{Mode}
use Rattle.deck_lines.specs.declared.line.Mode.TheVariants as modes
use Rattle.deck_lines.specs.declared.statement.Statement.{Statement}
use Rattle.deck_lines.specs.Statements.{layout_of, spelling_of, head_word_of, word_of, index_of, is_named, is_name_byte, IsStatement}
use Rattle.deck_lines.specs.Grammar.{line_word_of, has_statements, bad_byte, text_line, line_of}
use Rattle.deck_lines.specs.Canonical.{spaced, name_words, words_behind, text_of, StatementsReadBack}
use Rattle.deck_lines.proofs.Ranges.{allows_each-length}
use Rattle.deck_lines.proofs.Texts.{is_plain, IsPlain, ArePlain, ArePlain-append, placed, all_words, text_line_bytes, bad_byte-none, less_return-same, decimal_plain, decimal_short}
use Rattle.deck_lines.proofs.ReadBack.{AreShort, fields_short, groups_short, groups_length, suit, parts, statement_back}

-- ---- plain words

numbers_plain : (ns : List ℕ) → AreShort ns → ArePlain (map decimal ns)
unfolding AreShort ArePlain
numbers_plain [] s = tt
numbers_plain (n ∷ ns) s = (decimal_plain n s.0, numbers_plain ns s.1)

name_byte_plain : (b : ℕ) → is_name_byte b ≡ true → is_plain b ≡ true
name_byte_plain b h = grind (arith, nat_tests)

name_bytes_plain : (bs : List ℕ) → list_all is_name_byte bs ≡ true → list_all is_plain bs ≡ true
name_bytes_plain [] h = refl
name_bytes_plain (b ∷ bs) h = let p = and_parts (is_name_byte b) (list_all is_name_byte bs) h in rw (name_byte_plain b p.0, name_bytes_plain bs p.1) refl

-- a name that may stand in a line
record IsWritten (name : List ℕ) : Type 0 where
  plain : ArePlain (name_words name)
  short : length name ≤ 8

written : (b : ℕ) (bs : List ℕ) → list_all is_plain (b ∷ bs) ≡ true → length (b ∷ bs) ≤ 8 → IsWritten (b ∷ bs)
unfolding ArePlain
written b bs plain short = record { plain = (record { some = omega arith; bytes = plain }, tt); short = short }

same_bytes : (xs ys : List ℕ) → bytes_eq xs ys ≡ true → xs ≡ ys
same_bytes xs ys h = grind (arith, bytes_eq-Decides xs ys)

merit : IsWritten (codes "MERIT")
unfolding ArePlain
merit = record { plain = (record { some = omega arith; bytes = refl }, tt); short = omega arith }

base : IsWritten (codes "BASE")
unfolding ArePlain
base = record { plain = (record { some = omega arith; bytes = refl }, tt); short = omega arith }

name_written : (kind : Naming) (name : List ℕ) → is_named kind name ≡ true → IsWritten name
unfolding ArePlain
name_written naming.Unnamed [] h = record { plain = tt; short = omega arith }
name_written naming.Unnamed (b ∷ bs) h = absurd (omega (arith, eqb-true (length (b ∷ bs)) 0 h))
name_written naming.Named [] h = absurd cc
name_written naming.Named (b ∷ bs) h =
    let p = and_parts (nat_le 1 (length (b ∷ bs)) && nat_le (length (b ∷ bs)) 8) (list_all is_name_byte (b ∷ bs)) h in
    let q = and_parts (nat_le 1 (length (b ∷ bs))) (nat_le (length (b ∷ bs)) 8) p.0 in
    written b bs (name_bytes_plain (b ∷ bs) p.1) (leb-true _ _ q.1)
name_written naming.Rule name h =
    elim (or_cases (bytes_eq name (codes "MERIT")) (bytes_eq name (codes "BASE")) h) [
      | inl e ↦ subst IsWritten (sym (same_bytes name (codes "MERIT") e)) merit
      | inr e ↦ subst IsWritten (sym (same_bytes name (codes "BASE") e)) base
    ]

-- ---- the length

spaced-append : (us vs : List (List ℕ)) → spaced (us ++ vs) ≡ spaced us ++ spaced vs
spaced-append [] vs = refl
spaced-append (u ∷ us) vs = ap (λ (t : List ℕ). 32 ∷ u ++ t) (spaced-append us vs) ∙ sym (append_assoc (32 ∷ u) (spaced us) (spaced vs))

numbers_length : (ns : List ℕ) → AreShort ns → length (spaced (map decimal ns)) ≤ 11 * length ns
unfolding AreShort
numbers_length [] s = omega arith
numbers_length (n ∷ ns) s = omega (arith, length-append (32 ∷ decimal n) (spaced (map decimal ns)), decimal_short n s.0, numbers_length ns s.1)

name_length : (name : List ℕ) → length name ≤ 8 → length (spaced (name_words name)) ≤ 9
name_length [] h = omega arith
name_length (b ∷ bs) h = omega (arith, length-append (32 ∷ b ∷ bs) [])

text_length : (first : List ℕ) (index : List ℕ) (name : List ℕ) (numbers : List ℕ) → length first ≤ 10 → length index ≤ 3 → length name ≤ 8 → length numbers ≤ 128 → AreShort index → AreShort numbers
    → length (first ++ spaced (map decimal index ++ (name_words name ++ map decimal numbers))) ≤ 4096
text_length first index name numbers f i n m si sn =
    rw (spaced-append (map decimal index) (name_words name ++ map decimal numbers), spaced-append (name_words name) (map decimal numbers))
    (omega (arith, length-append first (spaced (map decimal index) ++ (spaced (name_words name) ++ spaced (map decimal numbers))), length-append (spaced (map decimal index)) (spaced (name_words name) ++ spaced (map decimal numbers)), length-append (spaced (name_words name)) (spaced (map decimal numbers)), numbers_length index si, name_length name n, numbers_length numbers sn))

-- ---- the first word

no_comment : (word : HeadWord) → (slice_index (spelling_of word) 0 == 35) ≡ false
no_comment words.Years = refl
no_comment words.Periods = refl
no_comment words.Rate = refl
no_comment words.Ens = refl
no_comment words.Rule = refl
no_comment words.Cases = refl
no_comment words.Conditions = refl
no_comment words.Shape = refl
no_comment words.Fuel = refl
no_comment words.Load = refl
no_comment words.Plant = refl
no_comment words.Add = refl
no_comment words.Retire = refl
no_comment words.Thermal = refl
no_comment words.Hydro = refl
no_comment words.Project = refl
no_comment words.Water = refl
no_comment words.Tunnel = refl
no_comment words.Margin = refl
no_comment words.Lolp = refl
no_comment words.Version = refl
no_comment words.EnsMore = refl
no_comment words.Escalate = refl
no_comment words.Grid = refl

no_other_line : (mode : Mode) (word : HeadWord) → has_statements mode ≡ true → line_word_of mode (spelling_of word) ≡ None
no_other_line modes.Plan words.Years h = refl
no_other_line modes.Plan words.Periods h = refl
no_other_line modes.Plan words.Rate h = refl
no_other_line modes.Plan words.Ens h = refl
no_other_line modes.Plan words.Rule h = refl
no_other_line modes.Plan words.Cases h = refl
no_other_line modes.Plan words.Conditions h = refl
no_other_line modes.Plan words.Shape h = refl
no_other_line modes.Plan words.Fuel h = refl
no_other_line modes.Plan words.Load h = refl
no_other_line modes.Plan words.Plant h = refl
no_other_line modes.Plan words.Add h = refl
no_other_line modes.Plan words.Retire h = refl
no_other_line modes.Plan words.Thermal h = refl
no_other_line modes.Plan words.Hydro h = refl
no_other_line modes.Plan words.Project h = refl
no_other_line modes.Plan words.Water h = refl
no_other_line modes.Plan words.Tunnel h = refl
no_other_line modes.Plan words.Margin h = refl
no_other_line modes.Plan words.Lolp h = refl
no_other_line modes.Plan words.Version h = refl
no_other_line modes.Plan words.EnsMore h = refl
no_other_line modes.Plan words.Escalate h = refl
no_other_line modes.Plan words.Grid h = refl
no_other_line modes.Check words.Years h = refl
no_other_line modes.Check words.Periods h = refl
no_other_line modes.Check words.Rate h = refl
no_other_line modes.Check words.Ens h = refl
no_other_line modes.Check words.Rule h = refl
no_other_line modes.Check words.Cases h = refl
no_other_line modes.Check words.Conditions h = refl
no_other_line modes.Check words.Shape h = refl
no_other_line modes.Check words.Fuel h = refl
no_other_line modes.Check words.Load h = refl
no_other_line modes.Check words.Plant h = refl
no_other_line modes.Check words.Add h = refl
no_other_line modes.Check words.Retire h = refl
no_other_line modes.Check words.Thermal h = refl
no_other_line modes.Check words.Hydro h = refl
no_other_line modes.Check words.Project h = refl
no_other_line modes.Check words.Water h = refl
no_other_line modes.Check words.Tunnel h = refl
no_other_line modes.Check words.Margin h = refl
no_other_line modes.Check words.Lolp h = refl
no_other_line modes.Check words.Version h = refl
no_other_line modes.Check words.EnsMore h = refl
no_other_line modes.Check words.Escalate h = refl
no_other_line modes.Check words.Grid h = refl
no_other_line modes.Certificate word h = absurd cc

spelled_back : (word : HeadWord) → head_word_of (spelling_of word) ≡ Some word
spelled_back words.Years = refl
spelled_back words.Periods = refl
spelled_back words.Rate = refl
spelled_back words.Ens = refl
spelled_back words.Rule = refl
spelled_back words.Cases = refl
spelled_back words.Conditions = refl
spelled_back words.Shape = refl
spelled_back words.Fuel = refl
spelled_back words.Load = refl
spelled_back words.Plant = refl
spelled_back words.Add = refl
spelled_back words.Retire = refl
spelled_back words.Thermal = refl
spelled_back words.Hydro = refl
spelled_back words.Project = refl
spelled_back words.Water = refl
spelled_back words.Tunnel = refl
spelled_back words.Margin = refl
spelled_back words.Lolp = refl
spelled_back words.Version = refl
spelled_back words.EnsMore = refl
spelled_back words.Escalate = refl
spelled_back words.Grid = refl

-- ---- the line

pub below_limit : (n : ℕ) → n ≤ 4096 → nat_lt 4096 n ≡ false
below_limit n h = grind (arith, nat_tests)

-- what the text of a statement is made of
record Written (s : Statement) : Type 0 where
  first : IsPlain (spelling_of (word_of s.head))
  behind : ArePlain (words_behind s)
  short : length (text_of s) ≤ 4096

writes : (s : Statement) → IsStatement s → Written s
writes s h =
    let p = parts s h in
    let form = layout_of (word_of s.head) in
    let t = suit (word_of s.head) in
    let n = name_written form.naming s.body.name p.name in
    let i = fields_short form.index (index_of s.head) t.index p.index in
    let m = groups_short form.group form.least form.most s.body.numbers t.group p.numbers in
    record {
      first = record { some = omega (arith, t.some); bytes = t.plain };
      behind = ArePlain-append (map decimal (index_of s.head)) (name_words s.body.name ++ map decimal s.body.numbers) (numbers_plain (index_of s.head) i) (ArePlain-append (name_words s.body.name) (map decimal s.body.numbers) n.plain (numbers_plain s.body.numbers m));
      short = text_length (spelling_of (word_of s.head)) (index_of s.head) s.body.name s.body.numbers t.short (omega (arith, t.indexes, allows_each-length form.index (index_of s.head) p.index)) n.short (omega (arith, t.few, groups_length form.group form.least form.most s.body.numbers p.numbers)) i m;
    }

text_back : (mode : Mode) (s : Statement) (text : List ℕ) → has_statements mode ≡ true → IsStatement s → bad_byte 1 text ≡ None
    → text_line mode text (record { column = 1; text = spelling_of (word_of s.head) } ∷ placed (1 + length (spelling_of (word_of s.head))) (words_behind s)) ≡ Ok (lines.Set s)
text_back mode s text m h none =
    let word = word_of s.head in
    rw (no_comment word, none, no_other_line mode word m, m, spelled_back word, statement_back s (length text + 1) (1 + length (spelling_of word)) h) refl

pub reads_back : StatementsReadBack
unfolding line_of
reads_back mode s m h =
    let w = writes s h in
    let word = word_of s.head in
    let bytes = text_line_bytes (spelling_of word) (words_behind s) w.first w.behind in
    rw (below_limit (length (text_of s)) w.short, less_return-same (text_of s) bytes, all_words (spelling_of word) (words_behind s) w.first w.behind)
    (text_back mode s (text_of s) m h (bad_byte-none 1 (text_of s) bytes))
