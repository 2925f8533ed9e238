-- The text of a statement is read back as that statement.
use Rattle.std.proofs.Common.{◌≡◌, ℕ, zero, suc, ◌+◌, ◌-◌, ◌*◌, ◌^◌, ◌<◌, ◌≤◌, Bool, true, false, ◌&&◌, List, [], ◌∷◌, ◌++◌, length, take, drop, map, Result, Ok, refl, sym, ap, subst, ◌∙◌, append_assoc, arith}
use Rattle.std.specs.Prelude.{nat_le, nat_lt, decimal}
use Rattle.std.specs.List.{list_all}
use Rattle.std.proofs.lemmas.Bool.Decides.{nat_tests}
use Rattle.std.proofs.lemmas.Bool.{and_parts, eqb-true, leb-true}
use Rattle.std.proofs.lemmas.List.{append-nil, map-append, length-append, take-append-drop}
use Rattle.deck_lines.specs.declared.fault.LineFault.{LineFault}
use Rattle.deck_lines.specs.declared.form.Kind.{Kind}
use Rattle.deck_lines.specs.declared.form.Kind.TheVariants as kinds
use Rattle.deck_lines.specs.declared.form.Naming.{Naming}
use Rattle.deck_lines.specs.declared.form.Naming.TheVariants as naming
use Rattle.deck_lines.specs.declared.head.Head.{Head}
use Rattle.deck_lines.specs.declared.head.Head.TheVariants as heads
use Rattle.deck_lines.specs.declared.head_word.HeadWord.{HeadWord}
use Rattle.deck_lines.specs.declared.head_word.HeadWord.TheVariants as words
use Rattle.deck_lines.specs.declared.statement.Statement.{Statement}
use Rattle.deck_lines.specs.Words.{Piece}
use Rattle.deck_lines.specs.LineFault.{◌>>=◌}
use Rattle.deck_lines.specs.Statements.{layout_of, spelling_of, head_of, word_of, index_of, allows, allows_each, are_groups, is_named, number_at, fields_onto, groups_onto, name_at, statement_of, is_statement, IsStatement}
use Rattle.deck_lines.specs.Canonical.{name_words, words_behind}
use Rattle.deck_lines.proofs.Ranges.{within, allows_each-length}
use Rattle.deck_lines.proofs.Texts.{is_plain, placed, past, placed-append, number_of-decimal}

-- ---- numbers of at most ten digits

abbrev pub is_short : Kind → Bool
is_short (kinds.Number low high) = nat_lt high 10_000_000_000
is_short kinds.Periods = true

short_number : (kind : Kind) (n : ℕ) → is_short kind ≡ true → allows kind n ≡ true → n < 10 ^ 10
short_number (kinds.Number low high) n s h = let w = within (kinds.Number low high) n h in let t : high < 10_000_000_000 = grind (arith, nat_tests) in omega (arith, w.1)
short_number kinds.Periods n s h = let w = within kinds.Periods n h in omega (arith, w.1)

unfoldable pub AreShort : List ℕ → Type 0
AreShort [] = Unit {0}
AreShort (n ∷ ns) = (n < 10 ^ 10) × AreShort ns

AreShort-append : (ms ns : List ℕ) → AreShort ms → AreShort ns → AreShort (ms ++ ns)
unfolding AreShort
AreShort-append [] ns p q = q
AreShort-append (m ∷ ms) ns p q = (p.0, AreShort-append ms ns p.1 q)

pub fields_short : (ks : List Kind) (ns : List ℕ) → list_all is_short ks ≡ true → allows_each ks ns ≡ true → AreShort ns
unfolding AreShort
fields_short [] [] s h = tt
fields_short [] (n ∷ ns) s h = absurd cc
fields_short (kind ∷ ks) [] s h = tt
fields_short (kind ∷ ks) (n ∷ ns) s h =
    let p = and_parts (is_short kind) (list_all is_short ks) s in
    let q = and_parts (allows kind n) (allows_each ks ns) h in
    (short_number kind n p.0 q.0, fields_short ks ns p.1 q.1)

-- a group and the groups behind it
record Split (ks : List Kind) (least more : ℕ) (ns : List ℕ) : Type 0 where
  one : List ℕ
  others : List ℕ
  whole : ns ≡ one ++ others
  fits : allows_each ks one ≡ true
  rest : are_groups ks (least - 1) more others ≡ true

split : (ks : List Kind) (least more n : ℕ) (ns : List ℕ) → are_groups ks least (suc more) (n ∷ ns) ≡ true → Split ks least more (n ∷ ns)
split ks least more n ns h =
    let p = and_parts (allows_each ks (take (length ks) (n ∷ ns))) (are_groups ks (least - 1) more (drop (length ks) (n ∷ ns))) h in
    record { one = take (length ks) (n ∷ ns); others = drop (length ks) (n ∷ ns); whole = sym (take-append-drop (length ks) (n ∷ ns)); fits = p.0; rest = p.1 }

pub groups_short : (ks : List Kind) (least most : ℕ) (ns : List ℕ) → list_all is_short ks ≡ true → are_groups ks least most ns ≡ true → AreShort ns
unfolding AreShort
groups_short ks least zero [] s h = tt
groups_short ks least zero (n ∷ ns) s h = absurd cc
groups_short ks least (suc more) [] s h = tt
groups_short ks least (suc more) (n ∷ ns) s h =
    let p = split ks least more n ns h in
    subst AreShort (sym p.whole) (AreShort-append p.one p.others (fields_short ks p.one s p.fits) (groups_short ks (least - 1) more p.others s p.rest))

pub groups_length : (ks : List Kind) (least most : ℕ) (ns : List ℕ) → are_groups ks least most ns ≡ true → length ns ≤ most * length ks
groups_length ks least zero [] h = omega arith
groups_length ks least zero (n ∷ ns) h = absurd cc
groups_length ks least (suc more) [] h = omega arith
groups_length ks least (suc more) (n ∷ ns) h =
    let p = split ks least more n ns h in
    omega (arith, ap length p.whole, length-append p.one p.others, allows_each-length ks p.one p.fits, groups_length ks (least - 1) more p.others p.rest)

-- ---- reading

number_back : (kind : Kind) (column n : ℕ) → n < 10 ^ 10 → allows kind n ≡ true → number_at kind (record { column = column; text = decimal n }) ≡ Ok n
number_back kind column n short h = rw (number_of-decimal n short, h) refl

fields_back : (ks : List Kind) (ns before : List ℕ) (end column : ℕ) (more : List Piece) → AreShort ns → allows_each ks ns ≡ true → fields_onto before end ks (placed column (map decimal ns) ++ more) ≡ Ok (before ++ ns, more)
unfolding fields_onto placed AreShort
fields_back [] [] before end column more s h = ap (λ (t : List ℕ). Ok (t, more)) (sym (append-nil before))
fields_back [] (n ∷ ns) before end column more s h = absurd cc
fields_back (kind ∷ ks) [] before end column more s h = absurd cc
fields_back (kind ∷ ks) (n ∷ ns) before end column more s h =
    let q = and_parts (allows kind n) (allows_each ks ns) h in
    rw (number_back kind (column + 1) n s.0 q.0) (fields_back ks ns (before ++ n ∷ []) end (column + 1 + length (decimal n)) more s.1 q.1 ∙ ap (λ (t : List ℕ). Ok (t, more)) (append_assoc before (n ∷ []) ns))

group_step : (ks : List Kind) (least more n : ℕ) (ns before : List ℕ) (end column : ℕ) → groups_onto before end ks least (suc more) (placed column (map decimal (n ∷ ns))) ≡ (fields_onto before end ks (placed column (map decimal (n ∷ ns))) >>= λ one. groups_onto one.0 end ks (least - 1) more one.1)
unfolding groups_onto placed
group_step ks least more n ns before end column = refl

-- the places of the words of two lists
parts_placed : (column : ℕ) (one others ns : List ℕ) → ns ≡ one ++ others → placed column (map decimal ns) ≡ placed column (map decimal one) ++ placed (past column (map decimal one)) (map decimal others)
parts_placed column one others ns e = ap (λ (t : List ℕ). placed column (map decimal t)) e ∙ ap (placed column) (map-append decimal one others) ∙ placed-append column (map decimal one) (map decimal others)

groups_back : (ks : List Kind) (least most : ℕ) (ns before : List ℕ) (end column : ℕ) → list_all is_short ks ≡ true → are_groups ks least most ns ≡ true → groups_onto before end ks least most (placed column (map decimal ns)) ≡ Ok (before ++ ns)
unfolding groups_onto placed
groups_back ks least zero [] before end column s h = ap (λ (t : List ℕ). Ok t) (sym (append-nil before))
groups_back ks least zero (n ∷ ns) before end column s h = absurd cc
groups_back ks least (suc more) [] before end column s h = rw h (ap (λ (t : List ℕ). Ok t) (sym (append-nil before)))
groups_back ks least (suc more) (n ∷ ns) before end column s h =
    let p = split ks least more n ns h in
    let behind : List Piece = placed (past column (map decimal p.one)) (map decimal p.others) in
    let read : fields_onto before end ks (placed column (map decimal (n ∷ ns))) ≡ Ok (before ++ p.one, behind) =
    ap (fields_onto before end ks) (parts_placed column p.one p.others (n ∷ ns) p.whole) ∙ fields_back ks p.one before end column behind (fields_short ks p.one s p.fits) p.fits in
    group_step ks least more n ns before end column
    ∙ ap (λ (r : Result (List ℕ × List Piece) LineFault). r >>= λ one. groups_onto one.0 end ks (least - 1) more one.1) read
    ∙ groups_back ks (least - 1) more p.others (before ++ p.one) end (past column (map decimal p.one)) s p.rest
    ∙ ap (λ (t : List ℕ). Ok t) (append_assoc before p.one p.others ∙ ap (λ (t : List ℕ). before ++ t) (sym p.whole))

name_back : (kind : Naming) (end column : ℕ) (name : List ℕ) (more : List Piece) → is_named kind name ≡ true → name_at kind end (placed column (name_words name) ++ more) ≡ Ok (name, more)
unfolding name_at placed
name_back naming.Unnamed end column [] more h = refl
name_back naming.Unnamed end column (b ∷ bs) more h = absurd (omega (arith, eqb-true (length (b ∷ bs)) 0 h))
name_back naming.Rule end column [] more h = absurd cc
name_back naming.Rule end column (b ∷ bs) more h = rw h refl
name_back naming.Named end column [] more h = absurd cc
name_back naming.Named end column (b ∷ bs) more h = rw h refl

head_back : (h : Head) → head_of (word_of h) (index_of h) ≡ h
head_back heads.Years = refl
head_back heads.Periods = refl
head_back heads.Rate = refl
head_back heads.Ens = refl
head_back heads.Rule = refl
head_back heads.Cases = refl
head_back heads.Conditions = refl
head_back (heads.Shape i) = refl
head_back (heads.Fuel i) = refl
head_back (heads.Load i) = refl
head_back (heads.Plant i) = refl
head_back (heads.Add i j) = refl
head_back (heads.Retire i j) = refl
head_back (heads.Thermal i) = refl
head_back (heads.Hydro i) = refl
head_back (heads.Project i j) = refl
head_back (heads.Water i j k) = refl
head_back (heads.Tunnel i j) = refl
head_back (heads.Margin i j) = refl
head_back (heads.Lolp i j) = refl
head_back heads.Version = refl
head_back heads.EnsMore = refl
head_back heads.Escalate = refl
head_back heads.Grid = refl

-- what the table gives of each word: short numbers, few of them, and a plain spelling
abbrev suits : HeadWord → Bool
suits word = list_all is_short (layout_of word).index && list_all is_short (layout_of word).group && nat_le ((layout_of word).most * length (layout_of word).group) 128 && nat_le (length (layout_of word).index) 3 && nat_le 1 (length (spelling_of word)) && nat_le (length (spelling_of word)) 10 && list_all is_plain (spelling_of word)

suited : (word : HeadWord) → suits word ≡ true
suited words.Years = refl
suited words.Periods = refl
suited words.Rate = refl
suited words.Ens = refl
suited words.Rule = refl
suited words.Cases = refl
suited words.Conditions = refl
suited words.Shape = refl
suited words.Fuel = refl
suited words.Load = refl
suited words.Plant = refl
suited words.Add = refl
suited words.Retire = refl
suited words.Thermal = refl
suited words.Hydro = refl
suited words.Project = refl
suited words.Water = refl
suited words.Tunnel = refl
suited words.Margin = refl
suited words.Lolp = refl
suited words.Version = refl
suited words.EnsMore = refl
suited words.Escalate = refl
suited words.Grid = refl

pub record Suits (word : HeadWord) : Type 0 where
  pub index : list_all is_short (layout_of word).index ≡ true
  pub group : list_all is_short (layout_of word).group ≡ true
  pub few : (layout_of word).most * length (layout_of word).group ≤ 128
  pub indexes : length (layout_of word).index ≤ 3
  pub some : 1 ≤ length (spelling_of word)
  pub short : length (spelling_of word) ≤ 10
  pub plain : list_all is_plain (spelling_of word) ≡ true

-- the parts of a test of seven
seven : (a b d e f g h : Bool) → (a && b && d && e && f && g && h) ≡ true → (a ≡ true) × (b ≡ true) × (d ≡ true) × (e ≡ true) × (f ≡ true) × (g ≡ true) × (h ≡ true)
seven true true true true true true true p = (refl, refl, refl, refl, refl, refl, refl)
seven true true true true true true false p = absurd cc
seven true true true true true false h p = absurd cc
seven true true true true false g h p = absurd cc
seven true true true false f g h p = absurd cc
seven true true false e f g h p = absurd cc
seven true false d e f g h p = absurd cc
seven false b d e f g h p = absurd cc

pub suit : (word : HeadWord) → Suits word
suit word =
    let p = seven (list_all is_short (layout_of word).index) (list_all is_short (layout_of word).group) (nat_le ((layout_of word).most * length (layout_of word).group) 128) (nat_le (length (layout_of word).index) 3) (nat_le 1 (length (spelling_of word))) (nat_le (length (spelling_of word)) 10) (list_all is_plain (spelling_of word)) (suited word) in
    record {
      index = p.0;
      group = p.1;
      few = leb-true _ _ p.2;
      indexes = leb-true _ _ p.3;
      some = leb-true _ _ p.4;
      short = leb-true _ _ p.5;
      plain = p.6;
    }

-- what a statement in its form has
pub record Parts (s : Statement) : Type 0 where
  pub index : allows_each (layout_of (word_of s.head)).index (index_of s.head) ≡ true
  pub name : is_named (layout_of (word_of s.head)).naming s.body.name ≡ true
  pub numbers : are_groups (layout_of (word_of s.head)).group (layout_of (word_of s.head)).least (layout_of (word_of s.head)).most s.body.numbers ≡ true

pub parts : (s : Statement) → IsStatement s → Parts s
unfolding is_statement
parts s h =
    let form = layout_of (word_of s.head) in
    let a = and_parts (allows_each form.index (index_of s.head) && is_named form.naming s.body.name) (are_groups form.group form.least form.most s.body.numbers) h in
    let b = and_parts (allows_each form.index (index_of s.head)) (is_named form.naming s.body.name) a.0 in
    record { index = b.0; name = b.1; numbers = a.1 }

three_placed : (column : ℕ) (us vs ws : List (List ℕ)) → placed column (us ++ (vs ++ ws)) ≡ placed column us ++ (placed (past column us) vs ++ placed (past (past column us) vs) ws)
three_placed column us vs ws = placed-append column us (vs ++ ws) ∙ ap (λ (ps : List Piece). placed column us ++ ps) (placed-append (past column us) vs ws)

pub statement_back : (s : Statement) (end column : ℕ) → IsStatement s → statement_of (word_of s.head) end (placed column (words_behind s)) ≡ Ok s
unfolding statement_of
statement_back s end column h =
    let p = parts s h in
    let word = word_of s.head in
    let form = layout_of word in
    let t = suit word in
    let first = map decimal (index_of s.head) in
    let numbers = placed (past (past column first) (name_words s.body.name)) (map decimal s.body.numbers) in
    let named = placed (past column first) (name_words s.body.name) in
    let i : fields_onto [] end form.index (placed column first ++ (named ++ numbers)) ≡ Ok (index_of s.head, named ++ numbers) = fields_back form.index (index_of s.head) [] end column (named ++ numbers) (fields_short form.index (index_of s.head) t.index p.index) p.index in
    let n : name_at form.naming end (named ++ numbers) ≡ Ok (s.body.name, numbers) = name_back form.naming end (past column first) s.body.name numbers p.name in
    let g : groups_onto [] end form.group form.least form.most numbers ≡ Ok s.body.numbers = groups_back form.group form.least form.most s.body.numbers [] end (past (past column first) (name_words s.body.name)) t.group p.numbers in
    rw (three_placed column first (name_words s.body.name) (map decimal s.body.numbers), i, n, g, head_back s.head) refl
