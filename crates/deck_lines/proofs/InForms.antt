-- What is read is in its form.
use Rattle.std.proofs.Common.{◌≡◌, ℕ, zero, suc, ◌-◌, ◌<◌, ◌≤◌, Bool, true, false, cond, eqb, List, [], ◌∷◌, ◌++◌, length, slice_index, Option, None, Some, Result, Ok, Err, refl, sym, ap, subst, ◌∙◌, append_assoc, arith}
use Rattle.std.proofs.lemmas.List.{append-nil}
use Rattle.std.proofs.lemmas.Bool.{and_parts, eq-eqb}
use Rattle.std.proofs.Math.Seq.{take-append_seam, drop-append_seam}
use Rattle.deck_lines.specs.declared.fault.LineFault.{LineFault}
use Rattle.deck_lines.specs.declared.fault.LineKind.TheVariants as faults
use Rattle.deck_lines.specs.declared.form.Kind.{Kind}
use Rattle.deck_lines.specs.declared.form.Naming.{Naming}
use Rattle.deck_lines.specs.declared.form.Naming.TheVariants as naming
use Rattle.deck_lines.specs.declared.head_word.HeadWord.{HeadWord}
use Rattle.deck_lines.specs.declared.head_word.HeadWord.TheVariants as words
use Rattle.deck_lines.specs.declared.statement.Statement.{Statement}
use Rattle.deck_lines.specs.Words.{Piece, number_of}
use Rattle.deck_lines.specs.LineFault.{◌>>=◌, fault}
use Rattle.deck_lines.specs.Statements.{year, case, plant, candidate, group, project, period, fuel, shape, layout_of, head_of, word_of, index_of, allows, allows_each, are_groups, is_named, is_name, is_rule, number_in, number_at, fields_onto, groups_onto, name_at, statement_of, headed, is_statement, IsStatement}
use Rattle.deck_lines.proofs.Ranges.{allows_each-length}

abbrev pub done : {A : Type 0} → A → Result A LineFault
done x = Ok x

pub ok_is : {A : Type 0} (x y : A) → done x ≡ done y → x ≡ y
ok_is x y e = cc

-- the value of a step that did not fail
pub bind_ok : {A B : Type 0} (r : Result A LineFault) (f : A → Result B LineFault) (y : B) → (r >>= f) ≡ Ok y → (x : A) × (r ≡ Ok x) × (f x ≡ Ok y)
bind_ok (Ok x) f y e = (x, refl, e)
bind_ok (Err d) f y e = absurd cc

pub guard_ok : {A : Type 0} (b : Bool) (d : LineFault) (x y : A) → cond b (Ok x) (Err d) ≡ Ok y → (b ≡ true) × (x ≡ y)
guard_ok true d x y e = (refl, cc)
guard_ok false d x y e = absurd cc

pub number_fits : (kind : Kind) (column : ℕ) (o : Option ℕ) (n : ℕ) → number_in kind column o ≡ Ok n → allows kind n ≡ true
number_fits kind column None n e = absurd cc
number_fits kind column (Some m) n e =
    let g = guard_ok (allows kind m) (fault faults.Range column) m n e in
    subst (λ (x : ℕ). allows kind x ≡ true) g.1 g.0

pub fields_fit : (before : List ℕ) (end : ℕ) (ks : List Kind) (ws : List Piece) (after : List ℕ) (rest : List Piece) → fields_onto before end ks ws ≡ Ok (after, rest)
    → (gained : List ℕ) × (after ≡ before ++ gained) × (allows_each ks gained ≡ true)
unfolding fields_onto
fields_fit before end [] ws after rest e = ([], ap (λ (p : List ℕ × List Piece). p.0) (sym (ok_is (before, ws) (after, rest) e)) ∙ sym (append-nil before), refl)
fields_fit before end (kind ∷ ks) [] after rest e = absurd cc
fields_fit before end (kind ∷ ks) (w ∷ ws) after rest e =
    let b = bind_ok (number_at kind w) (λ n. fields_onto (before ++ n ∷ []) end ks ws) (after, rest) e in
    let t = fields_fit (before ++ b.0 ∷ []) end ks ws after rest b.2 in
    (b.0 ∷ t.0, t.1 ∙ append_assoc before (b.0 ∷ []) t.0, rw (number_fits kind w.column (number_of w.text) b.0 b.1, t.2) refl)

-- ---- groups behind what was read before

pub record GainsGroups (ks : List Kind) (least most : ℕ) (before after : List ℕ) : Type 0 where
  pub gained : List ℕ
  pub behind : after ≡ before ++ gained
  pub are : are_groups ks least most gained ≡ true

no_groups : (ks : List Kind) (least most : ℕ) (before after : List ℕ) → are_groups ks least most [] ≡ true → done before ≡ done after → GainsGroups ks least most before after
no_groups ks least most before after none e = record {
  gained = [];
  behind = sym (ok_is before after e) ∙ sym (append-nil before);
  are = none;
}

-- a group and what stands behind it
split_groups : (ks : List Kind) (least more : ℕ) (one others : List ℕ) → 0 < length one → length one ≡ length ks → allows_each ks one ≡ true → are_groups ks (least - 1) more others ≡ true → are_groups ks least (suc more) (one ++ others) ≡ true
split_groups ks least more [] others some len fits rest = absurd (omega (arith, some))
split_groups ks least more (n ∷ ns) others some len fits rest = rw (sym len, take-append_seam (n ∷ ns) others, drop-append_seam (n ∷ ns) others, fits) rest

one_more : (ks : List Kind) (least more : ℕ) (before mid after one : List ℕ) → 0 < length ks → mid ≡ before ++ one → allows_each ks one ≡ true → GainsGroups ks (least - 1) more mid after → GainsGroups ks least (suc more) before after
one_more ks least more before mid after one some e fits rest = record {
  gained = one ++ rest.gained;
  behind = rest.behind ∙ ap (λ (t : List ℕ). t ++ rest.gained) e ∙ append_assoc before one rest.gained;
  are = split_groups ks least more one rest.gained (omega (arith, some, allows_each-length ks one fits)) (allows_each-length ks one fits) fits rest.are;
}

pub groups_fit : (before : List ℕ) (end : ℕ) (ks : List Kind) (least most : ℕ) (ws : List Piece) (after : List ℕ) → least ≤ most → (0 < most → 0 < length ks) → groups_onto before end ks least most ws ≡ Ok after → GainsGroups ks least most before after
unfolding groups_onto
groups_fit before end ks least zero [] after le some e = no_groups ks least zero before after (eq-eqb least 0 (omega arith)) e
groups_fit before end ks least zero (w ∷ ws) after le some e = absurd cc
groups_fit before end ks least (suc more) [] after le some e =
    let g = guard_ok (eqb least 0) (fault faults.Count end) before after e in
    no_groups ks least (suc more) before after g.0 (ap done g.1)
groups_fit before end ks least (suc more) (w ∷ ws) after le some e =
    let b = bind_ok (fields_onto before end ks (w ∷ ws)) (λ one. groups_onto one.0 end ks (least - 1) more one.1) after e in
    let f = fields_fit before end ks (w ∷ ws) b.0.0 b.0.1 b.1 in
    one_more ks least more before b.0.0 after f.0 (some (omega arith)) f.1 f.2 (groups_fit b.0.0 end ks (least - 1) more b.0.1 after (omega arith) (λ lt. some (omega arith)) b.2)

name_fits : (kind : Naming) (end : ℕ) (ws : List Piece) (name : List ℕ) (rest : List Piece) → name_at kind end ws ≡ Ok (name, rest) → is_named kind name ≡ true
unfolding name_at
name_fits naming.Unnamed end ws name rest e =
    let first : [] ≡ name = ap (λ (p : List ℕ × List Piece). p.0) (ok_is ([], ws) (name, rest) e) in
    subst (λ (t : List ℕ). is_named naming.Unnamed t ≡ true) first refl
name_fits naming.Rule end [] name rest e = absurd cc
name_fits naming.Rule end (w ∷ ws) name rest e =
    let g = guard_ok (is_rule w.text) (fault faults.Number w.column) (w.text, ws) (name, rest) e in
    subst (λ (p : List ℕ × List Piece). is_rule p.0 ≡ true) g.1 g.0
name_fits naming.Named end [] name rest e = absurd cc
name_fits naming.Named end (w ∷ ws) name rest e =
    let g = guard_ok (is_name w.text) (fault faults.Number w.column) (w.text, ws) (name, rest) e in
    subst (λ (p : List ℕ × List Piece). is_name p.0 ≡ true) g.1 g.0

-- ---- heads

none : (index : List ℕ) → allows_each [] index ≡ true → [] ≡ index
none [] h = refl
none (n ∷ ns) h = absurd cc

one : (a : Kind) (index : List ℕ) → allows_each (a ∷ []) index ≡ true → slice_index index 0 ∷ [] ≡ index
one a [] h = absurd cc
one a (n ∷ ns) h = ap (λ (t : List ℕ). n ∷ t) (none ns (and_parts (allows a n) (allows_each [] ns) h).1)

two : (a b : Kind) (index : List ℕ) → allows_each (a ∷ b ∷ []) index ≡ true → slice_index index 0 ∷ slice_index index 1 ∷ [] ≡ index
two a b [] h = absurd cc
two a b (n ∷ ns) h = ap (λ (t : List ℕ). n ∷ t) (one b ns (and_parts (allows a n) (allows_each (b ∷ []) ns) h).1)

three : (a b d : Kind) (index : List ℕ) → allows_each (a ∷ b ∷ d ∷ []) index ≡ true → slice_index index 0 ∷ slice_index index 1 ∷ slice_index index 2 ∷ [] ≡ index
three a b d [] h = absurd cc
three a b d (n ∷ ns) h = ap (λ (t : List ℕ). n ∷ t) (two b d ns (and_parts (allows a n) (allows_each (b ∷ d ∷ []) ns) h).1)

pub index_of-head_of : (word : HeadWord) (index : List ℕ) → allows_each (layout_of word).index index ≡ true → index_of (head_of word index) ≡ index
index_of-head_of words.Years index h = none index h
index_of-head_of words.Periods index h = none index h
index_of-head_of words.Rate index h = none index h
index_of-head_of words.Ens index h = none index h
index_of-head_of words.Rule index h = none index h
index_of-head_of words.Cases index h = none index h
index_of-head_of words.Conditions index h = none index h
index_of-head_of words.Shape index h = one shape index h
index_of-head_of words.Fuel index h = one fuel index h
index_of-head_of words.Load index h = one year index h
index_of-head_of words.Plant index h = one plant index h
index_of-head_of words.Add index h = two plant year index h
index_of-head_of words.Retire index h = two plant year index h
index_of-head_of words.Thermal index h = one candidate index h
index_of-head_of words.Hydro index h = one group index h
index_of-head_of words.Project index h = two group project index h
index_of-head_of words.Water index h = three group project period index h
index_of-head_of words.Tunnel index h = two case year index h
index_of-head_of words.Margin index h = two case year index h
index_of-head_of words.Lolp index h = two case year index h
index_of-head_of words.Version index h = none index h
index_of-head_of words.EnsMore index h = none index h
index_of-head_of words.Escalate index h = none index h
index_of-head_of words.Grid index h = none index h

pub word_of-head_of : (word : HeadWord) (index : List ℕ) → word_of (head_of word index) ≡ word
word_of-head_of words.Years index = refl
word_of-head_of words.Periods index = refl
word_of-head_of words.Rate index = refl
word_of-head_of words.Ens index = refl
word_of-head_of words.Rule index = refl
word_of-head_of words.Cases index = refl
word_of-head_of words.Conditions index = refl
word_of-head_of words.Shape index = refl
word_of-head_of words.Fuel index = refl
word_of-head_of words.Load index = refl
word_of-head_of words.Plant index = refl
word_of-head_of words.Add index = refl
word_of-head_of words.Retire index = refl
word_of-head_of words.Thermal index = refl
word_of-head_of words.Hydro index = refl
word_of-head_of words.Project index = refl
word_of-head_of words.Water index = refl
word_of-head_of words.Tunnel index = refl
word_of-head_of words.Margin index = refl
word_of-head_of words.Lolp index = refl
word_of-head_of words.Version index = refl
word_of-head_of words.EnsMore index = refl
word_of-head_of words.Escalate index = refl
word_of-head_of words.Grid index = refl

ordered : (word : HeadWord) → (layout_of word).least ≤ (layout_of word).most
ordered words.Years = omega arith
ordered words.Periods = omega arith
ordered words.Rate = omega arith
ordered words.Ens = omega arith
ordered words.Rule = omega arith
ordered words.Cases = omega arith
ordered words.Conditions = omega arith
ordered words.Shape = omega arith
ordered words.Fuel = omega arith
ordered words.Load = omega arith
ordered words.Plant = omega arith
ordered words.Add = omega arith
ordered words.Retire = omega arith
ordered words.Thermal = omega arith
ordered words.Hydro = omega arith
ordered words.Project = omega arith
ordered words.Water = omega arith
ordered words.Tunnel = omega arith
ordered words.Margin = omega arith
ordered words.Lolp = omega arith
ordered words.Version = omega arith
ordered words.EnsMore = omega arith
ordered words.Escalate = omega arith
ordered words.Grid = omega arith

filled : (word : HeadWord) → 0 < (layout_of word).most → 0 < length (layout_of word).group
filled words.Years h = omega arith
filled words.Periods h = omega arith
filled words.Rate h = omega arith
filled words.Ens h = omega arith
filled words.Rule h = absurd (omega arith)
filled words.Cases h = omega arith
filled words.Conditions h = omega arith
filled words.Shape h = omega arith
filled words.Fuel h = omega arith
filled words.Load h = omega arith
filled words.Plant h = omega arith
filled words.Add h = omega arith
filled words.Retire h = omega arith
filled words.Thermal h = omega arith
filled words.Hydro h = omega arith
filled words.Project h = omega arith
filled words.Water h = omega arith
filled words.Tunnel h = omega arith
filled words.Margin h = omega arith
filled words.Lolp h = omega arith
filled words.Version h = omega arith
filled words.EnsMore h = omega arith
filled words.Escalate h = omega arith
filled words.Grid h = omega arith

parts_fit : (word : HeadWord) (index name numbers : List ℕ) → allows_each (layout_of word).index index ≡ true → is_named (layout_of word).naming name ≡ true → are_groups (layout_of word).group (layout_of word).least (layout_of word).most numbers ≡ true
    → IsStatement (record { head = head_of word index; body = record { name = name; numbers = numbers } })
unfolding is_statement
parts_fit word index name numbers i n g = rw (word_of-head_of word index, index_of-head_of word index i, i, n, g) refl

pub statement_fits : (word : HeadWord) (end : ℕ) (ws : List Piece) (s : Statement) → statement_of word end ws ≡ Ok s → IsStatement s
unfolding statement_of is_statement
statement_fits word end ws s e =
    let form = layout_of word in
    let a = bind_ok (fields_onto [] end form.index ws) (λ index. name_at form.naming end index.1 >>= λ name. groups_onto [] end form.group form.least form.most name.1 >>= λ numbers. Ok (record { head = head_of word index.0; body = record { name = name.0; numbers = numbers } })) s e in
    let b = bind_ok (name_at form.naming end a.0.1) (λ name. groups_onto [] end form.group form.least form.most name.1 >>= λ numbers. Ok (record { head = head_of word a.0.0; body = record { name = name.0; numbers = numbers } })) s a.2 in
    let c = bind_ok (groups_onto [] end form.group form.least form.most b.0.1) (λ numbers. Ok (record { head = head_of word a.0.0; body = record { name = b.0.0; numbers = numbers } })) s b.2 in
    let made : Statement = record { head = head_of word a.0.0; body = record { name = b.0.0; numbers = c.0 } } in
    let f = fields_fit [] end form.index ws a.0.0 a.0.1 a.1 in
    let g = groups_fit [] end form.group form.least form.most b.0.1 c.0 (ordered word) (filled word) c.1 in
    subst IsStatement (ok_is made s c.2) (parts_fit word a.0.0 b.0.0 c.0
    (subst (λ (t : List ℕ). allows_each form.index t ≡ true) (sym f.1) f.2)
    (name_fits form.naming end a.0.1 b.0.0 b.0.1 b.1)
    (subst (λ (t : List ℕ). are_groups form.group form.least form.most t ≡ true) (sym g.behind) g.are))

pub headed_fits : (word : Option HeadWord) (column end : ℕ) (ws : List Piece) (s : Statement) → headed word column end ws ≡ Ok s → IsStatement s
headed_fits None column end ws s e = absurd cc
headed_fits (Some word) column end ws s e = statement_fits word end ws s e
