-- A line that is read is in its form.
use Rattle.std.proofs.Common.{◌≡◌, ℕ, zero, suc, ◌+◌, ◌-◌, ◌^◌, ◌<◌, ◌≤◌, Bool, true, false, cond, eqb, List, [], ◌∷◌, ◌++◌, length, Option, None, Some, Result, Ok, Err, IfOk, IfSome, refl, sym, ap, subst, ◌∙◌, append_assoc, arith}
use Rattle.std.specs.Prelude.{codes, slice_index, All}
use Rattle.std.specs.Str.{bytes_eq}
use Rattle.std.proofs.lemmas.List.{append-nil}
use Rattle.std.proofs.lemmas.Bool.{and_parts, eqb-true}
use Rattle.std.proofs.lemmas.List.Elements.{All-nil, All-cons}
use Rattle.deck_lines.specs.declared.fault.LineFault.{LineFault}
use Rattle.deck_lines.specs.declared.fault.LineError.{LineError}
use Rattle.deck_lines.specs.declared.fault.LineKind.TheVariants as faults
use Rattle.deck_lines.specs.declared.form.Form.{Form}
use Rattle.deck_lines.specs.declared.form.Kind.{Kind}
use Rattle.deck_lines.specs.declared.head_word.HeadWord.{HeadWord}
use Rattle.deck_lines.specs.declared.line.Mode.{Mode}
use Rattle.deck_lines.specs.declared.line.Line.{Line}
use Rattle.deck_lines.specs.declared.line.Line.TheVariants as lines
use Rattle.deck_lines.specs.declared.line.CertLine.TheVariants as certs
use Rattle.deck_lines.specs.declared.line_word.LineWord.{LineWord}
use Rattle.deck_lines.specs.declared.line_word.LineWord.TheVariants as words
use Rattle.deck_lines.specs.Words.{Piece, number_of}
use Rattle.deck_lines.specs.LineFault.{◌>>=◌, fault, Gives}
use Rattle.deck_lines.specs.Statements.{Layout, laid_out, repeated, case, year, layout_of, head_of, head_word_of, headed, allows, allows_each, are_groups, number_at, fields_onto, groups_onto}
use Rattle.deck_lines.specs.Grammar.{number, count, ended, number_then, dropped, drop_line, counts_onto, AreCounts, value_at, come_line, chosen_line, single_line, behind, begun, has_statements, line_word_of, bad_byte, past_bytes, text_line, IsHead, IsLine}
use Rattle.deck_lines.proofs.Ranges.{within}
use Rattle.deck_lines.proofs.InForms.{bind_ok, guard_ok, ok_is, number_fits, fields_fit, groups_fit, headed_fits, word_of-head_of, index_of-head_of}

-- ---- counts

-- from least to most numbers of at most 128
record Bounded (least most : ℕ) (ns : List ℕ) : Type 0 where
  enough : least ≤ length ns
  few : length ns ≤ most
  small : All (λ n. n ≤ 128) ns

no_counts : (least most : ℕ) → least ≤ 0 → Bounded least most []
no_counts least most none = record { enough = none; few = omega arith; small = All-nil (λ n. n ≤ 128) }

one_count : (least more n : ℕ) (ns : List ℕ) → allows count n ≡ true → Bounded (least - 1) more ns → Bounded least (suc more) (n ∷ ns)
one_count least more n ns fits rest = record {
  enough = omega (arith, rest.enough);
  few = omega (arith, rest.few);
  small = All-cons (λ m. m ≤ 128) n ns ((within count n fits).1) rest.small;
}

groups_bounded : (least most : ℕ) (ns : List ℕ) → are_groups (count ∷ []) least most ns ≡ true → Bounded least most ns
groups_bounded least zero [] e = no_counts least zero (omega (arith, eqb-true least 0 e))
groups_bounded least zero (n ∷ ns) e = absurd cc
groups_bounded least (suc more) [] e = no_counts least (suc more) (omega (arith, eqb-true least 0 e))
groups_bounded least (suc more) (n ∷ ns) e =
    let b = and_parts (allows_each (count ∷ []) (n ∷ [])) (are_groups (count ∷ []) (least - 1) more ns) e in
    one_count least more n ns (and_parts (allows count n) true b.0).0 (groups_bounded (least - 1) more ns b.1)

record GainsCounts (least most : ℕ) (before after : List ℕ) : Type 0 where
  gained : List ℕ
  behind : after ≡ before ++ gained
  are : Bounded least most gained

last_word : (b : Bool) (d : LineFault) (x y : List ℕ × Piece) → cond b (Ok x) (Err d) ≡ Ok y → (b ≡ true) × (x.0 ≡ y.0)
last_word b d x y e = let g = guard_ok b d x y e in (g.0, ap (λ (p : List ℕ × Piece). p.0) g.1)

counts_fit : (before : List ℕ) (end least most : ℕ) (ws : List Piece) (r : List ℕ × Piece) → counts_onto before end least most ws ≡ Ok r → GainsCounts least most before r.0
unfolding counts_onto
counts_fit before end least most [] r e = absurd cc
counts_fit before end least most (w ∷ []) r e =
    let g = last_word (eqb least 0) (fault faults.Count end) (before, w) r e in
    record { gained = []; behind = sym g.1 ∙ sym (append-nil before); are = no_counts least most (omega (arith, eqb-true least 0 g.0)) }
counts_fit before end least zero (w ∷ v ∷ ws) r e = absurd cc
counts_fit before end least (suc more) (w ∷ v ∷ ws) r e =
    let b = bind_ok (number_at count w) (λ n. counts_onto (before ++ n ∷ []) end (least - 1) more (v ∷ ws)) r e in
    let t = counts_fit (before ++ b.0 ∷ []) end (least - 1) more (v ∷ ws) r b.2 in
    record {
      gained = b.0 ∷ t.gained;
      behind = t.behind ∙ append_assoc before (b.0 ∷ []) t.gained;
      are = one_count least more b.0 t.gained (number_fits count w.column (number_of w.text) b.0 b.1) t.are;
    }

counts_of : (ns : List ℕ) → Bounded 1 14 ns → AreCounts ns
counts_of ns b = record { some = b.enough; few = b.few; small = b.small }

pub come_counts : (end : ℕ) (ws : List Piece) (r : List ℕ × Piece) → counts_onto [] end 1 14 ws ≡ Ok r → AreCounts r.0
come_counts end ws r e = let g = counts_fit [] end 1 14 ws r e in subst AreCounts (sym g.behind) (counts_of g.gained g.are)

pub chosen_counts : (end : ℕ) (ws : List Piece) (ns : List ℕ) → groups_onto [] end (count ∷ []) 1 14 ws ≡ Ok ns → AreCounts ns
chosen_counts end ws ns e = let g = groups_fit [] end (count ∷ []) 1 14 ws ns (omega arith) (λ _. omega arith) e in subst AreCounts (sym g.behind) (counts_of g.gained (groups_bounded 1 14 g.gained g.are))

pub form_counts : (f : Form) (before : List ℕ) (end : ℕ) (ws : List Piece) (ns : List ℕ) → laid_out f ≡ repeated [] (count ∷ []) 1 14 → before ≡ [] → groups_onto before end f.group.now f.least f.most ws ≡ Ok ns → AreCounts ns
form_counts f before end ws ns form none e =
    let kinds : f.group.now ≡ count ∷ [] = ap (λ (l : Layout). l.group) form in
    let least : f.least ≡ 1 = ap (λ (l : Layout). l.least) form in
    let most : f.most ≡ 14 = ap (λ (l : Layout). l.most) form in
    chosen_counts end ws ns (rw (none, kinds, least, most) at e)

-- ---- lines

-- a step that did not fail, and what is read behind it
bind_fits : {A B : Type 0} (P : B → Type 0) (r : Result A LineFault) (f : A → Result B LineFault) → ((x : A) → r ≡ Ok x → IfOk (f x) P) → IfOk (r >>= f) P
bind_fits P (Ok x) f h = h x refl
bind_fits P (Err d) f h = tt

cond_fits : (b : Bool) (x y : Result Line LineFault) → IfOk x IsLine → IfOk y IsLine → IfOk (cond b x y) IsLine
cond_fits true x y h k = h
cond_fits false x y h k = k

ended_fits : (l : Line) (ws : List Piece) → IsLine l → IfOk (ended l ws) IsLine
ended_fits l [] h = h
ended_fits l (w ∷ ws) h = tt

number_ok : (kind : Kind) (end : ℕ) (ws : List Piece) (r : ℕ × List Piece) → number_then kind end ws ≡ Ok r → allows kind r.0 ≡ true
number_ok kind end [] r e = absurd cc
number_ok kind end (w ∷ ws) r e =
    let b = bind_ok (number_at kind w) (λ n. Ok (n, ws)) r e in
    subst (λ (n : ℕ). allows kind n ≡ true) (ap (λ (p : ℕ × List Piece). p.0) (ok_is (b.0, ws) r b.2)) (number_fits kind w.column (number_of w.text) b.0 b.1)

single_fits : (line : ℕ → Line) (kind : Kind) (end : ℕ) (ws : List Piece) → ((n : ℕ) → allows kind n ≡ true → IsLine (line n)) → IfOk (single_line line kind end ws) IsLine
single_fits line kind end ws h = bind_fits IsLine (number_then kind end ws) (λ n. ended (line n.0) n.1) (λ n e. ended_fits (line n.0) n.1 (h n.0 (number_ok kind end ws n e)))

head_fits : (word : HeadWord) (index : List ℕ) → allows_each (layout_of word).index index ≡ true → IsHead (head_of word index)
head_fits word index h = rw (word_of-head_of word index, index_of-head_of word index h) h

dropped_fits : (word : Option HeadWord) (column end : ℕ) (ws : List Piece) → IfOk (dropped word column end ws) IsLine
dropped_fits None column end ws = tt
dropped_fits (Some word) column end ws = bind_fits IsLine (fields_onto [] end (layout_of word).index ws) (λ index. ended (lines.Drop (head_of word index.0)) index.1)
    (λ index e.
    let f = fields_fit [] end (layout_of word).index ws index.0 index.1 e in
    ended_fits (lines.Drop (head_of word index.0)) index.1 (head_fits word index.0 (subst (λ (t : List ℕ). allows_each (layout_of word).index t ≡ true) (sym f.1) f.2)))

drop_fits : (end : ℕ) (ws : List Piece) → IfOk (drop_line end ws) IsLine
drop_fits end [] = tt
drop_fits end (w ∷ ws) = dropped_fits (head_word_of w.text) w.column end ws

below : (n : ℕ) → allows number n ≡ true → n < 10 ^ 18
below n h = omega (arith, (within number n h).1)

value_choice : (b : Bool) (w : Piece) → IfOk (cond b (Ok None) (number_at number w >>= λ n. Ok (Some n))) (λ value. IfSome value (λ v. v < 10 ^ 18))
value_choice true w = tt
value_choice false w = bind_fits (λ value. IfSome value (λ v. v < 10 ^ 18)) (number_at number w) (λ n. Ok (Some n)) (λ n e. below n (number_fits number w.column (number_of w.text) n e))

value_ok : (w : Piece) (value : Option ℕ) → value_at w ≡ Ok value → IfSome value (λ v. v < 10 ^ 18)
value_ok w value e = let h = value_choice (bytes_eq w.text (codes "NONE")) w in let now : IfOk (value_at w) (λ value. IfSome value (λ v. v < 10 ^ 18)) = h in rw e at now

come_fits : (end : ℕ) (ws : List Piece) → IfOk (come_line end ws) IsLine
come_fits end ws = bind_fits IsLine (number_then year end ws) (λ t. counts_onto [] end 1 14 t.1 >>= λ counts. value_at counts.1 >>= λ value. Ok (lines.Cert (certs.Come t.0 counts.0 value)))
    (λ t e. bind_fits IsLine (counts_onto [] end 1 14 t.1) (λ counts. value_at counts.1 >>= λ value. Ok (lines.Cert (certs.Come t.0 counts.0 value)))
    (λ counts _. bind_fits IsLine (value_at counts.1) (λ value. Ok (lines.Cert (certs.Come t.0 counts.0 value)))
    (λ value v. let y = within year t.0 (number_ok year end ws t e) in (y.0, y.1, value_ok counts.1 value v))))

chosen_fits : (end : ℕ) (ws : List Piece) → IfOk (chosen_line end ws) IsLine
chosen_fits end ws = bind_fits IsLine (number_then year end ws) (λ t. groups_onto [] end (count ∷ []) 1 14 t.1 >>= λ counts. Ok (lines.Cert (certs.Chosen t.0 counts)))
    (λ t e. bind_fits IsLine (groups_onto [] end (count ∷ []) 1 14 t.1) (λ counts. Ok (lines.Cert (certs.Chosen t.0 counts)))
    (λ counts _. let y = within year t.0 (number_ok year end ws t e) in (y.0, y.1)))

behind_fits : (word : LineWord) (end : ℕ) (ws : List Piece) → IfOk (behind word end ws) IsLine
behind_fits words.Drop end ws = drop_fits end ws
behind_fits words.Plan end ws = ended_fits lines.Plan ws tt
behind_fits words.Check end ws = single_fits (λ c. lines.Check c) case end ws (λ n h. let b = within case n h in (b.0, b.1))
behind_fits words.End end ws = ended_fits lines.End ws tt
behind_fits words.Come end ws = come_fits end ws
behind_fits words.Chosen end ws = chosen_fits end ws
behind_fits words.Total end ws = single_fits (λ v. lines.Cert (certs.Total v)) number end ws below
behind_fits words.Infeasible end ws = single_fits (λ t. lines.Cert (certs.Infeasible t)) year end ws (λ n h. let b = within year n h in (b.0, b.1))
behind_fits words.EndCheck end ws = ended_fits lines.EndCheck ws tt
behind_fits words.Case end ws = tt
behind_fits words.Edge end ws = tt
behind_fits words.Terms end ws = tt
behind_fits words.Risk end ws = tt
behind_fits words.Short end ws = tt
behind_fits words.Gen end ws = tt

begun_fits : (word : Option LineWord) (mode : Mode) (end : ℕ) (w : Piece) (ws : List Piece) → IfOk (begun word mode end w ws) IsLine
begun_fits (Some word) mode end w ws = behind_fits word end ws
begun_fits None mode end w ws = cond_fits (has_statements mode) (headed (head_word_of w.text) w.column end ws >>= λ s. Ok (lines.Set s)) (Err (fault faults.Word w.column))
    (bind_fits IsLine (headed (head_word_of w.text) w.column end ws) (λ s. Ok (lines.Set s)) (λ s e. headed_fits (head_word_of w.text) w.column end ws s e))
    tt

past_fits : (bad : Option ℕ) (mode : Mode) (end : ℕ) (w : Piece) (ws : List Piece) → IfOk (past_bytes bad mode end w ws) IsLine
past_fits (Some column) mode end w ws = tt
past_fits None mode end w ws = begun_fits (line_word_of mode w.text) mode end w ws

text_fits : (mode : Mode) (text : List ℕ) (ws : List Piece) → IfOk (text_line mode text ws) IsLine
text_fits mode text [] = tt
text_fits mode text (w ∷ ws) = cond_fits (eqb (slice_index w.text 0) 35) (Ok lines.Blank) (past_bytes (bad_byte 1 text) mode (length text + 1) w ws) tt (past_fits (bad_byte 1 text) mode (length text + 1) w ws)

pub text_gives : (mode : Mode) (text : List ℕ) (ws : List Piece) (r : Result Line LineError) → Gives (λ l. l) r (text_line mode text ws) → IfOk r (λ l. IsLine l)
text_gives mode text ws (Ok l) e = rw e at (text_fits mode text ws)
text_gives mode text ws (Err d) h = tt
