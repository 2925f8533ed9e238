-- A line that is read in a mode is of this mode.
use Rattle.std.proofs.Common.{◌≡◌, refl, sym, ℕ, ◌+◌, Bool, true, false, cond, eqb, List, [], ◌∷◌, length, Option, None, Some, Result, Ok, Err, IfOk, IfSome, IsTrue, slice_index}
use Rattle.std.specs.Prelude.{find, nat_lt}
use Rattle.std.specs.Str.{bytes_eq}
use Rattle.deck_lines.specs.Grammar.{begun, behind, bad_byte, chosen_line, come_line, count, counts_onto, drop_line, dropped, ended, has_statements, less_return, line_of, line_spelling_of, line_word_of, line_words, number, number_then, past_bytes, single_line, text_line, value_at}
use Rattle.deck_lines.specs.LineFault.{◌>>=◌, Gives, fault}
use Rattle.deck_lines.specs.Statements.{case, fields_onto, groups_onto, head_of, head_word_of, headed, layout_of, year}
use Rattle.deck_lines.specs.Words.{Piece, words_of}
use Rattle.deck_lines.specs.declared.fault.LineError.{LineError}
use Rattle.deck_lines.specs.declared.fault.LineFault.{LineFault}
use Rattle.deck_lines.specs.declared.fault.LineKind.TheVariants as faults
use Rattle.deck_lines.specs.declared.form.Kind.{Kind}
use Rattle.deck_lines.specs.declared.head_word.HeadWord.{HeadWord}
use Rattle.deck_lines.specs.declared.line.CertLine.TheVariants as certs
use Rattle.deck_lines.specs.declared.line.Line.{Line}
use Rattle.deck_lines.specs.declared.line.Line.TheVariants as lines
use Rattle.deck_lines.specs.declared.line.Mode.{Mode}
use Rattle.deck_lines.specs.declared.line.Mode.TheVariants as modes
use Rattle.deck_lines.specs.declared.line_word.LineWord.{LineWord}
use Rattle.deck_lines.specs.declared.line_word.LineWord.TheVariants as words
use Rattle.wasp_session.specs.Modes.{IsOfMode}

-- ---- what is read step by step

abbrev Reads : Mode → Result Line LineFault → Type 0
Reads mode r = IfOk r (λ l. IsOfMode mode l)

then_reads : {A : Type 0} (mode : Mode) (r : Result A LineFault) (f : A → Result Line LineFault) → ((x : A) → Reads mode (f x)) → Reads mode (r >>= f)
then_reads mode (Ok x) f h = h x
then_reads mode (Err d) f h = tt

choice_reads : (mode : Mode) (b : Bool) (x y : Result Line LineFault) → Reads mode x → Reads mode y → Reads mode (cond b x y)
choice_reads mode true x y h k = h
choice_reads mode false x y h k = k

ended_reads : (mode : Mode) (l : Line) (ws : List Piece) → IsOfMode mode l → Reads mode (ended l ws)
ended_reads mode l [] h = h
ended_reads mode l (w ∷ ws) h = tt

single_reads : (mode : Mode) (line : ℕ → Line) (kind : Kind) (end : ℕ) (ws : List Piece) → ((n : ℕ) → IsOfMode mode (line n)) → Reads mode (single_line line kind end ws)
single_reads mode line kind end ws h = then_reads mode (number_then kind end ws) (λ n. ended (line n.0) n.1) (λ n. ended_reads mode (line n.0) n.1 (h n.0))

dropped_reads : (mode : Mode) (word : Option HeadWord) (column end : ℕ) (ws : List Piece) → IsTrue (has_statements mode) → Reads mode (dropped word column end ws)
dropped_reads mode None column end ws h = tt
dropped_reads mode (Some word) column end ws h =
    then_reads mode (fields_onto [] end (layout_of word).index ws) (λ index. ended (lines.Drop (head_of word index.0)) index.1) (λ index. ended_reads mode (lines.Drop (head_of word index.0)) index.1 h)

drop_reads : (mode : Mode) (end : ℕ) (ws : List Piece) → IsTrue (has_statements mode) → Reads mode (drop_line end ws)
drop_reads mode end [] h = tt
drop_reads mode end (w ∷ ws) h = dropped_reads mode (head_word_of w.text) w.column end ws h

come_reads : (end : ℕ) (ws : List Piece) → Reads modes.Certificate (come_line end ws)
come_reads end ws = then_reads modes.Certificate (number_then year end ws) (λ t. counts_onto [] end 1 14 t.1 >>= λ counts. value_at counts.1 >>= λ value. Ok (lines.Cert (certs.Come t.0 counts.0 value)))
    (λ t. then_reads modes.Certificate (counts_onto [] end 1 14 t.1) (λ counts. value_at counts.1 >>= λ value. Ok (lines.Cert (certs.Come t.0 counts.0 value)))
    (λ counts. then_reads modes.Certificate (value_at counts.1) (λ value. Ok (lines.Cert (certs.Come t.0 counts.0 value))) (λ value. refl)))

chosen_reads : (end : ℕ) (ws : List Piece) → Reads modes.Certificate (chosen_line end ws)
chosen_reads end ws = then_reads modes.Certificate (number_then year end ws) (λ t. groups_onto [] end (count ∷ []) 1 14 t.1 >>= λ counts. Ok (lines.Cert (certs.Chosen t.0 counts)))
    (λ t. then_reads modes.Certificate (groups_onto [] end (count ∷ []) 1 14 t.1) (λ counts. Ok (lines.Cert (certs.Chosen t.0 counts))) (λ counts. refl))

-- ---- the words of a mode

abbrev IsWordOf : Mode → LineWord → Type 0
IsWordOf mode word = (end : ℕ) (ws : List Piece) → Reads mode (behind word end ws)

abbrev AreWordsOf : Mode → List LineWord → Type 0
AreWordsOf mode [] = Unit {0}
AreWordsOf mode (word ∷ rest) = IsWordOf mode word × AreWordsOf mode rest

drop_word : (mode : Mode) → IsTrue (has_statements mode) → IsWordOf mode words.Drop
drop_word mode h end ws = drop_reads mode end ws h

end_word : (mode : Mode) → IsTrue (has_statements mode) → IsWordOf mode words.End
end_word mode h end ws = ended_reads mode lines.End ws h

plan_word : IsWordOf modes.Plan words.Plan
plan_word end ws = ended_reads modes.Plan lines.Plan ws refl

check_word : IsWordOf modes.Check words.Check
check_word end ws = single_reads modes.Check (λ c. lines.Check c) case end ws (λ n. refl)

total_word : IsWordOf modes.Certificate words.Total
total_word end ws = single_reads modes.Certificate (λ v. lines.Cert (certs.Total v)) number end ws (λ n. refl)

infeasible_word : IsWordOf modes.Certificate words.Infeasible
infeasible_word end ws = single_reads modes.Certificate (λ t. lines.Cert (certs.Infeasible t)) year end ws (λ n. refl)

endcheck_word : IsWordOf modes.Certificate words.EndCheck
endcheck_word end ws = ended_reads modes.Certificate lines.EndCheck ws refl

are_words : (mode : Mode) → AreWordsOf mode (line_words mode)
are_words modes.Plan = (drop_word modes.Plan refl, (plan_word, (end_word modes.Plan refl, tt)))
are_words modes.Check = (drop_word modes.Check refl, (check_word, (end_word modes.Check refl, tt)))
are_words modes.Certificate = (
  come_reads,
  (chosen_reads, (total_word, (infeasible_word, (endcheck_word, ((λ end ws. refl), ((λ end ws. refl), ((λ end ws. refl), ((λ end ws. refl), ((λ end ws. refl), ((λ end ws. refl), tt)))))))))),
)

found_is : (mode : Mode) (test : LineWord → Bool) (ws : List LineWord) → AreWordsOf mode ws → IfSome (find test ws) (IsWordOf mode)
found_is mode test [] are = tt
found_is mode test (w ∷ ws) are = elim (test w) as (λ b. IfSome (cond b (Some w) (find test ws)) (IsWordOf mode)) [
  | true ↦ are.0
  | false ↦ found_is mode test ws are.1
]

-- ---- lines

set_reads : (mode : Mode) (b : Bool) (column end : ℕ) (word : Option HeadWord) (ws : List Piece) → b ≡ has_statements mode → Reads mode (cond b (headed word column end ws >>= λ s. Ok (lines.Set s)) (Err (fault faults.Word column)))
set_reads mode true column end word ws e = then_reads mode (headed word column end ws) (λ s. Ok (lines.Set s)) (λ s. sym e)
set_reads mode false column end word ws e = tt

begun_reads : (word : Option LineWord) (mode : Mode) (end : ℕ) (w : Piece) (ws : List Piece) → IfSome word (IsWordOf mode) → Reads mode (begun word mode end w ws)
begun_reads (Some word) mode end w ws h = h end ws
begun_reads None mode end w ws h = set_reads mode (has_statements mode) w.column end (head_word_of w.text) ws refl

past_reads : (bad : Option ℕ) (mode : Mode) (end : ℕ) (w : Piece) (ws : List Piece) → Reads mode (past_bytes bad mode end w ws)
past_reads (Some column) mode end w ws = tt
past_reads None mode end w ws = begun_reads (line_word_of mode w.text) mode end w ws (found_is mode (λ word. bytes_eq w.text (line_spelling_of word)) (line_words mode) (are_words mode))

text_reads : (mode : Mode) (text : List ℕ) (ws : List Piece) → Reads mode (text_line mode text ws)
text_reads mode text [] = tt
text_reads mode text (w ∷ ws) = choice_reads mode (eqb (slice_index w.text 0) 35) (Ok lines.Blank) (past_bytes (bad_byte 1 text) mode (length text + 1) w ws) tt (past_reads (bad_byte 1 text) mode (length text + 1) w ws)

line_reads : (mode : Mode) (bytes : List ℕ) → Reads mode (line_of mode bytes)
unfolding line_of
line_reads mode bytes = choice_reads mode (nat_lt 4096 (length bytes)) (Err (fault faults.Long 4097)) (text_line mode (less_return bytes) (words_of (less_return bytes))) tt (text_reads mode (less_return bytes) (words_of (less_return bytes)))

given_reads : (mode : Mode) (r : Result Line LineError) (read : Result Line LineFault) → Gives (λ l. l) r read → Reads mode read → IfOk r (λ l. IsOfMode mode l)
given_reads mode (Ok l) read e h = rw e at h
given_reads mode (Err d) read e h = tt

pub of_mode : (mode : Mode) (bytes : List ℕ) (r : Result Line LineError) → Gives (λ l. l) r (line_of mode bytes) → IfOk r (λ l. IsOfMode mode l)
of_mode mode bytes r e = given_reads mode r (line_of mode bytes) e (line_reads mode bytes)
