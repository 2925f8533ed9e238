-- What one turn makes of the lines behind those that were read.
use Rattle.std.proofs.Common.{◌≡◌, ◌∙◌, refl, sym, ap, subst, inl, inr, ℕ, zero, suc, ◌+◌, ◌<◌, ◌≤◌, ◌↔◌, Bool, false, true≢false, is_some, List, [], ◌∷◌, ◌++◌, length, Option, None, Some, Ok, append_assoc, arith}
use Rattle.std.specs.Prelude.{IfSome, IsTrue, ◌==◌}
use Rattle.std.proofs.lemmas.Bool.{cases_Bool, eqb-true}
use Rattle.std.proofs.lemmas.List.{append-nil, length-append}
use Rattle.std.specs.Io.KnownBytes.{Consumes, IsAtEnd, Keeps}
use Rattle.deck_lines.specs.LineFault.{fault}
use Rattle.deck_lines.specs.declared.fault.LineFault.{LineFault}
use Rattle.deck_lines.specs.declared.fault.LineKind.TheVariants as kinds
use Rattle.deck_lines.specs.declared.line.Line.{Line}
use Rattle.deck_lines.specs.declared.line.Line.TheVariants as lines
use Rattle.line_reader.specs.Lines.{IsUnbroken, lines_of, onto}
use Rattle.line_reader.specs.Reading.{IsLast}
use Rattle.report_text.specs.Lines.{keys_line}
use Rattle.report_text.specs.Refusals.{malformed_line}
use Rattle.wasp_session.specs.State.{State}
use Rattle.wasp_session.specs.declared.command.Command.{Command}
use Rattle.wasp4.specs.declared.status.Ending.{Ending}
use Rattle.wasp4.specs.declared.status.Ending.TheVariants as endings
use Rattle.wasp4.specs.declared.status.Turn.{Turn}
use Rattle.wasp4.specs.declared.status.Turn.TheVariants as turns
use Rattle.wasp4.specs.Out.{IsAnswered}
use Rattle.wasp4.specs.Progress.{AnswersLine, EndsAs, EndsHere, EndsIn, IsOneLine, TurnFrom}
use Rattle.wasp4.specs.Script.{Malformed, Script, ends, script_behind, stops}
use Rattle.wasp4.specs.Going.{Effort, HasRun}
use Rattle.wasp4.proofs.Running.{closed, closed_nos}
use Rattle.wasp4.proofs.Scripts.{ends_here, no_end, stated_to, too_many}
use Rattle.wasp4.proofs.Texts.{behind_line}

-- ---- what one turn takes

line_fed : (line : List ℕ) → IsUnbroken line → length line ≤ 4096 → IsOneLine (line ++ 10 ∷ [])
line_fed line unbroken short = record { line = line; unbroken = unbroken; short = omega (arith, short); is = inr refl }

pub line_part : (line : List ℕ) → IsUnbroken line → length line ≤ 4097 → IsOneLine line
line_part line unbroken short = record { line = line; unbroken = unbroken; short = short; is = inl refl }

pub byte_part : (b : ℕ) → IsOneLine (b ∷ [])
byte_part b =
    elim (cases_Bool (b == 10)) [
      | inl e ↦ record { line = []; unbroken = tt; short = omega arith; is = inr (ap (λ (x : ℕ). x ∷ []) (eqb-true b 10 e)) }
      | inr e ↦ line_part (b ∷ []) ((λ same. true≢false (sym (ap (λ (x : ℕ). x == 10) same) ∙ e)), tt) (omega arith)
    ]

pub consumes_last : (before now : Option (List ℕ)) (line : List ℕ) → IsLast before now line → Consumes before now line
consumes_last None now line h = tt
consumes_last (Some t) None line h = absurd h
consumes_last (Some t) (Some rest) line h = h.0 ∙ sym (append-nil line) ∙ ap (λ (x : List ℕ). line ++ x) (sym h.1)

pub consumes_none : (before now : Option (List ℕ)) → Keeps before now → Consumes before now []
consumes_none None now h = tt
consumes_none (Some t) None h = absurd h
consumes_none (Some t) (Some rest) h = sym h

pub not_full : {P : Type 0} (n : ℕ) → n < 100000 → n ≡ 100000 → P
not_full n few full = absurd (omega (arith, few, full))

-- ---- a line that has a fault

-- the line behind those that were read
pub refused : (command : Command) (before now : Option (List ℕ)) (read : List Line) (s : State) (said text more bytes : List ℕ) (w v : Effort) (number : ℕ) (f : LineFault) → HasRun command read s said w v → number ≡ length read + 1 → text ≡ []
    → more ≡ (text ++ malformed_line number f) ++ keys_line (length s.memory.shelf.kept) → IfSome before (λ t. script_behind command read (lines_of t) ≡ stops read f)
    → IsOneLine bytes → Consumes before now bytes → ((length read ≡ 100000) → length bytes ≤ 1) → EndsIn command before now read (said ++ more) w v endings.Malformed
refused command before now read s said text more bytes w v number f r e clear is h one taken few =
    let at : Malformed = record { line = length read + 1; fault = f } in
    record {
      bytes = bytes;
      one = one;
      taken = taken;
      few = few;
      script = stops read f;
      is = h;
      answered = closed command read s said more w v (Some at) r
          (is ∙ ap (λ (x : List ℕ). (x ++ malformed_line number f) ++ keys_line (length s.memory.shelf.kept)) clear
          ∙ ap (λ (n : ℕ). malformed_line n f ++ keys_line (length s.memory.shelf.kept)) e);
      ends = λ none. true≢false (ap is_some none);
    }

-- the text is at its end
pub at_end : (command : Command) (before : Option (List ℕ)) (read : List Line) → IfSome before (λ t. lines_of t ≡ []) → IfSome before (λ t. script_behind command read (lines_of t) ≡ stops read (fault kinds.NoEnd 1))
at_end command None read h = tt
at_end command (Some t) read h = ap (script_behind command read) h ∙ no_end command read

pub no_byte : (before : Option (List ℕ)) → IsAtEnd before → IfSome before (λ t. lines_of t ≡ [])
no_byte None h = tt
no_byte (Some t) h = ap lines_of h

-- a byte begins a line
abbrev pub Begun : List (List ℕ) → Type 0
Begun ls = (x : List ℕ) × (xs : List (List ℕ)) × (ls ≡ x ∷ xs)

onto_begun : (b : ℕ) (ls : List (List ℕ)) → Begun (onto b ls)
onto_begun b [] = (b ∷ [], [], refl)
onto_begun b (l ∷ ls) = (b ∷ l, ls, refl)

pub begun : (b : ℕ) (rest : List ℕ) → Begun (lines_of (b ∷ rest))
begun b rest =
    elim (cases_Bool (b == 10)) [
      | inl e ↦ ([], lines_of rest, rw e refl)
      | inr e ↦ subst Begun (sym (rw e refl)) (onto_begun b (lines_of rest))
    ]

pub one_byte : (command : Command) (before now : Option (List ℕ)) (b : ℕ) (read : List Line) → Consumes before now (b ∷ []) → 100000 ≡ length read
    → IfSome before (λ t. script_behind command read (lines_of t) ≡ stops read (fault kinds.ManyLines 1))
one_byte command None now b read taken full = tt
one_byte command (Some t) None b read taken full = absurd taken
one_byte command (Some t) (Some rest) b read taken full =
    let w = begun b rest in
    ap (λ (x : List ℕ). script_behind command read (lines_of x)) taken ∙ ap (script_behind command read) w.2 ∙ too_many command read w.0 w.1 full

-- ---- a line that ends the script

-- an END
pub ended_here : (command : Command) (read : List Line) (bytes : List ℕ) (s : State) (said more : List ℕ) (w v : Effort) (ending : Ending) → length read < 100000 → HasRun command read s said w v
    → stated_to s bytes ≡ Ok lines.End → more ≡ keys_line (length s.memory.shelf.kept) → EndsAs ending None s.nos → EndsHere command read bytes (said ++ more) w v ending
ended_here command read bytes s said more w v ending few r is text h = record {
  script = ends read;
  is = ends_here command read s said w v bytes few r is;
  answered = closed command read s said more w v None r text;
  ends = subst (EndsAs ending None) (closed_nos command read s said more w v None r text) h;
}

-- no check said NO
pub none_said : (said : Bool) (nos : ℕ) → (IsTrue said ↔ (1 ≤ nos)) → said ≡ false → nos ≡ 0
none_said said zero h e = refl
none_said said (suc nos) h e = absurd (true≢false (sym (h.1 (omega arith)) ∙ e))

-- ---- a line that was answered

-- with its line feed
pub line_turn : (command : Command) (before now : Option (List ℕ)) (read : List Line) (bytes : List ℕ) (s : State) (said text : List ℕ) (start w : Effort) (turn : Turn) → IsUnbroken bytes → length bytes ≤ 4096 → length read < 100000
    → Consumes before now (bytes ++ 10 ∷ []) → AnswersLine command read bytes s (said ++ text) start w turn → TurnFrom command before now read s said text start w (Some turn)
line_turn command before now read bytes s said text start w turns.Goes whole short few taken a = record { bytes = bytes; whole = whole; taken = taken; line = a.0; leads = a.1; run = a.2 }
line_turn command before now read bytes s said text start w (turns.Over ending) whole short few taken a = record {
  bytes = bytes ++ 10 ∷ [];
  one = line_fed bytes whole short;
  taken = taken;
  few = not_full (length read) few;
  script = a.script;
  is = behind_line before now bytes (λ ls. script_behind command read ls ≡ a.script) whole taken a.is;
  answered = a.answered;
  ends = a.ends;
}

-- as the last
last_is : (command : Command) (before : Option (List ℕ)) (read : List Line) (bytes : List ℕ) (script : Script) → IfSome before (λ t. lines_of t ≡ bytes ∷ []) → script_behind command read (bytes ∷ []) ≡ script
    → IfSome before (λ t. script_behind command read (lines_of t) ≡ script)
last_is command None read bytes script h e = tt
last_is command (Some t) read bytes script h e = ap (script_behind command read) h ∙ e

pub over_turn : (command : Command) (before now : Option (List ℕ)) (read : List Line) (bytes : List ℕ) (said : List ℕ) (start w : Effort) (ending : Ending) → IsLast before now bytes → IsUnbroken bytes → length bytes ≤ 4096 → length read < 100000
    → IfSome before (λ t. lines_of t ≡ bytes ∷ []) → EndsHere command read bytes said start w ending → EndsIn command before now read said start w ending
over_turn command before now read bytes said start w ending last whole short few h a = record {
  bytes = bytes;
  one = line_part bytes whole (omega (arith, short));
  taken = consumes_last before now bytes last;
  few = not_full (length read) few;
  script = a.script;
  is = last_is command before read bytes a.script h (a.is []);
  answered = a.answered;
  ends = a.ends;
}

-- and no END stands behind it
pub last_goes : (command : Command) (before now : Option (List ℕ)) (read : List Line) (bytes : List ℕ) (s : State) (said text more : List ℕ) (start w : Effort) (number : ℕ) → number ≡ length read + 1
    → IsLast before now bytes → IsUnbroken bytes → length bytes ≤ 4096 → length read < 100000 → IfSome before (λ t. lines_of t ≡ bytes ∷ [])
    → AnswersLine command read bytes s (said ++ text) start w turns.Goes → more ≡ (text ++ malformed_line (number + 1) (fault kinds.NoEnd 1)) ++ keys_line (length s.memory.shelf.kept)
    → EndsIn command before now read (said ++ more) start w endings.Malformed
last_goes command before now read bytes s said text more start w number e last whole short few h a is =
    let all : List Line = read ++ a.0 ∷ [] in
    let f : LineFault = fault kinds.NoEnd 1 in
    let at : Malformed = record { line = length all + 1; fault = f } in
    let tail : List ℕ = malformed_line (length all + 1) f ++ keys_line (length s.memory.shelf.kept) in
    let next : number + 1 ≡ length all + 1 = omega (arith, e, length-append read (a.0 ∷ [])) in
    let parts : (said ++ text) ++ tail ≡ said ++ more =
    append_assoc said text tail
    ∙ ap (λ (x : List ℕ). said ++ x) (sym (is ∙ ap (λ (n : ℕ). (text ++ malformed_line n f) ++ keys_line (length s.memory.shelf.kept)) next ∙ append_assoc text (malformed_line (length all + 1) f) (keys_line (length s.memory.shelf.kept)))) in
    record {
      bytes = bytes;
      one = line_part bytes whole (omega (arith, short));
      taken = consumes_last before now bytes last;
      few = not_full (length read) few;
      script = stops all f;
      is = last_is command before read bytes (stops all f) h (a.1 [] ∙ no_end command all);
      answered = subst (λ (x : List ℕ). IsAnswered command (stops all f) x start w) parts (closed command all s (said ++ text) tail start w (Some at) a.2 refl);
      ends = λ none. true≢false (ap is_some none);
    }
