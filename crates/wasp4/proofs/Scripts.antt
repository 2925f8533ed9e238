-- What comes of one line more of a script.
use Rattle.std.proofs.Common.{◌≡◌, ◌≢◌, ℕ, ◌<◌, false, List, [], ◌∷◌, ◌++◌, length, Option, None, Some, refl, sym, ap, subst, ◌∙◌, append_assoc, arith}
use Rattle.std.specs.Prelude.{Result, Ok, Err, IfSome, nat_lt, if◌then◌else◌, Bool}
use Rattle.std.proofs.lemmas.Bool.{le-ltb, lt-ltb}
use Rattle.std.proofs.lemmas.List.{append-nil, length-append}
use Rattle.line_reader.specs.Lines.{lines_of}
use Rattle.line_reader.specs.Reading.{LineBegins}
use Rattle.deck_lines.specs.Grammar.{line_of}
use Rattle.deck_lines.specs.LineFault.{fault}
use Rattle.deck_lines.specs.declared.fault.LineFault.{LineFault}
use Rattle.deck_lines.specs.declared.fault.LineKind.TheVariants as kinds
use Rattle.deck_lines.specs.declared.line.Line.{Line}
use Rattle.deck_lines.specs.declared.line.Line.TheVariants as lines
use Rattle.deck_tellings.specs.Checks.{Open, check_count, open_at}
use Rattle.wasp_session.specs.Tasks.{plan_count, task_of}
use Rattle.wasp_session.specs.State.{State}
use Rattle.wasp_session.specs.declared.command.Command.{Command}
use Rattle.wasp_session.specs.declared.command.Command.TheVariants as commands
use Rattle.wasp4.specs.Progress.{Leads}
use Rattle.wasp4.specs.Script.{Script, ends, line_behind, line_then, script_behind, stated, stops}
use Rattle.wasp4.specs.Going.{Effort, HasRun}

pub no_end : (command : Command) (read : List Line) → script_behind command read [] ≡ stops read (fault kinds.NoEnd 1)
unfolding script_behind
no_end command read = refl

pub line_more : (command : Command) (read : List Line) (bytes : List ℕ) (more : List (List ℕ)) → script_behind command read (bytes ∷ more) ≡ line_then read (λ ls. script_behind command ls more) (line_behind command read bytes)
unfolding script_behind
line_more command read bytes more = refl

-- what the bytes of a line are to a session
abbrev pub stated_to : State → List ℕ → Result Line LineFault
stated_to s bytes = stated s.command s.opened s.plans s.checks bytes

-- the command of a task
of_task : (command other : Command) → other ≡ (task_of command).command → other ≡ command
of_task commands.Plan other e = e
of_task commands.Check other e = e
of_task commands.Search other e = e
of_task (commands.Best k) other e = e

-- within the number of lines a line is what its bytes state
within : (command : Command) (read : List Line) (s : State) (said : List ℕ) (w v : Effort) (bytes : List ℕ) → length read < 100000 → HasRun command read s said w v → line_behind command read bytes ≡ stated_to s bytes
within command read s said w v bytes few r =
    ap (λ (b : Bool). if b then stated command (open_at read) (plan_count read) (check_count read) bytes else Err (fault kinds.ManyLines 1)) (lt-ltb (length read) 100000 few)
    ∙ ap (λ (c : Command). stated c (open_at read) (plan_count read) (check_count read) bytes) (sym (of_task command s.command r.follows.command))
    ∙ (λ i. stated s.command (sym r.follows.opened i) (sym r.follows.plans i) (sym r.follows.checks i) bytes)

-- what comes of it
line_here : (command : Command) (read : List Line) (s : State) (said : List ℕ) (w v : Effort) (bytes : List ℕ) (result : Result Line LineFault) → length read < 100000 → HasRun command read s said w v → stated_to s bytes ≡ result
    → (more : List (List ℕ)) → script_behind command read (bytes ∷ more) ≡ line_then read (λ ls. script_behind command ls more) result
line_here command read s said w v bytes result few r is more =
    line_more command read bytes more ∙ ap (line_then read (λ ls. script_behind command ls more)) (within command read s said w v bytes few r ∙ is)

pub faulty_here : (command : Command) (read : List Line) (s : State) (said : List ℕ) (w v : Effort) (bytes : List ℕ) (f : LineFault) → length read < 100000 → HasRun command read s said w v → stated_to s bytes ≡ Err f
    → (more : List (List ℕ)) → script_behind command read (bytes ∷ more) ≡ stops read f
faulty_here command read s said w v bytes f few r is more = line_here command read s said w v bytes (Err f) few r is more

pub ends_here : (command : Command) (read : List Line) (s : State) (said : List ℕ) (w v : Effort) (bytes : List ℕ) → length read < 100000 → HasRun command read s said w v → stated_to s bytes ≡ Ok lines.End
    → (more : List (List ℕ)) → script_behind command read (bytes ∷ more) ≡ ends read
ends_here command read s said w v bytes few r is more = line_here command read s said w v bytes (Ok lines.End) few r is more

then_goes : (read : List Line) (line : Line) (rest : List Line → Script) → line ≢ lines.End → line_then read rest (Ok line) ≡ rest (read ++ line ∷ [])
then_goes read lines.End rest ne = absurd (ne refl)
then_goes read lines.Blank rest ne = refl
then_goes read (lines.Set s) rest ne = refl
then_goes read (lines.Drop h) rest ne = refl
then_goes read lines.Plan rest ne = refl
then_goes read (lines.Check c) rest ne = refl
then_goes read (lines.Cert l) rest ne = refl
then_goes read lines.Skip rest ne = refl
then_goes read lines.EndCheck rest ne = refl

pub goes_on : (command : Command) (read : List Line) (s : State) (said : List ℕ) (w v : Effort) (bytes : List ℕ) (line : Line) → length read < 100000 → HasRun command read s said w v → stated_to s bytes ≡ Ok line → line ≢ lines.End
    → Leads command read bytes line
goes_on command read s said w v bytes line few r is ne more =
    line_here command read s said w v bytes (Ok line) few r is more ∙ then_goes read line (λ ls. script_behind command ls more) ne

-- a line of more than 4,096 bytes
long_is : (command : Command) (opened : Option Open) (plans checks : ℕ) (bytes : List ℕ) → 4096 < length bytes → stated command opened plans checks bytes ≡ Err (fault kinds.Long 4097)
unfolding line_of
long_is command opened plans checks bytes long = rw (lt-ltb 4096 (length bytes) long) refl

pub long_here : (command : Command) (read : List Line) (s : State) (said : List ℕ) (w v : Effort) (line : List ℕ) (text : Option (List ℕ)) → length read < 100000 → HasRun command read s said w v → 4096 < length line
    → IfSome text (λ t. LineBegins t line) → IfSome text (λ t. script_behind command read (lines_of t) ≡ stops read (fault kinds.Long 4097))
long_here command read s said w v line None few r long begins = tt
long_here command read s said w v line (Some t) few r long begins =
    ap (script_behind command read) begins.2
    ∙ faulty_here command read s said w v (line ++ begins.0) (fault kinds.Long 4097) few r
    (long_is s.command s.opened s.plans s.checks (line ++ begins.0) (omega (arith, long, length-append line begins.0))) begins.1

not_below : (n : ℕ) → 100000 ≡ n → nat_lt n 100000 ≡ false
not_below n e = le-ltb n 100000 (omega (arith, e))

-- the 100,001st line
pub too_many : (command : Command) (read : List Line) (bytes : List ℕ) (more : List (List ℕ)) → 100000 ≡ length read → script_behind command read (bytes ∷ more) ≡ stops read (fault kinds.ManyLines 1)
too_many command read bytes more e =
    line_more command read bytes more
    ∙ ap (λ (b : Bool). line_then read (λ ls. script_behind command ls more) (if b then stated command (open_at read) (plan_count read) (check_count read) bytes else Err (fault kinds.ManyLines 1)))
    (not_below (length read) e)

abbrev Keeping : List Line → Script → Type 0
Keeping read script = (rest : List Line) × (script.lines ≡ read ++ rest)

keeping_line : (read : List Line) (line : Line) (script : Script) → Keeping (read ++ line ∷ []) script → Keeping read script
keeping_line read line script h = (line ∷ h.0, h.1 ∙ append_assoc read (line ∷ []) h.0)

keeps_then : (read : List Line) (rest : List Line → Script) (result : Result Line LineFault) → ((ls : List Line) → Keeping ls (rest ls)) → Keeping read (line_then read rest result)
keeps_then read rest (Err f) h = ([], sym (append-nil read))
keeps_then read rest (Ok lines.End) h = ([], sym (append-nil read))
keeps_then read rest (Ok lines.Blank) h = keeping_line read lines.Blank (rest (read ++ lines.Blank ∷ [])) (h (read ++ lines.Blank ∷ []))
keeps_then read rest (Ok (lines.Set s)) h = keeping_line read (lines.Set s) (rest (read ++ lines.Set s ∷ [])) (h (read ++ lines.Set s ∷ []))
keeps_then read rest (Ok (lines.Drop g)) h = keeping_line read (lines.Drop g) (rest (read ++ lines.Drop g ∷ [])) (h (read ++ lines.Drop g ∷ []))
keeps_then read rest (Ok lines.Plan) h = keeping_line read lines.Plan (rest (read ++ lines.Plan ∷ [])) (h (read ++ lines.Plan ∷ []))
keeps_then read rest (Ok (lines.Check c)) h = keeping_line read (lines.Check c) (rest (read ++ lines.Check c ∷ [])) (h (read ++ lines.Check c ∷ []))
keeps_then read rest (Ok (lines.Cert l)) h = keeping_line read (lines.Cert l) (rest (read ++ lines.Cert l ∷ [])) (h (read ++ lines.Cert l ∷ []))
keeps_then read rest (Ok lines.Skip) h = keeping_line read lines.Skip (rest (read ++ lines.Skip ∷ [])) (h (read ++ lines.Skip ∷ []))
keeps_then read rest (Ok lines.EndCheck) h = keeping_line read lines.EndCheck (rest (read ++ lines.EndCheck ∷ [])) (h (read ++ lines.EndCheck ∷ []))

-- a script has the lines that were read, and perhaps others behind them
pub keeps_lines : (command : Command) (more : List (List ℕ)) (read : List Line) → (rest : List Line) × ((script_behind command read more).lines ≡ read ++ rest)
keeps_lines command [] read = subst (Keeping read) (sym (no_end command read)) ([], sym (append-nil read))
keeps_lines command (bytes ∷ more) read =
    subst (Keeping read) (sym (line_more command read bytes more)) (keeps_then read (λ ls. script_behind command ls more) (line_behind command read bytes) (keeps_lines command more))
