-- How turns follow one another, and what is written at each way out.
use Rattle.std.proofs.Common.{◌≡◌, ◌∙◌, refl, sym, ap, subst, ℕ, ◌+◌, List, [], ◌∷◌, ◌++◌, Option, None, Some, append_assoc}
use Rattle.std.specs.Prelude.{Err, IfOk, IfSome, Ok, OnErr, Result}
use Rattle.std.proofs.lemmas.List.{append-nil, length-append}
use Rattle.std.specs.Io.KnownBytes.{Appends, Consumes}
use Rattle.deck_lines.specs.declared.line.Line.{Line}
use Rattle.line_reader.specs.Lines.{lines_of, unlines}
use Rattle.line_reader.specs.Reading.{ahead}
use Rattle.sim_engine.specs.Engine.{Work}
use Rattle.wasp_session.specs.State.{State, begun}
use Rattle.wasp_session.specs.declared.command.Command.{Command}
use Rattle.line_reader.proofs.Steps.{Consumes-none, Consumes-then}
use Rattle.wasp4.specs.declared.status.Ending.{Ending}
use Rattle.wasp4.specs.declared.status.Ending.TheVariants as endings
use Rattle.wasp4.specs.declared.status.Status.{Status}
use Rattle.wasp4.specs.declared.status.Status.TheVariants as statuses
use Rattle.wasp4.specs.declared.status.Turn.{Turn}
use Rattle.wasp4.specs.declared.status.Turn.TheVariants as turns
use Rattle.wasp4.specs.Going.{Effort}
use Rattle.wasp4.specs.Out.{IsFront}
use Rattle.wasp4.specs.Progress.{Advances, Answers, Closes, EndsIn, IsCutShort, PutAs, Serves, StopsBetween, StopsShort, StopsWithin, TakesLine, TurnFrom}
use Rattle.wasp4.specs.Script.{Script, script_behind}
use Rattle.wasp4.proofs.Fronts.{told_front, whole_front}
use Rattle.wasp4.proofs.Running.{run_none}
use Rattle.wasp4.proofs.Texts.{ahead_none, all_push, behind_line, behind_lines, unlines-push}
use Rattle.wasp4.proofs.Written.{Appends-none, Appends-then}

-- what is so of all lines is so of those that are told
of_all : (b : Option (List ℕ)) (P : List (List ℕ) → Type 0) → ((more : List (List ℕ)) → P more) → IfSome b (λ text. P (lines_of text))
of_all None P h = tt
of_all (Some b) P h = h (lines_of b)

of_told : (b : Option (List ℕ)) (P Q : List (List ℕ) → Type 0) → ((more : List (List ℕ)) → P more → Q more) → IfSome b (λ text. P (lines_of text)) → IfSome b (λ text. Q (lines_of text))
of_told None P Q h k = tt
of_told (Some b) P Q h k = h (lines_of b) k

-- ---- on

starts : (command : Command) (a w : Option (List ℕ)) (s : State) (works : List Work) → s ≡ begun command []
    → Advances command a a w w s (record { works = works; tally = 0 }) (record { works = works; tally = s.memory.tally }) 0
starts command a w s works is = record {
  texts = [];
  whole = tt;
  taken = Consumes-none a;
  read = [];
  count = refl;
  leads = λ more. refl;
  said = [];
  wrote = Appends-none w;
  run = run_none command s works is;
}

-- before the first line
pub started : (command : Command) (a w : Option (List ℕ)) (kept : List ℕ) (s : State) (works : List Work) → kept ≡ [] → s ≡ begun command []
    → Advances command a (ahead kept a) w w s (record { works = works; tally = 0 }) (record { works = works; tally = s.memory.tally }) 0
started command a w kept s works none is =
    subst (λ (b : Option (List ℕ)). Advances command a b w w s (record { works = works; tally = 0 }) (record { works = works; tally = s.memory.tally }) 0) (sym (ahead_none a kept none)) (starts command a w s works is)

-- one line more
pub advanced : (command : Command) (a b c w v z : Option (List ℕ)) (s t : State) (start u x : Effort) (n : ℕ) (so_far : Advances command a b w v s start u n)
    → Serves command b c v z so_far.read t so_far.said start x None → Advances command a c w z t start x (n + 1)
advanced command a b c w v z s t start u x n so_far served =
    let line : TakesLine command b c so_far.read t (so_far.said ++ served.text) start x = subst (TurnFrom command b c so_far.read t so_far.said served.text start x) served.put.0 served.took in
    record {
      texts = so_far.texts ++ line.bytes ∷ [];
      whole = all_push so_far.texts line.bytes so_far.whole line.whole;
      taken = subst (Consumes a c) (unlines-push so_far.texts line.bytes) (Consumes-then a b c (unlines so_far.texts) (line.bytes ++ 10 ∷ []) so_far.taken line.taken);
      read = so_far.read ++ line.line ∷ [];
      count = length-append so_far.read (line.line ∷ []) ∙ ap (λ (m : ℕ). m + 1) so_far.count;
      leads = λ more. ap (script_behind command []) (append_assoc so_far.texts (line.bytes ∷ []) more) ∙ so_far.leads (line.bytes ∷ more) ∙ line.leads more;
      said = so_far.said ++ served.text;
      wrote = Appends-then w v z so_far.said served.text so_far.wrote served.put.1;
      run = line.run;
    }

-- ---- the ways out

-- nothing more was written
pub stops_here : (command : Command) (a b w v : Option (List ℕ)) (s : State) (start u : Effort) (n : ℕ) → Advances command a b w v s start u n → StopsWithin command a w v
stops_here command a b w v s start u n so_far =
    let Front : List (List ℕ) → Type 0 = λ ls. IsFront command (script_behind command [] ls) so_far.said in (
      so_far.said,
      so_far.wrote,
      behind_lines a b so_far.texts Front so_far.whole so_far.taken
          (of_all b (λ ls. Front (so_far.texts ++ ls)) (λ more.
          subst (λ (x : Script). IsFront command x so_far.said) (sym (so_far.leads more))
          (told_front command so_far.read s so_far.said so_far.said [] start u more so_far.run (sym (append-nil so_far.said))))),
    )

-- a front of a turn's text was written
abbrev FrontAt : Command → List (List ℕ) → List ℕ → List (List ℕ) → Type 0
FrontAt command texts said ls = IsFront command (script_behind command [] (texts ++ ls)) said

front_of_turn : (command : Command) (b c : Option (List ℕ)) (t : State) (start x : Effort) (texts : List (List ℕ)) (read : List Line) (said text done rest : List ℕ) (turn : Option Turn)
    → ((more : List (List ℕ)) → script_behind command [] (texts ++ more) ≡ script_behind command read more) → TurnFrom command b c read t said text start x turn → said ++ text ≡ done ++ rest
    → IfSome b (λ text. FrontAt command texts done (lines_of text))
front_of_turn command b c t start x texts read said text done rest None leads turned e =
    let parts : said ≡ done ++ rest = sym (append-nil said) ∙ ap (λ (y : List ℕ). said ++ y) (sym turned.0) ∙ e in
    of_all b (FrontAt command texts done) (λ more. subst (λ (z : Script). IsFront command z done) (sym (leads more)) (told_front command read t said done rest start x more turned.1.run parts))
front_of_turn command b c t start x texts read said text done rest (Some turns.Goes) leads turned e =
    behind_line b c turned.bytes (FrontAt command texts done) turned.whole turned.taken (λ more.
    subst (λ (z : Script). IsFront command z done) (sym (leads (turned.bytes ∷ more) ∙ turned.leads more)) (told_front command (read ++ turned.line ∷ []) t (said ++ text) done rest start x more turned.run e))
front_of_turn command b c t start x texts read said text done rest (Some (turns.Over ending)) leads turned e =
    of_told b (λ ls. script_behind command read ls ≡ turned.script) (FrontAt command texts done)
    (λ more is. subst (λ (z : Script). IsFront command z done) (sym (leads more ∙ is)) (whole_front command turned.script (said ++ text) done rest start x turned.answered e)) turned.is

-- the sink failed
stops_short : (command : Command) (a b c w v z : Option (List ℕ)) (s t : State) (start u x : Effort) (n : ℕ) (text : List ℕ) (turn : Option Turn) (so_far : Advances command a b w v s start u n)
    → TurnFrom command b c so_far.read t so_far.said text start x turn → IsCutShort v z text → StopsShort command a w z
stops_short command a b c w v z s t start u x n text turn so_far turned cut =
    let before = so_far.said in
    let begun : List ℕ = (before ++ cut.done) ++ cut.next ∷ [] in
    let parts : before ++ text ≡ begun ++ cut.rest =
    ap (λ (y : List ℕ). before ++ y) cut.is ∙ sym (append_assoc before cut.done (cut.next ∷ cut.rest)) ∙ sym (append_assoc (before ++ cut.done) (cut.next ∷ []) cut.rest) in
    record {
      said = before ++ cut.done;
      next = cut.next;
      wrote = Appends-then w v z before cut.done so_far.wrote cut.wrote;
      front = behind_lines a b so_far.texts (λ ls. IsFront command (script_behind command [] ls) begun) so_far.whole so_far.taken
          (front_of_turn command b c t start x so_far.texts so_far.read before text begun cut.rest turn so_far.leads turned parts);
    }

-- the source failed
stops_between : (command : Command) (a b left w v z : Option (List ℕ)) (kept : List ℕ) (s t : State) (start u x : Effort) (n : ℕ) (text : List ℕ) (so_far : Advances command a b w v s start u n)
    → TurnFrom command b (ahead kept left) so_far.read t so_far.said text start x None → kept ≡ [] → Appends v z [] → StopsBetween command a left w z start x
stops_between command a b left w v z kept s t start u x n text so_far turned none put =
    let part = turned.1 in
    let same : so_far.said ++ [] ≡ part.run.told.text = append-nil so_far.said ∙ part.run.text in
    record {
      texts = so_far.texts;
      whole = so_far.whole;
      part = part.part;
      unended = part.unended;
      short = part.short;
      taken = subst (λ (y : Option (List ℕ)). Consumes a y (unlines so_far.texts ++ part.part)) (ahead_none left kept none) (Consumes-then a b (ahead kept left) (unlines so_far.texts) part.part so_far.taken part.taken);
      read = so_far.read;
      leads = so_far.leads;
      few = part.few;
      told = part.run.told;
      is_told = part.run.is_told;
      wrote = subst (Appends w z) same (Appends-then w v z so_far.said [] so_far.wrote put);
      keys = part.run.keys;
      are_keys = part.run.follows.are_keys;
      spent = part.run.spent;
    }

-- the script is over
closes_here : (command : Command) (a b c w v z : Option (List ℕ)) (s : State) (start u x : Effort) (n : ℕ) (text : List ℕ) (ending : Ending) (so_far : Advances command a b w v s start u n)
    → EndsIn command b c so_far.read (so_far.said ++ text) start x ending → Appends v z text → Closes command a w z start x ending
closes_here command a b c w v z s start u x n text ending so_far turn put = record {
  script = turn.script;
  is = behind_lines a b so_far.texts (λ ls. script_behind command [] ls ≡ turn.script) so_far.whole so_far.taken
      (of_told b (λ ls. script_behind command so_far.read ls ≡ turn.script) (λ ls. script_behind command [] (so_far.texts ++ ls) ≡ turn.script) (λ more is. so_far.leads more ∙ is) turn.is);
  said = so_far.said ++ text;
  wrote = Appends-then w v z so_far.said text so_far.wrote put;
  answered = turn.answered;
  ends = turn.ends;
}

-- how a line whose text was put ends the run
ended_put : (command : Command) (a b left w v z : Option (List ℕ)) (kept : List ℕ) (s t : State) (start u x : Effort) (n : ℕ) (text : List ℕ) (turn : Option Turn) (status : Status) (so_far : Advances command a b w v s start u n)
    → TurnFrom command b (ahead kept left) so_far.read t so_far.said text start x turn → (status ≡ statuses.ReadFault → kept ≡ []) → PutAs v z text turn (Some status) → Answers command a left w z start x status
ended_put command a b left w v z kept s t start u x n text turn statuses.Done so_far turned none put =
    closes_here command a b (ahead kept left) w v z s start u x n text endings.Done so_far (subst (TurnFrom command b (ahead kept left) so_far.read t so_far.said text start x) put.0 turned) put.1
ended_put command a b left w v z kept s t start u x n text turn statuses.CheckNo so_far turned none put =
    closes_here command a b (ahead kept left) w v z s start u x n text endings.CheckNo so_far (subst (TurnFrom command b (ahead kept left) so_far.read t so_far.said text start x) put.0 turned) put.1
ended_put command a b left w v z kept s t start u x n text turn statuses.Malformed so_far turned none put =
    closes_here command a b (ahead kept left) w v z s start u x n text endings.Malformed so_far (subst (TurnFrom command b (ahead kept left) so_far.read t so_far.said text start x) put.0 turned) put.1
ended_put command a b left w v z kept s t start u x n text turn statuses.ReadFault so_far turned none put =
    stops_between command a b left w v z kept s t start u x n text so_far (subst (TurnFrom command b (ahead kept left) so_far.read t so_far.said text start x) put.0 turned) (none refl) put.1
ended_put command a b left w v z kept s t start u x n text turn statuses.WriteFault so_far turned none put = stops_short command a b (ahead kept left) w v z s t start u x n text turn so_far turned put.1
ended_put command a b left w v z kept s t start u x n text turn statuses.OutOfMemory so_far turned none put = absurd put
ended_put command a b left w v z kept s t start u x n text turn statuses.BadWords so_far turned none put = absurd put

pub answered : (command : Command) (a b left w v z : Option (List ℕ)) (kept : List ℕ) (s t : State) (start u x : Effort) (n : ℕ) (status : Status) (so_far : Advances command a b w v s start u n)
    → Serves command b (ahead kept left) v z so_far.read t so_far.said start x (Some status) → (status ≡ statuses.ReadFault → kept ≡ []) → Answers command a left w z start x status
answered command a b left w v z kept s t start u x n status so_far served none =
    ended_put command a b left w v z kept s t start u x n served.text served.turn status so_far served.took none served.put

-- the same of a result
pub answered_past : {X : Type 0} (command : Command) (a b left w v z : Option (List ℕ)) (kept : List ℕ) (s t : State) (start u x : Effort) (n : ℕ) (result : Result Status X) (so_far : Advances command a b w v s start u n)
    → IfOk result (λ status. Serves command b (ahead kept left) v z so_far.read t so_far.said start x (Some status)) → (result ≡ Ok statuses.ReadFault → kept ≡ []) → IfOk result (λ status. Answers command a left w z start x status)
answered_past {X} command a b left w v z kept s t start u x n (Ok status) so_far served none = answered command a b left w v z kept s t start u x n status so_far served (λ is. none (ap (λ (y : Status). Ok y) is))
answered_past {X} command a b left w v z kept s t start u x n (Err e) so_far served none = tt

pub stopped_past : {X Y Z : Type 0} (command : Command) (a b w : Option (List ℕ)) (written : Y → Option (List ℕ)) (old new : Y) (s : State) (start u : Effort) (n : ℕ) (result : Result Z X) → Advances command a b w (written old) s start u n
    → OnErr result (new ≡ old) → OnErr result (StopsWithin command a w (written new))
stopped_past {X} {Y} {Z} command a b w written old new s start u n (Ok z) so_far same = tt
stopped_past {X} {Y} {Z} command a b w written old new s start u n (Err e) so_far same =
    subst (λ (y : Y). StopsWithin command a w (written y)) (sym same) (stops_here command a b w (written old) s start u n so_far)
