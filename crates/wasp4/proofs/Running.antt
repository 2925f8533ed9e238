-- One line more: what is said of it, and what is done for it.
use Rattle.std.proofs.Common.{◌≡◌, ◌∙◌, refl, sym, ap, subst, ℕ, ◌+◌, ◌*◌, ◌^◌, ◌<◌, ◌≤◌, zero, suc, List, [], ◌∷◌, ◌++◌, Contains, length, map, take, drop, Option, None, Some, arith}
use Rattle.std.specs.Prelude.{Vec}
use Rattle.std.proofs.lemmas.List.{append-nil, length-append}
use Rattle.deck_lines.specs.declared.line.CertLine.{CertLine}
use Rattle.deck_lines.specs.declared.line.Line.{Line}
use Rattle.deck_lines.specs.declared.line.Line.TheVariants as lines
use Rattle.deck_lines.specs.declared.line.Mode.TheVariants as modes
use Rattle.report_text.specs.Lines.{keys_line}
use Rattle.row_shelf.specs.Shelf.{ShelfIs}
use Rattle.sim_engine.proofs.CountSteps.{raised_then}
use Rattle.sim_engine.specs.Engine.{Run, Work, raised}
use Rattle.sim_sweep.proofs.TogetherSteps.{together_none, together_then}
use Rattle.sim_sweep.specs.Works.{HaveWorked}
use Rattle.wasp_session.proofs.FollowSteps.{follows_line, follows_none}
use Rattle.wasp_session.proofs.TellSteps.{told_more}
use Rattle.deck_tellings.specs.Checks.{Open, with_line}
use Rattle.wasp_session.specs.Modes.{HasPlans, IsOfMode, check_mode, mode_of}
use Rattle.wasp_session.specs.State.{IsState, State, begun, open_count}
use Rattle.wasp_session.specs.Steps.{DoesLine, IsPlaced}
use Rattle.deck_tellings.specs.Learning.{GainsFew}
use Rattle.wasp_session.specs.Tasks.{AreKeys, most_keys, most_plans, task_of}
use Rattle.deck_tellings.specs.Told.{Told, joined, nothing}
use Rattle.wasp_session.specs.declared.command.Command.{Command}
use Rattle.wasp_session.specs.declared.command.Command.TheVariants as commands
use Rattle.wasp4.specs.Going.{Effort, HasBegun, HasRun, HasTaken, IsSpent, effort_by, most_rows}
use Rattle.wasp4.specs.Out.{IsAnswered, closing}
use Rattle.wasp4.specs.Script.{Malformed}

-- ---- efforts

pub spent_none : (e : Effort) → IsSpent [] 0 e e
spent_none e = record { worked = together_none e.works; tally = refl }

pub spent_then : (xs ys : List Run) (m n : ℕ) (a b c : Effort) → IsSpent xs m a b → IsSpent ys n b c → IsSpent (xs ++ ys) (m + n) a c
spent_then xs ys m n a b c one other = record {
  worked = together_then xs ys m n a.works b.works c.works one.worked other.worked;
  tally = other.tally ∙ ap (raised (length ys)) one.tally ∙ raised_then (length xs) (length ys) a.tally ∙ ap (λ (k : ℕ). raised k a.tally) (sym (length-append xs ys));
}

-- ---- a line more

pub run_more : {X Z : Type 0} (command : Command) (read : List Line) (line : Line) (s t : State) (said : List ℕ) (start : Effort) (work : X → Work) (es fs : List X) (text more : Vec ℕ Z)
    → IsOfMode (mode_of s.command s.opened) line → HasRun command read s said start (effort_by work es s.memory.tally) → text.items ≡ []
    → DoesLine line s t work es fs text more → HasRun command (read ++ line ∷ []) t (said ++ more.items) start (effort_by work fs t.memory.tally)
run_more command read line s t said start work es fs text more mode r clear does =
    let g = follows_line command read line r.keys s t work es fs text more mode r.follows does in
    let added : more.items ≡ g.told.text = g.text ∙ ap (λ (x : List ℕ). x ++ g.told.text) clear in
    record {
      told = joined r.told g.told;
      is_told = told_more (task_of command) read line r.told g.told r.is_told g.is_told;
      text = ap (λ (x : List ℕ). x ++ more.items) r.text ∙ ap (λ (x : List ℕ). r.told.text ++ x) added;
      nos = omega (arith, r.nos, g.nos);
      keys = r.keys ++ g.new;
      follows = g.follows;
      spent = spent_then r.keys g.new r.told.details g.told.details start (effort_by work es s.memory.tally) (effort_by work fs t.memory.tally) r.spent (record { worked = g.worked; tally = g.tally });
    }

-- ---- the closing

pub closed : (command : Command) (read : List Line) (s : State) (said more : List ℕ) (w v : Effort) (m : Option Malformed) → HasRun command read s said w v → more ≡ closing m (length s.memory.shelf.kept)
    → IsAnswered command (record { lines = read; malformed = m }) (said ++ more) w v
closed command read s said more w v m r e = record {
  told = r.told;
  is_told = r.is_told;
  keys = r.keys;
  are_keys = r.follows.are_keys;
  text = ap (λ (x : List ℕ). x ++ more) r.text ∙ ap (λ (x : List ℕ). r.told.text ++ x) (e ∙ ap (closing m) r.follows.holds.many);
  spent = r.spent;
}

-- and the NOs in it
pub closed_nos : (command : Command) (read : List Line) (s : State) (said more : List ℕ) (w v : Effort) (m : Option Malformed) (r : HasRun command read s said w v) (e : more ≡ closing m (length s.memory.shelf.kept))
    → s.nos ≡ (closed command read s said more w v m r e).told.nos
unfolding closed
closed_nos command read s said more w v m r e = r.nos

-- no line demands no key
pub none_of : (command : Command) (keys : List Run) → AreKeys (task_of command) [] keys → keys ≡ []
none_of command [] are = refl
none_of command (key ∷ keys) are = absurd ((are.each key).0 (0, omega arith, refl))

-- ---- END

-- it demands no key, so nothing is done
none_new : (new : List Run) → ((key : Run) → Contains new key → ⊥) → new ≡ []
none_new [] none = refl
none_new (key ∷ new) none = absurd (none key (0, omega arith, refl))

-- what an END does: the number of the keys is written
pub record Ends {Z : Type 0} (s t : State) (text more : Vec ℕ Z) (before now : Effort) : Type 0 where
  pub wrote : more.items ≡ text.items ++ keys_line (length s.memory.shelf.kept)
  pub nos : t.nos ≡ s.nos
  pub spent : IsSpent [] 0 before now

pub at_end : {X Z : Type 0} (s t : State) (work : X → Work) (es fs : List X) (text more : Vec ℕ Z) → DoesLine lines.End s t work es fs text more
    → Ends s t text more (effort_by work es s.memory.tally) (effort_by work fs t.memory.tally)
at_end s t work es fs text more does =
    let tells = does.tells in
    let learns = tells.learns in
    let none : learns.new ≡ [] = none_new learns.new (λ key has. learns.adds.asked key has) in
    let details : tells.told.details ≡ 0 = ap (λ (x : Told). x.details) tells.is_told in
    let no : tells.told.nos ≡ 0 = ap (λ (x : Told). x.nos) tells.is_told in
    let count : does.count ≡ 0 = sym tells.nos ∙ no in
    let state : t.nos ≡ s.nos + does.count = ap (λ (z : State). z.nos) does.state in
    record {
      wrote = tells.text ∙ ap (λ (x : Told). text.items ++ x.text) tells.is_told;
      nos = omega (arith, state, count);
      spent = record {
        worked = subst (λ (n : ℕ). HaveWorked [] n (map work es) (map work fs)) details (subst (λ (new : List Run). HaveWorked new tells.told.details (map work es) (map work fs)) none learns.worked);
        tally = learns.tally ∙ ap (λ (new : List Run). raised (length new) s.memory.tally) none;
      };
    }

-- nothing more was done
pub run_same : (command : Command) (read : List Line) (s : State) (said : List ℕ) (w v u : Effort) → HasRun command read s said w v → IsSpent [] 0 v u → HasRun command read s said w u
run_same command read s said w v u r more = record {
  told = r.told;
  is_told = r.is_told;
  text = r.text;
  nos = r.nos;
  keys = r.keys;
  follows = r.follows;
  spent =
      let both : IsSpent (r.keys ++ []) (r.told.details + 0) w u = spent_then r.keys [] r.told.details 0 w v u r.spent more in
      let same : r.told.details + 0 ≡ r.told.details = omega arith in
      subst (λ (n : ℕ). IsSpent r.keys n w u) same (subst (λ (keys : List Run). IsSpent keys (r.told.details + 0) w u) (append-nil r.keys) both);
}

-- ---- before the first line

pub run_none : (command : Command) (s : State) (works : List Work) → s ≡ begun command [] → HasRun command [] s [] (record { works = works; tally = 0 }) (record { works = works; tally = s.memory.tally })
run_none command s works is = subst (λ (z : State). HasRun command [] z [] (record { works = works; tally = 0 }) (record { works = works; tally = z.memory.tally })) (sym is) (record {
  told = nothing;
  is_told = refl;
  text = refl;
  nos = refl;
  keys = [];
  follows = follows_none command;
  spent = spent_none (record { works = works; tally = 0 });
})

none_taken : (c : Command) → 0 + most_rows c 0 ≤ most_rows c 0
none_taken c = omega arith

pub taken_none : (s : State) → HasBegun s → HasTaken s
taken_none s is = subst HasTaken (sym is) (record { systems = omega arith; rows = none_taken s.command })

-- ---- what a session's lines may take

check_none : (o : Option Open) → check_mode o ≡ modes.Check → o ≡ None
check_none None e = refl
check_none (Some o) e = cc

check_some : (o : Option Open) → check_mode o ≡ modes.Certificate → open_count o ≡ 1
check_some None e = cc
check_some (Some o) e = refl

-- a CHECK opens where none is open, and an ENDCHECK stands where one is
none_open : (command : Command) (o : Option Open) → mode_of command o ≡ modes.Check → open_count o ≡ 0
none_open commands.Plan o e = cc
none_open commands.Check o e = ap open_count (check_none o e)
none_open commands.Search o e = cc
none_open (commands.Best k) o e = cc

one_open : (command : Command) (o : Option Open) → mode_of command o ≡ modes.Certificate → (command ≡ commands.Check) × (open_count o ≡ 1)
one_open commands.Plan o e = cc
one_open commands.Check o e = (refl, check_some o e)
one_open commands.Search o e = cc
one_open (commands.Best k) o e = cc

of_plan : (command : Command) (o : Option Open) → mode_of command o ≡ modes.Plan → HasPlans command
of_plan commands.Plan o e = tt
of_plan commands.Check None e = cc
of_plan commands.Check (Some o) e = cc
of_plan commands.Search o e = tt
of_plan (commands.Best k) o e = tt

-- ---- rows of lines

linear : (c : Command) (m n : ℕ) → most_rows c (m + n) ≡ most_rows c m + most_rows c n
linear commands.Plan m n = omega arith
linear commands.Check m n = omega arith
linear commands.Search m n = omega arith
linear (commands.Best k) m n = omega arith

rows_of_one : (c : Command) → most_rows c 1 ≡ most_keys c
rows_of_one commands.Plan = refl
rows_of_one commands.Check = refl
rows_of_one commands.Search = refl
rows_of_one (commands.Best k) = refl

-- behind a line of its own, and behind one that takes none
rows_more : (c d : Command) (r s o p n m : ℕ) → d ≡ c → r + most_rows c o ≤ most_rows c n → s ≤ r + most_keys c → m + o ≡ (n + p) + 1 → s + most_rows d p ≤ most_rows d m
rows_more c d r s o p n m e fits few same =
    let all : most_rows c m + most_rows c o ≡ (most_rows c n + most_rows c p) + most_rows c 1 =
    sym (linear c m o) ∙ ap (most_rows c) same ∙ linear c (n + p) 1 ∙ ap (λ (k : ℕ). k + most_rows c 1) (linear c n p) in
    let one = rows_of_one c in
    subst (λ (k : Command). s + most_rows k p ≤ most_rows k m) (sym e) (omega (arith, fits, few, all, one))

rows_still : (c d : Command) (r s o p n m : ℕ) → d ≡ c → r + most_rows c o ≤ most_rows c n → s ≡ r → m + o ≡ n + p → s + most_rows d p ≤ most_rows d m
rows_still c d r s o p n m e fits few same =
    let all : most_rows c m + most_rows c o ≡ most_rows c n + most_rows c p = sym (linear c m o) ∙ ap (most_rows c) same ∙ linear c n p in
    subst (λ (k : Command). s + most_rows k p ≤ most_rows k m) (sym e) (omega (arith, fits, few, all))

-- those of a line more have places
few_plans : (c : Command) → most_plans c ≤ 64
few_plans commands.Plan = omega arith
few_plans commands.Check = omega arith
few_plans commands.Search = omega arith
few_plans (commands.Best k) = omega arith

rows_placed : (c : Command) (r o n : ℕ) → n < most_plans c → r + most_rows c o ≤ most_rows c n → r + most_keys c < 2 ^ 23
rows_placed commands.Plan r o n few fits = omega (arith, few, fits)
rows_placed commands.Check r o n few fits = omega (arith, few, fits)
rows_placed commands.Search r o n few fits = omega (arith, few, fits)
rows_placed (commands.Best k) r o n few fits = omega (arith, few, fits)

rows_checked : (c : Command) (r o n : ℕ) → c ≡ commands.Check → o ≡ 1 → n ≤ 64 → r + most_rows c o ≤ most_rows c n → r + 120000 < 2 ^ 23
rows_checked c r o n e one few fits =
    let here : r + 120000 * o ≤ 120000 * n = subst (λ (k : Command). r + most_rows k o ≤ most_rows k n) e fits in
    omega (arith, one, few, here)

same_count : (o : Option Open) (l : CertLine) → open_count (with_line o l) ≡ open_count o
same_count None l = refl
same_count (Some o) l = refl

-- a line that takes nothing
quiet : {X Z : Type 0} (line : Line) (s t : State) (work : X → Work) (es fs : List X) (text more : Vec ℕ Z) → DoesLine line s t work es fs text more → t.memory.shelf ≡ s.memory.shelf
    → s.plans + s.checks + open_count t.opened ≡ t.plans + t.checks + open_count s.opened → HasTaken s → HasTaken t
quiet line s t work es fs text more does same count taken =
    let book = ap (λ (x : ShelfIs). length x.book) same in
    let rows = ap (λ (x : ShelfIs). length x.kept) same in
    record {
      systems = omega (arith, book, count, taken.systems);
      rows = rows_still s.command t.command (length s.memory.shelf.kept) (length t.memory.shelf.kept) (open_count s.opened) (open_count t.opened) (s.plans + s.checks) (t.plans + t.checks)
          (ap (λ (z : State). z.command) does.state) taken.rows rows (omega (arith, count));
    }

-- the same, where neither counts nor the open CHECK move
still : {X Z : Type 0} (line : Line) (s t : State) (work : X → Work) (es fs : List X) (text more : Vec ℕ Z) → DoesLine line s t work es fs text more → t.memory.shelf ≡ s.memory.shelf
    → t.plans ≡ s.plans + 0 → t.checks ≡ s.checks + 0 → open_count t.opened ≡ open_count s.opened → HasTaken s → HasTaken t
still line s t work es fs text more does same plans checks opened taken =
    quiet line s t work es fs text more does same (omega (arith, plans, checks, opened)) taken

pub taken_more : {X Z : Type 0} (line : Line) (s t : State) (work : X → Work) (es fs : List X) (text more : Vec ℕ Z) → IsOfMode (mode_of s.command s.opened) line → HasTaken s → DoesLine line s t work es fs text more
    → GainsFew (most_keys s.command) s.memory t.memory → HasTaken t
taken_more lines.Plan s t work es fs text more mode taken does few =
    let plans = ap (λ (z : State). z.plans) does.state in
    let checks = ap (λ (z : State). z.checks) does.state in
    let opened = ap (λ (z : State). open_count z.opened) does.state in
    record {
      systems = omega (arith, few.systems, plans, checks, opened, taken.systems);
      rows = rows_more s.command t.command (length s.memory.shelf.kept) (length t.memory.shelf.kept) (open_count s.opened) (open_count t.opened) (s.plans + s.checks) (t.plans + t.checks)
          (ap (λ (z : State). z.command) does.state) taken.rows few.rows (omega (arith, plans, checks, opened));
    }
taken_more lines.EndCheck s t work es fs text more mode taken does few =
    let plans = ap (λ (z : State). z.plans) does.state in
    let checks = ap (λ (z : State). z.checks) does.state in
    let opened = ap (λ (z : State). open_count z.opened) does.state in
    let one = (one_open s.command s.opened mode).1 in
    record {
      systems = omega (arith, few.systems, plans, checks, opened, one, taken.systems);
      rows = rows_more s.command t.command (length s.memory.shelf.kept) (length t.memory.shelf.kept) (open_count s.opened) (open_count t.opened) (s.plans + s.checks) (t.plans + t.checks)
          (ap (λ (z : State). z.command) does.state) taken.rows few.rows (omega (arith, plans, checks, opened, one));
    }
taken_more (lines.Check c) s t work es fs text more mode taken does few =
    let plans = ap (λ (z : State). z.plans) does.state in
    let checks = ap (λ (z : State). z.checks) does.state in
    let opened = ap (λ (z : State). open_count z.opened) does.state in
    let none = none_open s.command s.opened mode in
    quiet (lines.Check c) s t work es fs text more does (does.tells.learns.gains.still (λ no. no)) (omega (arith, plans, checks, opened, none)) taken
taken_more (lines.Cert l) s t work es fs text more mode taken does few =
    still (lines.Cert l) s t work es fs text more does (does.tells.learns.gains.still (λ no. no)) (ap (λ (z : State). z.plans) does.state) (ap (λ (z : State). z.checks) does.state)
    (ap (λ (z : State). open_count z.opened) does.state ∙ same_count s.opened l) taken
taken_more lines.Blank s t work es fs text more mode taken does few =
    still lines.Blank s t work es fs text more does (does.tells.learns.gains.still (λ no. no)) (ap (λ (z : State). z.plans) does.state) (ap (λ (z : State). z.checks) does.state) (ap (λ (z : State). open_count z.opened) does.state) taken
taken_more (lines.Set x) s t work es fs text more mode taken does few =
    still (lines.Set x) s t work es fs text more does (does.tells.learns.gains.still (λ no. no)) (ap (λ (z : State). z.plans) does.state) (ap (λ (z : State). z.checks) does.state) (ap (λ (z : State). open_count z.opened) does.state) taken
taken_more (lines.Drop h) s t work es fs text more mode taken does few =
    still (lines.Drop h) s t work es fs text more does (does.tells.learns.gains.still (λ no. no)) (ap (λ (z : State). z.plans) does.state) (ap (λ (z : State). z.checks) does.state) (ap (λ (z : State). open_count z.opened) does.state) taken
taken_more lines.Skip s t work es fs text more mode taken does few =
    still lines.Skip s t work es fs text more does (does.tells.learns.gains.still (λ no. no)) (ap (λ (z : State). z.plans) does.state) (ap (λ (z : State). z.checks) does.state) (ap (λ (z : State). open_count z.opened) does.state) taken
taken_more lines.End s t work es fs text more mode taken does few =
    still lines.End s t work es fs text more does (does.tells.learns.gains.still (λ no. no)) (ap (λ (z : State). z.plans) does.state) (ap (λ (z : State). z.checks) does.state) (ap (λ (z : State). open_count z.opened) does.state) taken

-- each line has its places
pub placed : (line : Line) (s : State) → IsState s → HasTaken s → IsOfMode (mode_of s.command s.opened) line → (line ≡ lines.Plan → s.plans < most_plans s.command) → ((c : ℕ) → line ≡ lines.Check c → s.checks < 64) → IsPlaced line s
placed lines.Plan s is taken mode plans checks =
    let few = plans refl in
    let none = (is.plan (of_plan s.command s.opened mode)).0 in (
      few,
      record {
        systems = omega (arith, few, few_plans s.command, none, taken.systems);
        rows = rows_placed s.command (length s.memory.shelf.kept) (open_count s.opened) (s.plans + s.checks) (omega (arith, few, none)) taken.rows;
      },
    )
placed lines.EndCheck s is taken mode plans checks =
    let one = one_open s.command s.opened mode in
    let none = is.check one.0 in
    let few = is.few_checks in
    record {
      systems = omega (arith, few, none, one.1, taken.systems);
      rows = rows_checked s.command (length s.memory.shelf.kept) (open_count s.opened) (s.plans + s.checks) one.0 one.1 (omega (arith, few, none)) taken.rows;
    }
placed (lines.Check c) s is taken mode plans checks = checks c refl
placed (lines.Cert l) s is taken mode plans checks = tt
placed lines.Blank s is taken mode plans checks = tt
placed (lines.Set x) s is taken mode plans checks = tt
placed (lines.Drop h) s is taken mode plans checks = tt
placed lines.Skip s is taken mode plans checks = tt
placed lines.End s is taken mode plans checks = tt

-- ---- the first of some engines, lent alone

pub first_taken : {X : Type 0} (n : ℕ) (xs ys : List X) → length xs ≡ n → take n (xs ++ ys) ≡ xs
first_taken {X} zero [] ys e = refl
first_taken {X} zero (x ∷ xs) ys e = absurd (omega (arith, e))
first_taken {X} (suc n) [] ys e = absurd (omega (arith, e))
first_taken {X} (suc n) (x ∷ xs) ys e = ap (λ (zs : List X). x ∷ zs) (first_taken n xs ys (omega (arith, e)))

pub others_stay : {X : Type 0} (n : ℕ) (xs ys : List X) → length xs ≡ n → drop n (xs ++ ys) ≡ ys
others_stay {X} zero [] ys e = refl
others_stay {X} zero (x ∷ xs) ys e = absurd (omega (arith, e))
others_stay {X} (suc n) [] ys e = absurd (omega (arith, e))
others_stay {X} (suc n) (x ∷ xs) ys e = others_stay n xs ys (omega (arith, e))

pub length_taken : {X : Type 0} (n : ℕ) (xs : List X) → n ≤ length xs → length (take n xs) ≡ n
length_taken {X} zero [] e = refl
length_taken {X} zero (x ∷ xs) e = refl
length_taken {X} (suc n) [] e = absurd (omega (arith, e))
length_taken {X} (suc n) (x ∷ xs) e = ap (λ (k : ℕ). suc k) (length_taken n xs (omega (arith, e)))
