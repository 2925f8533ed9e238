-- A session goes on by a line: it follows the lines with this one behind, and has the keys that the line demands.
use Rattle.std.proofs.Common.{◌≡◌, ◌≢◌, ◌∙◌, ap, sym, refl, subst, ℕ, suc, ◌+◌, ◌⊎◌, inl, inr, ⊎_elim, true≢false, is_some, List, [], ◌∷◌, ◌++◌, length, map, reverse, Option, Some, slice_get, AllPairs, All, Contains, arith, append_assoc}
use Rattle.std.specs.Prelude.{Vec, fold}
use Rattle.std.proofs.lemmas.List.{append-nil, length-append, reverse-append}
use Rattle.std.proofs.lemmas.List.Elements.{All-append, All-contains_itself, All-weaker, Contains-append_cases, Contains-append_left, Contains-append_right}
use Rattle.std.proofs.lemmas.List.Kept.{AllPairs-cons}
use Rattle.std.proofs.lemmas.List.Sums.{fold-append}
use Rattle.deck_check.specs.Readings.{Says}
use Rattle.deck_lines.specs.Deck.{body_of, changed, deck_at}
use Rattle.deck_lines.specs.declared.line.CertLine.{CertLine}
use Rattle.deck_lines.specs.declared.line.Line.{Line}
use Rattle.deck_lines.specs.declared.line.Line.TheVariants as lines
use Rattle.deck_lines.specs.declared.statement.Statement.{Statement}
use Rattle.deck_lines.proofs.Placed.{decks_follow}
use Rattle.report_text.specs.Lines.{keys_line}
use Rattle.row_shelf.specs.Adds.{Adds}
use Rattle.row_shelf.specs.Shelf.{HoldsAll, ShelfIs, no_rows}
use Rattle.sim_engine.specs.Engine.{Run, Work, raised}
use Rattle.sim_sweep.specs.Works.{HaveWorked}
use Rattle.deck_tellings.specs.Checks.{Open, check_count, looking_back, open_at, open_behind, with_line}
use Rattle.wasp_session.specs.Follows.{Follows}
use Rattle.deck_tellings.specs.Checks.{DemandsAtEnd}
use Rattle.wasp_session.specs.Modes.{IsOfMode, mode_of}
use Rattle.deck_tellings.specs.Said.{IsCheckTold}
use Rattle.wasp_session.specs.State.{State, begun}
use Rattle.wasp_session.specs.Steps.{DoesLine, IsTakenAt, line_asks, line_told}
use Rattle.wasp_session.specs.Tasks.{AreKeys, AskAfter, AsksBehind, IsLineTold, Task, plan_count, task_of}
use Rattle.deck_tellings.specs.Told.{Told, plain}
use Rattle.wasp_session.specs.declared.command.Command.{Command}
use Rattle.wasp_session.specs.declared.command.Command.TheVariants as commands

-- ---- no line

none_in : {X P : Type 0} (x : X) → Contains [] x → P
none_in x has = absurd (let w = has.1 in omega (arith, w))

none_at : {X P : Type 0} (i : ℕ) (x : X) → slice_get [] i ≡ Some x → P
none_at i x e = absurd (true≢false (sym (ap is_some e)))

no_keys : (task : Task) → AreKeys task [] []
no_keys task = record {
  once = λ i j d before within. absurd (omega (arith, within));
  each = λ key. (λ has. none_in key has, λ none. absurd none);
}

none_held : HoldsAll no_rows []
none_held = record {
  each = λ key has. none_in key has;
  only = λ key held. none_at held.id key.0 held.at;
  many = refl;
}

of_command : (command : Command) → command ≡ (task_of command).command
of_command commands.Plan = refl
of_command commands.Check = refl
of_command commands.Search = refl
of_command (commands.Best k) = refl

pub follows_none : (command : Command) → Follows (task_of command) [] [] (begun command [])
follows_none command = record {
  command = of_command command;
  deck = refl;
  plans = refl;
  checks = refl;
  opened = refl;
  are_keys = no_keys (task_of command);
  holds = none_held;
}

-- ---- the deck and the counts of a line more

-- the list of the edits is the deck that the lines say
deck_same : (ls : List Line) (deck : List Statement) → deck ≡ fold changed [] ls → body_of deck ≡ deck_at ls
deck_same ls deck e = λ i h. (ap (λ (z : List Statement). body_of z h) e ∙ decks_follow ls h) i

deck_more : (ls : List Line) (line : Line) (deck : List Statement) → deck ≡ fold changed [] ls → changed deck line ≡ fold changed [] (ls ++ line ∷ [])
deck_more ls line deck e = ap (λ (z : List Statement). changed z line) e ∙ sym (fold-append changed [] ls (line ∷ []))

plans_more : (ls : List Line) (line : Line) → plan_count (ls ++ line ∷ []) ≡ plan_count ls + plan_count (line ∷ [])
plans_more [] line = omega arith
plans_more (lines.Plan ∷ ls) line = omega (arith, plans_more ls line)
plans_more (lines.Blank ∷ ls) line = plans_more ls line
plans_more (lines.Set s ∷ ls) line = plans_more ls line
plans_more (lines.Drop h ∷ ls) line = plans_more ls line
plans_more (lines.Check c ∷ ls) line = plans_more ls line
plans_more (lines.Cert l ∷ ls) line = plans_more ls line
plans_more (lines.Skip ∷ ls) line = plans_more ls line
plans_more (lines.EndCheck ∷ ls) line = plans_more ls line
plans_more (lines.End ∷ ls) line = plans_more ls line

checks_more : (ls : List Line) (line : Line) → check_count (ls ++ line ∷ []) ≡ check_count ls + check_count (line ∷ [])
checks_more [] line = omega arith
checks_more (lines.Check c ∷ ls) line = omega (arith, checks_more ls line)
checks_more (lines.Blank ∷ ls) line = checks_more ls line
checks_more (lines.Set s ∷ ls) line = checks_more ls line
checks_more (lines.Drop h ∷ ls) line = checks_more ls line
checks_more (lines.Plan ∷ ls) line = checks_more ls line
checks_more (lines.Cert l ∷ ls) line = checks_more ls line
checks_more (lines.Skip ∷ ls) line = checks_more ls line
checks_more (lines.EndCheck ∷ ls) line = checks_more ls line
checks_more (lines.End ∷ ls) line = checks_more ls line

-- ---- the CHECK that is open behind a line more

-- a line more behind the others stands last in the certificate
behind_more : (earlier : List Line) (behind : List CertLine) (l : CertLine) → looking_back earlier (behind ++ l ∷ []) ≡ with_line (looking_back earlier behind) l
behind_more [] behind l = refl
behind_more (lines.Check c ∷ earlier) behind l = refl
behind_more (lines.EndCheck ∷ earlier) behind l = refl
behind_more (lines.Cert k ∷ earlier) behind l = behind_more earlier (k ∷ behind) l
behind_more (lines.Blank ∷ earlier) behind l = behind_more earlier behind l
behind_more (lines.Set s ∷ earlier) behind l = behind_more earlier behind l
behind_more (lines.Drop h ∷ earlier) behind l = behind_more earlier behind l
behind_more (lines.Plan ∷ earlier) behind l = behind_more earlier behind l
behind_more (lines.Skip ∷ earlier) behind l = behind_more earlier behind l
behind_more (lines.End ∷ earlier) behind l = behind_more earlier behind l

last_line : (earlier : List Line) (line : Line) → looking_back (line ∷ earlier) [] ≡ open_behind (looking_back earlier []) line
last_line earlier (lines.Check c) = refl
last_line earlier lines.EndCheck = refl
last_line earlier (lines.Cert l) = behind_more earlier [] l
last_line earlier lines.Blank = refl
last_line earlier (lines.Set s) = refl
last_line earlier (lines.Drop h) = refl
last_line earlier lines.Plan = refl
last_line earlier lines.Skip = refl
last_line earlier lines.End = refl

open_more : (ls : List Line) (line : Line) → open_at (ls ++ line ∷ []) ≡ open_behind (open_at ls) line
open_more ls line = ap (λ (z : List Line). looking_back z []) (reverse-append ls (line ∷ [])) ∙ last_line (reverse ls) line

-- ---- what a line demands and what is told of it, by the state and by the lines

-- its command is that of the task
same_command : (command : Command) (ls : List Line) (keys : List Run) (s : State) → Follows (task_of command) ls keys s → s.command ≡ command
same_command command ls keys s f = f.command ∙ sym (of_command command)

plan_asks : (command : Command) (ls : List Line) (keys : List Run) (s : State) (key : Run) → Follows (task_of command) ls keys s
    → ((task_of s.command).asks (body_of s.deck) key → (task_of command).asks (deck_at ls) key) × ((task_of command).asks (deck_at ls) key → (task_of s.command).asks (body_of s.deck) key)
plan_asks command ls keys s key f =
    let same = deck_same ls s.deck f.deck in
    let as_said = same_command command ls keys s f in (
      λ is. subst (λ (c : Command). (task_of c).asks (deck_at ls) key) as_said (subst (λ (d : Says). (task_of s.command).asks d key) same is),
      λ is. subst (λ (d : Says). (task_of s.command).asks d key) (sym same) (subst (λ (c : Command). (task_of c).asks (deck_at ls) key) (sym as_said) is),
    )

end_asks : (ls : List Line) (s : State) (key : Run) → body_of s.deck ≡ deck_at ls → s.opened ≡ open_at ls
    → (DemandsAtEnd (body_of s.deck) s.opened key → DemandsAtEnd (deck_at ls) (open_at ls) key)
    × (DemandsAtEnd (deck_at ls) (open_at ls) key → DemandsAtEnd (body_of s.deck) s.opened key)
end_asks ls s key same at = (
  λ is. subst (λ (o : Option Open). DemandsAtEnd (deck_at ls) o key) at (subst (λ (d : Says). DemandsAtEnd d s.opened key) same is),
  λ is. subst (λ (d : Says). DemandsAtEnd d s.opened key) (sym same) (subst (λ (o : Option Open). DemandsAtEnd (deck_at ls) o key) (sym at) is),
)

asks_same : (command : Command) (ls : List Line) (line : Line) (keys : List Run) (s : State) (key : Run)
    → IsOfMode (mode_of s.command s.opened) line → Follows (task_of command) ls keys s
    → (line_asks s line key → AsksBehind (task_of command) ls line key) × (AsksBehind (task_of command) ls line key → line_asks s line key)
asks_same command ls lines.Plan keys s key mode f = plan_asks command ls keys s key f
asks_same command ls lines.EndCheck keys s key mode f = end_asks ls s key (deck_same ls s.deck f.deck) f.opened
asks_same command ls lines.Blank keys s key mode f = (λ none. none, λ none. none)
asks_same command ls (lines.Set x) keys s key mode f = (λ none. none, λ none. none)
asks_same command ls (lines.Drop h) keys s key mode f = (λ none. none, λ none. none)
asks_same command ls (lines.Check c) keys s key mode f = (λ none. none, λ none. none)
asks_same command ls (lines.Cert l) keys s key mode f = (λ none. none, λ none. none)
asks_same command ls lines.Skip keys s key mode f = (λ none. none, λ none. none)
asks_same command ls lines.End keys s key mode f = (λ none. none, λ none. none)

plan_told : (command : Command) (ls : List Line) (keys : List Run) (s : State) (told : Told) → Follows (task_of command) ls keys s
    → (task_of s.command).tells (s.plans + 1) (body_of s.deck) told → (task_of command).tells (plan_count ls + 1) (deck_at ls) told
plan_told command ls keys s told f is =
    subst (λ (n : ℕ). (task_of command).tells (n + 1) (deck_at ls) told) f.plans
    (subst (λ (d : Says). (task_of command).tells (s.plans + 1) d told) (deck_same ls s.deck f.deck)
    (subst (λ (c : Command). (task_of c).tells (s.plans + 1) (body_of s.deck) told) (same_command command ls keys s f) is))

told_same : (command : Command) (ls : List Line) (line : Line) (keys : List Run) (s : State) (told : Told)
    → IsOfMode (mode_of s.command s.opened) line → Follows (task_of command) ls keys s → line_told s line told → IsLineTold (task_of command) ls line told
told_same command ls lines.Plan keys s told mode f is = plan_told command ls keys s told f is
told_same command ls lines.EndCheck keys s told mode f is =
    subst (λ (o : Option Open). IsCheckTold (deck_at ls) (check_count ls) o told) f.opened
    (subst (λ (n : ℕ). IsCheckTold (deck_at ls) n s.opened told) f.checks
    (subst (λ (d : Says). IsCheckTold d s.checks s.opened told) (deck_same ls s.deck f.deck) is))
told_same command ls lines.End keys s told mode f is = record {
  keys = keys;
  are_keys = f.are_keys;
  is = is ∙ ap (λ (n : ℕ). plain (keys_line n)) f.holds.many;
}
told_same command ls lines.Blank keys s told mode f is = is
told_same command ls (lines.Set x) keys s told mode f is = is
told_same command ls (lines.Drop h) keys s told mode f is = is
told_same command ls (lines.Check c) keys s told mode f is = is
told_same command ls (lines.Cert l) keys s told mode f is = is
told_same command ls lines.Skip keys s told mode f is = is

-- from a line that is neither PLAN nor ENDCHECK nothing is taken
none_taken : (s : State) (line : Line) → (line ≡ lines.Plan → ⊥) → (line ≡ lines.EndCheck → ⊥) → IsTakenAt s line → ⊥
none_taken s lines.Plan plan check taken = plan refl
none_taken s lines.EndCheck plan check taken = check refl
none_taken s lines.Blank plan check taken = taken
none_taken s (lines.Set x) plan check taken = taken
none_taken s (lines.Drop h) plan check taken = taken
none_taken s (lines.Check c) plan check taken = taken
none_taken s (lines.Cert l) plan check taken = taken
none_taken s lines.Skip plan check taken = taken
none_taken s lines.End plan check taken = taken

-- ---- the keys of a line more

asks_more : (task : Task) (before ls : List Line) (line : Line) (key : Run) → AskAfter task before (ls ++ line ∷ []) key → AskAfter task before ls key ⊎ AsksBehind task (before ++ ls) line key
asks_more task before [] line key is = ⊎_elim (λ d. inr (subst (λ (b : List Line). AsksBehind task b line key) (sym (append-nil before)) d)) (λ none. absurd none) is
asks_more task before (l ∷ ls) line key is = ⊎_elim (λ d. inl (inl d))
    (λ rest. ⊎_elim (λ d. inl (inr d)) (λ d. inr (subst (λ (b : List Line). AsksBehind task b line key) (append_assoc before (l ∷ []) ls) d)) (asks_more task (before ++ l ∷ []) ls line key rest))
    is

asks_less : (task : Task) (before ls : List Line) (line : Line) (key : Run) → AskAfter task before ls key ⊎ AsksBehind task (before ++ ls) line key → AskAfter task before (ls ++ line ∷ []) key
asks_less task before [] line key is = ⊎_elim (λ none. absurd none) (λ d. inl (subst (λ (b : List Line). AsksBehind task b line key) (append-nil before) d)) is
asks_less task before (l ∷ ls) line key is = ⊎_elim
    (λ old. ⊎_elim (λ d. inl d) (λ d. inr (asks_less task (before ++ l ∷ []) ls line key (inl d))) old)
    (λ d. inr (asks_less task (before ++ l ∷ []) ls line key (inr (subst (λ (b : List Line). AsksBehind task b line key) (sym (append_assoc before (l ∷ []) ls)) d))))
    is

pairs_tail : {X : Type 0} (R : X → X → Type 0) (x : X) (xs : List X) → AllPairs R (x ∷ xs) → AllPairs R xs
pairs_tail R x xs h = λ i j d before within. h (suc i) (suc j) d (omega (arith, before)) (omega (arith, within))

pairs_head : {X : Type 0} (R : X → X → Type 0) (x : X) (xs : List X) → AllPairs R (x ∷ xs) → All (R x) xs
pairs_head R x xs h = λ j d within. h 0 (suc j) d (omega arith) (omega (arith, within))

pairs_append : {X : Type 0} (R : X → X → Type 0) (xs ys : List X) → AllPairs R xs → AllPairs R ys → ((x y : X) → Contains xs x → Contains ys y → R x y) → AllPairs R (xs ++ ys)
pairs_append R [] ys one other across = other
pairs_append R (x ∷ xs) ys one other across =
    AllPairs-cons R x (xs ++ ys)
    (All-append (R x) xs ys (pairs_head R x xs one) (All-weaker (Contains ys) (R x) (λ y has. across x y (0, omega arith, refl) has) ys (All-contains_itself ys)))
    (pairs_append R xs ys (pairs_tail R x xs one) other (λ z y a b. across z y (let w = a.1 in (suc a.0, omega (arith, w), a.2)) b))

-- the new ones of the keys that a line demands come behind the others
keys_more : (task : Task) (ls : List Line) (line : Line) (Asks : Run → Type 0) (shelf now : ShelfIs) (keys new : List Run)
    → ((key : Run) → (Asks key → AsksBehind task ls line key) × (AsksBehind task ls line key → Asks key))
    → AreKeys task ls keys → HoldsAll shelf keys → Adds Asks shelf now new → AreKeys task (ls ++ line ∷ []) (keys ++ new)
keys_more task ls line Asks shelf now keys new same are holds adds = record {
  once = pairs_append (λ one other. one ≢ other) keys new are.once adds.once (λ x y old fresh equal. adds.fresh y fresh (holds.each y (subst (Contains keys) equal old)));
  each = λ key. (
    λ has. asks_less task [] ls line key (⊎_elim (λ old. inl ((are.each key).0 old)) (λ fresh. inr ((same key).0 (adds.asked key fresh))) (Contains-append_cases keys new key has)),
    λ is. ⊎_elim
        (λ old. Contains-append_left keys new key ((are.each key).1 old))
        (λ d. ⊎_elim (λ k. Contains-append_left keys new key (holds.only key k)) (λ fresh. Contains-append_right keys new key fresh) (adds.all key ((same key).1 d)))
        (asks_more task [] ls line key is),
  );
}

holds_more : (Asks : Run → Type 0) (shelf now : ShelfIs) (keys new : List Run) → HoldsAll shelf keys → Adds Asks shelf now new → HoldsAll now (keys ++ new)
holds_more Asks shelf now keys new holds adds = record {
  each = λ key has. ⊎_elim (λ old. adds.stays key (holds.each key old)) (λ fresh. adds.stand key fresh) (Contains-append_cases keys new key has);
  only = λ key k. ⊎_elim (λ old. Contains-append_left keys new key (holds.only key old)) (λ fresh. Contains-append_right keys new key fresh) (adds.only key k);
  many = adds.many ∙ omega (arith, holds.many, length-append keys new);
}

-- ---- a line more

-- a session that followed lines follows them with this line behind; this is told of it, and these keys are new
pub record GoesThrough {X Z : Type 0} (command : Command) (ls : List Line) (line : Line) (keys : List Run) (s t : State) (work : X → Work) (es fs : List X) (said said_now : Vec ℕ Z) : Type 0 where
  pub told : Told
  pub new : List Run
  pub is_told : IsLineTold (task_of command) ls line told
  pub follows : Follows (task_of command) (ls ++ line ∷ []) (keys ++ new) t
  pub text : said_now.items ≡ said.items ++ told.text
  pub nos : t.nos ≡ s.nos + told.nos
  pub worked : HaveWorked new told.details (map work es) (map work fs)
  pub tally : t.memory.tally ≡ raised (length new) s.memory.tally
  pub many : length t.memory.shelf.kept ≡ length s.memory.shelf.kept + length new
  pub quiet : (line ≡ lines.Plan → ⊥) → (line ≡ lines.EndCheck → ⊥) → t.memory.shelf ≡ s.memory.shelf

pub follows_line : {X Z : Type 0} (command : Command) (ls : List Line) (line : Line) (keys : List Run) (s t : State) (work : X → Work) (es fs : List X) (said said_now : Vec ℕ Z)
    → IsOfMode (mode_of s.command s.opened) line → Follows (task_of command) ls keys s → DoesLine line s t work es fs said said_now
    → GoesThrough command ls line keys s t work es fs said said_now
follows_line command ls line keys s t work es fs said said_now mode f does =
    let tells = does.tells in
    let learns = tells.learns in
    let new = learns.new in
    let adds = learns.adds in
    let deck : t.deck ≡ changed s.deck line = ap (λ (z : State). z.deck) does.state in
    let plans : t.plans ≡ s.plans + plan_count (line ∷ []) = ap (λ (z : State). z.plans) does.state in
    let checks : t.checks ≡ s.checks + check_count (line ∷ []) = ap (λ (z : State). z.checks) does.state in
    let opened : t.opened ≡ open_behind s.opened line = ap (λ (z : State). z.opened) does.state in
    let nos : t.nos ≡ s.nos + does.count = ap (λ (z : State). z.nos) does.state in
    record {
      told = tells.told;
      new = new;
      is_told = told_same command ls line keys s tells.told mode f tells.is_told;
      follows = record {
        command = ap (λ (z : State). z.command) does.state ∙ f.command;
        deck = deck ∙ deck_more ls line s.deck f.deck;
        plans = omega (arith, plans_more ls line, f.plans, plans);
        checks = omega (arith, checks_more ls line, f.checks, checks);
        opened = opened ∙ ap (λ (o : Option Open). open_behind o line) f.opened ∙ sym (open_more ls line);
        are_keys = keys_more (task_of command) ls line (line_asks s line) s.memory.shelf t.memory.shelf keys new (λ key. asks_same command ls line keys s key mode f) f.are_keys f.holds adds;
        holds = holds_more (line_asks s line) s.memory.shelf t.memory.shelf keys new f.holds adds;
      };
      text = tells.text;
      nos = nos ∙ ap (λ (n : ℕ). s.nos + n) (sym tells.nos);
      worked = learns.worked;
      tally = learns.tally;
      many = adds.many;
      quiet = λ plan check. learns.gains.still (none_taken s line plan check);
    }
