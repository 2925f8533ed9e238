-- What a run counted by itself, counted on.
use Rattle.std.proofs.Common.{◌≡◌, ◌∙◌, refl, sym, ap, subst, ℕ, zero, suc, ◌-◌, ◌^◌, ◌<◌, ◌≤◌, ⊎_elim, List, length, Option, arith}
use Rattle.std.proofs.lemmas.Bool.{cases_lt}
use Rattle.sim_engine.specs.Engine.{Run, counted, raised}
use Rattle.wasp_session.specs.declared.command.Command.{Command}
use Rattle.wasp4.specs.Going.{Effort, IsSpent}
use Rattle.wasp4.specs.Out.{IsAnswered}
use Rattle.wasp4.specs.Progress.{Answers, Closes}
use Rattle.wasp4.specs.Script.{Script}
use Rattle.wasp4.specs.declared.status.Ending.{Ending}
use Rattle.wasp4.specs.declared.status.Status.{Status}
use Rattle.wasp4.specs.declared.status.Status.TheVariants as statuses

-- ---- a count that stands at its last value

reach : (k t : ℕ) → k ≤ 2 ^ 64 - 1 → k ≤ raised k t
reach zero t h = omega arith
reach (suc k) t h =
    let so_far : k ≤ raised k t = reach k t (omega (arith, h)) in
    omega (arith, h, so_far)

low : (n : ℕ) → raised n 0 ≤ 2 ^ 64 - 1
low zero = omega arith
low (suc n) = omega arith

below : (k t u : ℕ) → k < 2 ^ 64 - 1 → raised k t ≡ u → raised (counted k) t ≡ counted u
below k t u h e =
    let more : counted k ≡ suc k = omega (arith, h) in
    subst (λ (m : ℕ). raised m t ≡ counted u) (sym more) (ap counted e)

full : (k t u : ℕ) → 2 ^ 64 - 1 ≤ k → k ≤ 2 ^ 64 - 1 → raised k t ≡ u → raised (counted k) t ≡ counted u
full k t u least most e =
    let same : counted k ≡ k = omega (arith, least, most) in
    let reached : k ≤ raised k t = reach k t most in
    let top = at_most k t least most in
    subst (λ (m : ℕ). raised m t ≡ counted u) (sym same) (e ∙ omega (arith, least, most, reached, e, top))
  where
    at_most : (j s : ℕ) → 2 ^ 64 - 1 ≤ j → j ≤ 2 ^ 64 - 1 → raised j s ≤ 2 ^ 64 - 1
    at_most zero s l m = absurd (omega (arith, l))
    at_most (suc j) s l m = omega arith

pub again : (n t : ℕ) → raised (raised n 0) t ≡ raised n t
again zero t = refl
again (suc n) t =
    let so_far = again n t in
    ⊎_elim (λ less. below (raised n 0) t (raised n t) less so_far) (λ no_less. full (raised n 0) t (raised n t) no_less (low n) so_far) (cases_lt (raised n 0) (2 ^ 64 - 1))

-- ---- what was spent

pub spent_on : (keys : List Run) (years t t_now : ℕ) (before now : Effort) → before.tally ≡ 0 → t_now ≡ raised now.tally t → IsSpent keys years before now
    → IsSpent keys years (record before { tally = t }) (record now { tally = t_now })
spent_on keys years t t_now before now none is spent = record {
  worked = spent.worked;
  tally = is ∙ ap (λ (k : ℕ). raised k t) (spent.tally ∙ ap (raised (length keys)) none) ∙ again (length keys) t;
}

answered_on : (command : Command) (script : Script) (said : List ℕ) (t t_now : ℕ) (before now : Effort) → before.tally ≡ 0 → t_now ≡ raised now.tally t
    → (a : IsAnswered command script said before now) → (b : IsAnswered command script said (record before { tally = t }) (record now { tally = t_now })) × (b.told.nos ≡ a.told.nos)
answered_on command script said t t_now before now none is a = (
  record {
    told = a.told;
    is_told = a.is_told;
    keys = a.keys;
    are_keys = a.are_keys;
    text = a.text;
    spent = spent_on a.keys a.told.details t t_now before now none is a.spent;
  },
  refl,
)

closes_on : (command : Command) (a w z : Option (List ℕ)) (t t_now : ℕ) (before now : Effort) (ending : Ending) → before.tally ≡ 0 → t_now ≡ raised now.tally t
    → Closes command a w z before now ending → Closes command a w z (record before { tally = t }) (record now { tally = t_now }) ending
unfolding answered_on
closes_on command a w z t t_now before now ending none is c = record {
  script = c.script;
  is = c.is;
  said = c.said;
  wrote = c.wrote;
  answered = (answered_on command c.script c.said t t_now before now none is c.answered).0;
  ends = c.ends;
}

pub answers_on : (command : Command) (a b w z : Option (List ℕ)) (t t_now : ℕ) (before now : Effort) (status : Status) → before.tally ≡ 0 → t_now ≡ raised now.tally t
    → Answers command a b w z before now status → Answers command a b w z (record before { tally = t }) (record now { tally = t_now }) status
answers_on command a b w z t t_now before now statuses.Done none is c = closes_on command a w z t t_now before now _ none is c
answers_on command a b w z t t_now before now statuses.CheckNo none is c = closes_on command a w z t t_now before now _ none is c
answers_on command a b w z t t_now before now statuses.Malformed none is c = closes_on command a w z t t_now before now _ none is c
answers_on command a b w z t t_now before now statuses.ReadFault none is c = record {
  texts = c.texts;
  whole = c.whole;
  part = c.part;
  unended = c.unended;
  short = c.short;
  taken = c.taken;
  read = c.read;
  leads = c.leads;
  few = c.few;
  told = c.told;
  is_told = c.is_told;
  wrote = c.wrote;
  keys = c.keys;
  are_keys = c.are_keys;
  spent = spent_on c.keys c.told.details t t_now before now none is c.spent;
}
answers_on command a b w z t t_now before now statuses.WriteFault none is c = c
answers_on command a b w z t t_now before now statuses.OutOfMemory none is c = c
answers_on command a b w z t t_now before now statuses.BadWords none is c = absurd c
