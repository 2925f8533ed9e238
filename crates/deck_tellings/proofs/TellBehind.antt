-- Telling behind learning: the first engine details years, and nothing else is done.
use Rattle.std.proofs.Common.{◌≡◌, ℕ, ◌+◌, inl, inr, ⊎_elim, List, [], map, subst, arith, append-nil}
use Rattle.deck_check.specs.Readings.{Says}
use Rattle.row_shelf.specs.Shelf.{Holds, ShelfIs}
use Rattle.sim_engine.specs.Engine.{Run, Work}
use Rattle.sim_sweep.specs.Works.{HaveWorked}
use Rattle.sim_sweep.proofs.TogetherSteps.{together_then}
use Rattle.case_study.specs.Inner.{HaveDetailed}
use Rattle.deck_tellings.specs.Memory.{MemoryIs}
use Rattle.deck_tellings.specs.Learning.{IsLost, Learns, OnlyGains}

gains_by : (T U : Type 0) (A B : Run → Type 0) (d : Says) (before now : ShelfIs) → (T → U) → ((key : Run) → A key → B key) → OnlyGains T A d before now → OnlyGains U B d before now
gains_by T U A B d before now taken to g = record {
  grown = g.grown;
  stays = g.stays;
  only = λ key h. ⊎_elim (λ old. inl old) (λ asked. inr (to key asked)) (g.only key h);
  still = λ none. g.still (λ t. none (taken t));
}

detailed_behind : (keys : List Run) (n k : ℕ) (a b c : List Work) → HaveWorked keys n a b → HaveWorked [] k b c → HaveWorked keys (n + k) a c
detailed_behind keys n k a b c one other =
    subst (λ (ks : List Run). HaveWorked ks (n + k) a c) (append-nil keys) (together_then keys [] n k a b c one other)

pub learns_then : {X : Type 0} (Taken : Type 0) (A : Run → Type 0) (d : Says) (before now : MemoryIs) (work : X → Work) (es fs gs : List X) (k : ℕ)
    → Learns Taken A d before now work es fs 0 → HaveWorked [] k (map work fs) (map work gs) → Learns Taken A d before now work es gs k
learns_then Taken A d before now work es fs gs k l told =
    let e : 0 + k ≡ k = omega arith in record {
      gains = l.gains;
      new = l.new;
      adds = l.adds;
      worked = subst (λ (n : ℕ). HaveWorked l.new n (map work es) (map work gs)) e (detailed_behind l.new 0 k (map work es) (map work fs) (map work gs) l.worked told);
      tally = l.tally;
    }

pub lost_then : {X : Type 0} (Taken : Type 0) (A : Run → Type 0) (d : Says) (before now : MemoryIs) (work : X → Work) (es fs gs : List X)
    → IsLost Taken A d before now work es fs → HaveDetailed (map work fs) (map work gs) → IsLost Taken A d before now work es gs
lost_then Taken A d before now work es fs gs l told = record {
  gains = l.gains;
  gone = record {
    keys = l.gone.keys;
    years = l.gone.years + told.years;
    worked = detailed_behind l.gone.keys l.gone.years told.years (map work es) (map work fs) (map work gs) l.gone.worked told.worked;
    rose = l.gone.rose;
  };
}

-- as many years, said in other words
pub learns_years : {X : Type 0} (Taken : Type 0) (A : Run → Type 0) (d : Says) (before now : MemoryIs) (work : X → Work) (es fs : List X) (n k : ℕ)
    → n ≡ k → Learns Taken A d before now work es fs n → Learns Taken A d before now work es fs k
learns_years Taken A d before now work es fs n k e l = subst (λ (m : ℕ). Learns Taken A d before now work es fs m) e l

-- what was learnt of some keys is what is taken from others of the same
pub learns_by : {X : Type 0} (T U : Type 0) (A B : Run → Type 0) (d : Says) (before now : MemoryIs) (work : X → Work) (es fs : List X) (n : ℕ)
    → (T → U) → ((key : Run) → A key → B key) → ((key : Run) → B key → A key) → Learns T A d before now work es fs n → Learns U B d before now work es fs n
learns_by T U A B d before now work es fs n taken to from l = record {
  gains = gains_by T U A B d before.shelf now.shelf taken to l.gains;
  new = l.new;
  adds = record {
    once = l.adds.once;
    fresh = l.adds.fresh;
    asked = λ key has. to key (l.adds.asked key has);
    all = λ key asked. l.adds.all key (from key asked);
    stays = l.adds.stays;
    stand = l.adds.stand;
    only = l.adds.only;
    many = l.adds.many;
  };
  worked = l.worked;
  tally = l.tally;
}

pub lost_by : {X : Type 0} (T U : Type 0) (A B : Run → Type 0) (d : Says) (before now : MemoryIs) (work : X → Work) (es fs : List X)
    → (T → U) → ((key : Run) → A key → B key) → IsLost T A d before now work es fs → IsLost U B d before now work es fs
lost_by T U A B d before now work es fs taken to l = record { gains = gains_by T U A B d before.shelf now.shelf taken to l.gains; gone = l.gone }

-- the rows of the keys that were asked for are then on the shelf
pub holds_asked : {X : Type 0} (T : Type 0) (A : Run → Type 0) (d : Says) (before now : MemoryIs) (work : X → Work) (es fs : List X) (n : ℕ) (key : Run)
    → Learns T A d before now work es fs n → A key → Holds now.shelf key
holds_asked T A d before now work es fs n key l asked =
    ⊎_elim (λ old. l.adds.stays key old) (λ new. l.adds.stand key new) (l.adds.all key asked)
