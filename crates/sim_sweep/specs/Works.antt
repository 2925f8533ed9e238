-- What an engine did, and what some engines did together, over one call or many: the keys that were simulated, each
-- once, and how many years were detailed. This program's own.
use Rattle.std.specs.Prelude.{◌≡◌, ℕ, ◌+◌, ◌^◌, ◌<◌, All, List, [], ◌∷◌, ◌++◌, length, None}
use Rattle.std.specs.List.Sorted.{IsPermutation}
use Rattle.board_core.specs.Lists.{total}
use Rattle.sim_engine.specs.Engine.{Run, Work, raised}
use Rattle.sim_sweep.specs.Filling.{Gains}

-- it simulated these keys, each once in this order, detailed so many years, and did nothing else; it tells the runs
-- that it simulated, where it can
pub record HasWorked (keys : List Run) (years : ℕ) (before now : Work) : Type 0 where
  pub simulated : now.simulated ≡ raised (length keys) before.simulated
  pub detailed : now.detailed ≡ raised years before.detailed
  pub tape : now.tape ≡ before.tape
  pub gains : Gains before.tape before.runs now.runs keys

-- what was done where nothing was
abbrev pub no_work : Work
no_work = record { simulated = 0; detailed = 0; tape = None; runs = None }

-- what the first of some engines did
abbrev pub first_work : List Work → Work
first_work [] = no_work
first_work (w ∷ ws) = w

-- each engine simulated its share; the first alone details
abbrev pub EachWorked : List (List Run) → ℕ → List Work → List Work → Type 0
EachWorked [] years [] [] = years ≡ 0
EachWorked (share ∷ shares) years (b ∷ bs) (n ∷ ns) = HasWorked share years b n × EachWorked shares 0 bs ns
EachWorked _ _ _ _ = ⊥

abbrev pub all_runs : List (List Run) → List Run
all_runs [] = []
all_runs (share ∷ shares) = share ++ all_runs shares

-- some engines simulated these keys together, each once by one of them, the first detailed so many years, and nothing
-- else was done: the engines' shares are together the keys, in some order
pub record HaveWorked (keys : List Run) (years : ℕ) (before now : List Work) : Type 0 where
  pub shares : List (List Run)
  pub each : EachWorked shares years before now
  pub whole : IsPermutation keys (all_runs shares)

-- they did so with some keys, or with none, detailed nothing, and a tally rose by as many
pub record HaveRun (tally tally_now : ℕ) (before now : List Work) : Type 0 where
  pub keys : List Run
  pub worked : HaveWorked keys 0 before now
  pub rose : tally_now ≡ raised (length keys) tally

-- how many runs some engines have simulated
abbrev pub simulated_by : List Work → ℕ
simulated_by works = total (λ (w : Work). w.simulated) works

-- as long as no count stands at its last value, the engines' counts rise together by as many as there are keys
abbrev pub CountsRiseTogether : Type 0
CountsRiseTogether = (keys : List Run) (years : ℕ) (before now : List Work) → HaveWorked keys years before now →
    All (λ (w : Work). w.simulated + length keys < 2 ^ 64) before → simulated_by now ≡ simulated_by before + length keys
