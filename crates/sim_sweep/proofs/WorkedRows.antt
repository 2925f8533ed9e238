-- Counts by their index, and shares of engines, at worked rows.
use Rattle.std.proofs.Common.{◌≡◌, ℕ, [], ◌∷◌, None, refl}
use Rattle.sim_engine.specs.Engine.{Work}
use Rattle.sim_sweep.specs.Due.{counts_at}
use Rattle.sim_sweep.specs.Works.{simulated_by}

-- the configurations 0 0 to 0 4, then 1 0, 1 1, 1 2
seventh : counts_at (3 ∷ 4 ∷ []) 7 ≡ 1 ∷ 2 ∷ []
seventh = refl

last : counts_at (3 ∷ 4 ∷ []) 19 ≡ 3 ∷ 4 ∷ []
last = refl

one_work : ℕ → Work
one_work n = record { simulated = n; detailed = 0; tape = None; runs = None }

two_works : simulated_by (one_work 3 ∷ one_work 4 ∷ []) ≡ 7
unfolding one_work
two_works = refl
