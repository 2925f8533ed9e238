-- What a session learns for the solution of a case, behind its flag.
use Rattle.std.proofs.Common.{◌≡◌, ℕ, List, refl, subst, true}
use Rattle.deck_lines.specs.Deck.{body_of}
use Rattle.sim_engine.specs.Engine.{Work}
use Rattle.deck_tellings.specs.Solving.{IsCaseLost, IsCaseWithin, LearnsCase}
use Rattle.wasp_session.specs.Solving.{IsCaseWanting}
use Rattle.deck_tellings.specs.Memory.{MemoryIs}
use Rattle.wasp_session.specs.State.{State}

pub learns_in : {X : Type 0} (c : ℕ) (s v : State) (n : MemoryIs) (work : X → Work) (es fs : List X) → v ≡ s → LearnsCase (body_of v.deck) c v.memory n work es fs → LearnsCase (body_of s.deck) c s.memory n work es fs
learns_in c s v n work es fs is = subst (λ (z : State). LearnsCase (body_of z.deck) c z.memory n work es fs) is

pub wanting_in : {X : Type 0} (c : ℕ) (s v : State) (n : MemoryIs) (work : X → Work) (es fs : List X) → v ≡ s → IsCaseLost (body_of v.deck) c v.memory n work es fs
    → IsCaseWanting c s (record v { memory = n; refused = true }) work es fs
wanting_in c s v n work es fs is l =
    subst (λ (z : State). IsCaseWanting c z (record v { memory = n; refused = true }) work es fs) is
    (record { deck = refl; command = refl; refused = refl; lost = l })

pub within_in : (c : ℕ) (s v : State) → v ≡ s → IsCaseWithin (body_of v.deck) c → IsCaseWithin (body_of s.deck) c
within_in c s v is = subst (λ (z : State). IsCaseWithin (body_of z.deck) c) is
