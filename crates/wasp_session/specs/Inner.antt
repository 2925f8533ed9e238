-- What the steps of a PLAN line hand on. For proofs and inner contracts.
use Rattle.std.specs.Prelude.{ℕ, List}
use Rattle.std.specs.Prelude.{Vec}
use Rattle.deck_lines.specs.Deck.{body_of}
use Rattle.deck_lines.specs.declared.statement.Statement.{Statement}
use Rattle.sim_engine.specs.Engine.{Work}
use Rattle.deck_tellings.specs.Memory.{MemoryIs}
use Rattle.deck_tellings.specs.Learning.{IsLost, Tells}
use Rattle.wasp_session.specs.Tasks.{deck_told, task_of}
use Rattle.wasp_session.specs.declared.command.Command.{Command}

-- ---- what a PLAN line does by its command

-- what is told of a deck, and of the n-th PLAN line on it
abbrev pub TellsDeck : {X Z : Type 0} → Command → List Statement → MemoryIs → MemoryIs → (X → Work) → List X → List X → Vec ℕ Z → Vec ℕ Z → Type 0
TellsDeck command deck m n work es fs said said_now =
    Tells (deck_told command (body_of deck)) ((task_of command).takes (body_of deck))
    ((task_of command).asks (body_of deck)) (body_of deck) m n work es fs said said_now 0

abbrev pub TellsPlan : {X Z : Type 0} → Command → ℕ → List Statement → MemoryIs → MemoryIs → (X → Work) → List X → List X → Vec ℕ Z → Vec ℕ Z → Type 0
TellsPlan command number deck m n work es fs said said_now =
    Tells ((task_of command).tells number (body_of deck)) ((task_of command).takes (body_of deck))
    ((task_of command).asks (body_of deck)) (body_of deck) m n work es fs said said_now 0

-- what stands where memory was wanting
abbrev pub IsLostOn : {X : Type 0} → Command → List Statement → MemoryIs → MemoryIs → (X → Work) → List X → List X → Type 0
IsLostOn command deck m n work es fs =
    IsLost ((task_of command).takes (body_of deck)) ((task_of command).asks (body_of deck)) (body_of deck) m n work es fs
