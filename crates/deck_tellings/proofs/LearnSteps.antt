-- What a call learns or loses: by other words for what it demands and for whether anything is taken, and where it does
-- nothing.
use Rattle.std.proofs.Common.{ℕ, inl, inr, ⊎_elim, List, [], refl, sym, append-nil, arith, map}
use Rattle.std.proofs.lemmas.List.Elements.{All-nil}
use Rattle.deck_check.specs.Readings.{Says}
use Rattle.row_shelf.specs.Adds.{Adds}
use Rattle.row_shelf.specs.Shelf.{ShelfIs}
use Rattle.sim_engine.specs.Engine.{Run, Work}
use Rattle.sim_sweep.proofs.TogetherSteps.{together_none}
use Rattle.deck_tellings.specs.Memory.{MemoryIs}
use Rattle.deck_tellings.specs.Learning.{IsLost, Learns, OnlyGains}
use Rattle.case_study.specs.Studies.{IsSystemOf}

-- ---- by other words

gains_as : (Taken : Type 0) (A B : Run → Type 0) (d : Says) (before now : ShelfIs) → Taken → ((key : Run) → A key → B key)
    → OnlyGains (Unit {0}) A d before now → OnlyGains Taken B d before now
gains_as Taken A B d before now taken to gains = record {
  grown = gains.grown;
  stays = gains.stays;
  only = λ key has. ⊎_elim (λ old. inl old) (λ asked. inr (to key asked)) (gains.only key has);
  still = λ none. absurd (none taken);
}

adds_as : (A B : Run → Type 0) (before now : ShelfIs) (new : List Run) → ((key : Run) → A key → B key) → ((key : Run) → B key → A key)
    → Adds A before now new → Adds B before now new
adds_as A B before now new to back adds = record {
  once = adds.once;
  fresh = adds.fresh;
  asked = λ key has. to key (adds.asked key has);
  all = λ key asked. adds.all key (back key asked);
  stays = adds.stays;
  stand = adds.stand;
  only = adds.only;
  many = adds.many;
}

pub learns_as : {X : Type 0} (Taken : Type 0) (A B : Run → Type 0) (d : Says) (before now : MemoryIs) (work : X → Work) (es fs : List X) (n : ℕ)
    → Taken → ((key : Run) → A key → B key) → ((key : Run) → B key → A key)
    → Learns (Unit {0}) A d before now work es fs n → Learns Taken B d before now work es fs n
learns_as Taken A B d before now work es fs n taken to back learns = record {
  gains = gains_as Taken A B d before.shelf now.shelf taken to learns.gains;
  new = learns.new;
  adds = adds_as A B before.shelf now.shelf learns.new to back learns.adds;
  worked = learns.worked;
  tally = learns.tally;
}

pub lost_as : {X : Type 0} (Taken : Type 0) (A B : Run → Type 0) (d : Says) (before now : MemoryIs) (work : X → Work) (es fs : List X)
    → Taken → ((key : Run) → A key → B key) → IsLost (Unit {0}) A d before now work es fs → IsLost Taken B d before now work es fs
lost_as Taken A B d before now work es fs taken to lost =
    record { gains = gains_as Taken A B d before.shelf now.shelf taken to lost.gains; gone = lost.gone }

-- memory was wanting behind a call that learnt
pub lost_of : {X : Type 0} (Taken : Type 0) (A : Run → Type 0) (d : Says) (before now : MemoryIs) (work : X → Work) (es fs : List X) (n : ℕ)
    → Learns Taken A d before now work es fs n → IsLost Taken A d before now work es fs
lost_of Taken A d before now work es fs n learns = record {
  gains = learns.gains;
  gone = record { keys = learns.new; years = n; worked = learns.worked; rose = learns.tally };
}

-- ---- where nothing is done

pub gains_none : (Taken : Type 0) (A : Run → Type 0) (d : Says) (s : ShelfIs) → OnlyGains Taken A d s s
gains_none Taken A d s = record {
  grown = record { more = []; is = sym (append-nil s.book); each = All-nil (IsSystemOf d) };
  stays = λ key has. has;
  only = λ key has. inl has;
  still = λ none. refl;
}

adds_none : (A : Run → Type 0) (s : ShelfIs) → ((key : Run) → A key → ⊥) → Adds A s s []
adds_none A s none = record {
  once = λ i j e before within. absurd (omega (arith, within));
  fresh = λ key has. absurd (omega (arith, has.1));
  asked = λ key has. absurd (omega (arith, has.1));
  all = λ key asked. absurd (none key asked);
  stays = λ key has. has;
  stand = λ key has. absurd (omega (arith, has.1));
  only = λ key has. inl has;
  many = omega arith;
}

pub learns_none : {X : Type 0} (Taken : Type 0) (A : Run → Type 0) (d : Says) (m : MemoryIs) (work : X → Work) (es : List X)
    → (Taken → ⊥) → ((key : Run) → A key → ⊥) → Learns Taken A d m m work es es 0
learns_none Taken A d m work es untaken none = record {
  gains = gains_none Taken A d m.shelf;
  new = [];
  adds = adds_none A m.shelf none;
  worked = together_none (map work es);
  tally = refl;
}

pub lost_none : {X : Type 0} (Taken : Type 0) (A : Run → Type 0) (d : Says) (m : MemoryIs) (work : X → Work) (es : List X) → IsLost Taken A d m m work es es
lost_none Taken A d m work es =
    record { gains = gains_none Taken A d m.shelf; gone = record { keys = []; years = 0; worked = together_none (map work es); rose = refl } }
