-- A session after want of memory.
use Rattle.std.proofs.Common.{◌≡◌, ◌∙◌, ap, refl, subst, sym, ◌+◌, Bool, true, List, Option, Some, IsTrue}
use Rattle.deck_check.specs.Readings.{Says}
use Rattle.deck_lines.specs.Deck.{body_of}
use Rattle.deck_lines.specs.declared.line.Line.{Line}
use Rattle.deck_lines.specs.declared.line.Line.TheVariants as lines
use Rattle.sim_engine.specs.Engine.{Run, Work}
use Rattle.deck_tellings.specs.Checks.{IsChecked, Open}
use Rattle.wasp_session.specs.Inner.{IsLostOn}
use Rattle.deck_tellings.specs.Checks.{DemandsAtEnd, DemandsChecked, IsCheckedAtEnd}
use Rattle.deck_tellings.specs.Memory.{MemoryIs}
use Rattle.wasp_session.specs.State.{State}
use Rattle.deck_tellings.specs.Learning.{IsLost}
use Rattle.wasp_session.specs.Steps.{IsTakenAt, IsWanting, IsWantingAt, line_asks}
use Rattle.deck_tellings.proofs.LearnSteps.{lost_none}

-- a call that did nothing to the deck and the memory
pub wanting : {X : Type 0} (Taken : Type 0) (Asks : Run → Type 0) (s t : State) (work : X → Work) (es : List X) → t.deck ≡ s.deck → t.command ≡ s.command → t.memory ≡ s.memory → IsTrue t.refused
    → IsWanting Taken Asks s t work es es
wanting Taken Asks s t work es deck command memory refused = record {
  deck = deck;
  command = command;
  refused = refused;
  lost = subst (λ (m : MemoryIs). IsLost Taken Asks (body_of s.deck) s.memory m work es es) (sym memory) (lost_none Taken Asks (body_of s.deck) s.memory work es);
}

pub wanting_at : {X : Type 0} (line : Line) (s t : State) (work : X → Work) (es : List X) → t.deck ≡ s.deck → t.command ≡ s.command → t.memory ≡ s.memory → IsTrue t.refused → IsWantingAt line s t work es es
wanting_at line s t work es deck command memory refused = wanting (IsTakenAt s line) (line_asks s line) s t work es deck command memory refused

pub same_wanting : {X : Type 0} (line l : Line) (s t : State) (work : X → Work) (es fs : List X) → line ≡ l → IsWantingAt l s t work es fs → IsWantingAt line s t work es fs
same_wanting line l s t work es fs is w = subst (λ (z : Line). IsWantingAt z s t work es fs) (sym is) w

-- a PLAN behind the flag
pub plan_wanting : {X : Type 0} (s mid t : State) (work : X → Work) (es fs : List X) → mid ≡ record s { plans = s.plans + 1; refused = true } → t ≡ record mid { memory = t.memory }
    → IsLostOn mid.command mid.deck mid.memory t.memory work es fs → IsWantingAt lines.Plan s t work es fs
plan_wanting s mid t work es fs of_mid of_t l =
    let flag : t.refused ≡ true = ap (λ (z : State). z.refused) of_t ∙ ap (λ (z : State). z.refused) of_mid in
    record {
      deck = ap (λ (z : State). z.deck) of_t ∙ ap (λ (z : State). z.deck) of_mid;
      command = ap (λ (z : State). z.command) of_t ∙ ap (λ (z : State). z.command) of_mid;
      refused = subst (λ (b : Bool). IsTrue b) (sym flag) refl;
      lost = subst (λ (z : State). IsLostOn z.command z.deck z.memory t.memory work es fs) of_mid l;
    }

-- at the ENDCHECK of an open CHECK
pub lost_at_end : {X : Type 0} (d : Says) (o : Option Open) (p : Open) (m n : MemoryIs) (work : X → Work) (es fs : List X) → o ≡ Some p
    → IsLost (IsChecked d p) (DemandsChecked d p) d m n work es fs → IsLost (IsCheckedAtEnd d o) (DemandsAtEnd d o) d m n work es fs
lost_at_end d o p m n work es fs some l = subst (λ (z : Option Open). IsLost (IsCheckedAtEnd d z) (DemandsAtEnd d z) d m n work es fs) (sym some) l

pub wanting_at_end : {X : Type 0} (s v : State) (p : Open) (o : Option Open) (n : MemoryIs) (work : X → Work) (es fs : List X) → v ≡ s → v.opened ≡ Some p
    → IsLost (IsChecked (body_of v.deck) p) (DemandsChecked (body_of v.deck) p) (body_of v.deck) v.memory n work es fs
    → IsWantingAt lines.EndCheck s (record v { memory = n; opened = o; refused = true }) work es fs
wanting_at_end s v p o n work es fs is some l =
    subst (λ (z : State). IsWantingAt lines.EndCheck z (record v { memory = n; opened = o; refused = true }) work es fs) is
    (record { deck = refl; command = refl; refused = refl; lost = lost_at_end (body_of v.deck) v.opened p v.memory n work es fs some l })
