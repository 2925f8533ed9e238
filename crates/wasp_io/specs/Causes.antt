-- When a count of faults has risen, and what a fault that is answered says of it. This program's own.
use Rattle.std.specs.Prelude.{◌≡◌, ℕ, ◌+◌, ◌-◌, ◌^◌, ◌≤◌, min}

-- the count rose, or it stands at its last value, which is taken as risen
abbrev pub Rose : ℕ → ℕ → Type 0
Rose before now = min (before + 1) (2 ^ 64 - 1) ≤ now

-- the count didn't fall; where a fault was answered it rose, and where none was it stayed
pub record HasCause (before now : ℕ) (Fault : Type 0) : Type 0 where
  pub later : before ≤ now
  pub rose : Fault → Rose before now
  pub only : (Fault → ⊥) → now ≡ before
