-- What is told: a text, with the number of years that were detailed for it and of the NOs in it. This program's own.
use Rattle.std.specs.Prelude.{◌≡◌, ℕ, ◌+◌, List, [], ◌++◌}

pub record Told : Type 0 where
  pub text : List ℕ
  pub details : ℕ
  pub nos : ℕ

-- nothing; a text for which no year was detailed; one text behind another
abbrev pub nothing : Told
nothing = record { text = []; details = 0; nos = 0 }

abbrev pub plain : List ℕ → Told
plain text = record { text = text; details = 0; nos = 0 }

abbrev pub joined : Told → Told → Told
joined one other =
    record { text = one.text ++ other.text; details = one.details + other.details; nos = one.nos + other.nos }

-- the one is told and then the other
pub record AreJoined (One Other : Told → Type 0) (told : Told) : Type 0 where
  pub one : Told
  pub other : Told
  pub is_one : One one
  pub is_other : Other other
  pub is : told ≡ joined one other
