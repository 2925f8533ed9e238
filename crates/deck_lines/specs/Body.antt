-- What stands behind the head of a statement. This program's own.
use Rattle.std.specs.Prelude.{ℕ, List}

-- a name, empty where the statement has none, and numbers
pub record BodyParts : Type 0 where
  pub name : List ℕ
  pub numbers : List ℕ
