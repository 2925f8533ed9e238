-- A configuration is the list of the counts of its candidates, thermal candidates first. It lies in a
-- fixed row of places, with zeros behind the counts, so that equal lists lie in equal rows. This
-- program's own.
use Rattle.std.specs.Prelude.{◌≡◌, ℕ, ◌-◌, ◌≤◌, ◌++◌, List, length, take, drop, replicate, slice_index, All, EachIndex}
use Rattle.std.proofs.lemmas.List.{take-append-drop, length-take-le}
use Rattle.plant_data.specs.declared.config.Config.TheInside.{Inside}

-- no count of a configuration is above that of the other
abbrev pub IsAtMost : List ℕ → List ℕ → Type 0
IsAtMost counts others = EachIndex counts (λ k. slice_index counts k ≤ slice_index others k)

-- at most 14 counts, each at most 128, and zeros behind the first `width`
pub record IsPadded (counts : List ℕ) (width : ℕ) : Type 0 where
  pub places : length counts ≡ 14
  pub low : 1 ≤ width
  pub high : width ≤ 14
  pub small : All (λ n. n ≤ 128) counts
  pub zeros : drop width counts ≡ replicate (14 - width) 0

-- the row of a list of counts
abbrev pub padded : List ℕ → Inside
padded v = record { counts = v ++ replicate (14 - length v) 0; width = length v }

pub padded_back : (c : Inside) → IsPadded c.counts c.width → padded (take c.width c.counts) ≡ c
padded_back c h =
    let n : length (take c.width c.counts) ≡ c.width = length-take-le c.width c.counts (rw h.places h.high) in
    let whole : take c.width c.counts ++ replicate (14 - length (take c.width c.counts)) 0 ≡ c.counts =
    rw n (rw (← h.zeros) (take-append-drop c.width c.counts)) in
    λ i. record { counts = whole i; width = n i }
