-- Worked rows of the definitions.
use Rattle.std.proofs.Common.{◌≡◌, ℕ, List, [], ◌∷◌, refl}
use Rattle.deck_lines.specs.Deck.{body_of}
use Rattle.deck_lines.specs.declared.head.Head.{Head}
use Rattle.deck_lines.specs.declared.head.Head.TheVariants as heads
use Rattle.deck_lines.specs.declared.statement.Statement.{Statement}
use Rattle.checked_deck.specs.Systems.{group_water}
use Rattle.checked_deck.specs.TypedDeck.{year_of}
use Rattle.deck_check.specs.Readings.{Says, first}

said : Head → List ℕ → Statement
said h ns = record { head = h; body = record { name = []; numbers = ns } }

tunnels : Says
unfolding said
tunnels = body_of (said heads.Years (5 ∷ []) ∷ said (heads.Tunnel 1 1) (2 ∷ 2 ∷ 0 ∷ 2 ∷ []) ∷ said (heads.Tunnel 1 4) (2 ∷ 2 ∷ 1 ∷ 2 ∷ []) ∷ [])

-- year 3 has the tunnel of year 1, and year 5 that of year 4
tunnel_of_year_3 : year_of tunnels (heads.Tunnel 1) 3 ≡ 1
unfolding said tunnels
tunnel_of_year_3 = refl

tunnel_of_year_5 : year_of tunnels (heads.Tunnel 1) 5 ≡ 4
unfolding said tunnels
tunnel_of_year_5 = refl

-- by project and then by period
water_of_a_group : group_water (body_of (said heads.Periods (2 ∷ []) ∷ said (heads.Hydro 1) (1 ∷ 1 ∷ []) ∷ said (heads.Water 1 1 2) (4 ∷ 5 ∷ 6 ∷ []) ∷ said (heads.Water 1 2 1) (7 ∷ 8 ∷ 9 ∷ []) ∷ [])) 1
    ≡ record { base = 0; peak = 0; energy = 0 } ∷ record { base = 4; peak = 5; energy = 6 } ∷ record { base = 7; peak = 8; energy = 9 } ∷ record { base = 0; peak = 0; energy = 0 } ∷ []
unfolding said first
water_of_a_group = refl
