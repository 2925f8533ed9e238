-- Worked rows of the definitions.
use Rattle.std.proofs.Common.{◌≡◌, ℕ, true, false, List, [], ◌∷◌, refl}
use Rattle.deck_lines.specs.Deck.{body_of}
use Rattle.deck_lines.specs.declared.head.Head.{Head}
use Rattle.deck_lines.specs.declared.head.Head.TheVariants as heads
use Rattle.deck_lines.specs.declared.statement.Statement.{Statement}
use Rattle.deck_check.specs.DeckFault.{negative, no_case, no_load, old_form, shape_form, tunnel_high}
use Rattle.deck_check.specs.FaultTable.{is_met}
use Rattle.deck_check.specs.Readings.{Says, first, greatest, units_in}

said : Head → List ℕ → Statement
said h ns = record { head = h; body = record { name = []; numbers = ns } }

-- two units in year 1, one more in year 2, three that go in year 3
plant : List Statement
unfolding said
plant = said heads.Years (3 ∷ []) ∷ said (heads.Plant 1) (2 ∷ []) ∷ said (heads.Add 1 2) (1 ∷ []) ∷ said (heads.Retire 1 3) (3 ∷ []) ∷ []

second_year : units_in (body_of plant) 1 2 ≡ 3
unfolding said plant first
second_year = refl

no_unit_is_left : units_in (body_of plant) 1 3 ≡ 0
unfolding said plant first
no_unit_is_left = refl

none_too_few : is_met (negative (body_of plant)) 1 3 0 ≡ false
unfolding said plant first
none_too_few = refl

one_more_goes : is_met (negative (body_of (said (heads.Retire 1 2) (1 ∷ []) ∷ plant))) 1 3 0 ≡ true
unfolding said plant first
one_more_goes = refl

-- LOAD 2 of three years is absent, and LOAD 4 is not looked for
no_second_load : is_met (no_load (body_of (said (heads.Years) (3 ∷ []) ∷ said (heads.Load 1) (5 ∷ 1 ∷ []) ∷ []))) 2 0 0 ≡ true
unfolding said
no_second_load = refl

no_fourth_year : is_met (no_load (body_of (said (heads.Years) (3 ∷ []) ∷ []))) 4 0 0 ≡ false
unfolding said
no_fourth_year = refl

-- the third point has no greater load than the second
third_point : is_met (shape_form (body_of (said (heads.Shape 2) (0 ∷ 10_000 ∷ 5000 ∷ 5000 ∷ 5000 ∷ 4000 ∷ 10_000 ∷ 0 ∷ []) ∷ []))) 2 3 0 ≡ true
unfolding said
third_point = refl

second_point_is_good : is_met (shape_form (body_of (said (heads.Shape 2) (0 ∷ 10_000 ∷ 5000 ∷ 5000 ∷ 5000 ∷ 4000 ∷ 10_000 ∷ 0 ∷ []) ∷ []))) 2 2 0 ≡ false
unfolding said
second_point_is_good = refl

-- GRID stands in a deck without VERSION
grid_of_version_1 : is_met (old_form (body_of (said heads.Grid (1 ∷ []) ∷ []))) 3 0 0 ≡ true
unfolding said
grid_of_version_1 = refl

-- case 1 has a TUNNEL for year 1 and no MARGIN
no_margin : is_met (no_case (body_of (said (heads.Tunnel 1 1) (0 ∷ 1 ∷ []) ∷ []))) 1 2 0 ≡ true
unfolding said
no_margin = refl

tunnels : Says
unfolding said
tunnels = body_of (said heads.Years (5 ∷ []) ∷ said (heads.Thermal 3) (4 ∷ []) ∷ said (heads.Hydro 2) (1 ∷ 2 ∷ []) ∷ said (heads.Tunnel 1 1) (2 ∷ 2 ∷ 0 ∷ 2 ∷ []) ∷ said (heads.Tunnel 1 4) (2 ∷ 2 ∷ 1 ∷ 2 ∷ []) ∷ [])

-- thermal candidates before groups, by number
greatest_counts : greatest tunnels ≡ 4 ∷ 2 ∷ []
unfolding said tunnels first
greatest_counts = refl

second_candidate_is_high : is_met (tunnel_high tunnels) 1 4 2 ≡ true
unfolding said tunnels first
second_candidate_is_high = refl

first_year_is_not : is_met (tunnel_high tunnels) 1 1 2 ≡ false
unfolding said tunnels first
first_year_is_not = refl
