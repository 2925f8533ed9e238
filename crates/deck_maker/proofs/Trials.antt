-- What is so of every trial deck.
use Rattle.std.proofs.Common.{◌≡◌, ℕ, zero, suc, ◌≤◌, List, [], ◌∷◌, All, refl, sym, subst, arith, true}
use Rattle.std.proofs.lemmas.List.Elements.{All-cons}
use Rattle.std.proofs.lemmas.Bool.{le-leb}
use Rattle.deck_lines.specs.declared.head.Head.TheVariants as heads
use Rattle.deck_lines.specs.Deck.{body_of}
use Rattle.deck_check.specs.DeckFault.{HasNoFault, table}
use Rattle.deck_check.specs.FaultTable.{IsUnmet, Row}
use Rattle.deck_check.specs.Readings.{Says, first, is_there, numbers}
use Rattle.year_system.specs.System.{size}
use Rattle.deck_maker.specs.Laws.{IsOneCase, TrialsHaveNoFault, TrialsHaveOneCase, TrialsAreNarrow, said_widths, widths}
use Rattle.deck_maker.specs.TrialDeck.{trial}
use Rattle.deck_maker.proofs.NoFault as general
use Rattle.deck_maker.proofs.YearRows as yearly
use Rattle.deck_maker.proofs.Reading.{says, said}

-- the deck and the map are one
same_map : (seed years candidates : ℕ) → says seed years candidates ≡ body_of (trial seed years candidates)
same_map seed years candidates = λ i h. sym (said seed years candidates h) i

-- no row of a list is met, row by row
abbrev NoneMet : List Row → Type 0
NoneMet [] = Unit {0}
NoneMet (row ∷ rows) = IsUnmet row × NoneMet rows

all_unmet : (rows : List Row) → NoneMet rows → All IsUnmet rows
all_unmet [] h = λ i d lt. absurd (omega (arith, lt))
all_unmet (row ∷ rows) h = All-cons IsUnmet row rows h.0 (all_unmet rows h.1)

none_met : (s y c : ℕ) → 1 ≤ y → y ≤ 30 → 1 ≤ c → c ≤ 6 → All IsUnmet (table (says s y c))
none_met s y c low high few many =
    all_unmet (table (says s y c)) (
      general.no_years s y c,
      (
        general.no_periods s y c,
        (
          general.no_rate s y c,
          (
            general.no_ens s y c,
            (
              yearly.no_candidate s y c few many,
              (
                general.no_load s y c,
                (
                  general.load_count s y c,
                  (
                    general.no_shape s y c,
                    (
                      general.shape_form s y c,
                      (
                        general.no_fuel s y c,
                        (
                          general.blocks s y c,
                          (
                            general.no_plant s y c,
                            (
                              general.negative s y c,
                              (
                                general.bad_weights s y c,
                                (
                                  general.no_group s y c,
                                  (
                                    general.no_project s y c,
                                    (
                                      general.no_water s y c,
                                      (
                                        general.water_count s y c,
                                        (
                                          yearly.many_units s y c,
                                          (
                                            yearly.power s y c high,
                                            (
                                              yearly.many_codes s y c few many,
                                              (
                                                yearly.no_case s y c low,
                                                (
                                                  yearly.tunnel_count s y c few many,
                                                  (
                                                    yearly.tunnel_high s y c high few many,
                                                    (general.old_form s y c, (general.step_unit s y c, (general.step_water s y c, tt))),
                                                  ),
                                                ),
                                              ),
                                            ),
                                          ),
                                        ),
                                      ),
                                    ),
                                  ),
                                ),
                              ),
                            ),
                          ),
                        ),
                      ),
                    ),
                  ),
                ),
              ),
            ),
          ),
        ),
      ),
    )

pub no_fault : TrialsHaveNoFault
no_fault seed years candidates low high few many =
    subst HasNoFault (same_map seed years candidates) (none_met seed years candidates low high few many)

narrow_at : (s y c t : ℕ) → c ≤ 6 → 1 ≤ t → t ≤ y → size (widths (numbers (says s y c) (heads.Tunnel 1 t))) ≤ 64
unfolding first
narrow_at s y zero t many low high = rw (le-leb 1 t low, le-leb t y high) (omega arith)
narrow_at s y (suc zero) t many low high = rw (le-leb 1 t low, le-leb t y high) (omega arith)
narrow_at s y (suc (suc zero)) t many low high = rw (le-leb 1 t low, le-leb t y high) (omega arith)
narrow_at s y (suc (suc (suc zero))) t many low high = rw (le-leb 1 t low, le-leb t y high) (omega arith)
narrow_at s y (suc (suc (suc (suc zero)))) t many low high = rw (le-leb 1 t low, le-leb t y high) (omega arith)
narrow_at s y (suc (suc (suc (suc (suc zero))))) t many low high = rw (le-leb 1 t low, le-leb t y high) (omega arith)
narrow_at s y (suc (suc (suc (suc (suc (suc zero)))))) t many low high = rw (le-leb 1 t low, le-leb t y high) (omega arith)
narrow_at s y (suc (suc (suc (suc (suc (suc (suc c))))))) t many low high = absurd (omega (arith, many))

pub narrow : TrialsAreNarrow
narrow seed years candidates t many low high =
    subst (λ (d : Says). size (widths (numbers d (heads.Tunnel 1 t))) ≤ 64) (same_map seed years candidates) (narrow_at seed years candidates t many low high)

narrow_said : (s y c t : ℕ) → c ≤ 6 → 1 ≤ t → t ≤ y → size (said_widths (says s y c) t) ≤ 64
unfolding first
narrow_said s y zero t many low high = rw (le-leb 1 t low, le-leb t y high) (omega arith)
narrow_said s y (suc zero) t many low high = rw (le-leb 1 t low, le-leb t y high) (omega arith)
narrow_said s y (suc (suc zero)) t many low high = rw (le-leb 1 t low, le-leb t y high) (omega arith)
narrow_said s y (suc (suc (suc zero))) t many low high = rw (le-leb 1 t low, le-leb t y high) (omega arith)
narrow_said s y (suc (suc (suc (suc zero)))) t many low high = rw (le-leb 1 t low, le-leb t y high) (omega arith)
narrow_said s y (suc (suc (suc (suc (suc zero))))) t many low high = rw (le-leb 1 t low, le-leb t y high) (omega arith)
narrow_said s y (suc (suc (suc (suc (suc (suc zero)))))) t many low high = rw (le-leb 1 t low, le-leb t y high) (omega arith)
narrow_said s y (suc (suc (suc (suc (suc (suc (suc c))))))) t many low high = absurd (omega (arith, many))

there_at : (s y c t : ℕ) → 1 ≤ t → t ≤ y → is_there (says s y c) (heads.Tunnel 1 t) ≡ true
there_at s y c t low high = rw (le-leb 1 t low, le-leb t y high) refl

pub one_case : TrialsHaveOneCase
one_case seed many candidates few =
    subst (λ (d : Says). IsOneCase d many) (same_map seed many candidates) (record {
      years = refl;
      cases = refl;
      there = there_at seed many candidates;
      narrow = λ t low high. narrow_said seed many candidates t few low high;
    })
