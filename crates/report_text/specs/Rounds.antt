-- What `search` writes of a PLAN line: the cost of each round of a case, how its rounds ended, and the last tunnels with
-- their plan. This program's own.
use Rattle.std.specs.Prelude.{◌≡◌, ℕ, All, List, [], ◌∷◌, ◌++◌, Option, None, Some, codes, decimal, length, slice_index}
use Rattle.std.specs.List.{flat_map, enumerate_from}
use Rattle.plant_data.specs.declared.row.Tunnel.{Tunnel}
use Rattle.report_text.specs.Lines.{line, texts}
use Rattle.report_text.specs.Ranking.{chosen_lines}
use Rattle.report_text.specs.declared.rounds.Found.{Found}

-- the n-th PLAN of a script of `search`
abbrev pub search_heading : ℕ → List ℕ
search_heading n = line (codes "SEARCH") (decimal n ∷ [])

-- a case of it
abbrev pub case_line : ℕ → List ℕ
case_line c = line (codes "CASE") (decimal c ∷ [])

-- a round with a plan, and its cost in dollars of present worth
abbrev pub round_line : ℕ → ℕ → List ℕ
round_line round total = line (codes "ROUND") (decimal round ∷ decimal total ∷ [])

-- no plan under the tunnels of a round reaches this year
abbrev pub barred_line : ℕ → List ℕ
barred_line t = line (codes "INFEASIBLE") (decimal t ∷ [])

-- no chosen configuration stands at an edge that may be moved; or there was no round to come
abbrev pub inside_line : List ℕ
inside_line = line (codes "INSIDE") []

abbrev pub rounds_line : List ℕ
rounds_line = line (codes "ROUNDS") []

-- the least count and the width of the candidate at place k, counted from 0
abbrev pub pair_words : Tunnel → ℕ → List ℕ
pair_words tunnel k = codes " " ++ decimal (slice_index tunnel.least k) ++ codes " " ++ decimal (slice_index tunnel.width k)

-- the tunnel of a case and year, by these pairs
abbrev pub tunnel_line : ℕ → ℕ → Tunnel → List ℕ
tunnel_line c t tunnel =
    codes "TUNNEL " ++ decimal c ++ codes " " ++ decimal t ++ texts (length tunnel.least) (pair_words tunnel) ++ codes "\n"

-- those of the years
abbrev pub tunnel_lines : ℕ → List Tunnel → List ℕ
tunnel_lines c tunnels = flat_map (λ p. tunnel_line c p.0 p.1) (enumerate_from 1 tunnels)

-- the last round that had a plan: its tunnels, its configurations and its cost; nothing where none had one
abbrev pub found_lines : ℕ → Found → List ℕ
found_lines c f = tunnel_lines c f.tunnels ++ chosen_lines f.configs ++ line (codes "TOTAL") (decimal f.total ∷ [])

abbrev pub found_text : ℕ → Option Found → List ℕ
found_text c None = []
found_text c (Some f) = found_lines c f

-- each tunnel has a width for each least count
abbrev pub AreWide : List Tunnel → Type 0
AreWide tunnels = All (λ tunnel. length tunnel.width ≡ length tunnel.least) tunnels

-- so have those of such a round
abbrev pub IsWritable : Option Found → Type 0
IsWritable None = Unit {0}
IsWritable (Some f) = AreWide f.tunnels
