-- The marks of a planned configuration: where its counts stand at an edge of the tunnel that may be moved.
-- After the signs + and - beside the states of an optimal solution in WASP-IV (IAEA Computer Manual Series
-- No. 16); one byte for each candidate is this program's own.
use Rattle.std.specs.Prelude.{◌==◌, ◌&&◌, ◌+◌, ℕ, Bool, true, false, List, length, codes, nat_lt, slice_index}
use Rattle.plant_data.specs.declared.row.Tunnel.{Tunnel}
use Rattle.report_text.specs.Lines.{texts}

-- whether a count is the greatest that the tunnel allows, and whether it is the least
abbrev pub mark : Bool → Bool → List ℕ
mark true true = codes "="
mark true false = codes "+"
mark false true = codes "-"
mark false false = codes "."

-- the tunnel's upper edge, which may be moved up to the greatest count
abbrev pub is_upper : ℕ → ℕ → ℕ → ℕ → Bool
is_upper least width greatest count = (count == least + width) && nat_lt count greatest

-- its lower edge, which may be moved down to 0
abbrev pub is_lower : ℕ → ℕ → Bool
is_lower least count = (count == least) && nat_lt 0 count

-- the mark of the candidate at place k, counted from 0
abbrev pub mark_at : List ℕ → Tunnel → List ℕ → ℕ → List ℕ
mark_at greatest tunnel counts k =
    mark
    (is_upper (slice_index tunnel.least k) (slice_index tunnel.width k) (slice_index greatest k) (slice_index counts k))
    (is_lower (slice_index tunnel.least k) (slice_index counts k))

abbrev pub marks : List ℕ → Tunnel → List ℕ → List ℕ
marks greatest tunnel counts = texts (length counts) (mark_at greatest tunnel counts)
