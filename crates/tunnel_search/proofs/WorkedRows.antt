-- Worked rows of the definitions: four candidates of one count each at an edge, and one inside.
use Rattle.std.proofs.Common.{◌≡◌, [], ◌∷◌, refl}
use Rattle.tunnel_search.specs.Search.{moved_tunnel}

-- the marks + - = and . from tunnels without a width
from_width_0 : moved_tunnel (5 ∷ 3 ∷ 5 ∷ 0 ∷ []) (record { least = 0 ∷ 3 ∷ 2 ∷ 0 ∷ []; width = 0 ∷ 0 ∷ 0 ∷ 0 ∷ [] }) (0 ∷ 3 ∷ 2 ∷ 0 ∷ [])
    ≡ record { least = 0 ∷ 2 ∷ 1 ∷ 0 ∷ []; width = 1 ∷ 1 ∷ 2 ∷ 0 ∷ [] }
from_width_0 = refl

-- the marks + - and . from wider ones: the edge moves by one unit, and the width stays
from_wider : moved_tunnel (5 ∷ 5 ∷ 5 ∷ 3 ∷ []) (record { least = 1 ∷ 2 ∷ 1 ∷ 0 ∷ []; width = 2 ∷ 2 ∷ 3 ∷ 3 ∷ [] }) (3 ∷ 2 ∷ 2 ∷ 3 ∷ [])
    ≡ record { least = 2 ∷ 1 ∷ 1 ∷ 0 ∷ []; width = 2 ∷ 2 ∷ 3 ∷ 3 ∷ [] }
from_wider = refl
