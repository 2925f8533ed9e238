-- What is printed of hourly loads. This program's own; the SHAPE line is a statement of a deck.
use Rattle.std.specs.Prelude.{ℕ, List, ◌++◌, codes, decimal}
use Rattle.std.specs.List.{flat_map}
use Rattle.plant_data.specs.declared.shape.Point.{Point}
use Rattle.hourly_load.specs.declared.shape.Hourly.{Hourly}

-- a pair behind a space, and between its numbers one
abbrev pub pair : Point → List ℕ
pair p = codes " " ++ decimal p.load ++ codes " " ++ decimal p.share

abbrev pub pairs : List Point → List ℕ
pairs points = flat_map pair points

-- the peak in MW, the shape as statement 1, the energy of the hours in MWh, and the error in parts of ONE
abbrev pub hourly_text : Hourly → List ℕ
hourly_text h = codes "PEAK " ++ decimal h.peak ++ codes "\nSHAPE 1" ++ pairs h.points ++ codes "\nMWH " ++ decimal h.sum ++ codes "\nERROR " ++ decimal h.error ++ codes "\n"
