-- What the reader of an earlier output has come to.
use Rattle.std.specs.Prelude.{ℕ, zero, suc, List, Option, Some, None}
use Rattle.ntfe_model.specs.Earlier.{Reading, Place}
use Rattle.ntfe_model.specs.Earlier.Place.{class_or_end, heights_of, star_of, simplices_of, nothing}
use Rattle.class_text.specs.declared.reader.Reader.{Reader}
use Rattle.class_text.specs.declared.reader.Place.{Place as Due}
use Rattle.class_text.specs.declared.reader.Place.TheVariants.{ClassOrEnd, Heights, Star, Simplices, Nothing}

-- what may come next, with the choice that was read
abbrev pub place_of : Due → List ℕ → Place
place_of ClassOrEnd choice = class_or_end
place_of Heights choice = heights_of choice
place_of Star choice = star_of choice
place_of (Simplices left) choice = simplices_of choice left
place_of Nothing choice = nothing

-- the last choice of so many blocks
abbrev pub last_of : ℕ → List ℕ → Option (List ℕ)
last_of zero choice = None
last_of (suc count) choice = Some choice

abbrev pub reading_of : Reader → Reading
reading_of r = record {
  place = place_of r.place r.current.items;
  read = r.read;
  kept = record { bytes = r.kept; blocks = r.count; last = last_of r.count r.last.items };
}
