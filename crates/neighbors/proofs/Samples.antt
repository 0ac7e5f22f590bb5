-- Samples, computed: a cell away from the border has 14 neighbours, in the order of the offsets; the cell 0, 0, 0 has 4; the cell 65535, 65535, 65535 has 4.
-- Assumes nothing.
use mathlib.Core.Path.{◌≡◌, refl}
use mathlib.Core.List.{[], ◌∷◌, map}
use Rattle.ids.specs.Morton.{respaced, morton}
use Rattle.ids.specs.Key.{key_of}
use Rattle.neighbors.specs.Neighbors.{offsets, in_box, reached_from, shown, neighbours_by, neighbours}

pub samples :
    map neighbours (key_of 7 10 10 10 ∷ key_of 0 0 0 0 ∷ key_of 65535 65535 65535 65535 ∷ [])
    ≡ (key_of 7 11 11 11 ∷ key_of 7 11 11 9 ∷ key_of 7 11 9 11 ∷ key_of 7 11 9 9 ∷ key_of 7 9 11 11 ∷ key_of 7 9 11 9 ∷ key_of 7 9 9 11 ∷ key_of 7 9 9 9
    ∷ key_of 7 12 10 10 ∷ key_of 7 8 10 10 ∷ key_of 7 10 12 10 ∷ key_of 7 10 8 10 ∷ key_of 7 10 10 12 ∷ key_of 7 10 10 8 ∷ [])
    ∷ (key_of 0 1 1 1 ∷ key_of 0 2 0 0 ∷ key_of 0 0 2 0 ∷ key_of 0 0 0 2 ∷ [])
    ∷ (key_of 65535 65534 65534 65534 ∷ key_of 65535 65533 65535 65535 ∷ key_of 65535 65535 65533 65535 ∷ key_of 65535 65535 65535 65533 ∷ [])
    ∷ []
unfolding respaced morton offsets in_box reached_from shown neighbours_by
samples = refl
