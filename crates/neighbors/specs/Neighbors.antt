-- The neighbours of a key: the cells by the 14 offsets of `BCC_NEIGHBORS_14`, in its order.
use Rattle.std.specs.Prelude.{ℕ, ◌+◌, ◌-◌, Bool, cond, ◌&&◌, ◌||◌, List, [], ◌∷◌, ◌++◌, eqb, leb, ltb, length, get_or, Err, Some, None, Option, Result}
use Rattle.ids.specs.Key.{key_of, head_of, x_of, y_of, z_of, on_lattice}
use Rattle.lists.specs.Padding.{padded}
use Rattle.lists.specs.Listing.{room_for, held_for}
use Rattle.refusals.specs.declared.Refusal.TheVariants.{Lengths, OffLattice}
use Rattle.neighbors.specs.declared.Near.{Near}
use Rattle.refusals.specs.declared.Refusal.{Refusal}

-- a step of -2 to 2 along an axis, kept 2 larger so that it is a whole number
abbrev pub down2 : ℕ
down2 = 0

abbrev pub down1 : ℕ
down1 = 1

abbrev pub stay : ℕ
stay = 2

abbrev pub up1 : ℕ
up1 = 3

abbrev pub up2 : ℕ
up2 = 4

-- a step on each axis
abbrev pub Offset : Type 0
Offset = ℕ × ℕ × ℕ

-- the 14 offsets
unfoldable pub offsets : List Offset
offsets =
    (up1, up1, up1) ∷ (up1, up1, down1) ∷ (up1, down1, up1) ∷ (up1, down1, down1) ∷
    (down1, up1, up1) ∷ (down1, up1, down1) ∷ (down1, down1, up1) ∷ (down1, down1, down1) ∷
    (up2, stay, stay) ∷ (down2, stay, stay) ∷ (stay, up2, stay) ∷ (stay, down2, stay) ∷
    (stay, stay, up2) ∷ (stay, stay, down2) ∷ []

-- the offset at a place below 14
abbrev pub offset_at : ℕ → Offset
offset_at place = get_or offsets place (0, 0, 0)

-- a coordinate moved by a step is within 0 to 65535
unfoldable pub in_box : ℕ → ℕ → Bool
in_box x d = leb 2 (x + d) && ltb (x + d) 65538

-- the coordinate moved by a step, where it is inside
abbrev pub move_to : ℕ → ℕ → ℕ
move_to x d = x + d - 2

-- the cell that an offset leads to from head, x, y, z
unfoldable pub reached_from : ℕ → ℕ → ℕ → ℕ → Offset → Option ℕ
reached_from head x y z o =
    cond (in_box x o.0 && (in_box y o.1 && in_box z o.2))
    (Some (key_of head (move_to x o.0) (move_to y o.1) (move_to z o.2)))
    None

-- the cell that an offset leads to from a key
abbrev pub reached : ℕ → Offset → Option ℕ
reached key o = reached_from (head_of key) (x_of key) (y_of key) (z_of key) o

-- the cell, where there is one, as a list
unfoldable pub shown : Option ℕ → List ℕ
shown (Some key) = key ∷ []
shown None = []

-- the cells that a list of offsets leads to
unfoldable pub neighbours_by : ℕ → List Offset → List ℕ
neighbours_by key [] = []
neighbours_by key (o ∷ os) = shown (reached key o) ++ neighbours_by key os

-- the neighbours of a key, in order
abbrev pub neighbours : ℕ → List ℕ
neighbours key = neighbours_by key offsets

-- how far apart two coordinates are
abbrev pub apart : ℕ → ℕ → ℕ
apart a b = (a - b) + (b - a)

-- by 1 on all three axes, or by 2 on one and 0 on the others
unfoldable pub one_step : ℕ → ℕ → ℕ → Bool
one_step a b c =
    (eqb a 1 && (eqb b 1 && eqb c 1))
    || ((eqb a 2 && (eqb b 0 && eqb c 0)) || ((eqb a 0 && (eqb b 2 && eqb c 0)) || (eqb a 0 && (eqb b 0 && eqb c 2))))

-- two cells are adjacent
unfoldable pub adjacent : ℕ → ℕ → Bool
adjacent k l =
    eqb (head_of k) (head_of l) && one_step (apart (x_of k) (x_of l)) (apart (y_of k) (y_of l)) (apart (z_of k) (z_of l))

-- the answer to a list of `room` places: 2 past 1,048,576 places, 4 off the lattice, 6 where the neighbours have no place
unfoldable pub listed_of : ℕ → ℕ → Result ℕ Refusal
listed_of key room =
    cond (ltb 1048576 room) (Err Lengths)
    (cond (on_lattice key) (room_for (length (neighbours key)) room) (Err OffLattice))

-- what the list then holds: the neighbours and zeros, or zeros where refused
abbrev pub listing_of : ℕ → ℕ → List ℕ
listing_of key room = held_for 0 (listed_of key room) room (neighbours key)

-- the neighbours in a room of 14, and how many there are
abbrev pub near_of : ℕ → Near
near_of key = record { keys = padded 0 14 (neighbours key); count = length (neighbours key) }
