-- Keys: 16 bits of head over a Morton number of 48, and the lattice they stand on.
use Rattle.std.specs.Prelude.{ℕ, ◌+◌, ◌*◌, ◌/◌, ◌%◌, ◌^◌, Bool, cond, ◌&&◌, eqb, Ok, Err, Result}
use Rattle.ids.specs.Morton.{morton, gather}
use Rattle.refusals.specs.Refusals.{number_of}
use Rattle.refusals.specs.declared.Refusal.TheVariants.{OffLattice}
use Rattle.refusals.specs.declared.Refusal.{Refusal}
use Rattle.ids.specs.declared.Cells.{Cells}

-- the key of a head and three coordinates
abbrev pub key_of : ℕ → ℕ → ℕ → ℕ → ℕ
key_of head x y z = head * 2 ^ 48 + morton 16 x y z

-- the parts of a key
abbrev pub head_of : ℕ → ℕ
head_of key = key / 2 ^ 48

abbrev pub morton_of : ℕ → ℕ
morton_of key = key % 2 ^ 48

abbrev pub tier_of : ℕ → ℕ
tier_of key = key / 2 ^ 60 % 4

abbrev pub frame_of : ℕ → ℕ
frame_of key = key / 2 ^ 52 % 256

abbrev pub lod_of : ℕ → ℕ
lod_of key = key / 2 ^ 48 % 16

-- the coordinates of a key: every third of its low 48 bits
abbrev pub x_of : ℕ → ℕ
x_of key = gather 16 key

abbrev pub y_of : ℕ → ℕ
y_of key = gather 16 (key / 2)

abbrev pub z_of : ℕ → ℕ
z_of key = gather 16 (key / 4)

-- x, y and z are all even or all odd
unfoldable pub same_parity : ℕ → ℕ → ℕ → Bool
same_parity x y z = eqb (x % 2) (y % 2) && eqb (y % 2) (z % 2)

-- the key is on the lattice
abbrev pub on_lattice : ℕ → Bool
on_lattice key = same_parity (x_of key) (y_of key) (z_of key)

-- what the constructor answers
abbrev pub made_of : ℕ → ℕ → ℕ → ℕ → Result ℕ Refusal
made_of head x y z = cond (same_parity x y z) (Ok (key_of head x y z)) (Err OffLattice)

-- what decoding answers
abbrev pub decoded_of : ℕ → Result (Cells × Cells × Cells) Refusal
decoded_of key =
    cond (on_lattice key) (Ok (record { 0 = x_of key }, record { 0 = y_of key }, record { 0 = z_of key })) (Err OffLattice)

-- document 01's number of each answer; 0 where it is no refusal
abbrev pub made_number : Result ℕ Refusal → ℕ
made_number (Ok key) = 0
made_number (Err why) = number_of why

abbrev pub decoded_number : Result (Cells × Cells × Cells) Refusal → ℕ
decoded_number (Ok (x, y, z)) = 0
decoded_number (Err why) = number_of why
