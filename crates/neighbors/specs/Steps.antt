-- What private functions promise each other: steps along an axis by its spread bits, without decoding.
use Rattle.std.specs.Prelude.{ℕ, ◌+◌, ◌-◌, ◌*◌, ◌^◌, ◌<◌, Bool, cond, ◌&&◌, ◌||◌, eqb, ltb, Some, None, Option}
use Rattle.ids.specs.Morton.{spread}
use Rattle.ids.specs.Key.{head_of, x_of, y_of, z_of}
use Rattle.neighbors.specs.Neighbors.{Offset, down2, down1, stay, up1, up2}
use Rattle.neighbors.specs.declared.Along.{Along}

-- a coordinate moved by a step, over 17 bits: it is 2 ^ 17 larger, so that past the border, and there alone, the 17th bit is set
abbrev pub moved : ℕ → ℕ → ℕ
moved x d = spread 17 (x + (d + 131070))

-- where the five steps lead
abbrev pub steps_along : ℕ → Along
steps_along x =
    record { down2 = moved x down2; down1 = moved x down1; stay = moved x stay; up1 = moved x up1; up2 = moved x up2 }

-- none of them passes 51 bits
pub record Narrow (s : Along) : Type 0 where
  pub down2 : s.down2 < 2 ^ 51
  pub down1 : s.down1 < 2 ^ 51
  pub stay : s.stay < 2 ^ 51
  pub up1 : s.up1 < 2 ^ 51
  pub up2 : s.up2 < 2 ^ 51

-- three axes in one number
abbrev pub join_of : ℕ → ℕ → ℕ → ℕ
join_of x y z = x + y * 2 + z * 4

-- what an offset leads to, without the head
unfoldable pub low_of : ℕ → Offset → ℕ
low_of key o = join_of (moved (x_of key) o.0) (moved (y_of key) o.1) (moved (z_of key) o.2)

-- the cell of a lower part under the key's head
unfoldable pub cell_of : ℕ → ℕ → Option ℕ
cell_of key low = cond (ltb low (2 ^ 48)) (Some (head_of key * 2 ^ 48 + low)) None

-- the way from y to x, over 17 bits
abbrev pub way_along : ℕ → ℕ → ℕ
way_along x y = spread 17 (x + (131071 - y) + 1)

-- it is 1 or -1
abbrev pub by_one : ℕ → Bool
by_one way = eqb way 1 || eqb way 0x1_2492_4924_9249

-- it is 2 or -2
abbrev pub by_two : ℕ → Bool
by_two way = eqb way 8 || eqb way 0x1_2492_4924_9248

-- by 1 on all three axes, or by 2 on one and 0 on the others
unfoldable pub step_by : ℕ → ℕ → ℕ → Bool
step_by x y z =
    (by_one x && (by_one y && by_one z))
    || ((by_two x && (eqb y 0 && eqb z 0)) || ((eqb x 0 && (by_two y && eqb z 0)) || (eqb x 0 && (eqb y 0 && by_two z))))
