-- Document 01, "Snapping": three whole numbers of cells to the nearest point of the lattice, over the candidates in their order.
use Rattle.std.specs.Prelude.{ℕ, suc, ◌+◌, ◌-◌, ◌*◌, ◌%◌, ◌^◌, Bool, cond, ◌&&◌, ◌||◌, List, [], ◌∷◌, ◌++◌, leb, ltb, eqb, ℤ, pos, negsuc, ◌-ℤ◌, nat_abs, Ok, Err, Result}
use Rattle.std.specs.Bool.{beq}
use Rattle.std.proofs.Math.IntN.{suc_ℤ, pred_ℤ}
use Rattle.refusals.specs.Refusals.{number_of}
use Rattle.refusals.specs.declared.Refusal.TheVariants.{OutOfRange}
use Rattle.refusals.specs.declared.Refusal.{Refusal}
use Rattle.bcc_utils.specs.declared.WideCells.{WideCells}

-- three coordinates in cells
abbrev pub Point : Type 0
Point = ℤ × ℤ × ℤ

-- ---- the lattice

-- z is even
unfoldable pub even : ℤ → Bool
even z = eqb (nat_abs z % 2) 0

-- x, y and z are all even or all odd
unfoldable pub on_lattice : ℤ → ℤ → ℤ → Bool
on_lattice x y z = beq (even x) (even y) && beq (even y) (even z)

-- ---- the candidates

-- the largest even number not above z
unfoldable pub even_down : ℤ → ℤ
even_down z = cond (even z) z (pred_ℤ z)

-- the smallest even number not below z
unfoldable pub even_up : ℤ → ℤ
even_up z = cond (even z) z (suc_ℤ z)

-- the smallest odd number not below z
unfoldable pub odd_up : ℤ → ℤ
odd_up z = cond (even z) (suc_ℤ z) z

-- the largest odd number not above z
unfoldable pub odd_down : ℤ → ℤ
odd_down z = cond (even z) (pred_ℤ z) z

-- the first even candidate
abbrev pub first_even : ℤ → ℤ → ℤ → Point
first_even x y z = (even_down x, even_down y, even_down z)

-- the other even candidates in order
abbrev pub other_evens : ℤ → ℤ → ℤ → List Point
other_evens x y z =
    (even_up x, even_down y, even_down z)
    ∷ (even_down x, even_up y, even_down z)
    ∷ (even_up x, even_up y, even_down z)
    ∷ (even_down x, even_down y, even_up z)
    ∷ (even_up x, even_down y, even_up z)
    ∷ (even_down x, even_up y, even_up z)
    ∷ (even_up x, even_up y, even_up z)
    ∷ []

-- the first odd candidate
abbrev pub first_odd : ℤ → ℤ → ℤ → Point
first_odd x y z = (odd_up x, odd_up y, odd_up z)

-- the other odd candidates in order
abbrev pub other_odds : ℤ → ℤ → ℤ → List Point
other_odds x y z =
    (odd_down x, odd_up y, odd_up z)
    ∷ (odd_up x, odd_down y, odd_up z)
    ∷ (odd_down x, odd_down y, odd_up z)
    ∷ (odd_up x, odd_up y, odd_down z)
    ∷ (odd_down x, odd_up y, odd_down z)
    ∷ (odd_up x, odd_down y, odd_down z)
    ∷ (odd_down x, odd_down y, odd_down z)
    ∷ []

-- all sixteen candidates
abbrev pub candidates : ℤ → ℤ → ℤ → List Point
candidates x y z = (first_even x y z ∷ other_evens x y z) ++ (first_odd x y z ∷ other_odds x y z)

-- ---- the nearest of them

-- the square of a difference
unfoldable pub square_of : ℤ → ℕ
square_of d = nat_abs d * nat_abs d

-- the squared distance of two points
unfoldable pub squared_distance : Point → Point → ℕ
squared_distance p q = square_of (p.0 -ℤ q.0) + square_of (p.1 -ℤ q.1) + square_of (p.2 -ℤ q.2)

-- the first of least squared distance from p: the best so far, unless a later one is strictly nearer
unfoldable pub nearest : Point → Point → List Point → Point
nearest p best [] = best
nearest p best (q ∷ qs) = nearest p (cond (ltb (squared_distance p q) (squared_distance p best)) q best) qs

-- of two points, the first, unless the second is strictly nearer to p
unfoldable pub nearer : Point → Point → Point → Point
nearer p a b = cond (leb (squared_distance p a) (squared_distance p b)) a b

-- the nearest even candidate, unless the nearest odd one is strictly nearer
unfoldable pub nearest_candidate : ℤ → ℤ → ℤ → Point
nearest_candidate x y z =
    nearer (x, y, z)
    (nearest (x, y, z) (first_even x y z) (other_evens x y z))
    (nearest (x, y, z) (first_odd x y z) (other_odds x y z))

-- ---- the answer

-- the point as an answer
abbrev pub placed : Point → Result (WideCells × WideCells × WideCells) Refusal
placed p = Ok (record { 0 = p.0 }, record { 0 = p.1 }, record { 0 = p.2 })

-- z is -2147483648 or 2147483647, an end of i32
unfoldable pub is_end : ℤ → Bool
is_end (pos n) = eqb n (2 ^ 31 - 1)
is_end (negsuc n) = eqb (suc n) (2 ^ 31)

-- one of the coordinates is an end of i32
abbrev pub has_end : ℤ → ℤ → ℤ → Bool
has_end x y z = is_end x || is_end y || is_end z

-- a lattice point stays; mixed parities with an end of i32 are refused with 9; all others go to the nearest candidate
unfoldable pub snapped : ℤ → ℤ → ℤ → Result (WideCells × WideCells × WideCells) Refusal
snapped x y z =
    cond (on_lattice x y z) (placed (x, y, z))
    (cond (has_end x y z) (Err OutOfRange) (placed (nearest_candidate x y z)))

-- document 01's number of the answer, 0 for no refusal
abbrev pub snapped_number : Result (WideCells × WideCells × WideCells) Refusal → ℕ
snapped_number (Ok (x, y, z)) = 0
snapped_number (Err r) = number_of r

-- the answer's place, at the origin where it is refused
abbrev pub snapped_place : Result (WideCells × WideCells × WideCells) Refusal → Point
snapped_place (Ok (x, y, z)) = (x.0, y.0, z.0)
snapped_place (Err r) = (pos 0, pos 0, pos 0)
