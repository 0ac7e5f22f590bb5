-- Lists of places, for every element type.
use Rattle.std.specs.Prelude.{ℕ, suc, ◌-◌, cond, ◌&&◌, List, ◌∷◌, ◌++◌, length, take, drop, replicate, leb, ltb, Float}
use Rattle.std.specs.Float.Ieee.{of_bits}
use Rattle.std.specs.Float.{binary32}

-- +0
abbrev pub zero_f : Float
zero_f = of_bits binary32 0

module _ {A : Type 0} where
  -- every place v
  abbrev pub filled : A → List A → List A
  filled v l = replicate (length l) v

  -- the first n places as they were, the others v
  abbrev pub cleared_from : A → ℕ → List A → List A
  cleared_from v n l = take n l ++ replicate (length l - n) v

  -- v at place p, what stood from p up to place n moved one place up, the rest as it was
  abbrev pub opened : List A → ℕ → ℕ → A → List A
  opened l n p v = take p l ++ v ∷ (drop p (take n l) ++ drop (suc n) l)

  -- the first n places with v put in at p; nothing changes where p is past n or place n does not exist
  abbrev pub inserted : List A → ℕ → ℕ → A → List A
  inserted l n p v = cond (leb p n && ltb n (length l)) (opened l n p v) l

  -- the first of n places gone, those after it moved one place down, and v where the last stood; nothing changes where there is none
  abbrev pub first_dropped : A → List A → ℕ → List A
  first_dropped v l n = cond (ltb 0 n && leb n (length l)) (drop 1 (take n l) ++ v ∷ drop n l) l
