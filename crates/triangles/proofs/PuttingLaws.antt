-- Three nested loops that put every three of a group: what is left to put says what the whole says.
-- Assumes nothing.
use Prim.Native.Nat.{ℕ, suc, ◌+◌, ◌≤◌, ◌<◌}
use native.Mathlib.Numerals.{add-one}
use mathlib.Core.Path.{◌≡◌}
use mathlib.Core.List.{List, [], ◌∷◌, ◌++◌, append_assoc}
use lib.ListN.{length, get_or, drop, set, drop_of_length-le}
use lib.Seq.{drop-cons}
use Rattle.lists.specs.Threes.{Three, three, with_third, with_two, threes}
use Rattle.lists.proofs.Putting.{Putting, Put, onward, put_one, ended, ran_out}

-- ---- what is left

module _ (g : List ℕ) where
  -- in the outer, the middle and the inner loop
  abbrev pub outer : ℕ → List (Three ℕ)
  outer i = threes (drop i g)

  abbrev pub middle : ℕ → ℕ → List (Three ℕ)
  middle i j = with_two (get_or g i 0) (drop j g) ++ outer (i + 1)

  abbrev pub inner : ℕ → ℕ → ℕ → List (Three ℕ)
  inner i j k = with_third (get_or g i 0) (get_or g j 0) (drop k g) ++ middle i (j + 1)

  pub to_middle : (i : ℕ) → i < length g → outer i ≡ middle i (i + 1)
  unfolding threes
  to_middle i h = rw (drop-cons g i 0 h, add-one)

  pub to_inner : (i j : ℕ) → j < length g → middle i j ≡ inner i j (j + 1)
  unfolding with_two
  to_inner i j h =
      rw (drop-cons g j 0 h, add-one j)
      (append_assoc (with_third (get_or g i 0) (get_or g j 0) (drop (suc j) g)) (with_two (get_or g i 0) (drop (suc j) g))
      (outer (i + 1)))

  pub inner_next : (i j k : ℕ) → k < length g → inner i j k ≡ three (get_or g i 0) (get_or g j 0) (get_or g k 0) ∷ inner i j (k + 1)
  unfolding with_third
  inner_next i j k h = rw (drop-cons g k 0 h, add-one k)

  pub inner_left : (i j k : ℕ) → length g ≤ k → inner i j k ≡ middle i (j + 1)
  unfolding with_third
  inner_left i j k h = rw (drop_of_length-le g {i = k} h)

  pub middle_left : (i j : ℕ) → length g ≤ j → middle i j ≡ outer (i + 1)
  unfolding with_two
  middle_left i j h = rw (drop_of_length-le g {i = j} h)

  pub outer_left : (i : ℕ) → length g ≤ i → outer i ≡ []
  unfolding threes
  outer_left i h = rw (drop_of_length-le g {i = i} h)

-- ---- turns of the loops

module _ (g : List ℕ) (whole : List (Three ℕ)) (at : ℕ) (x y z : List ℕ) (i : ℕ) (end : ℕ) (x' y' z' : List ℕ) where
  pub turn_inner : (j k : ℕ)
      → k < length g
      → Putting whole at x y z (inner g i j k) end x' y' z'
      → Putting whole at x y z (inner g i j (k + 1)) (end + 1) (set x' end (get_or g i 0)) (set y' end (get_or g j 0))
      (set z' end (get_or g k 0))
  turn_inner j k h w = put_one whole at x y z (inner g i j (k + 1)) end x' y' z' (get_or g i 0) (get_or g j 0) (get_or g k 0) (rw (inner_next g i j k h) at w)

  -- into an inner loop, and out of it again
  module _ (end' : ℕ) (x'' y'' z'' : List ℕ) where
    pub in_middle : (j : ℕ)
        → j < length g
        → Putting whole at x y z (middle g i j) end x' y' z'
        → (k : ℕ)
        → Putting (inner g i j (j + 1)) end x' y' z' (inner g i j k) end' x'' y'' z''
        → Putting whole at x y z (inner g i j k) end' x'' y'' z''
    in_middle j h w k v = onward whole at x y z (middle g i j) end x' y' z' (inner g i j (j + 1)) (to_inner g i j h) w (inner g i j k) end' x'' y'' z'' v

    pub turn_middle : (j : ℕ)
        → j < length g
        → Putting whole at x y z (middle g i j) end x' y' z'
        → (k : ℕ)
        → length g ≤ k
        → Putting (inner g i j (j + 1)) end x' y' z' (inner g i j k) end' x'' y'' z''
        → Putting whole at x y z (middle g i (j + 1)) end' x'' y'' z''
    turn_middle j h w k l v = rw (inner_left g i j k l) at (in_middle j h w k v)

    pub in_outer : i < length g
        → Putting whole at x y z (outer g i) end x' y' z'
        → (rest : List (Three ℕ))
        → Putting (middle g i (i + 1)) end x' y' z' rest end' x'' y'' z''
        → Putting whole at x y z rest end' x'' y'' z''
    in_outer h w rest v = onward whole at x y z (outer g i) end x' y' z' (middle g i (i + 1)) (to_middle g i h) w rest end' x'' y'' z'' v

    pub turn_outer : i < length g
        → Putting whole at x y z (outer g i) end x' y' z'
        → (j : ℕ)
        → length g ≤ j
        → Putting (middle g i (i + 1)) end x' y' z' (middle g i j) end' x'' y'' z''
        → Putting whole at x y z (outer g (i + 1)) end' x'' y'' z''
    turn_outer h w j l v = rw (middle_left g i j l) at (in_outer h w (middle g i j) v)

-- ---- after the loops: all are put, or the lists are full

module _ (g : List ℕ) (at : ℕ) (x y z : List ℕ) (i end : ℕ) (x' y' z' : List ℕ) (w : Putting (outer g 0) at x y z (outer g i) end x' y' z') where
  pub all_put : length g ≤ i → Put (outer g 0) at x y z x' y' z'
  all_put h = ended (outer g 0) at x y z (outer g i) end x' y' z' w (outer_left g i h)

  -- left from the innermost loop
  pub full : i < length g → length y ≡ length x → length z ≡ length x →
      (j e₂ : ℕ) (x₂ y₂ z₂ : List ℕ) → Putting (middle g i (i + 1)) end x' y' z' (middle g i j) e₂ x₂ y₂ z₂ → j < length g →
      (k e₃ : ℕ) (x₃ y₃ z₃ : List ℕ) → Putting (inner g i j (j + 1)) e₂ x₂ y₂ z₂ (inner g i j k) e₃ x₃ y₃ z₃ → length x₃ ≤ e₃ →
      Putting (outer g 0) at x y z (inner g i j k) e₃ x₃ y₃ z₃ × Put (outer g 0) at x y z x₃ y₃ z₃
  full hi p q j e₂ x₂ y₂ z₂ v hj k e₃ x₃ y₃ z₃ u h =
      let here = in_middle g (middle g i (i + 1)) end x' y' z' i e₂ x₂ y₂ z₂ e₃ x₃ y₃ z₃ j hj v k u in
      let all = in_outer g (outer g 0) at x y z i end x' y' z' e₃ x₃ y₃ z₃ hi w (inner g i j k) here in
      (all, ran_out (outer g 0) at x y z (inner g i j k) e₃ x₃ y₃ z₃ all h p q)
