-- Three lists written together with the columns of a list of threes, in parts: what is left to put says what the whole says.
-- Assumes nothing.
use Prim.Native.Nat.{ℕ, ◌+◌, ◌≤◌}
use native.Mathlib.Omega.{arith}
use mathlib.Core.Path.{◌≡◌, ap}
use mathlib.Core.List.{List, [], ◌∷◌}
use lib.ListN.{length, set}
use lib.Seq.{sets}
use Rattle.lists.specs.Threes.{Three, three, column0, column1, column2}
use Rattle.lists.proofs.Parts.{Written, written_begun, written_one, written_on, written_ended, written_full}

-- `whole`, put into three lists from `at` on, is what they hold now with `rest` put from `end` on
pub record Putting (whole : List (Three ℕ)) (at : ℕ) (x y z : List ℕ) (rest : List (Three ℕ)) (end : ℕ) (x' y' z' : List ℕ) : Type 0 where
  pub ones : Written (column0 whole) at x (column0 rest) end x'
  pub twos : Written (column1 whole) at y (column1 rest) end y'
  pub threes : Written (column2 whole) at z (column2 rest) end z'

-- all of it is put, as far as there is room
abbrev pub Put : List (Three ℕ) → ℕ → List ℕ → List ℕ → List ℕ → List ℕ → List ℕ → List ℕ → Type 0
Put whole at x y z x' y' z' = (x' ≡ sets x at (column0 whole)) × ((y' ≡ sets y at (column1 whole)) × (z' ≡ sets z at (column2 whole)))

module _ (whole : List (Three ℕ)) (at : ℕ) (x y z : List ℕ) where
  pub begun : Putting whole at x y z whole at x y z
  begun = record { ones = written_begun _ _ _; twos = written_begun _ _ _; threes = written_begun _ _ _ }

  module _ (rest : List (Three ℕ)) (end : ℕ) (x' y' z' : List ℕ) where
    -- the same that is left, written otherwise, and then put in part
    pub onward : (mid : List (Three ℕ))
        → rest ≡ mid
        → Putting whole at x y z rest end x' y' z'
        → (rest' : List (Three ℕ)) (end' : ℕ) (x'' y'' z'' : List ℕ)
        → Putting mid end x' y' z' rest' end' x'' y'' z''
        → Putting whole at x y z rest' end' x'' y'' z''
    onward mid e w rest' end' x'' y'' z'' v =
        record {
          ones = written_on (column0 whole) at x (column0 rest) end x' (column0 mid) (ap column0 e) w.ones (column0 rest') end' x'' v.ones;
          twos = written_on (column1 whole) at y (column1 rest) end y' (column1 mid) (ap column1 e) w.twos (column1 rest') end' y'' v.twos;
          threes = written_on (column2 whole) at z (column2 rest) end z' (column2 mid) (ap column2 e) w.threes (column2 rest') end' z'' v.threes;
        }

    -- one is put
    pub put_one : (a b c : ℕ)
        → Putting whole at x y z (three a b c ∷ rest) end x' y' z'
        → Putting whole at x y z rest (end + 1) (set x' end a) (set y' end b) (set z' end c)
    put_one a b c w =
        record {
          ones = written_one (column0 whole) at x (column0 rest) end x' a w.ones;
          twos = written_one (column1 whole) at y (column1 rest) end y' b w.twos;
          threes = written_one (column2 whole) at z (column2 rest) end z' c w.threes;
        }

    module _ (w : Putting whole at x y z rest end x' y' z') where
      -- nothing is left
      pub ended : rest ≡ [] → Put whole at x y z x' y' z'
      ended e = (
        written_ended (column0 whole) at x (column0 rest) end x' (ap column0 e) w.ones,
        (
          written_ended (column1 whole) at y (column1 rest) end y' (ap column1 e) w.twos,
          written_ended (column2 whole) at z (column2 rest) end z' (ap column2 e) w.threes,
        ),
      )

      -- the lists are full
      pub ran_out : length x' ≤ end → length y ≡ length x → length z ≡ length x → Put whole at x y z x' y' z'
      ran_out h p q =
          let a = w.ones.long in
          let b = w.twos.long in
          let c = w.threes.long in (
            written_full (column0 whole) at x (column0 rest) end x' h w.ones,
            (
              written_full (column1 whole) at y (column1 rest) end y' (omega arith) w.twos,
              written_full (column2 whole) at z (column2 rest) end z' (omega arith) w.threes,
            ),
          )
