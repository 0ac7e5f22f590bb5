-- `triangles::threes_of` meets its contract: each entry of its table passes a test.
-- Assumes nothing.
use Prim.Native.Nat.{ℕ}
use mathlib.Core.Bool.{Bool}
use mathlib.Core.List.{List, [], ◌∷◌}
use lib.Dec.{eqb, leb, eqb→eq, leb→le}
use lib.ListN.{get_or}
use Rattle.lists.proofs.Table.{at}
use Rattle.lists.specs.Threes.{twos_of, threes_of}
use borrow.Author.Rules.{rules}
use Rattle.triangles.proofs.threes_of.Goals as goal

table : List ℕ
table = 0 ∷ 0 ∷ 0 ∷ 1 ∷ 4 ∷ 10 ∷ 20 ∷ 35 ∷ 56 ∷ 84 ∷ 120 ∷ 165 ∷ 220 ∷ 286 ∷ 364 ∷ []

right : ℕ → ℕ → Bool
unfolding threes_of
right n x = eqb x (threes_of n)

small : ℕ → ℕ → Bool
small n x = leb x 364

pub returns : goal.returns
unfolding table right small threes_of twos_of
returns c =
    let n = c.args.n in
    record {
      value = eqb→eq (get_or table n 0) (threes_of n) (at right table tt n (search rules));
      upper_bound = leb→le (get_or table n 0) 364 (at small table tt n (search rules));
    }
