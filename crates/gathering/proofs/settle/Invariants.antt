-- `gathering::settle` meets its contract: each turn puts the last own row that stands behind what is left, in each column by one law.
-- Assumes nothing.
use Prim.Native.Nat.{ℕ}
use lib.Ieee.{Float}
use Rattle.gathering.proofs.Settling.{Settling}
use Rattle.gathering.proofs.settle.Given as goal

abbrev pub invariant-loop-i : goal.invariant-loop-i
invariant-loop-i l = Settling ℕ l.seats l.own_keys l.initial.keys l.count l.own l.rows l.i l.place l.keys
    × Settling Float l.seats l.own_distances l.initial.distances l.count l.own l.rows l.i l.place l.distances
    × Settling Float l.seats l.own_weights l.initial.weights l.count l.own l.rows l.i l.place l.weights
