-- `gathering::seat_at` meets its contract: the key at its place tells whether the seat is over it.
-- Assumes nothing.
use Prim.Native.Nat.{ℕ, ◌≤◌}
use mathlib.Core.List.{List}
use mathlib.Core.Path.{◌≡◌}
use lib.ListN.{length, take}
use Rattle.search.specs.Keys.{place_of}
use native.Mathlib.Omega.{arith}
use Rattle.gathering.proofs.SeatLaws.{place_in, seat_end, seat_before, seat_over}
use Rattle.gathering.proofs.seat_at.Goals as goal

in_place : (k : ℕ) (ks : List ℕ) (count place : ℕ) → count ≤ length ks → length ks ≤ 65536 → place ≡ place_of k (take count ks) → place ≤ 65536
in_place k ks count place a b e = omega (arith, place_in k ks count place a e)

pub overflow_mul-before : goal.overflow_mul-before
overflow_mul-before c = omega (arith, in_place c.args.key c.args.keys.now c.args.count c.args.place c.requires.0 c.requires.1 c.requires.2)

pub overflow_add-before : goal.overflow_add-before
overflow_add-before c = omega (arith, in_place c.args.key c.args.keys.now c.args.count c.args.place c.requires.0 c.requires.1 c.requires.2)

pub overflow_cast-before : goal.overflow_cast-before
overflow_cast-before c = omega (arith, in_place c.args.key c.args.keys.now c.args.count c.args.place c.requires.0 c.requires.1 c.requires.2)

pub returns-then-count-place : goal.returns-then-count-place
returns-then-count-place c = seat_end c.args.key c.args.keys.now c.args.count c.args.place c.requires.0 c.requires.2 c.if-count-place.true

pub returns-then-keys-place : goal.returns-then-keys-place
returns-then-keys-place c =
    seat_before c.args.key c.args.keys.now c.args.count c.args.place c.requires.0 c.requires.2 c.if-count-place.false c.if-keys-place.true

pub returns : goal.returns
returns c = seat_over c.args.key c.args.keys.now c.args.count c.args.place c.requires.0 c.requires.2 c.if-count-place.false c.if-keys-place.false
