-- `tsdf_questions::row_of` meets its contract: a found place is a place of every list.
-- Assumes nothing.
use Rattle.std.specs.Prelude.{Some, Option}
use Rattle.std.proofs.Common.{ap, not}
use mathlib.Core.Path.{◌≡◌, ◌∙◌, sym}
use Prim.Native.Nat.{ℕ, ◌<◌, ◌≤◌}
use mathlib.Core.List.{List}
use mathlib.Core.Bool.{true}
use native.Mathlib.Omega.{arith}
use lib.ListN.{length, take}
use lib.Seq.{length-take-le}
use Rattle.lists.proofs.Bools.{yes, no}
use Rattle.search.specs.Keys.{find, find_by, ascending}
use Rattle.search.proofs.KeyLaws.{find_by-find, found}
use Rattle.tsdf_questions.specs.Lookups.{row_at, row_if, row_of}
use Rattle.tsdf_questions.proofs.row_of.Goals as goal

-- what the search told, where it found the key
told : (k n : ℕ) (ks : List ℕ) {f : Option ℕ} {i : ℕ} → ascending (take n ks) ≡ true → f ≡ find_by k (take n ks) → f ≡ Some i → find k (take n ks) ≡ Some i
told k n ks a e w = sym (find_by-find _ _ a) ∙ sym e ∙ w

inside : (k n : ℕ) (ks : List ℕ) {i : ℕ} → n ≤ length ks → find k (take n ks) ≡ Some i → i < length ks
inside k n ks h t = omega (arith, (found _ _ _ t).0, length-take-le n ks h, h)

pub returns-then-not-is_on_lattice : goal.returns-then-not-is_on_lattice
unfolding row_of row_if
returns-then-not-is_on_lattice c = rw (no c.is_on_lattice.ensures (ap not c.if-not-is_on_lattice.true))

pub returns-in_default : goal.returns-in_default
unfolding row_of row_if row_at
returns-in_default c =
    rw (
      yes c.is_on_lattice.ensures (ap not c.if-not-is_on_lattice.false),
      sym (find_by-find _ _ c.requires.ascends) ∙ sym c.find_row.ensures ∙ c.in_default.is,
    )

pub offset_bounds-distances-i : goal.offset_bounds-distances-i
offset_bounds-distances-i c =
    let at = told c.args.key c.args.rows.now.count c.args.rows.now.keys.now c.requires.ascends c.find_row.ensures c.in-Some.is in
    omega (arith, inside c.args.key c.args.rows.now.count c.args.rows.now.keys.now c.requires.fits at)

pub bounds-distances-i : goal.bounds-distances-i
bounds-distances-i c =
    let at = told c.args.key c.args.rows.now.count c.args.rows.now.keys.now c.requires.ascends c.find_row.ensures c.in-Some.is in
    omega (arith, inside c.args.key c.args.rows.now.count c.args.rows.now.keys.now c.requires.fits at, c.requires.distances)

pub offset_bounds-weights-i : goal.offset_bounds-weights-i
offset_bounds-weights-i c =
    let at = told c.args.key c.args.rows.now.count c.args.rows.now.keys.now c.requires.ascends c.find_row.ensures c.in-Some.is in
    omega (arith, inside c.args.key c.args.rows.now.count c.args.rows.now.keys.now c.requires.fits at)

pub bounds-weights-i : goal.bounds-weights-i
bounds-weights-i c =
    let at = told c.args.key c.args.rows.now.count c.args.rows.now.keys.now c.requires.ascends c.find_row.ensures c.in-Some.is in
    omega (arith, inside c.args.key c.args.rows.now.count c.args.rows.now.keys.now c.requires.fits at, c.requires.weights)

pub returns : goal.returns
unfolding row_of row_if row_at
returns c =
    rw (yes c.is_on_lattice.ensures (ap not c.if-not-is_on_lattice.false), told c.args.key c.args.rows.now.count c.args.rows.now.keys.now c.requires.ascends c.find_row.ensures c.in-Some.is)
