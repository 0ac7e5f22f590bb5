-- `ids::key_of` meets its contract.
-- Assumes nothing.
use native.Mathlib.Omega.{arith}
use Rattle.ids.proofs.KeyLaws.{off_xy, off_yz, on_xyz}
use Rattle.ids.proofs.MortonLaws.{morton_small}
use Rattle.ids.proofs.key_of.Goals as goal

pub returns-then-x-y : goal.returns-then-x-y
returns-then-x-y c = let a = c.args in rw (off_xy a.x a.y a.z c.if-x-y.true)

pub returns-then-y-z : goal.returns-then-y-z
returns-then-y-z c = let a = c.args in rw (off_yz a.x a.y a.z c.if-x-y.false c.if-y-z.true)

pub overflow_add-key : goal.overflow_add-key
overflow_add-key c = let a = c.args in omega (arith, c.morton_encode.ensures, morton_small 16 a.x a.y a.z)

pub returns : goal.returns
returns c =
    let a = c.args in
    rw (on_xyz a.x a.y a.z c.if-x-y.false c.if-y-z.false, c.morton_encode.ensures)
