-- `ids::morton_encode` meets its contract: a Morton number is its spread coordinates.
-- Assumes nothing.
use native.Mathlib.Omega.{arith}
use Rattle.ids.proofs.MortonLaws.{morton_spread}
use Rattle.ids.proofs.morton_encode.Goals as goal

pub returns : goal.returns
returns c = let a = c.args in omega (arith, morton_spread 16 a.x a.y a.z)
