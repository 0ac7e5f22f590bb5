-- `slopes::vertex_at` meets its contract, by what the lookups give.
-- Assumes nothing.
use mathlib.Core.Path.{◌∙◌}
use lib.Ieee.{of_bits}
use Rattle.slopes.proofs.Working.{vertex_looked}
use Rattle.slopes.proofs.vertex_at.Goals as goal

pub returns : goal.returns
unfolding of_bits
returns c =
    c.vertex_of.ensures ∙ vertex_looked _ _ _ _ c.unwrap_or-d1.ensures c.unwrap_or-d2.ensures c.distance_of.ensures c.distance_of-2.ensures
