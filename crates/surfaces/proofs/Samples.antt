-- The empty mesh, computed on the definitions: its area is +0, it has no box and no normals.
-- Assumes nothing.
use Rattle.std.specs.Prelude.{Ok, None}
use mathlib.Core.Path.{◌≡◌, refl}
use mathlib.Core.Bool.{false}
use mathlib.Core.List.{[]}
use Rattle.lists.specs.Beside.{beside_by}
use Rattle.floats.specs.Floats.{zero32}
use Rattle.corners.specs.Corners.{every}
use Rattle.surfaces.specs.Areas.{area_from, area_answer}
use Rattle.surfaces.specs.Boxes.{box_of, box_answer}
use Rattle.surfaces.specs.Stats.{stats_answer}

pub samples : (area_answer [] [] [] 0 [] [] [] 0 ≡ Ok zero32) × (box_answer [] [] [] 0 ≡ (Ok None)) × (stats_answer [] [] [] 0 ≡ Ok false)
unfolding area_answer box_answer stats_answer area_from box_of every beside_by
samples = (refl, refl, refl)
