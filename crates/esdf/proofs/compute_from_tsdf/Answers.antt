-- `esdf::compute_from_tsdf` meets its contract: the lists are cleared, and what the march finished, tidied, is what it leaves.
-- Assumes nothing.
use mathlib.Core.Path.{◌∙◌}
use Rattle.lists.proofs.Bools.{and_eq}
use Rattle.esdf.proofs.Computing.{blank_if, march_left}
use Rattle.esdf.proofs.compute_from_tsdf.Goals as goal

pub march_checked-answer-requires : goal.march_checked-answer-requires
march_checked-answer-requires c =
    let a = c.args in
    let r = a.rows.now in
    let e = c.clear.ensures in
    blank_if a.settings r.keys.now r.distances.now r.weights.now r.count a.threshold
    a.marched_keys.now a.waiting_keys.now a.marched_distances.now a.waiting_estimates.now _ _ _ _
    (and_eq c.pair_ok.ensures c.pair_ok-2.ensures) e.keys_after e.distances_after e.estimates_after e.cells_after

pub returns : goal.returns
returns c =
    let a = c.args in
    let r = a.rows.now in
    let l = c.clear.new in
    let k = c.clear.auto in
    let m = c.march_checked-answer.auto in
    let t = c.tidy.ensures in
    march_left a.settings r.keys.now r.distances.now r.weights.now r.count a.threshold
    a.marched_keys.now a.waiting_keys.now a.marched_distances.now a.waiting_estimates.now l.keys l.cells
    (and_eq c.pair_ok.ensures c.pair_ok-2.ensures) k.keys k.cells _ _ _ _
    (m.keys ∙ k.keys) (m.distances ∙ k.distances) (m.estimates ∙ k.estimates)
    (m.cells ∙ k.cells) _
    c.march_checked-answer.ensures _ _ _ _ t.keys_after t.distances_after t.estimates_after t.cells_after
