-- `fronts::sow` meets its contract: a row is stored, then its neighbours wait.
-- Assumes nothing.
use Rattle.hearing.specs.Hearing.{seeds_of}
use Rattle.std.proofs.lemmas.Result.{err_from_is_err_and}
use Rattle.marching.proofs.Numbers.{seed_number}
use Rattle.fronts.proofs.Stepping.{sow_no_row, sow_no_cell, sow_done}
use Rattle.fronts.proofs.sow.Goals as goal

pub wait_around-requires-clause-key_value : goal.wait_around-requires-clause-key_value
wait_around-requires-clause-key_value c = (c.requires.key_value.0, rw c.size-estimate.ensures (seed_number c.args.distance c.requires.key_value.1))

pub returns-in_err-rows : goal.returns-in_err-rows
returns-in_err-rows c =
    let a = c.args in
    let r = c.store in
    let p = err_from_is_err_and c.from_residual.result c.from_residual.ensures.1 in
    λ s h o told room.
    rw (p.1, p.2)
    (sow_no_row
    a.plan.now.course a.lean (seeds_of a.plan.now)
    a.key a.count a.keys.now a.distances.now a.waiting a.estimates.now a.cells.now s h o told room a.distance c.requires.key_value.1
    r.result r.new.keys r.new.distances r.auto.keys r.ensures _ c.in_err-rows.was)

pub returns-in_err-held : goal.returns-in_err-held
returns-in_err-held c =
    let a = c.args in
    let r = c.store in
    let d = c.wait_around in
    let p = err_from_is_err_and c.from_residual-in_err-held.result c.from_residual-in_err-held.ensures.1 in
    λ s h o told room.
    rw (p.1, p.2)
    (sow_no_cell
    a.plan.now.course a.lean (seeds_of a.plan.now)
    a.key a.count a.keys.now a.distances.now a.waiting a.estimates.now a.cells.now s h o told room a.distance c.requires.key_value.1
    r.result r.new.keys r.new.distances r.auto.keys r.ensures _ c.in_ok-rows.was c.size-estimate.result c.size-estimate.ensures d.result
    d.new.keys d.new.distances
    d.new.estimates d.new.cells d.ensures _ c.in_err-held.was)

pub returns : goal.returns
returns c =
    let a = c.args in
    let r = c.store in
    let d = c.wait_around in
    λ s h o told room.
    sow_done
    a.plan.now.course a.lean (seeds_of a.plan.now)
    a.key a.count a.keys.now a.distances.now a.waiting a.estimates.now a.cells.now s h o told room a.distance c.requires.key_value.1
    r.result r.new.keys r.new.distances r.auto.keys r.ensures _ c.in_ok-rows.was c.size-estimate.result c.size-estimate.ensures d.result
    d.new.keys d.new.distances
    d.new.estimates d.new.cells d.ensures _ c.in_ok-held.was
