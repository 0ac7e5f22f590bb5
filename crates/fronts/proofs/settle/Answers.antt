-- `fronts::settle` meets its contract: a cell gets its distance and is stored, then its neighbours wait.
-- Assumes nothing.
use Rattle.hearing.specs.Hearing.{seeds_of}
use Rattle.std.proofs.lemmas.Result.{err_from_is_err_and}
use Rattle.fronts.specs.Fronts.{marking_also}
use Rattle.fronts.proofs.Stepping.{settle_no_row, settle_no_cell, settle_done}
use Rattle.fronts.proofs.settle.Goals as goal

pub returns-in_err-rows : goal.returns-in_err-rows
returns-in_err-rows c =
    let a = c.args in
    let x = c.settled-distance in
    let r = c.store in
    let p = err_from_is_err_and c.from_residual.result c.from_residual.ensures.1 in
    λ s h told room.
    rw (p.1, p.2)
    (settle_no_row
    a.plan.now.course c.requires.key_value.1 a.lean
    (seeds_of a.plan.now)
    a.key a.count a.keys.now a.distances.now a.waiting a.estimates.now a.cells.now s h told room x.result
    (x.ensures s.stored (marking_also a.lean a.key s.waiting) h.marked) r.result r.new.keys r.new.distances r.auto.keys
    r.ensures _ c.in_err-rows.was)

pub returns-in_err-held : goal.returns-in_err-held
returns-in_err-held c =
    let a = c.args in
    let x = c.settled-distance in
    let r = c.store in
    let d = c.spread in
    let p = err_from_is_err_and c.from_residual-in_err-held.result c.from_residual-in_err-held.ensures.1 in
    λ s h told room.
    rw (p.1, p.2)
    (settle_no_cell
    a.plan.now.course c.requires.key_value.1 a.lean
    (seeds_of a.plan.now)
    a.key a.count a.keys.now a.distances.now a.waiting a.estimates.now a.cells.now s h told room x.result
    (x.ensures s.stored (marking_also a.lean a.key s.waiting) h.marked) r.result r.new.keys r.new.distances r.auto.keys
    r.ensures _ c.in_ok-rows.was d.result
    d.new.keys d.new.distances
    d.new.estimates d.new.cells d.ensures _ c.in_err-held.was)

pub returns : goal.returns
returns c =
    let a = c.args in
    let x = c.settled-distance in
    let r = c.store in
    let d = c.spread in
    λ s h told room.
    settle_done
    a.plan.now.course c.requires.key_value.1 a.lean
    (seeds_of a.plan.now)
    a.key a.count a.keys.now a.distances.now a.waiting a.estimates.now a.cells.now s h told room x.result
    (x.ensures s.stored (marking_also a.lean a.key s.waiting) h.marked) r.result r.new.keys r.new.distances r.auto.keys
    r.ensures _ c.in_ok-rows.was d.result
    d.new.keys d.new.distances
    d.new.estimates d.new.cells d.ensures _ c.in_ok-held.was
