-- `fronts::store` meets its contract: the mark becomes the distance.
-- Assumes nothing.
use mathlib.Core.Path.{sym, ◌∙◌}
use native.Mathlib.Omega.{arith}
use Rattle.hearing.proofs.Saying.{place_in}
use Rattle.fronts.proofs.Marking.{store_full, store_at, store_put, entered_by}
use Rattle.fronts.proofs.store.Goals as goal

pub returns-then-keys-count : goal.returns-then-keys-count
returns-then-keys-count c =
    let a = c.args in
    let p = c.requires in
    λ s ws vs h same room f n o. store_full a.key p.1 a.distance f s ws vs a.count a.keys.now a.distances.now h same n o c.if-keys-count.true

pub offset_bounds-distances-place : goal.offset_bounds-distances-place
offset_bounds-distances-place c = omega (arith, place_in _ _ _ (sym c.find.ensures ∙ c.in-Ok.is), c.requires.0)

pub bounds-distances-place : goal.bounds-distances-place
bounds-distances-place c = omega (arith, place_in _ _ _ (sym c.find.ensures ∙ c.in-Ok.is), c.requires.0)

pub returns-in-Ok : goal.returns-in-Ok
returns-in-Ok c =
    let a = c.args in
    let p = c.requires in
    λ s ws vs h same room f n o.
    store_at a.key p.1 a.distance f s ws vs a.count a.keys.now a.distances.now h same n o c.if-keys-count.false _
    (sym c.find.ensures ∙ c.in-Ok.is)

pub returns-in-Err : goal.returns-in-Err
returns-in-Err c =
    let a = c.args in
    let p = c.requires in
    let l = c.if-keys-count.false in
    λ s ws vs h same room f n o.
    store_put a.key p.1 a.distance f s ws vs a.count a.keys.now a.distances.now h same n o l _ _
    (entered_by s.stored ws _ _ _ _ _ _ _ c.enter.ensures h (room (omega (arith, l, n)))
    (sym c.find.ensures ∙ c.in-Err.is))
