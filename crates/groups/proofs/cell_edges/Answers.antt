-- `groups::cell_edges` meets its contract.
-- Assumes nothing.
use Prim.Native.Nat.{ℕ, ◌≤◌, ◌-◌}
use mathlib.Core.List.{List}
use mathlib.Core.Path.{◌≡◌}
use native.Mathlib.Omega.{arith}
use lib.ListN.{length, take, drop}
use Rattle.groups.specs.CellEdges.{cell_edges, cell_span}
use Rattle.groups.specs.declared.Span.{Span}
use Rattle.groups.proofs.CountingLaws.{cell_of}
use Rattle.groups.proofs.cell_edges.Goals as goal

-- what is known of the span
known : {s : Span} (gs fs ss : List ℕ) (count cell : ℕ)
    → s ≡ cell_span (length gs) fs ss count cell
    → (s.start ≤ s.end) × (s.end ≤ length gs) × (take (s.end - s.start) (drop s.start gs) ≡ cell_edges gs fs ss count cell)
known gs fs ss count cell e = rw e (cell_of gs fs ss count cell)

pub slice_bounds-result-start : goal.slice_bounds-result-start
slice_bounds-result-start c =
    let a = c.args in
    let k = known a.groups.now a.first.now a.second.now a.count a.cell c.cell_span-span.ensures in omega arith

pub slice_bounds-result-end : goal.slice_bounds-result-end
slice_bounds-result-end c =
    let a = c.args in
    let k = known a.groups.now a.first.now a.second.now a.count a.cell c.cell_span-span.ensures in omega arith

pub offset_bounds-groups-start : goal.offset_bounds-groups-start
offset_bounds-groups-start c =
    let a = c.args in
    let k = known a.groups.now a.first.now a.second.now a.count a.cell c.cell_span-span.ensures in omega arith

pub slice_bounds-result-count : goal.slice_bounds-result-count
slice_bounds-result-count c =
    let a = c.args in
    let k = known a.groups.now a.first.now a.second.now a.count a.cell c.cell_span-span.ensures in omega arith

pub returns : goal.returns
returns c =
    let a = c.args in
    (known a.groups.now a.first.now a.second.now a.count a.cell c.cell_span-span.ensures).2
