-- `groups::cell_span` meets its contract.
-- Assumes nothing.
use Rattle.std.proofs.Common.{not}
use mathlib.Core.Path.{ap, ◌∙◌}
use native.Mathlib.Omega.{arith}
use Rattle.lists.proofs.Bools.{yes, no}
use Rattle.groups.specs.CellEdges.{span_in, cell_span}
use Rattle.groups.specs.declared.Ends.{Ends}
use Rattle.groups.proofs.CountingLaws.{lists_known, ends_few}
use Rattle.groups.proofs.cell_span.Goals as goal

pub returns-then-not-edge_lists_ok : goal.returns-then-not-edge_lists_ok
unfolding cell_span
returns-then-not-edge_lists_ok c = rw (no c.edge_lists_ok.ensures (ap not c.if-not-edge_lists_ok.true))

pub returns-then-not-is_on_lattice : goal.returns-then-not-is_on_lattice
unfolding cell_span
returns-then-not-is_on_lattice c =
    rw (
      yes c.edge_lists_ok.ensures (ap not c.if-not-edge_lists_ok.false),
      no c.is_on_lattice.ensures (ap not c.if-not-is_on_lattice.true),
    )

pub count_ends-ends-requires : goal.count_ends-ends-requires
count_ends-ends-requires c =
    let a = c.args in
    lists_known a.groups a.first.now a.second.now a.count (yes c.edge_lists_ok.ensures (ap not c.if-not-edge_lists_ok.false))

pub span_in-requires : goal.span_in-requires
span_in-requires c =
    let a = c.args in
    let k = lists_known a.groups a.first.now a.second.now a.count (yes c.edge_lists_ok.ensures (ap not c.if-not-edge_lists_ok.false)) in
    rw c.count_ends-ends.ensures (ends_few a.first.now a.second.now a.count a.cell (omega (arith, k.fits, k.few)))

pub returns : goal.returns
unfolding cell_span
returns c =
    rw (yes c.edge_lists_ok.ensures (ap not c.if-not-edge_lists_ok.false), yes c.is_on_lattice.ensures (ap not c.if-not-is_on_lattice.false))
    (c.span_in.ensures
    ∙ ap (λ (x : Ends). span_in x.below x.here c.args.groups)
    c.count_ends-ends.ensures)
