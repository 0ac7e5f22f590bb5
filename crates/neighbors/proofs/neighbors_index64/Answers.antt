-- `neighbors::neighbors_index64` meets its contract: what is put is what the answer says.
-- Assumes nothing.
use mathlib.Core.Path.{◌≡◌, ◌∙◌, ap, sym}
use Rattle.neighbors.specs.Neighbors.{neighbours}
use Rattle.neighbors.proofs.NeighborLaws.{listing, cells_known, answered_length, answered_fits}
use Rattle.neighbors.proofs.neighbors_index64.Goals as goal

pub answer-listed-requires : goal.answer-listed-requires
answer-listed-requires c = ap (λ f. f.count) c.around-near.ensures

pub slice_bounds-put-end : goal.slice_bounds-put-end
slice_bounds-put-end c =
    let cells : c.cells.result.now ≡ neighbours c.args.index = cells_known _ c.around-near.ensures c.cells.ensures in
    rw (cells, c.count_of.ensures, c.answer-listed.ensures) (sym (answered_length _ _))

pub put-requires : goal.put-requires
put-requires c =
    let cells : c.cells.result.now ≡ neighbours c.args.index = cells_known _ c.around-near.ensures c.cells.ensures in
    rw (cells, c.count_of.ensures, c.answer-listed.ensures) (answered_fits _ _)

pub returns : goal.returns
returns c =
    let n = c.count_of.ensures in
    let a = c.answer-listed.ensures in
    let cells : c.cells.result.now ≡ neighbours c.args.index = cells_known _ c.around-near.ensures c.cells.ensures in
    record {
      value = a;
      out_after = c.put.ensures ∙ rw (n, a, cells) (listing _ _);
    }
