-- `lists::insert` meets its contract: each turn moves one place up, from the last down.
-- Assumes nothing.
use Rattle.std.proofs.Common.{◌≡◌, ◌-◌, ◌+◌, ◌<◌, ◌≤◌, refl, sym, ◌∙◌, arith, get_or, length}
use Rattle.std.proofs.lemmas.List.{get_or_read_under}
use lib.ListN.{length-set}
use Rattle.lists.proofs.Shifting.{none_moved, turn, put_in}
use Rattle.lists.proofs.insert.Goals as goal

pub loop-i-init : goal.loop-i-init
loop-i-init g c = (omega arith, omega arith, sym (none_moved c.args.value _ _ c.if-count-list.true), refl)

pub loop-i-preserved : goal.loop-i-preserved
loop-i-preserved g c =
    let l = c.loop-i in
    let up : l.i - 1 + 1 ≡ l.i = omega arith in
    let low : c.args.place < l.i = omega arith in
    let high : l.i ≤ c.args.count = l.invariant.1 in
    let is : c.index-list-i.result ≡ get_or l.list (l.i - 1) c.args.value = get_or_read_under l.list (l.i - 1) (length l.list) _ _ c.index-list-i.is (omega arith) refl in (
      omega arith,
      omega arith,
      rw (up, is) (turn c.args.value c.args.list.now l.list c.args.count l.i c.args.place low high c.if-count-list.true l.invariant.2),
      length-set _ _ _ ∙ l.invariant.3,
    )

pub returns-after-loop-i : goal.returns-after-loop-i
returns-after-loop-i g c =
    let l = c.loop-i in
    put_in c.args.value c.args.list.now l.list c.args.count l.i c.args.place c.args.value l.invariant.0 (omega arith) l.invariant.1 c.if-count-list.true l.invariant.2
