-- `neighbors::answer` meets its contract.
-- Assumes nothing.
use Rattle.std.proofs.Common.{ap, not}
use mathlib.Core.Path.{sym, ◌∙◌}
use borrow.Author.Tests.{not-true, not-false, lt-ltb, le-ltb}
use Rattle.neighbors.specs.Neighbors.{listed_of}
use Rattle.neighbors.proofs.answer.Goals as goal

pub returns-then-room-gt-LONGEST_LIST : goal.returns-then-room-gt-LONGEST_LIST
unfolding listed_of
returns-then-room-gt-LONGEST_LIST c = rw (lt-ltb _ _ c.if-room-gt-LONGEST_LIST.true)

pub returns-then-not-is_on_lattice : goal.returns-then-not-is_on_lattice
unfolding listed_of
returns-then-not-is_on_lattice c =
    let off = sym c.is_on_lattice.ensures ∙ not-true _ (ap not c.if-not-is_on_lattice.true) in
    rw (le-ltb _ _ c.if-room-gt-LONGEST_LIST.false, off)

pub returns : goal.returns
unfolding listed_of
returns c =
    let on = sym c.is_on_lattice.ensures ∙ not-false _ (ap not c.if-not-is_on_lattice.false) in
    rw (le-ltb _ _ c.if-room-gt-LONGEST_LIST.false, on, ← c.requires) c.room_for.ensures
