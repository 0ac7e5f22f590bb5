-- `root::root` meets its contract: its one test is the definition's. Assumes nothing.
use Rattle.root.specs.Root.{root_answer}
use Rattle.root.proofs.root.Goals as goal

pub root_taken-requires : goal.root_taken-requires
root_taken-requires c = c.if-x.true

pub returns-then-x : goal.returns-then-x
unfolding root_answer
returns-then-x c = simp (c.if-x.true, c.root_taken.ensures)

pub returns-else-x : goal.returns-else-x
unfolding root_answer
returns-else-x c = simp c.if-x.false
