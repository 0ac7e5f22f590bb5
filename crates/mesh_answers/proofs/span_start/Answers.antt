-- Each branch is one of the definition's. Assumes nothing.
use borrow.Author.Tests.{lt-ltb, le-ltb}
use Rattle.mesh_answers.proofs.span_start.Goals as goal

pub returns-then-span : goal.returns-then-span
returns-then-span c =
    let s = c.args.span in
    rw (lt-ltb s.start s.end c.if-span.true)

pub returns-else-span : goal.returns-else-span
returns-else-span c =
    let s = c.args.span in
    rw (le-ltb s.start s.end c.if-span.false)
