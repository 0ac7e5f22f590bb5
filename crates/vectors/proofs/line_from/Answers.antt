-- `vectors::line_from` meets its contract: the line so far with the bytes left says what the whole says.
use Rattle.std.proofs.Common.{◌≡◌, arith, eq-eqb, ne_eqb}
use Rattle.vectors.proofs.LineLaws.{turn, at_newline, at_end}
use Rattle.vectors.proofs.line_from.Goals as goal

pub returns-then-byte-eq10-clause-value : goal.returns-then-byte-eq10-clause-value
returns-then-byte-eq10-clause-value c =
    at_newline c.args.bytes.now c.args.start c.loop-i.line c.loop-i.i c.loop-i.invariant.1 c.loop-i-test.true (eq-eqb _ 10 c.if-byte-eq10.true)

pub loop-i-preserved : goal.loop-i-preserved
loop-i-preserved c = (
  omega arith,
  rw c.push.ensures
      (turn c.args.bytes.now c.args.start c.loop-i.line c.loop-i.i c.loop-i.invariant.1 c.loop-i-test.true (ne_eqb _ 10 c.if-byte-eq10.false)),
)

pub returns-clause-value : goal.returns-clause-value
returns-clause-value c =
    let e : c.max.result ≡ c.loop-i.i = omega arith in
    rw e (at_end c.args.bytes.now c.args.start c.loop-i.line c.loop-i.i c.loop-i.invariant.1 c.loop-i-test.false)
