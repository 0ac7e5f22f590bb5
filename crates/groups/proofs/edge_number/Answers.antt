-- `groups::edge_number` meets its contract: the edges from a place on say what all of them say.
use mathlib.Core.Path.{refl, sym, ◌∙◌}
use Rattle.groups.proofs.NumberLaws.{number_here, number_next, number_gone, number_ended}
use Rattle.groups.proofs.edge_number.Goals as goal

pub loop-i-init : goal.loop-i-init
loop-i-init c = refl

pub returns-then-first-i : goal.returns-then-first-i
returns-then-first-i c =
    let a = c.args in
    let t = c.loop-i-test.true in record {
      value = number_gone a.first.now a.second.now a.count a.a a.b c.requires.equal c.requires.fits
          c.loop-i.i t c.if-first-i.true
          ∙ sym c.loop-i.invariant;
      below = tt;
    }

pub returns-then-second-i : goal.returns-then-second-i
returns-then-second-i c =
    let a = c.args in
    let t = c.loop-i-test.true in record {
      value = number_here a.first.now a.second.now a.count a.a a.b c.requires.equal c.requires.fits
          c.loop-i.i t c.if-first-i.false c.if-second-i.true
          ∙ sym c.loop-i.invariant;
      below = t;
    }

pub loop-i-preserved : goal.loop-i-preserved
loop-i-preserved c =
    let a = c.args in
    let t = c.loop-i-test.true in
    c.loop-i.invariant
    ∙ number_next a.first.now a.second.now a.count a.a a.b c.requires.equal c.requires.fits
    c.loop-i.i t c.if-first-i.false c.if-second-i.false

pub returns : goal.returns
returns c =
    let a = c.args in
    record {
      value = number_ended a.first.now a.second.now a.count a.a a.b c.requires.equal c.loop-i.i c.loop-i-test.false ∙ sym c.loop-i.invariant;
      below = tt;
    }
