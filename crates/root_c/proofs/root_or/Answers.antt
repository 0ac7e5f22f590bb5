-- `root_c::root_or` meets its contract: each arm is the case that the answer is. Assumes nothing.
use Rattle.std.specs.Prelude.{Result, Float}
use mathlib.Core.Path.{sym, ap, ◌∙◌}
use Rattle.root_c.specs.Answers.{root_or}
use Rattle.root_c.proofs.root_or.Goals as goal
use Rattle.refusals.specs.declared.Refusal.{Refusal}

pub returns-in-Ok : goal.returns-in-Ok
returns-in-Ok c =
    let s = c.args in
    sym (ap (λ (a : Result Float Refusal). root_or a s.other)
    (sym c.root.ensures ∙ c.in-Ok.is))

pub returns-in-Err : goal.returns-in-Err
returns-in-Err c =
    let s = c.args in
    sym (ap (λ (a : Result Float Refusal). root_or a s.other) (sym c.root.ensures ∙ c.in-Err.is))
