-- Each part of each case is the definition's. Assumes nothing.
use mathlib.Core.Path.{refl}
use Rattle.answers.proofs.readings.batch_back.Goals as goal

pub returns-in-Ok : goal.returns-in-Ok
returns-in-Ok c =
    record {
      number_value = rw c.in-Ok.is refl;
      counts_value = rw c.in-Ok.is refl;
      at_value = rw c.in-Ok.is refl;
    }

pub returns-in-Err : goal.returns-in-Err
returns-in-Err c =
    record {
      number_value = rw c.in-Err.is c.from.ensures;
      counts_value = rw c.in-Err.is refl;
      at_value = rw c.in-Err.is refl;
    }
