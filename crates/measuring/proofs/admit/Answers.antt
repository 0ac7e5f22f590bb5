-- `measuring::admit` meets its contract: settings that passed have a size, and the reading passed its test.
-- Assumes nothing.
use Rattle.std.proofs.Common.{ap, not}
use Rattle.lists.proofs.Bools.{yes}
use Rattle.table.proofs.SettingsLaws.{settings_known}
use Rattle.measuring.proofs.admit.Goals as goal

pub measure-m-requires : goal.measure-m-requires
measure-m-requires c =
    record {
      size_value = (settings_known _ c.requires).size;
      reading_value = yes c.reading_ok.ensures (ap not c.if-not-reading_ok.false);
    }
