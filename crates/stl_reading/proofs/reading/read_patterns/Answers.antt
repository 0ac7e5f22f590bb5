-- `stl::reading::read_patterns` meets its contract: word by word.
-- Assumes nothing.
use Rattle.stl_reading.proofs.reading.read_patterns.Goals as goal

pub returns : goal.returns
returns c = rw (c.read_word-3.ensures, c.read_word-2.ensures, c.read_word.ensures)
