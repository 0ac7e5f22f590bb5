-- When a march is sure to be refused with 6, before it meets a row that has no place.
use Rattle.std.specs.Prelude.{ℕ, ◌+◌, ◌*◌, ◌-◌, Bool, ◌&&◌, leb, ltb}

-- with n rows, w waiting cells and t takings, where p rows and c waiting cells have a place: what waits is taken yet, and takings are at most the rows;
-- each place that is left for a row adds at most 14 waiting cells, and those all have a place
abbrev pub surely_full : ℕ → ℕ → ℕ → ℕ → ℕ → Bool
surely_full p c n w t = ltb p (t + w) && leb (w + 14 * (p - n)) c
