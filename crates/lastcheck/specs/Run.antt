-- What one byte of the input does, and what a run prints.
use Rattle.std.specs.Prelude.{ℕ, ◌+◌, Bool, true, false, cond, List, [], ◌∷◌, ◌++◌, ltb, eqb, length, Option, None}
use Rattle.lastlines.specs.Lastcheck.{After, step_of, unfilled}
use Rattle.table.specs.declared.Settings.{Settings}
use Rattle.table.specs.Table.{Table}

-- where a run stands: what is kept of the present line, its number, the settings, where P came, the table, and whether the run goes on
pub record State : Type 0 where
  pub kept : List ℕ
  pub number : ℕ
  pub settings : Option Settings
  pub left : Table
  pub going : Bool

abbrev pub state : List ℕ → ℕ → Option Settings → Table → Bool → State
state l n s t going = record { kept = l; number = n; settings = s; left = t; going = going }

-- before the first byte
abbrev pub beginning : State
beginning = state [] 1 None unfilled true

-- lines are numbered from 1; past 2^64 - 1 the number stays
abbrev pub counted : ℕ → ℕ
counted n = cond (ltb n 18446744073709551615) (n + 1) n

-- the line that is kept has ended: what it does
abbrev pub ended : State → After
ended s = step_of s.kept s.number s.settings s.left

-- the next line is begun
abbrev pub renewed : State → After → State
renewed s a = state [] (counted s.number) a.settings a.left a.goes

-- one byte more of the line, of which `room` bytes are kept
abbrev pub kept_with : ℕ → List ℕ → ℕ → List ℕ
kept_with room l byte = cond (ltb (length l) room) (l ++ (byte ∷ [])) l

abbrev pub longer : ℕ → State → ℕ → State
longer room s byte = state (kept_with room s.kept byte) s.number s.settings s.left s.going

-- what a byte leaves: a newline ends the line; a run that has ended stays as it is
unfoldable pub step_byte : ℕ → State → ℕ → State
step_byte room s byte = cond s.going (cond (eqb byte 10) (renewed s (ended s)) (longer room s byte)) s

-- what a byte prints
unfoldable pub text_byte : State → ℕ → List ℕ
text_byte s byte = cond s.going (cond (eqb byte 10) (ended s).text []) []

-- what the end of the input prints: bytes after the last newline are a line
unfoldable pub last_text : State → List ℕ
last_text s = cond s.going (cond (ltb 0 (length s.kept)) (ended s).text []) []

-- what a run prints for the bytes that are left
unfoldable pub text_from : ℕ → State → List ℕ → List ℕ
text_from room s [] = last_text s
text_from room s (byte ∷ bytes) = text_byte s byte ++ text_from room (step_byte room s byte) bytes

-- where a run stands after some bytes
unfoldable pub fed : ℕ → State → List ℕ → State
fed room s [] = s
fed room s (byte ∷ bytes) = fed room (step_byte room s byte) bytes

-- a run that ends
abbrev pub stopped : State → State
stopped s = state s.kept s.number s.settings s.left false
