-- What the program's functions promise each other.
use Rattle.std.specs.Prelude.{ℕ, ◌≤◌, ◌≡◌, ◌⊎◌, false, List, length, take}
use Rattle.std.proofs.lemmas.List.Edits.{sets}
use Rattle.table.specs.Table.{table}
use Rattle.lastcheck.specs.declared.Run.{Run}
use Rattle.lastcheck.specs.Run.{State, state, ended, renewed, step_byte, text_byte, last_text, fed, stopped}

-- the state that the program holds
abbrev pub state_of : Run → State
state_of r = state (take r.kept r.line) r.number r.settings (table r.keys r.distances r.weights r.count) r.going

-- what is to be printed: a text, which fits, at the front of the list
pub record Printed (text : List ℕ) (r r' : Run) : Type 0 where
  pub printed : r'.printed ≡ length text
  pub short : r'.printed ≤ 15000
  pub wrote : r'.out ≡ sets r.out 0 text

-- the run stands at s, and a text is to be printed
pub record Moved (s : State) (text : List ℕ) (r r' : Run) : Type 0 where
  pub next : state_of r' ≡ s
  pub prints : Printed text r r'

-- a whole line is taken: what it does is done, its text is at the front, and the next line is begun
abbrev pub LineTaken : Run → Run → Type 0
LineTaken r r' = let s = state_of r in Moved (renewed s (ended s)) (ended s).text r r'

-- one byte is taken, where the line has room for 38
abbrev pub ByteTaken : Run → ℕ → Run → Type 0
ByteTaken r byte r' = let s = state_of r in Moved (step_byte 38 s byte) (text_byte s byte) r r'

-- the end of the input
abbrev pub Finished : Run → Run → Type 0
Finished r r' = Printed (last_text (state_of r)) r r'

-- what is written changes nothing, but a run that cannot write ends
abbrev pub Written : Run → Run → Type 0
Written r r' = (r' ≡ r) ⊎ (r' ≡ record r { going = false })

-- bytes that ended the run, since what the last of them printed could not be written
pub record Cut (s : State) (bytes : List ℕ) (s' : State) : Type 0 where
  pub count : ℕ
  pub at : s' ≡ stopped (fed 38 s (take count bytes))

-- every byte is taken in turn, or the run ended where it could not write
abbrev pub Fed : State → List ℕ → State → Type 0
Fed s bytes s' = (s' ≡ fed 38 s bytes) ⊎ Cut s bytes s'
