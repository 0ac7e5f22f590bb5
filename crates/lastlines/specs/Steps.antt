-- What the private functions promise each other.
use Rattle.std.specs.Prelude.{ℕ, ◌≡◌, Bool, List, length, Ok, Err, Option, Result}
use Rattle.std.proofs.lemmas.List.Edits.{sets}
use Rattle.lastlines.specs.declared.Stepped.{Stepped}
use Rattle.lastlines.specs.Lastcheck.{After}
use Rattle.refusals.specs.declared.Refusal.{Refusal}
use Rattle.table.specs.declared.Settings.{Settings}

-- how many edges an answer has, none where it refuses
abbrev pub edges_in : Result (ℕ × ℕ) Refusal → ℕ
edges_in (Ok (n, m)) = n
edges_in (Err why) = 0

-- an answer of the call
abbrev pub stepped : Option Settings → ℕ → Bool → Stepped
stepped s n goes = record { settings = s; length = n; goes_on = goes }

-- a text is printed into the lent bytes, and the answer says how long it is
pub record Prints (s : Option Settings) (line : List ℕ) (goes : Bool) (r : Stepped) (out out' : List ℕ) : Type 0 where
  pub answer : r ≡ stepped s (length line) goes
  pub text : out' ≡ sets out 0 line

-- what a line leaves but for the table
abbrev pub PrintsStep : After → Stepped → List ℕ → List ℕ → Type 0
PrintsStep a r out out' = Prints a.settings a.text a.goes r out out'
