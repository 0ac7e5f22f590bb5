-- What the private writers promise each other.
use Rattle.std.specs.Prelude.{ℕ, ◌+◌, ◌≡◌, List, length}
use Rattle.std.proofs.lemmas.List.Edits.{sets}

-- a text written into the list l from a place on: the list then, and the place after the text
pub record Wrote (l : List ℕ) (at : ℕ) (text : List ℕ) (l' : List ℕ) (next : ℕ) : Type 0 where
  pub list : l' ≡ sets l at text
  pub ends : next ≡ at + length text
