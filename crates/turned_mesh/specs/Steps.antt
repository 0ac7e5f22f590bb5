-- What the private function promises the call.
use Rattle.std.specs.Prelude.{ℕ, ◌≡◌, List, ◌++◌, Float, drop, Ok, Err, Result}
use Rattle.turning.specs.Steps.{Ready}
use Rattle.refusals.specs.declared.Refusal.{Refusal}

-- a table with lists that hold its closed edges and triangles, where a mesh is answered
abbrev pub ReadyIf : Result (ℕ × ℕ) Refusal → List ℕ → List Float → List Float → ℕ → List ℕ → List ℕ → List ℕ → List ℕ → List ℕ → Type 0
ReadyIf a ks ds ws n first second is js ls = (m j : ℕ) → a ≡ Ok (m, j) → Ready ks ds ws n first second m is js ls j

-- a column of the triangles in place of that which a list held in front, where a mesh is answered
abbrev pub turned_for : Result (ℕ × ℕ) Refusal → List ℕ → List ℕ → List ℕ
turned_for (Ok (m, j)) xs l = xs ++ drop j l
turned_for (Err why) xs l = l
