-- What the private functions promise each other.
use Rattle.std.specs.Prelude.{ℕ, ◌+◌, ◌≤◌, ◌≡◌, Bool, cond, List, length, set, Float, Ok, Result}
use Rattle.std.proofs.lemmas.List.Edits.{sets}
use Rattle.marching.specs.March.{MarchedRow, keys_of, distances_of}
use Rattle.refusals.specs.declared.Refusal.{Refusal}

-- a row is put at place n if it passes
pub record PutOne (passes : Bool) (k : ℕ) (d : Float) (n r : ℕ) (ks : List ℕ) (ds : List Float) (ks' : List ℕ) (ds' : List Float) : Type 0 where
  pub count : r ≡ cond passes (n + 1) n
  pub keys : ks' ≡ cond passes (set ks n k) ks
  pub distances : ds' ≡ cond passes (set ds n d) ds

-- n rows are put from the first place on, as far as they fit
pub record Put (rs : List MarchedRow) (n : ℕ) (ks : List ℕ) (ds : List Float) (ks' : List ℕ) (ds' : List Float) : Type 0 where
  pub count : n ≡ length rs
  pub keys : ks' ≡ sets ks 0 (keys_of rs)
  pub distances : ds' ≡ sets ds 0 (distances_of rs)

-- what is put for an answer of n
pub record Counted (rs : List MarchedRow) (n : ℕ) (ks : List ℕ) (ds : List Float) (ks' : List ℕ) (ds' : List Float) : Type 0 where
  pub put : Put rs n ks ds ks' ds'
  pub keys_fit : n ≤ length ks
  pub distances_fit : n ≤ length ds

-- the answer is the definition's, and what it counts is put
pub record Filled (said : Result ℕ Refusal) (rs : List MarchedRow) (r : Result ℕ Refusal) (ks : List ℕ) (ds : List Float) (ks' : List ℕ) (ds' : List Float) : Type 0 where
  pub answer : r ≡ said
  pub counted : (n : ℕ) → r ≡ Ok n → Counted rs n ks ds ks' ds'
