-- Laws of bytes taken in turn.
-- Assumes nothing.
use Prim.Native.Nat.{ℕ, ◌+◌, ◌<◌, ◌≤◌}
use native.Mathlib.Numerals.{add-one}
use mathlib.Core.Path.{◌≡◌, refl, ap, ◌∙◌}
use mathlib.Core.Logic.{◌⊎◌, inl, inr, ⊎_elim}
use mathlib.Core.List.{List, [], ◌∷◌, ◌++◌}
use lib.ListN.{length, take, get_or}
use lib.Seq.{take-suc, take_all}
use Rattle.lastcheck.specs.declared.Run.{Run}
use Rattle.lastcheck.specs.Run.{State, step_byte, fed, stopped}
use Rattle.lastcheck.specs.Steps.{state_of, Written, Cut, Fed}

-- one byte after some
fed_last : (room : ℕ) (s : State) (xs : List ℕ) (byte : ℕ) → fed room s (xs ++ (byte ∷ [])) ≡ step_byte room (fed room s xs) byte
unfolding fed
fed_last room s [] byte = refl
fed_last room s (x ∷ xs) byte = fed_last room (step_byte room s x) xs byte

-- a run that has ended stays so
ended_stays : (room : ℕ) (s : State) (byte : ℕ) → step_byte room (stopped s) byte ≡ stopped s
unfolding step_byte
ended_stays room s byte = refl

module _ (s : State) (bytes : List ℕ) where
  -- the bytes before i are taken in turn, or the run ended where it could not write
  abbrev pub Before : ℕ → State → Type 0
  Before i at = (at ≡ fed 38 s (take i bytes)) ⊎ Cut s bytes at

  pub fed_more : (i : ℕ) (at next then : State)
      → i < length bytes
      → Before i at
      → next ≡ step_byte 38 at (get_or bytes i 0)
      → (then ≡ next) ⊎ (then ≡ stopped next)
      → Before (i + 1) then
  fed_more i at next then h b e w =
      ⊎_elim
      (λ f.
      let one : next ≡ fed 38 s (take (i + 1) bytes) =
      rw (add-one i, take-suc bytes i 0 h, fed_last) (e ∙ ap (λ (x : State). step_byte 38 x (get_or bytes i 0)) f)
      in
      ⊎_elim
      (λ g. inl (g ∙ one))
      (λ g. inr (record { count = i + 1; at = g ∙ ap stopped one }))
      w)
      (λ k.
      let one : next ≡ stopped (fed 38 s (take k.count bytes)) =
      e ∙ ap (λ (x : State). step_byte 38 x (get_or bytes i 0)) k.at ∙ ended_stays 38 (fed 38 s (take k.count bytes)) (get_or bytes i 0)
      in
      ⊎_elim
      (λ g. inr (record { count = k.count; at = g ∙ one }))
      (λ g. inr (record { count = k.count; at = g ∙ ap stopped one }))
      w)
      b

  pub fed_all : (i : ℕ) (at : State) → length bytes ≤ i → Before i at → Fed s bytes at
  fed_all i at h b = ⊎_elim (λ e. inl (rw (take_all i bytes h) at e)) (λ k. inr k) b

-- what is written leaves the state, or ends the run
pub written_state : (r r' : Run) → Written r r' → (state_of r' ≡ state_of r) ⊎ (state_of r' ≡ stopped (state_of r))
written_state r r' w = ⊎_elim (λ e. inl (ap state_of e)) (λ e. inr (ap state_of e)) w
