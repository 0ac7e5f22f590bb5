-- One reading of a batch: it ends the batch or leaves the rest to the table that it left, and is counted as far or not.
-- Assumes nothing.
use Rattle.std.specs.Prelude.{Ok, Err, Result}
use mathlib.Core.Path.{◌≡◌, refl, sym, ap, ◌∙◌}
use mathlib.Core.Bool.{false}
use mathlib.Core.List.{List, [], ◌∷◌}
use Prim.Native.Nat.{ℕ, suc, ◌+◌, ◌<◌, ◌≤◌}
use native.Mathlib.Nat.{le_of_eq, add-zero}
use native.Mathlib.Numerals.{add-one}
use lib.ListN.{length, get_or, drop}
use lib.Ieee.{Float, nan}
use Rattle.lists.proofs.BesideLaws.{by_at, by_past, by_whole}
use Rattle.refusals.specs.declared.Refusal.{Refusal}
use Rattle.table.specs.declared.Settings.{Settings}
use Rattle.table.specs.Table.{Table, table_check}
use Rattle.fusing.specs.declared.Step.{Step}
use Rattle.fusing.specs.Fusing.{Effect, effect, effect_of, kind_of, fused_of, fuse}
use Rattle.fusing.specs.Steps.{answers_far}
use Rattle.batching.specs.Batches.{refused_reading, BatchEnd, batch_end, entry, entries, direct_of, stop_or, batch_from}
use Rattle.batching.specs.Steps.{is_far, far_up_to}
use Rattle.fusing.proofs.Keeping.{fuse_keeps}
use Rattle.fusing.proofs.FuseLaws.{far_exactly}
use Rattle.batching.proofs.CountLaws.{far_passed, near_passed}

-- the reading at place i, and those after it
pub entry_at :
    (ks : List ℕ) (ds cs : List Float) (i : ℕ)
    → length ds ≡ length ks
    → length cs ≡ length ks
    → i < length ks
    → drop i (entries ks ds cs) ≡ entry (get_or ks i 0) (get_or ds i nan) (get_or cs i nan) ∷ drop (suc i) (entries ks ds cs)
entry_at ks ds cs i p q h = rw (by_whole entry ks ds cs) at (by_at entry ks ds cs 0 nan nan (length ks) i p q h (le_of_eq refl))

entries_past : (ks : List ℕ) (ds cs : List Float) (i : ℕ) → length ks ≤ i → drop i (entries ks ds cs) ≡ []
entries_past ks ds cs i h = rw (by_whole entry ks ds cs) at (by_past entry ks ds cs (length ks) i h)

module _ (s : Settings) (t : Table) (ks : List ℕ) (ds cs : List Float) (i : ℕ) where
  abbrev from : ℕ → Table → BatchEnd
  from j u = batch_from s j u (drop j (entries ks ds cs))

  -- no reading is left
  pub ended : length ks ≤ i → from i t ≡ batch_end (Ok tt) t
  unfolding batch_from
  ended h = rw (entries_past ks ds cs i h)

  -- the i-th reading does so and leaves u
  module _ (p : length ds ≡ length ks) (q : length cs ≡ length ks) (h : i < length ks) (step : Result Step Refusal) (u : Table)
      (e : effect step u ≡ effect_of s t (get_or ks i 0) (direct_of (entry (get_or ks i 0) (get_or ds i nan) (get_or cs i nan)))) where
    one : from i t ≡ stop_or (fused_of step) i u (from (i + 1) u)
    unfolding batch_from fuse
    one = rw (entry_at ks ds cs i p q h, ← e, add-one)

    pub stops : (why : Refusal) → step ≡ Err why → from i t ≡ batch_end (Err (refused_reading why i)) u
    unfolding stop_or
    stops why f = one ∙ rw f

    -- one that is not refused goes on
    pub goes_on : (x : Step) → step ≡ Ok x → from i t ≡ from (i + 1) u
    unfolding stop_or
    goes_on x f = one ∙ rw f (lets x)
      where
        lets : (y : Step) → stop_or (Ok (kind_of y)) i u (from (i + 1) u) ≡ from (i + 1) u
        lets Step.Far = refl
        lets (Step.Added at) = refl
        lets (Step.Changed at) = refl

    -- what it did tells whether it is far
    tells_far : table_check s t ≡ (Ok tt) → answers_far (fused_of step) ≡ is_far s (entry (get_or ks i 0) (get_or ds i nan) (get_or cs i nan))
    unfolding fuse
    tells_far c =
        ap (λ (o : Effect). answers_far (fused_of o.step)) e
        ∙ far_exactly s t (get_or ks i 0) (direct_of (entry (get_or ks i 0) (get_or ds i nan) (get_or cs i nan))) c

    pub far_here : table_check s t ≡ (Ok tt) → step ≡ (Ok Step.Far) → far_up_to s (entries ks ds cs) (i + 1) ≡ far_up_to s (entries ks ds cs) i + 1
    unfolding answers_far
    far_here c f = far_passed s (entries ks ds cs) i _ (entry_at ks ds cs i p q h) (sym (tells_far c) ∙ rw f)

    pub near_here :
        table_check s t ≡ (Ok tt)
        → (x : Step)
        → step ≡ Ok x
        → (x ≡ Step.Far → ⊥)
        → far_up_to s (entries ks ds cs) (i + 1) ≡ far_up_to s (entries ks ds cs) i + 0
    unfolding answers_far
    near_here c x f not_far =
        near_passed s (entries ks ds cs) i _ (entry_at ks ds cs i p q h) (sym (tells_far c) ∙ rw f (near x not_far)) ∙ sym (add-zero _)
      where
        near : (y : Step) → (y ≡ Step.Far → ⊥) → answers_far (Ok (kind_of y)) ≡ false
        near Step.Far n = absurd (n refl)
        near (Step.Added at) n = refl
        near (Step.Changed at) n = refl

    -- the table passes the check again
    pub passes_again : table_check s t ≡ (Ok tt) → table_check s u ≡ (Ok tt)
    unfolding fuse
    passes_again c =
        ap (λ (o : Effect). table_check s o.left) e
        ∙ fuse_keeps s t (get_or ks i 0) (direct_of (entry (get_or ks i 0) (get_or ds i nan) (get_or cs i nan))) c
