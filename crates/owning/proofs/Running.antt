-- A part of a batch through own rows: what is left of it ends as the whole does, beside every table.
-- Assumes nothing.
use Rattle.std.specs.Prelude.{Ok, Err, Some, None, Result}
use mathlib.Core.Path.{◌≡◌, refl, sym, ap, ◌∙◌}
use mathlib.Core.Bool.{Bool, true, false}
use mathlib.Core.List.{List, ◌∷◌}
use Prim.Native.Nat.{ℕ, suc, ◌+◌, ◌<◌, ◌≤◌}
use native.Mathlib.Nat.{add_assoc}
use native.Mathlib.Numerals.{add-one}
use native.Mathlib.Omega.{arith}
use borrow.Author.Tests.{eqb-true, eqb-false}
use lib.Dec.{eqb}
use lib.ListN.{length, drop}
use lib.Ieee.{Float}
use Rattle.lists.proofs.Bools.{cases}
use Rattle.refusals.specs.declared.Refusal.{Refusal}
use Rattle.table.specs.declared.Settings.{Settings}
use Rattle.table.specs.Table.{Table}
use Rattle.measuring.specs.declared.Measured.{Measured}
use Rattle.fusing.specs.declared.Averaging.{Averaging}
use Rattle.owning.specs.declared.Owned.{Owned}
use Rattle.owning.specs.declared.Run.{Run}
use Rattle.batching.specs.declared.RefusedReading.{RefusedReading}
use Rattle.measuring.specs.Readings.{admitted}
use Rattle.fusing.specs.Fusing.{fused_if, fuse_if, effect_of, fuse}
use Rattle.fusing.specs.Steps.{says_far}
use Rattle.batching.specs.Batches.{refused_reading, batch_end, Entry, direct_of, stop_or, batch_from}
use Rattle.batching.specs.Steps.{is_far, far_up_to}
use Rattle.batching.proofs.CountLaws.{far_passed, near_passed}
use Rattle.owning.specs.Runs.{over, Ready, Placed, GoesOn, StepLeft, Stepped, passed_far, RunLeft, RanOver, RunTo}

-- ---- readings that are not near

module _ (s : Settings) (t : Table) (ks : List ℕ) (ds ws : List Float) (own added : ℕ) (ready : Ready s t ks ds ws own added) (r : Entry) where
  pub no_left : (why : Refusal) → admitted s r.key (direct_of r) ≡ Err why → StepLeft s t ks ds ws own added r (Err why) ds ws
  unfolding StepLeft batch_from stop_or fuse effect_of fuse_if fused_if
  no_left why e = ((λ i rs. rw (ready.again, e)), refl, refl)

  pub far_left : admitted s r.key (direct_of r) ≡ (Ok None) → StepLeft s t ks ds ws own added r (Ok Owned.Far) ds ws
  unfolding StepLeft batch_from stop_or fuse effect_of fuse_if fused_if
  far_left e = ((λ i rs. rw (ready.again, e)), ready)

-- ---- which readings are far

module _ (s : Settings) (r : Entry) where
  pub no_tells : (why : Refusal) → admitted s r.key (direct_of r) ≡ Err why → passed_far (Err why) ≡ is_far s r
  unfolding passed_far says_far
  no_tells why e = rw e

  pub far_tells : admitted s r.key (direct_of r) ≡ (Ok None) → passed_far (Ok Owned.Far) ≡ is_far s r
  unfolding passed_far says_far
  far_tells e = rw e

  -- a near reading never is
  pub near_tells :
      (how : Averaging) (ds ws : List Float) (p : ℕ) (spare : Bool) (m : Measured) (step : Result Owned Refusal) (ds' ws' : List Float)
      → admitted s r.key (direct_of r) ≡ Ok (Some m)
      → Placed how ds ws p spare m step ds' ws'
      → passed_far step ≡ is_far s r
  unfolding passed_far says_far Placed
  near_tells how ds ws p spare m (Ok Owned.Far) ds' ws' e h = absurd h
  near_tells how ds ws p spare m (Ok Owned.Added) ds' ws' e h = rw e
  near_tells how ds ws p spare m (Ok Owned.Changed) ds' ws' e h = rw e
  near_tells how ds ws p spare m (Ok Owned.Unknown) ds' ws' e h = rw e
  near_tells how ds ws p spare m (Err why) ds' ws' e h = rw e

-- ---- the loop

-- the readings before the i-th are fused into the own rows, and added so many
abbrev pub Running : Settings → List ℕ → List Float → List Float → ℕ → ℕ → List Entry → ℕ → ℕ → ℕ → List Float → List Float → Type 0
Running s ks ds₀ ws₀ own room rs from i added ds ws =
    (t : Table) → Ready s t ks ds₀ ws₀ own 0 → t.count + room ≤ length t.keys
    → (batch_from s from (over s t ks ds₀ ws₀ own) (drop from rs) ≡ batch_from s i (over s t ks ds ws own) (drop i rs)) × Ready s t ks ds ws own added

module _ (s : Settings) (ks : List ℕ) (ds₀ ws₀ : List Float) (own room : ℕ) (rs : List Entry) (from i added : ℕ)
    (ds ws : List Float) (run : Running s ks ds₀ ws₀ own room rs from i added ds ws) where
  module _ (r : Entry) (e : drop i rs ≡ r ∷ drop (suc i) rs) (spare : Bool) (left : spare ≡ true → added < room) (ds' ws' : List Float) where
    -- the batch goes on after a step that lets it
    after_step : (more : ℕ)
        → ((t : Table) → Ready s t ks ds ws own added → (spare ≡ true → t.count + added < length t.keys) → GoesOn s t ks ds ws own r ds' ws' more)
        → Running s ks ds₀ ws₀ own room rs from (i + 1) more ds' ws'
    after_step more step t h l =
        let g = run t h l in
        let q = step t g.1 (λ b. omega (arith, left b)) in (
          g.0
              ∙ ap (batch_from s i (over s t ks ds ws own)) e
              ∙ q.0 i (drop (suc i) rs)
              ∙ ap (λ (j : ℕ). batch_from s j (over s t ks ds' ws' own) (drop j rs)) (sym (add-one i)),
          q.1,
        )

    pub passes_over : Stepped s ks ds ws own spare r (Ok Owned.Far) ds' ws' → Running s ks ds₀ ws₀ own room rs from (i + 1) added ds' ws'
    unfolding StepLeft
    passes_over step = after_step added (λ t h l. step t added h l)

    pub changes : Stepped s ks ds ws own spare r (Ok Owned.Changed) ds' ws' → Running s ks ds₀ ws₀ own room rs from (i + 1) added ds' ws'
    unfolding StepLeft
    changes step = after_step added (λ t h l. step t added h l)

    pub adds : Stepped s ks ds ws own spare r (Ok Owned.Added) ds' ws' → Running s ks ds₀ ws₀ own room rs from (i + 1) (added + 1) ds' ws'
    unfolding StepLeft
    adds step = after_step (added + 1) (λ t h l. rw add-one (step t added h l))

    pub refuses :
        (why : Refusal)
        → Stepped s ks ds ws own spare r (Err why) ds' ws'
        → (far : ℕ)
        → RanOver s ks ds₀ ws₀ own room rs from (record { added = added; run = record { end = Err (refused_reading why i); far = far } }) ds' ws'
    unfolding StepLeft RunLeft
    refuses why step far t h l =
        let g = run t h l in
        let q = step t added g.1 (λ b. omega (arith, left b)) in
        rw (q.1, q.2) (g.0 ∙ ap (batch_from s i (over s t ks ds ws own)) e ∙ q.0 i (drop (suc i) rs), g.1)

    pub stays :
        from ≤ i
        → i ≤ length rs
        → Stepped s ks ds ws own spare r (Ok Owned.Unknown) ds' ws'
        → (far : ℕ)
        → RanOver s ks ds₀ ws₀ own room rs from (record { added = added; run = record { end = Ok i; far = far } }) ds' ws'
    unfolding StepLeft RunLeft
    stays a b step far t h l =
        let g = run t h l in
        let q = step t added g.1 (λ b. omega (arith, left b)) in
        rw (q.0, q.1) ((g.0, a, b), g.1)

  pub ends : from ≤ i → i ≤ length rs → (far : ℕ) → RanOver s ks ds₀ ws₀ own room rs from (record { added = added; run = record { end = Ok i; far = far } }) ds ws
  unfolding RunLeft
  ends a b far t h l = let g = run t h l in ((g.0, a, b), g.1)

-- the readings before the i-th, so many of them far
abbrev pub FarRunning : Settings → List Entry → ℕ → ℕ → ℕ → Type 0
FarRunning s rs from i far = far_up_to s rs i ≡ far_up_to s rs from + far

module _ (s : Settings) (rs : List Entry) (from i far : ℕ) (run : FarRunning s rs from i far) where
  -- one more, which its step tells
  pub one_far :
      (r : Entry)
      → drop i rs ≡ r ∷ drop (suc i) rs
      → (step : Result Owned Refusal)
      → passed_far step ≡ is_far s r
      → step ≡ Ok Owned.Far
      → FarRunning s rs from (i + 1) (far + 1)
  unfolding passed_far
  one_far r e step h f = far_passed s rs i r e (sym h ∙ rw f) ∙ ap (λ (n : ℕ). n + 1) run ∙ add_assoc (far_up_to s rs from) far 1

  pub one_near :
      (r : Entry)
      → drop i rs ≡ r ∷ drop (suc i) rs
      → (step : Result Owned Refusal)
      → passed_far step ≡ is_far s r
      → passed_far step ≡ false
      → FarRunning s rs from (i + 1) far
  one_near r e step h f = near_passed s rs i r e (sym h ∙ f) ∙ run

-- ---- parts of a batch, one after the other

module _ (s : Settings) (t : Table) (rs : List Entry) (from least : ℕ) (r : Run) (u : Table) (ran : RunTo s t rs from least r u) where
  pub run_stops :
      (refused : RefusedReading)
      → r.end ≡ Err refused
      → (batch_from s from t (drop from rs) ≡ batch_end (Err refused) u) × (far_up_to s rs refused.at ≡ far_up_to s rs from + r.far)
  unfolding RunLeft
  run_stops refused e = (rw e at ran.0, rw e at ran.2)

  pub run_goes :
      (i : ℕ)
      → r.end ≡ Ok i
      → (batch_from s from t (drop from rs) ≡ batch_from s i u (drop i rs)) × (least ≤ i) × (i ≤ length rs) × (far_up_to s rs i ≡ far_up_to s rs from + r.far)
  unfolding RunLeft
  run_goes i e = let g = rw e at ran.0 in (g.0, g.1, g.2, rw e at ran.2)

-- a part that went further than it began
pub went_on : (s : Settings) (t : Table) (rs : List Entry) (from : ℕ) (r : Run) (u : Table)
    → RunTo s t rs from from r u
    → (r.end ≡ Ok from → ⊥)
    → RunTo s t rs from (from + 1) r u
unfolding RunLeft
went_on s t rs from r u ran moved = (go r.end ran.0 moved, ran.1, ran.2)
  where
    go : (e : Result ℕ RefusedReading) → RunLeft s t rs from from e u → (e ≡ Ok from → ⊥) → RunLeft s t rs from (from + 1) e u
    go (Err refused) h m = h
    go (Ok i) h m = (h.0, past i h.1 m, h.2)
      where
        past : (j : ℕ) → from ≤ j → (◌≡◌ {A = Result ℕ RefusedReading} (Ok j) (Ok from) → ⊥) → from + 1 ≤ j
        past j l n =
            cases (λ (b : Bool). from + 1 ≤ j) (eqb j from)
            (λ q. absurd (n (ap {B = Result ℕ RefusedReading} (λ (k : ℕ). Ok k) (eqb-true j from q))))
            (λ q. let other = eqb-false j from q in omega arith)

-- one that went nowhere, and another after it
pub then_runs : (s : Settings) (t : Table) (rs : List Entry) (from : ℕ) (r : Run) (u : Table)
    → RunTo s t rs from from r u
    → r.end ≡ Ok from
    → (r' : Run) (u' : Table)
    → RunTo s u rs from (from + 1) r' u'
    → RunTo s t rs from (from + 1) r' u'
unfolding RunLeft
then_runs s t rs from r u ran e r' u' next = (instead r'.end next.0, next.1, next.2)
  where
    instead : (f : Result ℕ RefusedReading) → RunLeft s u rs from (from + 1) f u' → RunLeft s t rs from (from + 1) f u'
    instead (Ok j) n = ((run_goes s t rs from from r u ran from e).0 ∙ n.0, n.1, n.2)
    instead (Err refused) n = (run_goes s t rs from from r u ran from e).0 ∙ n
