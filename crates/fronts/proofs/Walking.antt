-- The loop over a cell's neighbours, each of which waits: what is left to do says what the whole does. Assumes nothing.
use Rattle.std.specs.Prelude.{Ok, Err, Result}
use mathlib.Core.Path.{◌≡◌, refl, sym, ap, subst, ◌∙◌}
use mathlib.Core.Bool.{Bool, true, false, ◌||◌, true≢false}
use mathlib.Core.List.{List, [], ◌∷◌}
use Prim.Native.Nat.{ℕ, zero, suc, ◌+◌, ◌<◌, ◌≤◌}
use native.Mathlib.Numerals.{add-one}
use native.Mathlib.Omega.{arith}
use lib.Dec.{eqb}
use lib.ListN.{length, drop, get_or, drop_of_length-le}
use lib.Seq.{drop-cons}
use lib.Ieee.{Float}
use Rattle.search.specs.Keys.{member}
use Rattle.marching.specs.March.{State, Field, Going, and_then, wait, wait_all}
use Rattle.marching.specs.Spreading.{Told}
use Rattle.marching.proofs.KeysOnce.{Once}
use Rattle.marching.proofs.Sound.{after_on}
use Rattle.marching.proofs.Crowding.{Waiting, wait_adds}
use Rattle.marching.proofs.Spreading.{Waited, wait_waited}
use Rattle.marching.proofs.Telling.{told_on}
use Rattle.refusals.specs.declared.Refusal.{Refusal}
use Rattle.fronts.specs.Fronts.{Front, MarksFit, Stopped, LeftCells, DoesWait}

-- ---- a step that stopped

-- what comes after it does not count
pub stopped_then : (g : Going) (f : State → Going) (why : Refusal) → Stopped g why → Stopped (and_then g f) why
unfolding and_then
stopped_then g f why h = rw h

pub stopped_by : (g g' : Going) (why : Refusal) → g ≡ g' → Stopped g' why → Stopped g why
stopped_by g g' why e h = subst (λ (x : Going). Stopped x why) (sym e) h

-- ---- all neighbours wait, from place i of them on

-- the keys that are left stand once
pub once_drop : (i : ℕ) (ns : List ℕ) → Once ns → Once (drop i ns)
unfolding Once
once_drop zero ns o = o
once_drop (suc i) [] o = o
once_drop (suc i) (n ∷ ns) o = once_drop i ns o.1

-- what is left to do says what the whole does
abbrev pub Rest : Bool → (ℕ → Bool) → Field → ℕ → Float → List ℕ → List ℕ → List Float → ℕ → List Float → List ℕ → ℕ → List ℕ → List Float → ℕ → List Float
    → List ℕ → Type 0
Rest lean seed f k e ns ks₀ ds₀ w₀ es₀ cs₀ i ks ds w es cs =
    (s : State) → Front lean s ks₀ ds₀ w₀ es₀ cs₀ → Told seed f k ns s → MarksFit lean (length ns) s ks₀ →
    (t : State)
    × ((t.stored ≡ s.stored)
    × (Front lean t ks ds w es cs
    × (Told seed f k (drop i ns) t
    × (MarksFit lean (length (drop i ns)) t ks × (wait_all (length cs₀) e ns s ≡ wait_all (length cs₀) e (drop i ns) t)))))

module _ (lean : Bool) (seed : ℕ → Bool) (f : Field) (k : ℕ) (e : Float) (ns list : List ℕ) (listed : list ≡ ns) (once : Once ns)
    (ks₀ : List ℕ) (ds₀ : List Float) (w₀ : ℕ) (es₀ : List Float) (cs₀ : List ℕ) where
  abbrev Rest_at : ℕ → List ℕ → List Float → ℕ → List Float → List ℕ → Type 0
  Rest_at i ks ds w es cs = Rest lean seed f k e ns ks₀ ds₀ w₀ es₀ cs₀ i ks ds w es cs

  pub rest_all : Rest_at 0 ks₀ ds₀ w₀ es₀ cs₀
  rest_all s h told room = (s, (refl, (h, (told, (room, refl)))))

  module _ (i : ℕ) (ks : List ℕ) (ds : List Float) (w : ℕ) (es : List Float) (cs : List ℕ) (r : Rest_at i ks ds w es cs) where
    module _ (long : length cs ≡ length cs₀) (l : i < length ns) (p : Result ℕ Refusal) (ks' : List ℕ) (ds' es' : List Float)
        (cs' : List ℕ) (does : DoesWait lean seed f k (get_or list i 0 ∷ []) (wait (length cs) e (get_or list i 0)) ks ds w es cs p ks' ds' es' cs') where
      here : drop i ns ≡ get_or list i 0 ∷ drop (suc i) ns
      here = drop-cons ns i 0 l ∙ ap (λ (n : ℕ). n ∷ drop (suc i) ns) (sym (ap (λ (x : List ℕ). get_or x i 0) listed))

      one : (t : State) → wait_all (length cs₀) e (drop i ns) t ≡ and_then (wait (length cs) e (get_or list i 0) t) (wait_all (length cs₀) e (drop (suc i) ns))
      unfolding wait_all
      one t = rw (here, long)

      told_here : (t : State) → Told seed f k (drop i ns) t → Told seed f k (get_or list i 0 ∷ []) t
      unfolding member
      told_here t h n m o = h n (rw here (wider (eqb (get_or list i 0) n) (member n (drop (suc i) ns)) m)) o
        where
          wider : (a b : Bool) → a || false ≡ true → a || b ≡ true
          wider true b q = refl
          wider false b q = absurd (true≢false (sym q))

      done : (o : Result ℕ Refusal) → p ≡ o → (t : State) → Front lean t ks ds w es cs → Told seed f k (drop i ns) t → MarksFit lean (length (drop i ns)) t ks
          → LeftCells lean (wait (length cs) e (get_or list i 0) t) t o ks' ds' es' cs'
      done o a t h told room =
          subst (λ (o : Result ℕ Refusal). LeftCells lean (wait (length cs) e (get_or list i 0) t) t o ks' ds' es' cs') a
          (does t h (told_here t told) (λ q. let x = room q in let y = ap length here in omega arith))

      -- a cell waits, or already did
      pub rest_more : length ks' ≡ length ks → (w' : ℕ) → p ≡ Ok w' → Rest_at (i + 1) ks' ds' w' es' cs'
      unfolding LeftCells and_then
      rest_more wide w' a s h told room =
          let x = r s h told room in
          let y = done (Ok w') a x.0 x.1.1.0 x.1.1.1.0 x.1.1.1.1.0 in
          let step = wait (length cs) e (get_or list i 0) x.0 in
          let waited = after_on (Waited (get_or list i 0 ∷ []) x.0) step y.0 (wait_waited (length cs) e (get_or list i 0) x.0) y.1.0 in
          let added = after_on (Waiting 1 x.0) step y.0 (wait_adds (length cs) e (get_or list i 0) x.0) y.1.0 in
          let next : Told seed f k (drop (suc i) ns) y.0 =
          told_on seed f k (get_or list i 0) (drop (suc i) ns) x.0 y.0 (rw here at (once_drop i ns once)) waited (rw here at x.1.1.1.0) in
          let left : MarksFit lean (length (drop (suc i) ns)) y.0 ks' =
          λ q. let b = x.1.1.1.1.0 q in let c = ap length here in let d = added.rows in let g = added.most in omega arith in (
            y.0,
            (
              y.1.1.0 ∙ x.1.0,
              (
                y.1.1.1,
                (
                  rw (← add-one i) at next,
                  (
                    rw (← add-one i) at left,
                    x.1.1.1.1.1
                        ∙ one x.0
                        ∙ ap (λ (g : Going). and_then g (wait_all (length cs₀) e (drop (suc i) ns))) y.1.0
                        ∙ ap (λ (j : ℕ). wait_all (length cs₀) e (drop j ns) y.0) (sym (add-one i)),
                  ),
                ),
              ),
            ),
          )

      -- one stops
      pub rest_stop : (why : Refusal) → p ≡ Err why
          → (s : State) → Front lean s ks₀ ds₀ w₀ es₀ cs₀ → Told seed f k ns s → MarksFit lean (length ns) s ks₀
          → LeftCells lean (wait_all (length cs₀) e ns s) s (Err why) ks' ds' es' cs'
      unfolding LeftCells
      rest_stop why a s h told room =
          let x = r s h told room in
          stopped_by _ _ why (x.1.1.1.1.1 ∙ one x.0)
          (stopped_then _ _ why (done (Err why) a x.0 x.1.1.0 x.1.1.1.0 x.1.1.1.1.0))

    -- all of them wait
    pub rest_none : length ns ≤ i
        → (s : State) → Front lean s ks₀ ds₀ w₀ es₀ cs₀ → Told seed f k ns s → MarksFit lean (length ns) s ks₀
        → LeftCells lean (wait_all (length cs₀) e ns s) s (Ok w) ks ds es cs
    unfolding LeftCells wait_all
    rest_none l s h told room =
        let x = r s h told room in
        (x.0, (x.1.1.1.1.1 ∙ rw (drop_of_length-le ns {i = i} l), (x.1.0, x.1.1.0)))
