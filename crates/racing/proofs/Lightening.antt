-- A step after the march has been lightened: its marks have a place, and it leaves a state from which the next may be taken. Assumes nothing.
use Rattle.std.specs.Prelude.{Ok, Err, Result}
use mathlib.Core.Path.{◌≡◌, refl, sym, subst}
use mathlib.Core.Bool.{Bool, true}
use mathlib.Core.List.{List, ◌∷◌}
use Prim.Native.Nat.{ℕ, suc, ◌<◌}
use native.Mathlib.Omega.{arith}
use lib.ListN.{length}
use lib.Ieee.{Float}
use Rattle.neighbors.specs.Neighbors.{neighbours}
use Rattle.neighbors.proofs.NeighborLaws.{at_most_14}
use Rattle.table.specs.Table.{Row}
use Rattle.marching.specs.March.{MarchedRow, marched_row, Cell, State, Field, Rooms, Going, on, is_seed, sow, taking}
use Rattle.marching.specs.March as march
use Rattle.marching.specs.declared.Course.{Course}
use Rattle.marching.specs.Lattice.{lattice_of}
use Rattle.marching.proofs.Sound.{After, after_on, after_weaken}
use Rattle.marching.proofs.Crowding.{Fuller, sow_adds, Took, taking_adds}
use Rattle.fronts.specs.Fronts.{rooms_of, Held, MarksFit, Left}
use Rattle.fronts.proofs.Stepping.{uncons}
use Rattle.thinning.specs.Thinning.{kind_of, Lightens}
use Rattle.thinning.proofs.Forgetting.{roomy}
use Rattle.racing.specs.declared.Pace.{Pace}
use Rattle.racing.specs.Racing.{sow_if, MayStep, Goes}
use Rattle.racing.proofs.Marching.{same_rooms}
use Rattle.refusals.specs.declared.Refusal.{Refusal}

-- what a step of a kind leads to
abbrev pub went_of : Result (ℕ × ℕ) Refusal → Bool → Result Pace Refusal
went_of (Ok (n, w)) lean = Ok (record { rows = n; waiting = w; lean = lean })
went_of (Err why) lean = Err why

-- ---- what a step adds

sow_most : (m : Rooms) (r : MarchedRow) (s : State) → After (Fuller 15 s) (sow neighbours m r s)
sow_most m r s =
    after_weaken (Fuller (suc (length (neighbours r.key))) s) (Fuller 15 s) (sow neighbours m r s)
    (λ t l. let a = at_most_14 r.key in omega arith) (sow_adds neighbours m r s)

take_most : (c : Course) (m : Rooms) (s : State) (w : ℕ) → w ≡ length s.waiting → 0 < w → After (Fuller 15 s) (march.take (lattice_of c) m s)
take_most c m s w e l =
    let u = uncons s.waiting w e l in
    subst (λ (x : List Cell). After (Fuller 15 s) (taking (lattice_of c) m x s)) (sym u.1.1)
    (after_weaken (Took m s) (Fuller 15 s) (taking (lattice_of c) m (u.0 ∷ u.1.0) s) (λ t k. k.fuller)
    (taking_adds (lattice_of c) at_most_14 m u.0 u.1.0 s u.1.1))

-- ---- a step of the kind that it is

module _ (lean : Bool) (n w : ℕ) (ks : List ℕ) (ds es : List Float) (cs : List ℕ) (kind : Bool) (is : kind ≡ kind_of lean (length ks) n w) (ks₁ : List ℕ)
    (ds₁ : List Float) (lists : Lightens lean n w cs ks ds kind ks₁ ds₁) (wide : length ks₁ ≡ length ks) (s : State) (h : MayStep lean s n ks ds w es cs) where
  held : Held kind s n ks₁ ds₁ w es cs
  held = lists s es h.held h.spare

  room : (k : ℕ) → MarksFit kind (suc (length (neighbours k))) s ks₁
  room k q =
      let a = roomy lean (length ks) n w kind is q in
      let b = at_most_14 k in
      let c = held.count in
      let d = held.front.heap.counted in
      omega arith

  goes : (g : Going) → After (Fuller 15 s) g → (o : Result (ℕ × ℕ) Refusal) (ks' : List ℕ) (ds' es' : List Float) (cs' : List ℕ)
      → length ks' ≡ length ks₁
      → Left kind g o ks' ds' es' cs'
      → Goes g (went_of o kind) ks' ds' es' cs'
  unfolding Left Goes
  goes g most (Ok (n', w')) ks' ds' es' cs' long did = (
    did.0,
    (
      did.1.0,
      record {
        held = did.1.1;
        spare = λ q _.
            let a = roomy lean (length ks) n w kind is q in
            let b = after_on (Fuller 15 s) g did.0 most did.1.0 in
            let c = held.count in
            let d = held.front.heap.counted in
            let x = did.1.1.count in
            let y = did.1.1.front.heap.counted in
            omega arith;
      },
    ),
  )
  goes g most (Err why) ks' ds' es' cs' long did = did

  -- a seed is sown
  pub sown_goes :
      (t : Float) (x : Row)
      → is_seed t x ≡ true
      → (o : Result (ℕ × ℕ) Refusal) (ks' : List ℕ) (ds' es' : List Float) (cs' : List ℕ)
      → length ks' ≡ length ks₁
      → (Held kind s n ks₁ ds₁ w es cs
      → MarksFit kind (suc (length (neighbours x.key))) s ks₁
      → Left kind (sow neighbours (rooms_of ks₁ cs) (marched_row x.key x.distance) s) o ks' ds' es' cs')
      → (r : Result Pace Refusal)
      → r ≡ went_of o kind
      → Goes (sow_if t neighbours (rooms_of ks cs) x s) r ks' ds' es' cs'
  unfolding sow_if
  sown_goes t x seed o ks' ds' es' cs' long did r e =
      let q = marched_row x.key x.distance in
      subst (λ (r : Result Pace Refusal). Goes (sow_if t neighbours (rooms_of ks cs) x s) r ks' ds' es' cs') (sym e)
      (subst (λ (g : Going). Goes g (went_of o kind) ks' ds' es' cs') (sym (rw seed))
      (subst (λ (m : Rooms). Goes (sow neighbours m q s) (went_of o kind) ks' ds' es' cs') (same_rooms (rooms_of ks cs) ks₁ cs wide refl)
      (goes (sow neighbours (rooms_of ks₁ cs) q s) (sow_most (rooms_of ks₁ cs) q s) o ks' ds' es' cs' long (did held (room x.key)))))

  -- the first waiting cell is taken
  pub taken_goes :
      (c : Course)
      → 0 < w
      → (o : Result (ℕ × ℕ) Refusal) (ks' : List ℕ) (ds' es' : List Float) (cs' : List ℕ)
      → length ks' ≡ length ks₁
      → (Held kind s n ks₁ ds₁ w es cs
      → ((k : ℕ) → MarksFit kind (suc (length (neighbours k))) s ks₁)
      → Left kind (march.take (lattice_of c) (rooms_of ks₁ cs) s) o ks' ds' es' cs')
      → (r : Result Pace Refusal)
      → r ≡ went_of o kind
      → Goes (march.take (lattice_of c) (rooms_of ks cs) s) r ks' ds' es' cs'
  taken_goes c l o ks' ds' es' cs' long did r e =
      subst (λ (r : Result Pace Refusal). Goes (march.take (lattice_of c) (rooms_of ks cs) s) r ks' ds' es' cs') (sym e)
      (subst (λ (m : Rooms). Goes (march.take (lattice_of c) m s) (went_of o kind) ks' ds' es' cs') (same_rooms (rooms_of ks cs) ks₁ cs wide refl)
      (goes (march.take (lattice_of c) (rooms_of ks₁ cs) s) (take_most c (rooms_of ks₁ cs) s w held.front.heap.counted l) o ks' ds' es' cs' long
      (did held room)))
