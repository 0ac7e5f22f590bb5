-- Every waiting cell has a stored neighbour, so a settled cell's distance is what one says of it, never the value that the search starts at.
-- Assumes nothing.
use Rattle.std.specs.Prelude.{None, Option, Some}
use mathlib.Core.Path.{◌≡◌, refl, sym, ap, subst, ◌∙◌}
use mathlib.Core.Logic.{◌⊎◌, inl, inr, ⊎_elim}
use mathlib.Core.Bool.{Bool, true, false, cond, ◌||◌, or-true, true≢false}
use mathlib.Core.List.Memᴰ
use mathlib.Core.List.{List, [], ◌∷◌}
use Prim.Native.Nat.{ℕ, zero, suc}
use native.Mathlib.Omega.{arith}
use borrow.Author.Tests.{eqb-true, eq-eqb}
use lib.Dec.{ltb, eqb}
use lib.ListN.{length}
use lib.Ieee.{Float, lt, le}
use Rattle.floats.specs.Floats.{largest, size_of}
use Rattle.lists.specs.Lists.{◌∈◌, All, insert}
use Rattle.lists.proofs.Bools.{cases, or_second}
use Rattle.lists.proofs.Inserting.{among, insert_all}
use Rattle.search.specs.Keys.{member}
use Rattle.marching.specs.March.{MarchedRow, marched_row, Cell, cell, State, state, Field, Rooms, on, row_before, distance_of, is_stored, store, cell_before, waits, wait, wait_all, sow, sow_all, candidate, better, heard, settling, settled, onward, spread, settle, visit, taking, take_up_to, nothing, march}
use Rattle.marching.specs.Promises.{Said, From}
use Rattle.marching.proofs.KeysOnce.{insert_member}
use Rattle.marching.proofs.Sound.{After, after_then, after_cond, after_weaken}
use Rattle.marching.proofs.Spreading.{no_stored}

-- ---- lists

pub all_map : {A : Type 0} (P Q : A → Type 0) (l : List A) → ((x : A) → P x → Q x) → All P l → All Q l
unfolding All
all_map P Q [] h a = tt
all_map P Q (x ∷ xs) h a = (h x a.0, all_map P Q xs h a.1)

-- ---- what is stored

-- a cell that has a distance is stored (one that has none is not: no_stored)
stored_distance : (k : ℕ) (rs : List MarchedRow) {d : Float} → distance_of k rs ≡ Some d → is_stored k rs ≡ true
unfolding distance_of member
stored_distance k [] {d} h = absurd (let z : ◌≡◌ {A = ℕ} 0 1 = cc in omega arith)
stored_distance k (r ∷ rs) {d} h =
    cases (λ (b : Bool). cond b (Some r.distance) (distance_of k rs) ≡ Some d → b || is_stored k rs ≡ true) (eqb r.key k)
    (λ e g. refl) (λ e g. stored_distance k rs g) h

-- what holds of every row holds of the one with this distance
at_distance : (P : Float → Type 0) (k : ℕ) (rs : List MarchedRow) {d : Float} → distance_of k rs ≡ Some d → All (λ (r : MarchedRow). P r.distance) rs → P d
unfolding distance_of All
at_distance P k [] {d} h a = absurd (let z : ◌≡◌ {A = ℕ} 0 1 = cc in omega arith)
at_distance P k (r ∷ rs) {d} h a =
    cases (λ (b : Bool). cond b (Some r.distance) (distance_of k rs) ≡ Some d → P d) (eqb r.key k)
    (λ e g. let q : r.distance ≡ d = cc in subst P q a.0) (λ e g. at_distance P k rs g a.1) h

-- ---- one row more

stored_grows : (l : ℕ) (r : MarchedRow) (rs : List MarchedRow) → is_stored l rs ≡ true → is_stored l (insert row_before r rs) ≡ true
stored_grows l r rs h = insert_member row_before r (λ (x : MarchedRow). x.key) l rs ∙ rw h (or-true (eqb r.key l))

stored_new : (r : MarchedRow) (rs : List MarchedRow) → is_stored r.key (insert row_before r rs) ≡ true
stored_new r rs = insert_member row_before r (λ (x : MarchedRow). x.key) r.key rs ∙ rw (eq-eqb r.key r.key refl)

distance_grows :
    (n : ℕ) (r : MarchedRow) (rs : List MarchedRow) {d : Float}
    → is_stored r.key rs ≡ false
    → distance_of n rs ≡ Some d
    → distance_of n (insert row_before r rs) ≡ Some d
unfolding distance_of insert member
distance_grows n r [] {d} o h = absurd (let z : ◌≡◌ {A = ℕ} 0 1 = cc in omega arith)
distance_grows n r (s ∷ rs) {d} o h =
    cases (λ (b : Bool). distance_of n (cond b (s ∷ insert row_before r rs) (r ∷ (s ∷ rs))) ≡ Some d) (ltb s.key r.key)
    (λ e.
    cases (λ (b : Bool).
    cond b (Some s.distance) (distance_of n rs) ≡ Some d
    → cond b (Some s.distance) (distance_of n (insert row_before r rs)) ≡ Some d) (eqb s.key n)
    (λ f g. g) (λ f g. distance_grows n r rs (or_second (eqb s.key r.key) (is_stored r.key rs) o) g) h)
    (λ e.
    cases (λ (b : Bool). eqb r.key n ≡ b → cond b (Some r.distance) (distance_of n (s ∷ rs)) ≡ Some d) (eqb r.key n)
    (λ _ f. absurd (true≢false (sym (stored_distance n (s ∷ rs) h) ∙ subst (λ (j : ℕ). is_stored j (s ∷ rs) ≡ false) (eqb-true r.key n f) o)))
    (λ _ f. h)
    refl)

-- ---- settling

module _ (f : Field) (rs : List MarchedRow) (k : ℕ) where
  -- what holds of the best so far and of all that is said holds of what wins
  settling_any : (Q : Float → Type 0) (p : ℕ) (best : Float) (ns : List ℕ) → Q best → ((x : Float) → Said f rs k p ns x → Q x) → Q (settling f rs k p best ns)
  unfolding settling Said heard
  settling_any Q p best [] h a = h
  settling_any Q p best (n ∷ ns) h a =
      settling_any Q (suc p) (heard f.size (f.reach k p) best (distance_of n rs)) ns (one (distance_of n rs) refl) (λ x s. a x (inr s))
    where
      one : (o : Option Float) → distance_of n rs ≡ o → Q (heard f.size (f.reach k p) best o)
      one None e = h
      one (Some d) e =
          cases (λ (b : Bool). Q (cond b (candidate f.size (f.reach k p) d) best)) (lt (size_of (candidate f.size (f.reach k p) d)) (size_of best))
          (λ g. a _ (inl (d, (e, refl)))) (λ g. h)

-- what every row says is smaller than the largest float
abbrev pub Sure : Field → Float → Type 0
Sure f d = (k p : ℕ) → lt (size_of (candidate f.size (f.reach k p) d)) (size_of largest) ≡ true

-- some neighbour of k is stored
abbrev pub Beside : Field → List MarchedRow → ℕ → Type 0
Beside f rs k = (l : ℕ) × ((l ∈ f.near k) × (is_stored l rs ≡ true))

-- then what wins was said by one
settling_said :
    (f : Field) (rs : List MarchedRow) (k p : ℕ) (ns : List ℕ) (l : ℕ)
    → l ∈ ns
    → is_stored l rs ≡ true
    → All (λ (r : MarchedRow). Sure f r.distance) rs
    → Said f rs k p ns (settling f rs k p largest ns)
unfolding settling Said heard
settling_said f rs k p [] l i h a = absurd (Memᴰ.not-nil i)
settling_said f rs k p (n ∷ ns) l i h a = one (distance_of n rs) refl (λ j. settling_said f rs k (suc p) ns l j h a)
  where
    one :
        (o : Option Float)
        → distance_of n rs ≡ o
        → (l ∈ ns → Said f rs k (suc p) ns (settling f rs k (suc p) largest ns))
        → Said f rs k p (n ∷ ns) (settling f rs k (suc p) (heard f.size (f.reach k p) largest o) ns)
    one None e later =
        inr (later (⊎_elim (λ (q : l ≡ n).
        absurd (true≢false (sym h ∙ ap (λ (x : ℕ). is_stored x rs) q ∙ no_stored n rs e))) (λ j. j)
        (Memᴰ.cases_cons i)))
    one (Some d) e later =
        let c = candidate f.size (f.reach k p) d in
        let w : lt (size_of c) (size_of largest) ≡ true = at_distance (Sure f) n rs e a k p in
        let b : better largest c ≡ c = rw w in
        rw b (settling_any f rs k (λ (x : Float). Said f rs k p (n ∷ ns) x) (suc p) c ns (inl (d, (e, refl))) (λ x s. inr s))

said_grows :
    (f : Field) (r : MarchedRow) (rs : List MarchedRow)
    → is_stored r.key rs ≡ false
    → (k p : ℕ) (ns : List ℕ) (x : Float)
    → Said f rs k p ns x
    → Said f (insert row_before r rs) k p ns x
unfolding Said
said_grows f r rs o k p [] x s = s
said_grows f r rs o k p (n ∷ ns) x s =
    ⊎_elim (λ t. inl (t.0, (distance_grows n r rs o t.1.0, t.1.1))) (λ t. inr (said_grows f r rs o k (suc p) ns x t)) s

-- ---- the steps

module _ (f : Field) (m : Rooms) (back : (k l : ℕ) → l ∈ f.near k → k ∈ f.near l) (new : (ts : List MarchedRow) (k : ℕ) → Sure f (settled f ts k)) where
  -- these rows are stored, and every waiting cell has a neighbour among them
  record WaitOn (ts : List MarchedRow) (s : State) : Type 0 where
    rows : s.stored ≡ ts
    cells : All (λ (c : Cell). Beside f ts c.key) s.waiting

  wait_on : (ts : List MarchedRow) (e : Float) (k : ℕ) (s : State) → Beside f ts k → WaitOn ts s → After (WaitOn ts) (wait m.cells e k s)
  unfolding wait After
  wait_on ts e k s b h =
      after_cond (WaitOn ts) (is_stored k s.stored || waits k s.waiting) _ _ (λ _. h)
      (λ _. after_cond (WaitOn ts) (ltb (length s.waiting) m.cells) _ _
      (λ _. record { rows = h.rows; cells = insert_all cell_before (cell e k) (λ (c : Cell). Beside f ts c.key) s.waiting b h.cells })
      (λ _. tt))

  wait_all-on : (ts : List MarchedRow) (e : Float) (ks : List ℕ) (s : State) → All (Beside f ts) ks → WaitOn ts s → After (WaitOn ts) (wait_all m.cells e ks s)
  unfolding wait_all After All
  wait_all-on ts e [] s b h = h
  wait_all-on ts e (k ∷ ks) s b h =
      after_then (WaitOn ts) (WaitOn ts) (wait m.cells e k s) _ (wait_on ts e k s b.0 h) (λ t u. wait_all-on ts e ks t b.1 u)

  -- the neighbours of a new row have one stored
  near_beside : (r : MarchedRow) (rs : List MarchedRow) → All (Beside f (insert row_before r rs)) (f.near r.key)
  near_beside r rs = among (Beside f (insert row_before r rs)) (f.near r.key) (λ k i. (r.key, (back r.key k i, stored_new r rs)))

  beside_grows :
      (r : MarchedRow) (rs : List MarchedRow) (cs : List Cell)
      → All (λ (c : Cell). Beside f rs c.key) cs
      → All (λ (c : Cell). Beside f (insert row_before r rs) c.key) cs
  beside_grows r rs cs a =
      all_map (λ (c : Cell). Beside f rs c.key) (λ (c : Cell). Beside f (insert row_before r rs) c.key) cs
      (λ c b. (b.0, (b.1.0, stored_grows b.0 r rs b.1.1))) a

  store_on :
      (r : MarchedRow) (s : State)
      → All (λ (c : Cell). Beside f s.stored c.key) s.waiting
      → After (WaitOn (insert row_before r s.stored)) (store m.rows r s)
  unfolding store After
  store_on r s a =
      after_cond (WaitOn (insert row_before r s.stored)) (ltb (length s.stored) m.rows) _ _
      (λ _. record { rows = refl; cells = beside_grows r s.stored s.waiting a }) (λ _. tt)

  spread_on :
      (ts : List MarchedRow) (r : MarchedRow) (s : State)
      → All (Beside f ts) (f.near r.key)
      → WaitOn ts s
      → After (WaitOn ts) (spread f m.cells r s)
  unfolding spread After
  spread_on ts r s b h =
      after_cond (WaitOn ts) (le (onward f r.distance) f.most) (wait_all m.cells (onward f r.distance) (f.near r.key) s) (on s)
      (λ _. wait_all-on ts _ _ s b h) (λ _. h)

  module _ (rs₀ : List MarchedRow) (sure₀ : All (λ (r : MarchedRow). Sure f r.distance) rs₀) where
    abbrev Good : List MarchedRow → MarchedRow → Type 0
    Good ts r = (r ∈ rs₀) ⊎ From f ts r

    record Fine (s : State) : Type 0 where
      rows : All (Good s.stored) s.stored
      sure : All (λ (r : MarchedRow). Sure f r.distance) s.stored
      cells : All (λ (c : Cell). Beside f s.stored c.key) s.waiting

    -- from the rows that are stored
    fine_on : (ts : List MarchedRow) → All (Good ts) ts → All (λ (r : MarchedRow). Sure f r.distance) ts → (s : State) → WaitOn ts s → Fine s
    fine_on ts a b s w =
        record {
          rows = rw w.rows a;
          sure = rw w.rows b;
          cells = rw w.rows w.cells;
        }

    -- while seeds are sown, all rows are seeds
    record Begun (s : State) : Type 0 where
      rows : All (λ (r : MarchedRow). (r ∈ rs₀) × Sure f r.distance) s.stored
      cells : All (λ (c : Cell). Beside f s.stored c.key) s.waiting

    sow_all-begun :
        (rs : List MarchedRow) (s : State)
        → All (λ (r : MarchedRow). (r ∈ rs₀) × Sure f r.distance) rs
        → Begun s
        → After Begun (sow_all f.near m rs s)
    unfolding sow_all sow After All
    sow_all-begun [] s a h = h
    sow_all-begun (r ∷ rs) s a h =
        let ts = insert row_before r s.stored in
        after_then Begun Begun (sow f.near m r s) _
        (after_weaken (WaitOn ts) Begun (sow f.near m r s)
        (λ t w.
        record {
          rows =
              rw w.rows
              (insert_all row_before r (λ (x : MarchedRow). (x ∈ rs₀) × Sure f x.distance) s.stored a.0
              h.rows);
          cells = rw w.rows w.cells;
        })
        (after_then (WaitOn ts) (WaitOn ts) (store m.rows r s) _ (store_on r s h.cells) (λ t w. wait_all-on ts _ _ t (near_beside r s.stored) w)))
        (λ t u. sow_all-begun rs t a.1 u)

    begun_fine : (s : State) → Begun s → Fine s
    begun_fine s h =
        record {
          rows = all_map (λ (r : MarchedRow). (r ∈ rs₀) × Sure f r.distance) (Good s.stored) s.stored (λ r p. inl p.0) h.rows;
          sure = all_map (λ (r : MarchedRow). (r ∈ rs₀) × Sure f r.distance) (λ (r : MarchedRow). Sure f r.distance) s.stored (λ r p. p.1) h.rows;
          cells = h.cells;
        }

    -- a cell beside a stored one is settled from what one says
    settled_from :
        (rs : List MarchedRow) (k : ℕ)
        → Beside f rs k
        → All (λ (r : MarchedRow). Sure f r.distance) rs
        → is_stored k rs ≡ false
        → From f (insert row_before (marched_row k (settled f rs k)) rs) (marched_row k (settled f rs k))
    unfolding settled
    settled_from rs k b a o = (
      settling f rs k 0 largest (f.near k),
      (
        said_grows f (marched_row k (settled f rs k)) rs o k 0 (f.near k) _ (settling_said f rs k 0 (f.near k) b.0 b.1.0 b.1.1 a),
        refl,
      ),
    )

    good_grows : (r : MarchedRow) (rs : List MarchedRow) → is_stored r.key rs ≡ false → All (Good rs) rs → All (Good (insert row_before r rs)) rs
    good_grows r rs o a =
        all_map (Good rs) (Good (insert row_before r rs)) rs
        (λ x g. ⊎_elim (λ i. inl i) (λ t. inr (t.0, (said_grows f r rs o x.key 0 (f.near x.key) t.0 t.1.0, t.1.1))) g) a

    visit_fine : (k : ℕ) (s : State) → Beside f s.stored k → Fine s → After Fine (visit f m k s)
    unfolding visit settle After
    visit_fine k s b h =
        let r = marched_row k (settled f s.stored k) in
        let ts = insert row_before r s.stored in
        after_cond Fine (is_stored k s.stored) _ _ (λ _. h)
        (λ o. after_weaken (WaitOn ts) Fine (settle f m k s)
        (fine_on ts
        (insert_all row_before r (Good ts) s.stored (inr (settled_from s.stored k b h.sure o)) (good_grows r s.stored o h.rows))
        (insert_all row_before r (λ (x : MarchedRow). Sure f x.distance) s.stored (new s.stored k) h.sure))
        (after_then (WaitOn ts) (WaitOn ts) (store m.rows r s) (spread f m.cells r) (store_on r s h.cells)
        (λ t w. spread_on ts r t (near_beside r s.stored) w)))

    taking_fine : (cs : List Cell) (s : State) → All (λ (c : Cell). Beside f s.stored c.key) cs → Fine s → After Fine (taking f m cs s)
    unfolding taking After All
    taking_fine [] s a h = h
    taking_fine (c ∷ cs) s a h = visit_fine c.key (state s.stored cs (suc s.takings)) a.0 (record { rows = h.rows; sure = h.sure; cells = a.1 })

    take_up_to-fine : (n : ℕ) (s : State) → Fine s → After Fine (take_up_to f m n s)
    unfolding take_up_to After
    take_up_to-fine zero s h = h
    take_up_to-fine (suc n) s h = after_then Fine Fine (taking f m s.waiting s) _ (taking_fine s.waiting s h.cells h) (take_up_to-fine n)

    -- every marched row is a seed, or has its distance from a stored neighbour
    pub march_said : After (λ s. All (λ (r : MarchedRow). (r ∈ rs₀) ⊎ From f s.stored r) s.stored) (march f m rs₀)
    unfolding march All
    march_said =
        after_weaken Fine (λ s. All (Good s.stored) s.stored) (march f m rs₀) (λ s h. h.rows)
        (after_then Begun Fine (sow_all f.near m rs₀ nothing) _
        (sow_all-begun rs₀ nothing (both rs₀ (λ r i. i) sure₀) (record { rows = tt; cells = tt }))
        (λ s h. take_up_to-fine (suc m.rows) s (begun_fine s h)))
      where
        both :
            (l : List MarchedRow)
            → ((r : MarchedRow) → r ∈ l → r ∈ rs₀)
            → All (λ (r : MarchedRow). Sure f r.distance) l
            → All (λ (r : MarchedRow). (r ∈ rs₀) × Sure f r.distance) l
        both [] g a = tt
        both (r ∷ l) g a = ((g r (Memᴰ.head refl), a.0), both l (λ x i. g x (Memᴰ.tail i)) a.1)
