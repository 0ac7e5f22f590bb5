-- The waiting cells stand in order, so the first is the least: estimates are numbers without a sign. Assumes nothing.
use mathlib.Core.Path.{◌≡◌, refl, subst}
use mathlib.Core.Bool.{Bool, true, false, cond, not, ◌&&◌, ◌||◌, true≢false, false≢true}
use mathlib.Core.List.{List, [], ◌∷◌}
use Prim.Native.Nat.{ℕ, zero, suc, ◌+◌, ◌*◌, ◌^◌, ◌<◌, ◌≤◌}
use native.Mathlib.Omega.{arith}
use borrow.Author.Tests.{ltb-true, ltb-false, le-ltb, eqb-true, eq-eqb}
use lib.Dec.{ltb, eqb}
use lib.IntN.{ℤ, negsuc}
use lib.ListN.{length}
use lib.Ieee.{Format, Float, nan, inf, fin, up, down, lt, eq, le, add, mul, sum, round, units, odd, prec, emax, low, of_bits, binary32}
use lib.Ieee.Fits.{down_pos, round_is}
use lib.Ieee.Positive.{through}
use Rattle.lists.specs.Lists.{All, insert}
use Rattle.floats.specs.Floats.{size_of}
use Rattle.table.specs.Table.{Row}
use Rattle.marching.specs.March.{MarchedRow, marched_row, Cell, cell, State, Field, Rooms, on, and_then, is_stored, store, cell_before, waits, wait, wait_all, is_seed, seeds, sow, sow_all, diagonal, settled, onward, spread, settle, visit, taking, take_up_to, nothing}
use Rattle.lists.proofs.Bools.{cases, and_first, or_first, or_second}
use Rattle.lists.proofs.Inserting.{insert_all}
use Rattle.marching.proofs.Sound.{After, after_then, after_cond}

-- ---- any order

module _ {A : Type 0} (before : A → A → Bool) where
  -- nothing later comes before anything earlier
  unfoldable pub Sorted : List A → Type 0
  Sorted [] = Unit
  Sorted (x ∷ xs) = All (λ (y : A). before y x ≡ false) xs × Sorted xs

module _ {A : Type 0} (before : A → A → Bool) (N : A → Type 0)
    (asym : (x y : A) → N x → N y → before x y ≡ true → before y x ≡ false)
    (trans : (x y z : A) → N x → N y → N z → before y x ≡ false → before z y ≡ false → before z x ≡ false) where
  all_trans : (x y : A) (l : List A) → N x → N y → All N l → before y x ≡ false → All (λ (z : A). before z y ≡ false) l → All (λ (z : A). before z x ≡ false) l
  unfolding All
  all_trans x y [] nx ny n h a = tt
  all_trans x y (z ∷ l) nx ny n h a = (trans x y z nx ny n.0 h a.0, all_trans x y l nx ny n.1 h a.1)

  pub insert_sorted : (x : A) (l : List A) → N x → All N l → Sorted before l → Sorted before (insert before x l)
  unfolding insert Sorted All
  insert_sorted x [] nx n s = (tt, tt)
  insert_sorted x (y ∷ ys) nx n s =
      cases (λ (b : Bool). Sorted before (cond b (y ∷ insert before x ys) (x ∷ (y ∷ ys)))) (before y x)
      (λ e. (insert_all before x (λ (z : A). before z y ≡ false) ys (asym y x n.0 nx e) s.0, insert_sorted x ys nx n.1 s.1))
      (λ e. ((e, all_trans x y ys nx n.0 n.1 e s.0), s))

-- ---- cells by estimate and key

-- a / c by a key k before b / d by a key l, where both are fractions
abbrev earlier : ℕ → ℕ → ℕ → ℕ → Bool
earlier a b k l = ltb a b || ((eqb a b && true) && ltb k l)

-- it is not: b is at most a, and where they are equal, l is at most k
not_earlier : (a b k l : ℕ) → earlier a b k l ≡ false → (b ≤ a) × (a ≡ b → l ≤ k)
not_earlier a b k l h = (
  ltb-false a b (or_first (ltb a b) ((eqb a b && true) && ltb k l) h),
  λ e. ltb-false k l (rest (eqb a b) (ltb k l) (eq-eqb a b e) (or_second (ltb a b) ((eqb a b && true) && ltb k l) h)),
)
  where
    rest : (x y : Bool) → x ≡ true → (x && true) && y ≡ false → y ≡ false
    rest true y p q = q
    rest false y p q = absurd (false≢true p)

is_not_earlier : (a b k l : ℕ) → b ≤ a → (a ≡ b → l ≤ k) → earlier a b k l ≡ false
is_not_earlier a b k l h g =
    rw (le-ltb a b h)
    (cases (λ (x : Bool). (x && true) && ltb k l ≡ false) (eqb a b) (λ e. le-ltb k l (g (eqb-true a b e))) (λ e. refl))

earlier_asym : (a b k l : ℕ) → earlier a b k l ≡ true → earlier b a l k ≡ false
earlier_asym a b k l h =
    is_not_earlier b a l k
    (cases (λ (x : Bool). x || ((eqb a b && true) && ltb k l) ≡ true → a ≤ b) (ltb a b)
    (λ e p. let q = ltb-true a b e in omega arith)
    (λ e p. let q = eqb-true a b (first (eqb a b) (ltb k l) p) in omega arith) h)
    (λ e.
    cases (λ (x : Bool). x || ((eqb a b && true) && ltb k l) ≡ true → k ≤ l) (ltb a b)
    (λ f p. absurd (let q = ltb-true a b f in omega arith))
    (λ f p. let q = ltb-true k l (second (eqb a b) (ltb k l) p) in omega arith) h)
  where
    first : (x y : Bool) → (x && true) && y ≡ true → x ≡ true
    first true y p = refl
    first false y p = absurd (false≢true p)

    second : (x y : Bool) → (x && true) && y ≡ true → y ≡ true
    second true y p = p
    second false y p = absurd (false≢true p)

-- fractions a / p, b / q, c / r
earlier_trans : (a p b q c r k l m : ℕ)
    → 0 < p
    → 0 < q
    → 0 < r
    → earlier (b * p) (a * q) l k ≡ false
    → earlier (c * q) (b * r) m l ≡ false
    → earlier (c * p) (a * r) m k ≡ false
earlier_trans a p b q c r k l m P Q R h g =
    let x = not_earlier (b * p) (a * q) l k h in
    let y = not_earlier (c * q) (b * r) m l g in
    is_not_earlier (c * p) (a * r) m k (through a b c p q r Q x.0 y.0)
    (λ e.
    let back : c * p ≤ a * r = omega arith in
    let u : b * p ≤ a * q = through b c a q r p R y.0 back in
    let v : c * q ≤ b * r = through c a b r p q P back x.0 in
    let s = x.1 (omega arith) in
    let t = y.1 (omega arith) in
    omega arith)

-- an estimate: a number or infinity without a sign
abbrev pub plain : Float → Bool
plain nan = false
plain (inf s) = not s
plain (fin s m e) = not s

asym : (x y : Float) (k l : ℕ) → plain x ≡ true → plain y ≡ true → lt x y || (eq x y && ltb k l) ≡ true → lt y x || (eq y x && ltb l k) ≡ false
unfolding lt eq
asym nan y k l p q h = absurd (false≢true p)
asym (inf true) y k l p q h = absurd (false≢true p)
asym (fin true m e) y k l p q h = absurd (false≢true p)
asym (inf false) nan k l p q h = absurd (false≢true q)
asym (inf false) (inf true) k l p q h = absurd (false≢true q)
asym (inf false) (inf false) k l p q h = le-ltb l k (let z = ltb-true k l h in omega arith)
asym (inf false) (fin true n d) k l p q h = absurd (false≢true q)
asym (inf false) (fin false n d) k l p q h = absurd (false≢true h)
asym (fin false m e) nan k l p q h = absurd (false≢true q)
asym (fin false m e) (inf true) k l p q h = absurd (false≢true q)
asym (fin false m e) (inf false) k l p q h = refl
asym (fin false m e) (fin true n d) k l p q h = absurd (false≢true q)
asym (fin false m e) (fin false n d) k l p q h = earlier_asym (m * up e * down d) (n * up d * down e) k l h

pub cell_asym : (c d : Cell) → plain c.estimate ≡ true → plain d.estimate ≡ true → cell_before c d ≡ true → cell_before d c ≡ false
cell_asym c d p q h = asym c.estimate d.estimate c.key d.key p q h

-- y not before x, z not before y
trans : (x y z : Float) (k l m : ℕ)
    → plain x ≡ true
    → plain y ≡ true
    → plain z ≡ true
    → lt y x || (eq y x && ltb l k) ≡ false
    → lt z y || (eq z y && ltb m l) ≡ false
    → lt z x || (eq z x && ltb m k) ≡ false
unfolding lt eq
trans nan y z k l m p q r h g = absurd (false≢true p)
trans (inf true) y z k l m p q r h g = absurd (false≢true p)
trans (fin true a e) y z k l m p q r h g = absurd (false≢true p)
trans (inf false) nan z k l m p q r h g = absurd (false≢true q)
trans (inf false) (inf true) z k l m p q r h g = absurd (false≢true q)
trans (inf false) (fin true b d) z k l m p q r h g = absurd (false≢true q)
trans (inf false) (inf false) nan k l m p q r h g = absurd (false≢true r)
trans (inf false) (inf false) (inf true) k l m p q r h g = absurd (false≢true r)
trans (inf false) (inf false) (fin true c f) k l m p q r h g = absurd (false≢true r)
trans (inf false) (inf false) (inf false) k l m p q r h g = le-ltb m k (let y = ltb-false l k h in let z = ltb-false m l g in omega arith)
trans (inf false) (inf false) (fin false c f) k l m p q r h g = absurd (true≢false g)
trans (inf false) (fin false b d) z k l m p q r h g = absurd (true≢false h)
trans (fin false a e) nan z k l m p q r h g = absurd (false≢true q)
trans (fin false a e) (inf true) z k l m p q r h g = absurd (false≢true q)
trans (fin false a e) (fin true b d) z k l m p q r h g = absurd (false≢true q)
trans (fin false a e) (inf false) nan k l m p q r h g = absurd (false≢true r)
trans (fin false a e) (inf false) (inf true) k l m p q r h g = absurd (false≢true r)
trans (fin false a e) (inf false) (fin true c f) k l m p q r h g = absurd (false≢true r)
trans (fin false a e) (inf false) (inf false) k l m p q r h g = refl
trans (fin false a e) (inf false) (fin false c f) k l m p q r h g = absurd (true≢false g)
trans (fin false a e) (fin false b d) nan k l m p q r h g = absurd (false≢true r)
trans (fin false a e) (fin false b d) (inf true) k l m p q r h g = absurd (false≢true r)
trans (fin false a e) (fin false b d) (fin true c f) k l m p q r h g = absurd (false≢true r)
trans (fin false a e) (fin false b d) (inf false) k l m p q r h g = refl
trans (fin false a e) (fin false b d) (fin false c f) k l m p q r h g =
    earlier_trans (a * up e) (down e) (b * up d) (down d) (c * up f) (down f) k l m (down_pos e) (down_pos d) (down_pos f) h g

pub cell_trans : (c d e : Cell)
    → plain c.estimate ≡ true
    → plain d.estimate ≡ true
    → plain e.estimate ≡ true
    → cell_before d c ≡ false
    → cell_before e d ≡ false
    → cell_before e c ≡ false
cell_trans c d e p q r h g = trans c.estimate d.estimate e.estimate c.key d.key e.key p q r h g

-- a cell put among ordered ones keeps the order, so the first stays the least
pub waiting_sorted : (c : Cell) (cs : List Cell)
    → plain c.estimate ≡ true
    → All (λ (d : Cell). plain d.estimate ≡ true) cs
    → Sorted cell_before cs
    → Sorted cell_before (insert cell_before c cs)
waiting_sorted c cs p a s = insert_sorted cell_before (λ (d : Cell). plain d.estimate ≡ true) cell_asym cell_trans c cs p a s

-- ---- estimates have no sign

odd_plain : (d q k l : ℕ) → plain (odd d false q k l) ≡ true
unfolding odd
odd_plain d zero k l = refl
odd_plain d (suc q) k l = refl

cond_plain : (b : Bool) (x y : Float) → plain x ≡ true → plain y ≡ true → plain (cond b x y) ≡ true
cond_plain true x y p q = p
cond_plain false x y p q = q

units_plain : (f : Format) (q k : ℕ) → plain (units f false q k) ≡ true
unfolding units
units_plain f q k =
    cond_plain (ltb (q * 2 ^ k) (2 ^ (low f + suc (emax f)))) (odd (suc (prec f)) false q k (low f)) (inf false) (odd_plain (suc (prec f)) q k (low f)) refl

round_plain : (f : Format) (n d : ℕ) → plain (round f false n d) ≡ true
round_plain f n d = rw round_is (units_plain f _ _)

add_plain : (x y : Float) → plain x ≡ true → plain y ≡ true → plain (add binary32 x y) ≡ true
unfolding add sum
add_plain nan y p q = absurd (false≢true p)
add_plain (inf true) y p q = absurd (false≢true p)
add_plain (fin true m e) y p q = absurd (false≢true p)
add_plain (inf false) nan p q = absurd (false≢true q)
add_plain (inf false) (inf true) p q = absurd (false≢true q)
add_plain (inf false) (inf false) p q = refl
add_plain (inf false) (fin t n d) p q = refl
add_plain (fin false m e) nan p q = absurd (false≢true q)
add_plain (fin false m e) (inf true) p q = absurd (false≢true q)
add_plain (fin false m e) (inf false) p q = refl
add_plain (fin false m e) (fin true n d) p q = absurd (false≢true q)
add_plain (fin false m e) (fin false n d) p q = round_plain binary32 (m * up e * down d + n * up d * down e) (down e * down d)

mul_plain : (m : ℕ) (e : ℤ) (n : ℕ) (d : ℤ) → plain (mul binary32 (fin false m e) (fin false n d)) ≡ true
unfolding mul
mul_plain m e n d = round_plain binary32 (m * up e * (n * up d)) (down e * down d)

-- the diagonal is 14529495 / 2 ^ 23
step_plain : (size : Float) → plain size ≡ true → plain (mul binary32 diagonal size) ≡ true
unfolding mul of_bits
step_plain nan p = absurd (false≢true p)
step_plain (inf true) p = absurd (false≢true p)
step_plain (inf false) p = refl
step_plain (fin true n d) p = absurd (false≢true p)
step_plain (fin false n d) p = mul_plain 14529495 (negsuc 22) n d

onward_plain : (f : Field) (d : Float) → plain f.size ≡ true → le (onward f d) f.most ≡ true → plain (onward f d) ≡ true
unfolding add le lt eq
onward_plain f nan p h = absurd (false≢true h)
onward_plain f (inf s) p h = add_plain (inf false) (mul binary32 diagonal f.size) refl (step_plain f.size p)
onward_plain f (fin s m e) p h = add_plain (fin false m e) (mul binary32 diagonal f.size) refl (step_plain f.size p)

size_plain : (x t : Float) → lt (size_of x) t ≡ true → plain (size_of x) ≡ true
unfolding lt
size_plain nan t h = absurd (false≢true h)
size_plain (inf s) t h = refl
size_plain (fin s m e) t h = refl

seeds_plain : (t : Float) (rs : List Row) → All (λ (r : MarchedRow). plain (size_of r.distance) ≡ true) (seeds t rs)
unfolding seeds All
seeds_plain t [] = tt
seeds_plain t (r ∷ rs) =
    cases (λ (b : Bool).
    All (λ (r : MarchedRow). plain (size_of r.distance) ≡ true)
    (cond b (marched_row r.key r.distance ∷ seeds t rs) (seeds t rs))) (is_seed t r)
    (λ e. (size_plain r.distance t (and_first _ _ e), seeds_plain t rs))
    (λ e. seeds_plain t rs)

-- ---- every step keeps the order

pub record InOrder (s : State) : Type 0 where
  pub plain : All (λ (c : Cell). plain c.estimate ≡ true) s.waiting
  pub sorted : Sorted cell_before s.waiting

module _ (f : Field) (m : Rooms) (size : plain f.size ≡ true) where
  wait_order : (e : Float) (k : ℕ) (s : State) → plain e ≡ true → InOrder s → After InOrder (wait m.cells e k s)
  unfolding wait After
  wait_order e k s p h =
      after_cond InOrder (is_stored k s.stored || waits k s.waiting) _ _ (λ _. h)
      (λ _. after_cond InOrder (ltb (length s.waiting) m.cells) _ _
      (λ _.
      record {
        plain =
            insert_all cell_before (cell e k) (λ (c : Cell). plain c.estimate ≡ true) s.waiting p h.plain;
        sorted = waiting_sorted (cell e k) s.waiting p h.plain h.sorted;
      })
      (λ _. tt))

  wait_all-order : (e : Float) (ks : List ℕ) (s : State) → plain e ≡ true → InOrder s → After InOrder (wait_all m.cells e ks s)
  unfolding wait_all After
  wait_all-order e [] s p h = h
  wait_all-order e (k ∷ ks) s p h = after_then InOrder InOrder (wait m.cells e k s) _ (wait_order e k s p h) (λ t u. wait_all-order e ks t p u)

  store_order : (r : MarchedRow) (s : State) → InOrder s → After InOrder (store m.rows r s)
  unfolding store After
  store_order r s h = after_cond InOrder (ltb (length s.stored) m.rows) _ _ (λ _. record { plain = h.plain; sorted = h.sorted }) (λ _. tt)

  sow_all-order : (rs : List MarchedRow) (s : State)
      → All (λ (r : MarchedRow). plain (size_of r.distance) ≡ true) rs
      → InOrder s
      → After InOrder (sow_all f.near m rs s)
  unfolding sow_all sow After All
  sow_all-order [] s p h = h
  sow_all-order (r ∷ rs) s p h =
      after_then InOrder InOrder (sow f.near m r s) _
      (after_then InOrder InOrder (store m.rows r s) _ (store_order r s h) (λ t u. wait_all-order _ _ t p.0 u))
      (λ t u. sow_all-order rs t p.1 u)

  spread_order : (r : MarchedRow) (s : State) → InOrder s → After InOrder (spread f m.cells r s)
  unfolding spread After
  spread_order r s h =
      after_cond InOrder (le (onward f r.distance) f.most) (wait_all m.cells (onward f r.distance) (f.near r.key) s) (on s)
      (λ e. wait_all-order _ _ s (onward_plain f r.distance size e) h) (λ e. h)

  visit_order : (k : ℕ) (s : State) → InOrder s → After InOrder (visit f m k s)
  unfolding visit settle After
  visit_order k s h =
      let r = marched_row k (settled f s.stored k) in
      after_cond InOrder (is_stored k s.stored) _ _ (λ _. h)
      (λ _. after_then InOrder InOrder (store m.rows r s) _ (store_order r s h) (λ t u. spread_order r t u))

  taking_order : (cs : List Cell) (s : State)
      → All (λ (c : Cell). plain c.estimate ≡ true) cs
      → Sorted cell_before cs
      → InOrder s
      → After InOrder (taking f m cs s)
  unfolding taking After All Sorted
  taking_order [] s p o h = h
  taking_order (c ∷ cs) s p o h = visit_order c.key _ (record { plain = p.1; sorted = o.1 })

  take_up_to-order : (n : ℕ) (s : State) → InOrder s → After InOrder (take_up_to f m n s)
  unfolding take_up_to After
  take_up_to-order zero s h = h
  take_up_to-order (suc n) s h =
      after_then InOrder InOrder (taking f m s.waiting s) _ (taking_order s.waiting s h.plain h.sorted h)
      (take_up_to-order n)

  -- after the seeds and any number of takings
  pub march_order : (t : Float) (rs : List Row) (n : ℕ) → After InOrder (and_then (sow_all f.near m (seeds t rs) nothing) (take_up_to f m n))
  unfolding All Sorted
  march_order t rs n =
      after_then InOrder InOrder (sow_all f.near m (seeds t rs) nothing) _
      (sow_all-order (seeds t rs) nothing (seeds_plain t rs) (record { plain = tt; sorted = tt })) (take_up_to-order n)

-- no waiting cell comes before the first: the first is the least (estimate, key)
pub first_least : (s : State) (c : Cell) (cs : List Cell) → InOrder s → s.waiting ≡ c ∷ cs → All (λ (d : Cell). cell_before d c ≡ false) cs
unfolding Sorted
first_least s c cs h e = let x : Sorted cell_before (c ∷ cs) = subst (Sorted cell_before) e h.sorted in x.0
