-- Loops that put triangles: what is left to put says what the whole says.
-- Assumes nothing.
use Prim.Native.Nat.{ℕ, zero, suc, ◌+◌, ◌<◌, ◌≤◌}
use native.Mathlib.Nat.{le_of_suc-le-suc}
use native.Mathlib.Numerals.{add-one}
use native.Mathlib.Omega.{arith}
use mathlib.Core.Path.{◌≡◌, refl, sym, ap, ◌∙◌}
use mathlib.Core.Bool.{Bool, false}
use mathlib.Core.List.{List, [], ◌∷◌, ◌++◌, map, map-append, append_assoc}
use lib.ListN.{length, get_or, drop, length-append, length-map, drop_of_length-le}
use lib.Seq.{sets}
use Rattle.lists.specs.Lists.{joined}
use Rattle.lists.specs.Threes.{Three, three, with_third, with_two, threes}
use Rattle.lists.proofs.Parts.{Written, written_more}
use Rattle.lists.proofs.Putting.{Putting, begun, ended}
use Rattle.neighbors.specs.Neighbors.{adjacent}
use Rattle.edges.specs.Edges.{Edge}
use Rattle.tetrahedra.specs.Near.{close}
use Rattle.cuts.specs.Patches.{patch_by, triangles_of_patch, triangles_by}
use Rattle.cutting.specs.Corners.{Sided, sided_by, sided_at, cut_with, cuts_of}
use Rattle.cutting.specs.Steps.{Puts}

-- `whole`, put from `at` on, is what is put now and `rest`, from `end` on
pub record Going (whole : List (Three ℕ)) (at : ℕ) (x y z : List ℕ) (rest : List (Three ℕ)) (end : ℕ) (x' y' z' : List ℕ) : Type 0 where
  pub count : at + length whole ≡ end + length rest
  pub putting : Putting whole at x y z rest end x' y' z'

module _ (whole : List (Three ℕ)) (at : ℕ) (x y z : List ℕ) where
  pub going_begun : Going whole at x y z whole at x y z
  going_begun = record { count = refl; putting = begun whole at x y z }

  module _ (rest : List (Three ℕ)) (end : ℕ) (x' y' z' : List ℕ) (w : Going whole at x y z rest end x' y' z') where
    -- one column
    more_column :
        (f : Three ℕ → ℕ) (some rest' : List (Three ℕ))
        → rest ≡ some ++ rest'
        → (l l' l'' : List ℕ)
        → Written (map f whole) at l (map f rest) end l'
        → l'' ≡ sets l' end (map f some)
        → Written (map f whole) at l (map f rest') (end + length some) l''
    more_column f some rest' e l l' l'' v q =
        rw (q, ← length-map some f)
        (written_more (map f whole) at l (map f rest) end l' (map f some) (map f rest') (ap (map f) e ∙ map-append f some rest') v)

    -- some more are put
    pub going_more : (some rest' : List (Three ℕ))
        → rest ≡ some ++ rest'
        → (end' : ℕ) (x'' y'' z'' : List ℕ)
        → Puts some end x' y' z' end' x'' y'' z''
        → Going whole at x y z rest' end' x'' y'' z''
    going_more some rest' e end' x'' y'' z'' p =
        rw p.count
        (record {
          count = omega (arith, w.count, ap length e, length-append some rest');
          putting =
              record {
                ones = more_column (λ (t : Three ℕ). t.a) some rest' e x x' x'' w.putting.ones p.ones;
                twos = more_column (λ (t : Three ℕ). t.b) some rest' e y y' y'' w.putting.twos p.twos;
                threes = more_column (λ (t : Three ℕ). t.c) some rest' e z z' z'' w.putting.threes p.threes;
              };
        })

    -- the same is left
    pub going_same : (rest' : List (Three ℕ)) → rest ≡ rest' → Going whole at x y z rest' end x' y' z'
    going_same rest' e = rw e at w

    -- nothing is left
    pub going_done : rest ≡ [] → Puts whole at x y z end x' y' z'
    going_done e =
        let p = ended whole at x y z rest end x' y' z' w.putting e in
        record { count = omega (arith, w.count, ap length e); ones = p.0; twos = p.1.0; threes = p.1.1 }

-- ---- keys beside their sides, one by one

pub sided_long : (hs : List ℕ) (ss : List Bool) → length ss ≡ length hs → length (sided_by hs ss) ≡ length hs
unfolding sided_by
sided_long [] ss e = refl
sided_long (h ∷ hs) [] e = absurd (omega arith)
sided_long (h ∷ hs) (s ∷ ss) e = ap suc (sided_long hs ss (omega arith))

sided_suc :
    (hs : List ℕ) (ss : List Bool)
    → length ss ≡ length hs
    → (i : ℕ)
    → i < length hs
    → drop i (sided_by hs ss) ≡ sided_at hs ss i ∷ drop (suc i) (sided_by hs ss)
unfolding sided_by
sided_suc [] ss e i l = absurd (omega arith)
sided_suc (h ∷ hs) [] e i l = absurd (omega arith)
sided_suc (h ∷ hs) (s ∷ ss) e zero l = refl
sided_suc (h ∷ hs) (s ∷ ss) e (suc i) l = sided_suc hs ss (omega arith) i (le_of_suc-le-suc l)

sided_next :
    (hs : List ℕ) (ss : List Bool)
    → length ss ≡ length hs
    → (i : ℕ)
    → i < length hs
    → drop i (sided_by hs ss) ≡ sided_at hs ss i ∷ drop (i + 1) (sided_by hs ss)
sided_next hs ss e i l = rw (add-one i) (sided_suc hs ss e i l)

pub joined_append : {A B : Type 0} (f : A → List B) (l m : List A) → joined f (l ++ m) ≡ joined f l ++ joined f m
unfolding joined
joined_append f [] m = refl
joined_append f (x ∷ l) m = ap (λ (r : List _). f x ++ r) (joined_append f l m) ∙ sym (append_assoc (f x) (joined f l) (joined f m))

-- ---- what is left in each of three loops

module _ (es : List Edge) (own : Sided) (hs : List ℕ) (ss : List Bool) where
  abbrev pub third_from : ℕ → ℕ → ℕ → List (Three ℕ)
  third_from i j l = cuts_of es own (with_third (sided_at hs ss i) (sided_at hs ss j) (drop l (sided_by hs ss)))

  abbrev pub second_from : ℕ → ℕ → List (Three ℕ)
  second_from i j = cuts_of es own (with_two (sided_at hs ss i) (drop j (sided_by hs ss)))

  abbrev pub first_from : ℕ → List (Three ℕ)
  first_from i = cuts_of es own (threes (drop i (sided_by hs ss)))

module _ (es : List Edge) (own : Sided) (hs : List ℕ) (ss : List Bool) (even : length ss ≡ length hs) where
  abbrev ps : List Sided
  ps = sided_by hs ss

  abbrev corner : ℕ → Sided
  corner = sided_at hs ss

  gone : (i : ℕ) → length hs ≤ i → drop i ps ≡ []
  gone i h = drop_of_length-le ps {i = i} (rw (sided_long hs ss even) h)

  pub third_next : (i j l : ℕ) → l < length hs
      → third_from es own hs ss i j l ≡ triangles_by es (cut_with own (three (corner i) (corner j) (corner l))) ++ third_from es own hs ss i j (l + 1)
  unfolding with_third joined
  third_next i j l h = ap (λ (r : List Sided). cuts_of es own (with_third (corner i) (corner j) r)) (sided_next hs ss even l h)

  pub third_left : (i j l : ℕ) → length hs ≤ l → third_from es own hs ss i j l ≡ []
  unfolding with_third joined
  third_left i j l h = ap (λ (r : List Sided). cuts_of es own (with_third (corner i) (corner j) r)) (gone l h)

  pub second_next : (i j : ℕ) → j < length hs → second_from es own hs ss i j ≡ third_from es own hs ss i j (j + 1) ++ second_from es own hs ss i (j + 1)
  unfolding with_two
  second_next i j h =
      ap (λ (r : List Sided). cuts_of es own (with_two (corner i) r)) (sided_next hs ss even j h)
      ∙ joined_append (λ (t : Three Sided). triangles_by es (cut_with own t)) (with_third (corner i) (corner j) (drop (j + 1) ps))
      (with_two (corner i) (drop (j + 1) ps))

  -- two that are not adjacent make no tetrahedron with any third
  none_with : (p q : Sided) → adjacent p.key q.key ≡ false → (l : List Sided) → cuts_of es own (with_third p q l) ≡ []
  unfolding with_third joined cut_with close triangles_by patch_by triangles_of_patch
  none_with p q e [] = refl
  none_with p q e (r ∷ l) = rw e (none_with p q e l)

  pub second_skip : (i j : ℕ)
      → j < length hs
      → adjacent (get_or hs i 0) (get_or hs j 0) ≡ false
      → second_from es own hs ss i j ≡ second_from es own hs ss i (j + 1)
  second_skip i j h e =
      second_next i j h
      ∙ ap (λ (r : List (Three ℕ)). r ++ second_from es own hs ss i (j + 1)) (none_with (corner i) (corner j) e (drop (j + 1) ps))

  pub second_left : (i j : ℕ) → length hs ≤ j → second_from es own hs ss i j ≡ []
  unfolding with_two joined
  second_left i j h = ap (λ (r : List Sided). cuts_of es own (with_two (corner i) r)) (gone j h)

  pub first_next : (i : ℕ) → i < length hs → first_from es own hs ss i ≡ second_from es own hs ss i (i + 1) ++ first_from es own hs ss (i + 1)
  unfolding threes
  first_next i h =
      ap (λ (r : List Sided). cuts_of es own (threes r)) (sided_next hs ss even i h)
      ∙ joined_append (λ (t : Three Sided). triangles_by es (cut_with own t)) (with_two (corner i) (drop (i + 1) ps)) (threes (drop (i + 1) ps))

  pub first_left : (i : ℕ) → length hs ≤ i → first_from es own hs ss i ≡ []
  unfolding threes joined
  first_left i h = ap (λ (r : List Sided). cuts_of es own (threes r)) (gone i h)

  -- ---- turns of the loops

  module _ (whole : List (Three ℕ)) (at : ℕ) (x y z : List ℕ) (end : ℕ) (x' y' z' : List ℕ) (end' : ℕ) (x'' y'' z'' : List ℕ) where
    pub third_turn : (i j l : ℕ)
        → l < length hs
        → Going whole at x y z (third_from es own hs ss i j l) end x' y' z'
        → (ts : List (Three ℕ))
        → ts ≡ triangles_by es (cut_with own (three (corner i) (corner j) (corner l)))
        → Puts ts end x' y' z' end' x'' y'' z''
        → Going whole at x y z (third_from es own hs ss i j (l + 1)) end' x'' y'' z''
    third_turn i j l h w ts e p =
        going_more whole at x y z _ end x' y' z' w _ _ (third_next i j l h) end' x'' y'' z'' (rw e at p)

    pub second_turn : (i j : ℕ)
        → j < length hs
        → Going whole at x y z (second_from es own hs ss i j) end x' y' z'
        → Puts (third_from es own hs ss i j (j + 1)) end x' y' z' end' x'' y'' z''
        → Going whole at x y z (second_from es own hs ss i (j + 1)) end' x'' y'' z''
    second_turn i j h w p = going_more whole at x y z _ end x' y' z' w _ _ (second_next i j h) end' x'' y'' z'' p

    pub first_turn : (i : ℕ)
        → i < length hs
        → Going whole at x y z (first_from es own hs ss i) end x' y' z'
        → Puts (second_from es own hs ss i (i + 1)) end x' y' z' end' x'' y'' z''
        → Going whole at x y z (first_from es own hs ss (i + 1)) end' x'' y'' z''
    first_turn i h w p = going_more whole at x y z _ end x' y' z' w _ _ (first_next i h) end' x'' y'' z'' p
