-- A label is taken out, and later ones move back: what holds but for the empty place, and what each turn leaves. Assumes nothing.
use Rattle.std.specs.Prelude.{Ok}
use mathlib.Core.Path.{◌≡◌, refl, sym, ap, ◌∙◌}
use mathlib.Core.Bool.{true, false}
use mathlib.Core.List.{List}
use Prim.Native.Nat.{ℕ, ◌<◌}
use native.Mathlib.Omega.{arith}
use lib.ListN.{length, get_or, set, length-set}
use lib.Seq.{get_or-set_same, get_or-set_other, set-set, set-get_or}
use lib.Ieee.{Float, nan}
use Rattle.marks.specs.Marks.{label, home, along, Kept, spot_of, occupied, following, comes_first, MayLeave, Gone}
use Rattle.marks.proofs.Pathing.{one_or_two, along_which, along_first, along_onward, along_between, comes_first_true, comes_first_false}
use Rattle.marks.proofs.Keeping.{label_real, within, standing_at, kept_once, StandsWith, value_none, value_moved}
use Rattle.marks.proofs.Circling.{occupied_more, here, split, Around, NoneEmpty, filled_begun, filled_set, filled_on}

-- ---- but for one place

-- the label x stands somewhere but at h, with the value d
abbrev Elsewhere : ℕ → ℕ → Float → List ℕ → List Float → Type 0
Elsewhere h x d ks ds = (q : ℕ) × ((q ≡ h → ⊥) × ((get_or ks q 0 ≡ x) × (get_or ds q nan ≡ d)))

-- the place a comes before the place b on the path of y among n places
abbrev OnWay : ℕ → ℕ → ℕ → ℕ → Type 0
OnWay y n a b = along (home y n) n a < along (home y n) n b

-- but for the place h, each label has only larger ones before it on its path
abbrev KeptBut : ℕ → List ℕ → Type 0
KeptBut h ks =
    (b : ℕ) → (b ≡ h → ⊥) → (get_or ks b 0 ≡ 0 → ⊥)
    → (a : ℕ) → (a ≡ h → ⊥) → a < length ks → OnWay (get_or ks b 0) (length ks) a b → get_or ks b 0 < get_or ks a 0

module _ (h y : ℕ) (e : Float) (ks : List ℕ) (ds : List Float) (x : ℕ) (d : Float) where
  -- what stands elsewhere stays, whatever is put at h
  stays : (s : Elsewhere h x d ks ds) → (get_or (set ks h y) s.0 0 ≡ x) × (get_or (set ds h e) s.0 nan ≡ d)
  stays s = (get_or-set_other ks h s.0 y 0 s.1.0 ∙ s.1.1.0, get_or-set_other ds h s.0 e nan s.1.0 ∙ s.1.1.1)

  -- what stands then is that, or it stood elsewhere
  stood : {P : Type 0} → h < length ks → length ds ≡ length ks → (y ≡ x → e ≡ d → P) → (Elsewhere h x d ks ds → P)
      → StandsWith x d (set ks h y) (set ds h e) → P
  stood l long f g s =
      one_or_two s.0 h
      (λ z. f (sym (rw z (here ks h y l)) ∙ s.1.0) (sym (rw z (get_or-set_same ds h e nan (rw long l))) ∙ s.1.1))
      (λ z. g (s.0, (z, (sym (get_or-set_other ks h s.0 y 0 z) ∙ s.1.0, sym (get_or-set_other ds h s.0 e nan z) ∙ s.1.1))))

-- ---- the loop

-- l goes out at p; the place h is to be filled, and the paths of the labels between it and i do not come by it
pub record Leaving (l p : ℕ) (ks₀ : List ℕ) (ds₀ : List Float) (h i : ℕ) (ks : List ℕ) (ds : List Float) : Type 0 where
  pub real : get_or ks h 0 ≡ 0 → ⊥
  pub kept : KeptBut h ks
  pub passed : (q : ℕ) → q < length ks → along h (length ks) q < along h (length ks) i → OnWay (get_or ks q 0) (length ks) h q → ⊥
  pub stayed : (x : ℕ) (d : Float) → (x ≡ l → ⊥) → StandsWith x d ks₀ ds₀ → Elsewhere h x d ks ds
  pub came : (x : ℕ) (d : Float) → Elsewhere h x d ks ds → StandsWith x d ks₀ ds₀
  pub gone : (d : Float) → Elsewhere h l d ks ds → ⊥
  pub filled : NoneEmpty p ks₀ i ks

-- the place of the label is the first to be filled
pub opened : (k p : ℕ) (ks : List ℕ) (ds : List Float) → p < length ks → spot_of k ks ≡ Ok p → MayLeave ks ds → Leaving (label k) p ks ds p p ks ds
opened k p ks ds l e m =
    record {
      real = real;
      kept = λ b f n a g. m.kept b n a;
      passed = λ q a o. absurd (along_first p (length ks) (omega arith) q o);
      stayed = λ x d n s. (s.0, ((λ z. n (sym s.1.0 ∙ rw z stands)), s.1));
      came = λ x d s. (s.0, s.1.1);
      gone = λ d s. s.1.0 (sym (kept_once ks m.kept p s.0 real (stands ∙ sym s.1.1.0)));
      filled = filled_begun p ks l;
    }
  where
    stands : get_or ks p 0 ≡ label k
    stands = standing_at (label k) ks p e

    real : get_or ks p 0 ≡ 0 → ⊥
    real z = label_real k (sym stands ∙ z)

module _ (k p : ℕ) (ks₀ : List ℕ) (ds₀ : List Float) (h i : ℕ) (ks : List ℕ) (ds : List Float)
    (a : Around p ks₀ i ks ds) (s : Leaving (label k) p ks₀ ds₀ h i ks ds) where
  inside : h < length ks
  inside = within ks h s.real

  module _ (apart : i ≡ h → ⊥) where
    -- a label that is not passed, and whose path comes by h, has i before it too
    beyond : (b : ℕ) → (b ≡ h → ⊥) → (b ≡ i → ⊥) → (get_or ks b 0 ≡ 0 → ⊥) → OnWay (get_or ks b 0) (length ks) h b → get_or ks b 0 < get_or ks i 0
    beyond b f g n o =
        s.kept b f n i apart a.inside
        (along_between (home (get_or ks b 0) (length ks)) (length ks) h i b inside a.inside (within ks b n) o
        (along_which h (length ks) b i (within ks b n) a.inside (λ t. absurd (s.passed b (within ks b n) t o)) (λ z. absurd (g z)) (λ t. t)))

    -- each label but those at h and i has only larger ones before it, once the one at i stands at h too
    follows : (x : ℕ) → get_or ks i 0 ≡ x → (b : ℕ) → (b ≡ h → ⊥) → (b ≡ i → ⊥) → (get_or ks b 0 ≡ 0 → ⊥)
        → (q : ℕ) → q < length ks → OnWay (get_or ks b 0) (length ks) q b → get_or ks b 0 < get_or (set ks h x) q 0
    follows x c b f g n q m =
        split ks h x inside (λ (r y : ℕ). OnWay (get_or ks b 0) (length ks) r b → get_or ks b 0 < y) q (λ o. rw c at (beyond b f g n o))
        (λ z o. s.kept b f n q z m o)

  module _ (j : ℕ) (e : j ≡ following i (length ks)) (n : get_or ks i 0 ≡ 0 → ⊥) (g : ℕ) (c : g ≡ home (get_or ks i 0) (length ks)) where
    -- a label whose path does not come by h keeps its place
    pub keeps : comes_first g h i ≡ false → Leaving (label k) p ks₀ ds₀ h j ks ds
    keeps t =
        record {
          real = s.real;
          kept = s.kept;
          passed =
              rw e
              (along_onward h (length ks) (let m = inside in omega arith) (λ (q : ℕ). OnWay (get_or ks q 0) (length ks) h q → ⊥) i a.inside
              (λ o. let w = rw c at (comes_first_false g (length ks) h i inside a.inside t) in omega arith) s.passed);
          stayed = s.stayed;
          came = s.came;
          gone = s.gone;
          filled = filled_on p ks₀ i ks ds a j e n s.filled;
        }

    -- one whose path does moves there, and its own place is to be filled
    pub moves : comes_first g h i ≡ true → Leaving (label k) p ks₀ ds₀ i j (set ks h (get_or ks i 0)) (set ds h (get_or ds i nan))
    moves t =
        record {
          real = rw (get_or-set_other ks h i (get_or ks i 0) 0 apart) n;
          kept = λ b f.
              rw (length-set ks h (get_or ks i 0))
              (split ks h (get_or ks i 0) inside (λ (r y : ℕ).
              (y ≡ 0 → ⊥) → (q : ℕ) → (q ≡ i → ⊥) → q < length ks → OnWay y (length ks) q r → y < get_or (set ks h (get_or ks i 0)) q 0) b
              (λ m q _ r o.
              let z : q ≡ h → ⊥ = λ z. let w = rw z at o in omega arith in
              rw (get_or-set_other ks h q (get_or ks i 0) 0 z) (s.kept i apart n q z r (let w = before in omega arith)))
              (λ z m q _. follows apart (get_or ks i 0) refl b z f m q));
          passed =
              rw (e, length-set ks h (get_or ks i 0))
              (along_onward i (length ks) (let m = a.inside in omega arith)
              (λ (q : ℕ). OnWay (get_or (set ks h (get_or ks i 0)) q 0) (length ks) i q → ⊥) i a.inside (λ o. omega arith)
              (λ q m o. absurd (along_first i (length ks) (let w = a.inside in omega arith) q o)));
          stayed = λ x d m b. forward x d (s.stayed x d m b);
          came = λ x d b. s.came x d (back x d b);
          gone = λ d b. s.gone d (back (label k) d b);
          filled = filled_set p ks₀ j ks h (get_or ks i 0) s.real n (filled_on p ks₀ i ks ds a j e n s.filled);
        }
      where
        before : OnWay (get_or ks i 0) (length ks) h i
        before = rw c at (comes_first_true g (length ks) h i inside a.inside t)

        apart : i ≡ h → ⊥
        apart z = let w = rw z at before in omega arith

        forward : (x : ℕ) (d : Float) → Elsewhere h x d ks ds → Elsewhere i x d (set ks h (get_or ks i 0)) (set ds h (get_or ds i nan))
        forward x d b =
            one_or_two b.0 i
            (λ z.
            let u = here ks h (get_or ks i 0) inside ∙ rw z at b.1.1.0 in
            let w = get_or-set_same ds h (get_or ds i nan) nan (rw a.values inside) ∙ rw z at b.1.1.1 in
            (h, ((λ y. apart (sym y)), (u, w))))
            (λ z. (b.0, (z, stays h (get_or ks i 0) (get_or ds i nan) ks ds x d b)))

        back : (x : ℕ) (d : Float) → Elsewhere i x d (set ks h (get_or ks i 0)) (set ds h (get_or ds i nan)) → Elsewhere h x d ks ds
        back x d b =
            stood h (get_or ks i 0) (get_or ds i nan) ks ds x d inside a.values (λ y z. (i, (apart, (y, z)))) (λ w. w) (b.0, b.1.1)

  -- at an empty place no label is left to move, and the place that was to be filled is emptied
  pub emptied : get_or ks i 0 ≡ 0 → MayLeave ks₀ ds₀ → (v : Float) → Gone k ks₀ ds₀ (set ks h 0) (set ds h v)
  emptied e m v =
      record {
        kept = kept;
        places = length-set ks h 0 ∙ a.places;
        values = length-set ds h v ∙ a.values ∙ a.places;
        value = value_none (label k) (set ks h 0) (set ds h v) (λ q z. s.gone (get_or (set ds h v) q nan) (back k _ (q, (z, refl))));
        others = λ j n.
            value_moved (label j) (label_real j) ks₀ ds₀ (set ks h 0) (set ds h v) m.kept kept
            (λ d b. let w = s.stayed (label j) d n b in (w.0, stays h 0 v ks ds (label j) d w)) (λ d b. s.came (label j) d (back j d b));
        emptier =
            sym s.filled.count ∙ ap occupied (sym (set-set ks h 0 (get_or ks h 0) ∙ set-get_or ks h 0))
            ∙ occupied_more (set ks h 0) h (get_or ks h 0) (rw (length-set ks h 0) inside) (here ks h 0 inside) s.real;
      }
    where
      kept : Kept (set ks h 0)
      kept b =
          rw (length-set ks h 0)
          (split ks h 0 inside (λ (r y : ℕ). (y ≡ 0 → ⊥) → (q : ℕ) → q < length ks → OnWay y (length ks) q r → y < get_or (set ks h 0) q 0) b
          (λ n. absurd (n refl))
          (λ z n. follows (λ w. s.real (rw w at e)) 0 e b z (λ w. n (rw w e)) n))

      back : (j : ℕ) (d : Float) → StandsWith (label j) d (set ks h 0) (set ds h v) → Elsewhere h (label j) d ks ds
      back j d = stood h 0 v ks ds (label j) d inside a.values (λ z _. absurd (label_real j (sym z))) (λ w. w)
