-- The search for a label: it ends at the first place of its path whose label is not larger. Assumes nothing.
use mathlib.Core.Path.{◌≡◌, refl, ap, ◌∙◌}
use mathlib.Core.Bool.{Bool, true, cond}
use mathlib.Core.List.{List}
use mathlib.Core.Logic.{inl, inr}
use Prim.Native.Nat.{ℕ, zero, suc, ◌+◌, ◌-◌, ◌<◌, ◌≤◌}
use native.Mathlib.Omega.{arith}
use native.Mathlib.Numerals.{add-one}
use borrow.Author.Tests.{ltb-true, ltb-false, lt-ltb, le-ltb}
use lib.Dec.{ltb}
use lib.ListN.{length, get_or}
use Rattle.lists.proofs.Bools.{cases}
use Rattle.marks.specs.Marks.{home, along, Outranked, seek, or_again, halt}
use Rattle.marks.proofs.Pathing.{home_within, Side, along_either, along_which}

module _ (k : ℕ) (ks : List ℕ) where
  -- ---- the loop's steps

  seek_turn : (i to : ℕ) → i < to → seek k ks i (to - i) ≡ cond (ltb k (get_or ks i 0)) (seek k ks (i + 1) (to - (i + 1))) i
  unfolding seek
  seek_turn i to l = let e : to - i ≡ suc (to - (i + 1)) = omega arith in rw (e, add-one i)

  pub seek_here : (i to : ℕ) → i < to → get_or ks i 0 ≤ k → i ≡ seek k ks i (to - i)
  seek_here i to l e = rw (seek_turn i to l, le-ltb k (get_or ks i 0) e)

  pub seek_on : (i to : ℕ) → i < to → k < get_or ks i 0 → seek k ks i (to - i) ≡ seek k ks (i + 1) (to - (i + 1))
  seek_on i to l e = rw (seek_turn i to l, lt-ltb k (get_or ks i 0) e)

  pub seek_end : (i to : ℕ) → to ≤ i → i ≡ seek k ks i (to - i)
  unfolding seek
  seek_end i to l = let e : to - i ≡ 0 = omega arith in rw e

  -- ---- what is found

  -- s is the first of m places from i on whose label is at most k, or the place after them
  record First (i m s : ℕ) : Type 0 where
    low : i ≤ s
    high : s ≤ i + m
    larger : (q : ℕ) → i ≤ q → q < s → k < get_or ks q 0
    here : s < i + m → get_or ks s 0 ≤ k

  seek_first : (i m : ℕ) → First i m (seek k ks i m)
  unfolding seek
  seek_first i zero = record {
    low = omega arith;
    high = omega arith;
    larger = λ q a b. absurd (omega arith);
    here = λ l. absurd (omega arith);
  }
  seek_first i (suc m) =
      cases (λ (b : Bool). First i (suc m) (cond b (seek k ks (suc i) m) i)) (ltb k (get_or ks i 0))
      (λ e.
      let f = seek_first (suc i) m in
      record {
        low = omega arith;
        high = omega arith;
        larger = λ q a b. past e q a (λ c. f.larger q c b);
        here = λ l. f.here (omega arith);
      })
      (λ e. record {
        low = omega arith;
        high = omega arith;
        larger = λ q a b. absurd (omega arith);
        here = λ l. ltb-false k (get_or ks i 0) e;
      })
    where
      past : ltb k (get_or ks i 0) ≡ true → (q : ℕ) → i ≤ q → (suc i ≤ q → k < get_or ks q 0) → k < get_or ks q 0
      past e q a f =
          cases (λ (b : Bool). ltb i q ≡ b → k < get_or ks q 0) (ltb i q) (λ _ b. f (ltb-true i q b))
          (λ _ b.
          let z : i ≡ q = let y = ltb-false i q b in omega arith in
          rw z at (ltb-true k (get_or ks i 0) e)) refl

  -- ---- the whole path

  -- only larger labels stand before p on the path, and one that is not larger stands at p if it stands anywhere
  pub record Halted (p : ℕ) : Type 0 where
    pub before : Outranked k ks p
    pub here : (q : ℕ) → q < length ks → get_or ks q 0 ≤ k → (p < length ks) × (get_or ks p 0 ≤ k)

  module _ (h a b : ℕ) (z : h ≡ home k (length ks)) (l : h ≤ length ks) (f : First h (length ks - h) a) (g : First 0 h b) where
    straight : a < length ks → (q : ℕ) → along h (length ks) q < along h (length ks) a → Side h (length ks) q → Side h (length ks) a → k < get_or ks q 0
    straight m q o (inl x) (inl y) = absurd (let w = f.low in omega arith)
    straight m q o (inl x) (inr y) = absurd (omega arith)
    straight m q o (inr x) (inl y) = absurd (let w = f.low in omega arith)
    straight m q o (inr x) (inr y) = f.larger q x.0 (omega arith)

    around :
        length ks ≤ a
        → (q : ℕ)
        → q < length ks
        → along h (length ks) q < along h (length ks) b
        → Side h (length ks) q
        → Side h (length ks) b
        → k < get_or ks q 0
    around m q v o (inl x) (inl y) = g.larger q (omega arith) (omega arith)
    around m q v o (inl x) (inr y) = absurd (let w = g.high in omega arith)
    around m q v o (inr x) (inl y) = f.larger q x.0 (omega arith)
    around m q v o (inr x) (inr y) = f.larger q x.0 (omega arith)

    somewhere :
        length ks ≤ a
        → (q : ℕ)
        → q < length ks
        → get_or ks q 0 ≤ k
        → Side h (length ks) q
        → Side h (length ks) b
        → (b < length ks) × (get_or ks b 0 ≤ k)
    somewhere m q v o (inl x) (inl y) = (omega arith, g.here (omega arith))
    somewhere m q v o (inl x) (inr y) = absurd (let w = g.larger q (omega arith) (omega arith) in omega arith)
    somewhere m q v o (inr x) (inl y) = (omega arith, g.here (omega arith))
    somewhere m q v o (inr x) (inr y) = absurd (let w = f.larger q x.0 (omega arith) in omega arith)

    halted : Halted (cond (ltb a (length ks)) a b)
    halted =
        cases (λ (t : Bool). Halted (cond t a b)) (ltb a (length ks))
        (λ e.
        let m = ltb-true a (length ks) e in
        record {
          before = λ q v. rw (← z) (λ o. straight m q o (along_either h (length ks) q) (along_either h (length ks) a));
          here = λ q v o. (m, f.here (omega arith));
        })
        (λ e.
        let m = ltb-false a (length ks) e in
        record {
          before = λ q v. rw (← z) (λ o. around m q v o (along_either h (length ks) q) (along_either h (length ks) b));
          here = λ q v o. somewhere m q v o (along_either h (length ks) q) (along_either h (length ks) b);
        })

  pub halt_right : Halted (halt k ks)
  unfolding halt or_again
  halt_right = halted (home k (length ks)) _ _ refl (home_within k (length ks)) (seek_first _ _) (seek_first _ _)

  -- it is the only such place
  pub halted_once : (p : ℕ) → p < length ks → get_or ks p 0 ≤ k → Outranked k ks p → halt k ks ≡ p
  halted_once p l e o =
      let r = halt_right in
      let s = r.here p l e in
      along_which (home k (length ks)) (length ks) (halt k ks) p s.0 l (λ t. absurd (let w = o (halt k ks) s.0 t in omega arith)) (λ z. z)
      (λ t. absurd (let w = r.before p l t in omega arith))

  -- ---- the code's searches

  module _ (h a : ℕ) (z : h ≡ home k (length ks)) (e : a ≡ seek k ks h (length ks - h)) where
    pub halt_straight : a < length ks → a ≡ halt k ks
    unfolding halt or_again
    halt_straight l = rw (← z, ← e, lt-ltb a (length ks) l)

    pub halt_around : (b : ℕ) → length ks ≤ a → b ≡ seek k ks 0 (h - 0) → b ≡ halt k ks
    unfolding halt or_again
    halt_around b l f = rw (← z, ← e, le-ltb a (length ks) l) (f ∙ ap (λ (m : ℕ). seek k ks 0 m) (omega arith))
