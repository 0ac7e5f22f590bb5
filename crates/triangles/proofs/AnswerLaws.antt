-- The answer to building, and what the four lists then hold: what was found, in its room, or zeros.
-- Assumes nothing.
use Rattle.std.specs.Prelude.{Ok, Err, Result}
use Prim.Native.Nat.{ℕ, ◌≤◌}
use native.Mathlib.Omega.{arith}
use mathlib.Core.Path.{◌≡◌, refl, sym, ap, ◌∙◌}
use mathlib.Core.Bool.{Bool, true, false, cond, ◌&&◌}
use mathlib.Core.List.{List, map}
use lib.Dec.{eqb, leb}
use lib.ListN.{length, take, replicate, length-map}
use lib.Seq.{sets, length-sets}
use borrow.Author.Tests.{eqb-true, leb-true}
use Rattle.lists.specs.Places.{cleared_from}
use Rattle.lists.specs.Padding.{padded}
use Rattle.lists.specs.Listing.{count_of, held_for}
use Rattle.lists.proofs.Bools.{and_first, and_second}
use Rattle.lists.proofs.Writing.{sets_front, cleared_whole}
use Rattle.refusals.specs.declared.Refusal.{Refusal}
use Rattle.refusals.specs.declared.Refusal.TheVariants.{Lengths, NoPlace}
use Rattle.groups.specs.CellEdges.{pairs_ok}
use Rattle.triangles.specs.declared.Filled.{Filled}
use Rattle.lists.specs.Threes.{Three, column0, column1, column2}
use Rattle.triangles.specs.Building.{Source, source, rooms, groups_at, triangles_at, lengths_ok, sizes_ok, room_for_both, built_answer, groups_held, held0, held1, held2}
use Rattle.triangles.specs.Steps.{Ready, filled_with, answer_for}
use Rattle.lists.specs.Listing.{kept_of}

-- ---- one list

-- what a list holds once it is cleared past what the answer keeps
settled : (v : Result ℕ Refusal) (xs l l' l'' : List ℕ) (n : ℕ) → l'' ≡ cleared_from 0 n l' → length l' ≡ length l →
    ((m : ℕ) → v ≡ Ok m → (n ≡ length xs) × (length xs ≤ length l) × (l' ≡ sets l 0 xs))
    → ((why : Refusal) → v ≡ Err why → n ≡ 0)
    → l'' ≡ held_for 0 v (length l) xs
unfolding held_for padded
settled (Ok m) xs l l' l'' n e same how none =
    let h = how m refl in
    let long : length (sets l 0 xs) ≡ length l = length-sets l 0 xs in
    e ∙ rw (h.0, h.2, sets_front l xs h.1, long)
settled (Err why) xs l l' l'' n e same how none = e ∙ rw (none why refl) (cleared_whole 0 l' ∙ ap (λ (k : ℕ). replicate k 0) same)

-- ---- the answer

refused_count : (why : Refusal) (m : ℕ) → Err why ≡ Ok m → ⊥
refused_count why m e = let z : ◌≡◌ {A = ℕ} 0 1 = cc in omega arith

-- it counts only where the lengths were taken and both had room
counted : (ok : Bool) (f : Filled) (room place m : ℕ)
    → answer_for ok f room place ≡ Ok m
    → (ok ≡ true) × (f.groups ≤ room) × (f.triangles ≤ place) × (m ≡ f.triangles)
counted true f room place m e = go (leb f.groups room) (leb f.triangles place) refl refl e
  where
    go : (p q : Bool)
        → leb f.groups room ≡ p
        → leb f.triangles place ≡ q
        → cond (p && q) (Ok f.triangles) (Err NoPlace) ≡ Ok m
        → (true ≡ true) × (f.groups ≤ room) × (f.triangles ≤ place) × (m ≡ f.triangles)
    go true true a b d = (refl, leb-true _ _ a, leb-true _ _ b, cc)
    go true false a b d = absurd (refused_count NoPlace m d)
    go false true a b d = absurd (refused_count NoPlace m d)
    go false false a b d = absurd (refused_count NoPlace m d)
counted false f room place m e = absurd (refused_count Lengths m e)

-- lengths that were taken
taken_known : (keys rows a b m g x y z : ℕ) → lengths_ok keys rows a b m g x y z ≡ true → (keys ≤ 65536) × (rows ≤ keys) × (y ≡ x) × (z ≡ x)
taken_known keys rows a b m g x y z all =
    let ks = and_first (leb keys 65536 && leb rows keys) _ all in
    let rest = and_second (leb g 1048576) _ (and_second (pairs_ok a b m) _ (and_second (leb keys 65536 && leb rows keys) _ all)) in
    let equal = and_first (eqb x y && eqb x z) _ rest in (
      leb-true keys 65536 (and_first _ (leb rows keys) ks),
      leb-true rows keys (and_second (leb keys 65536) _ ks),
      sym (eqb-true x y (and_first _ (eqb x z) equal)),
      sym (eqb-true x z (and_second (eqb x y) _ equal)),
    )

pub ready_known : (ks : List ℕ) (rows a b m g : ℕ) (x y z : List ℕ) (ok : Bool) (n : ℕ)
    → ok ≡ lengths_ok (length ks) rows a b m g (length x) (length y) (length z)
    → n ≡ cond ok rows 0
    → Ready ks n x y z
ready_known ks rows a b m g x y z false n e t = record { fits = omega arith; few = omega arith; second = λ h. omega arith; third = λ h. omega arith }
ready_known ks rows a b m g x y z true n e t =
    let k = taken_known (length ks) rows a b m g (length x) (length y) (length z) (sym e) in
    record { fits = omega (arith, k.1); few = omega (arith, k.0, k.1); second = λ h. k.2; third = λ h. k.3 }

module _ (ks : List ℕ) (rows : ℕ) (as' bs : List ℕ) (m : ℕ) (g x y z : List ℕ) (ok : Bool) (n : ℕ) (f : Filled) (v : Result ℕ Refusal) (g' x' y' z' : List ℕ)
    (tested : ok ≡ lengths_ok (length ks) rows (length as') (length bs) m (length g) (length x) (length y) (length z))
    (taken : n ≡ cond ok rows 0)
    (counts : f ≡ filled_with (source ks n as' bs m) (take n ks))
    (groups : g' ≡ sets g 0 (groups_at (source ks n as' bs m) (take n ks)))
    (ones : x' ≡ sets x 0 (column0 (triangles_at (source ks n as' bs m) (take n ks))))
    (twos : y' ≡ sets y 0 (column1 (triangles_at (source ks n as' bs m) (take n ks))))
    (threes : z' ≡ sets z 0 (column2 (triangles_at (source ks n as' bs m) (take n ks))))
    (answered : v ≡ answer_for ok f (length g') (length x')) where
  abbrev s : Source
  s = source ks rows as' bs m

  all_rows : ok ≡ true → n ≡ rows
  all_rows e = taken ∙ ap (λ (b : Bool). cond b rows 0) e

  all_counts : ok ≡ true → f ≡ filled_with s (take rows ks)
  all_counts e = counts ∙ ap (λ (k : ℕ). filled_with (source ks k as' bs m) (take k ks)) (all_rows e)

  g_long : length g' ≡ length g
  g_long = ap length groups ∙ length-sets g 0 (groups_at (source ks n as' bs m) (take n ks))

  x_long : length x' ≡ length x
  x_long = ap length ones ∙ length-sets x 0 (column0 (triangles_at (source ks n as' bs m) (take n ks)))

  pub built_answer_lem : v ≡ built_answer s (rooms (length g) (length x) (length y) (length z))
  unfolding built_answer sizes_ok
  built_answer_lem =
      answered
      ∙ rw (g_long, x_long) (go ok refl)
      ∙ ap (λ (b : Bool).
      cond b (room_for_both (length (groups_at s (take rows ks))) (length g) (length (triangles_at s (take rows ks)))
      (length x)) (Err Lengths)) tested
    where
      go : (b : Bool)
          → ok ≡ b
          → answer_for b f (length g) (length x) ≡ cond b (room_for_both (length (groups_at s (take rows ks))) (length g)
          (length (triangles_at s (take rows ks))) (length x)) (Err Lengths)
      go true e = ap (λ (h : Filled). room_for_both h.groups (length g) h.triangles (length x)) (all_counts e)
      go false e = refl

  equal : ok ≡ true → (length y ≡ length x) × (length z ≡ length x)
  equal e =
      let k = taken_known (length ks) rows (length as') (length bs) m (length g) (length x) (length y) (length z) (sym tested ∙ e) in
      (k.2, k.3)

  pub groups_settled : (k : ℕ)
      → k ≡ kept_of v f.groups
      → (l : List ℕ)
      → l ≡ cleared_from 0 k g'
      → l ≡ groups_held s (rooms (length g) (length x) (length y) (length z))
  groups_settled k kept l e =
      settled v (groups_at s (take rows ks)) g g' l k e g_long
      (λ c q.
      let h = counted ok f (length g') (length x') c (sym answered ∙ q) in
      let d = ap (λ (w : Filled). w.groups) (all_counts h.0) in (
        kept ∙ ap (λ (w : Result ℕ Refusal). kept_of w f.groups) q ∙ d,
        omega (arith, h.1, d, g_long),
        groups ∙ ap (λ (i : ℕ). sets g 0 (groups_at s (take i ks))) (all_rows h.0),
      ))
      (λ why q. kept ∙ ap (λ (w : Result ℕ Refusal). kept_of w f.groups) q)
      ∙ ap (λ (w : Result ℕ Refusal). held_for 0 w (length g) (groups_at s (take rows ks))) built_answer_lem

  module _ (k : ℕ) (kept : k ≡ count_of v) where
    column : (p : Three ℕ → ℕ) (l l' l'' : List ℕ)
        → (ok ≡ true → length l ≡ length x)
        → l' ≡ sets l 0 (map p (triangles_at (source ks n as' bs m) (take n ks)))
        → l'' ≡ cleared_from 0 k l'
        →
        l'' ≡ held_for 0 v (length l) (map p (triangles_at s (take rows ks)))
    column p l l' l'' same wrote e =
        settled v (map p (triangles_at s (take rows ks))) l l' l'' k e
        (ap length wrote ∙ length-sets l 0 (map p (triangles_at (source ks n as' bs m) (take n ks))))
        (λ c q.
        let h = counted ok f (length g') (length x') c (sym answered ∙ q) in
        let d = ap (λ (w : Filled). w.triangles) (all_counts h.0) in
        let r = length-map (triangles_at s (take rows ks)) p in (
          kept ∙ ap count_of q ∙ h.3 ∙ d ∙ sym r,
          omega (arith, h.2, d, r, x_long, same h.0),
          wrote ∙ ap (λ (i : ℕ). sets l 0 (map p (triangles_at s (take i ks)))) (all_rows h.0),
        ))
        (λ why q. kept ∙ ap count_of q)

    pub ones_settled : (l : List ℕ) → l ≡ cleared_from 0 k x' → l ≡ held0 s (rooms (length g) (length x) (length y) (length z))
    ones_settled l e =
        column (λ (t : Three ℕ). t.a) x x' l (λ q. refl) ones e
        ∙ ap (λ (w : Result ℕ Refusal). held_for 0 w (length x) (column0 (triangles_at s (take rows ks)))) built_answer_lem

    pub twos_settled : (l : List ℕ) → l ≡ cleared_from 0 k y' → l ≡ held1 s (rooms (length g) (length x) (length y) (length z))
    twos_settled l e =
        column (λ (t : Three ℕ). t.b) y y' l (λ q. (equal q).0) twos e
        ∙ ap (λ (w : Result ℕ Refusal). held_for 0 w (length y) (column1 (triangles_at s (take rows ks)))) built_answer_lem

    pub threes_settled : (l : List ℕ) → l ≡ cleared_from 0 k z' → l ≡ held2 s (rooms (length g) (length x) (length y) (length z))
    threes_settled l e =
        column (λ (t : Three ℕ). t.c) z z' l (λ q. (equal q).1) threes e
        ∙ ap (λ (w : Result ℕ Refusal). held_for 0 w (length z) (column2 (triangles_at s (take rows ks)))) built_answer_lem
