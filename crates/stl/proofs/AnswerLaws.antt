-- What each answer means: tests passed, and what the lent lists hold by it.
-- Assumes nothing.
use Rattle.std.specs.Prelude.{Ok, Err, Result}
use Prim.Native.Nat.{ℕ, ◌+◌, ◌-◌, ◌*◌, ◌<◌, ◌≤◌, zero-le}
use native.Mathlib.Nat.{not-suc-le-zero, min-eq_left}
use native.Mathlib.Omega.{arith}
use mathlib.Core.Path.{◌≡◌, refl, sym, ap, ◌∙◌}
use mathlib.Core.Bool.{Bool, true, false, cond, not, ◌&&◌}
use mathlib.Core.List.{List, map, append-nil}
use borrow.Author.Tests.{leb-true, eqb-true, le-ltb, lt-ltb, eq-eqb, ne_eqb}
use lib.Dec.{leb, ltb, eqb}
use lib.ListN.{length, take, length-take, length-replicate, length-map}
use lib.Seq.{sets, sets-eq, drop-length}
use lib.Ieee.{Float}
use Rattle.lists.specs.Beside.{beside_by}
use Rattle.lists.proofs.BesideLaws.{by_length}
use Rattle.refusals.specs.declared.Refusal.{Refusal}
use Rattle.refusals.specs.declared.Refusal.TheVariants.{Lengths, NoPlace, BadVertex, BadLength}
use Rattle.lists.specs.Padding.{padded}
use Rattle.lists.specs.Places.{zero_f, cleared_from}
use Rattle.lists.specs.Listing.{room_for, count_of, held_for}
use Rattle.lists.proofs.Bools.{yes, and_first, and_second, or_second}
use Rattle.lists.proofs.Writing.{sets_front, cleared_whole}
use Rattle.slopes.specs.declared.Vertex.{Vertex}
use Rattle.corners.specs.Corners.{set_ok, every, vertex_ok, vertices_in, triangle, triangles_in, triangle_ok}
use Rattle.corners.specs.Steps.{Lent}
use Rattle.corners.proofs.Sets.{lent}
use Rattle.words.specs.Words.{zeros}
use Rattle.stl.specs.Files.{file_of, facets_from, facets_in, corners_of, stated_in, length_bad, corners_bad}
use Rattle.stl.specs.Calls.{file_fits, facets_lent, export_answer, import_answer}
use Rattle.stl.specs.Steps.{Writable, ColumnRead, stated_for, read_answer}
use Rattle.stl.proofs.FileLaws.{file_length, corners_length, read_length}

-- ---- lists

-- no more entries than 1,048,576
pub set_few : (a b c n : ℕ) → set_ok a b c n ≡ true → n ≤ 1048576
set_few a b c n e =
    let t = and_second (eqb a c) _ (and_second (eqb a b) _ e) in
    let l = leb-true a 1048576 (and_first _ _ t) in
    let m = leb-true n a (and_second (leb a 1048576) _ t) in
    omega arith

-- as many triangles are written as are lent, those without area too
pub facets_length : (xs ys zs : List Float) (n : ℕ) (is js ks : List ℕ) (m : ℕ) → Lent is js ks m → length (facets_lent xs ys zs n is js ks m) ≡ m
facets_length xs ys zs n is js ks m l =
    length-map (triangles_in is js ks m) _
    ∙ length-take m (beside_by triangle is js ks)
    ∙ min-eq_left (rw (by_length triangle is js ks l.second l.third) l.fits)

-- zeros to the end clear the rest of a list
pub zeros_clear : (l : List ℕ) (n : ℕ) → n ≤ length l → sets l n (zeros (length l - n)) ≡ cleared_from 0 n l
zeros_clear l n h =
    let all : n + length (zeros (length l - n)) ≡ length l = rw (length-replicate {A = ℕ}) (omega arith) in
    sets-eq (zeros (length l - n)) l n (rw all (omega arith)) ∙ rw (all, drop-length, append-nil)

-- What a list holds by its answer: written from the front and cleared from the count, or cleared throughout.
module _ {A : Type 0} (v : A) (l l' xs : List A) (long : length l' ≡ length l) where
  pub held_by : (answer : Result ℕ Refusal)
      → ((n : ℕ) → answer ≡ Ok n → (n ≡ length xs) × (n ≤ length l) × (l' ≡ sets l 0 xs))
      → cleared_from v (count_of answer) l' ≡ held_for v answer (length l) xs
  unfolding held_for padded
  held_by (Ok n) f =
      let k = f n refl in
      let front : take n l' ≡ xs = rw (k.2, k.0) (sets_front l xs (rw (← k.0) k.1)) in
      rw (front, long, k.0)
  held_by (Err why) f = cleared_whole v l' ∙ rw long

-- ---- answers that count

pub never : (why : Refusal) (n : ℕ) → ◌≡◌ {A = Result ℕ Refusal} (Err why) (Ok n) → ⊥
never why n e = let z : ◌≡◌ {A = ℕ} 0 1 = cc in omega arith

pub passed_if : (b : Bool) (x : Result ℕ Refusal) (why : Refusal) (k : ℕ) → cond b x (Err why) ≡ Ok k → (b ≡ true) × (x ≡ Ok k)
passed_if true x why k e = (refl, e)
passed_if false x why k e = absurd (never why k e)

pub passed_unless : (b : Bool) (x : Result ℕ Refusal) (why : Refusal) (k : ℕ) → cond b (Err why) x ≡ Ok k → (b ≡ false) × (x ≡ Ok k)
passed_unless true x why k e = absurd (never why k e)
passed_unless false x why k e = (refl, e)

counts : (n k : ℕ) → ◌≡◌ {A = Result ℕ Refusal} (Ok n) (Ok k) → k ≡ n
counts n k e = cc

room_counted : (n room k : ℕ) → room_for n room ≡ Ok k → (n ≤ room) × (k ≡ n)
room_counted n room k e =
    let p = passed_if (leb n room) (Ok n) NoPlace k e in
    (leb-true n room p.0, counts n k p.1)

some_counted : {P : Type 0} (answer : Result ℕ Refusal) → 0 < count_of answer → ((k : ℕ) → answer ≡ Ok k → P) → P
some_counted (Ok k) h f = f k refl
some_counted (Err why) h f = absurd (not-suc-le-zero h)

-- at most what is counted, where it is
count_most : (answer : Result ℕ Refusal) (most : ℕ) → ((k : ℕ) → answer ≡ Ok k → k ≤ most) → count_of answer ≤ most
count_most (Ok k) most f = f k refl
count_most (Err why) most f = zero-le

module _ (xs ys zs : List Float) (n : ℕ) (is js ks : List ℕ) (m room : ℕ) where
  -- the lengths of all lent lists pass
  abbrev pub sets_fit : Bool
  sets_fit = set_ok (length xs) (length ys) (length zs) n && (set_ok (length is) (length js) (length ks) m && file_fits room)

  -- lengths that pass
  pub sets_lent : sets_fit ≡ true → Lent xs ys zs n × Lent is js ks m × (m ≤ 1048576)
  sets_lent e =
      let t = and_second (set_ok (length xs) (length ys) (length zs) n) _ e in (
        lent xs ys zs n (and_first _ _ e),
        lent is js ks m (and_first _ _ t),
        set_few (length is) (length js) (length ks) m (and_first _ _ t),
      )

  -- a mesh that is written passes every test and has room, and its length is counted
  pub export_counted : (k : ℕ) → export_answer xs ys zs n is js ks m room ≡ Ok k → Writable xs ys zs n is js ks m room × (k ≡ 84 + 50 * m)
  unfolding export_answer
  export_counted k e =
      let p = passed_if sets_fit _ Lengths k e in
      let q = passed_if (every vertex_ok (vertices_in xs ys zs n) && every (triangle_ok n) (triangles_in is js ks m)) _ BadVertex k p.1 in
      let r = room_counted (84 + 50 * m) room k q.1 in
      let t = sets_lent p.0 in (
        record {
          vertices = t.0;
          triangles = t.1;
          in_range = and_first _ _ q.0;
          named = and_second (every vertex_ok (vertices_in xs ys zs n)) _ q.0;
          few = t.2;
          fits = r.0;
        },
        r.1,
      )

  -- where bytes are counted, all of the file is written
  pub counted_writable : 0 < count_of (export_answer xs ys zs n is js ks m room) → Writable xs ys zs n is js ks m room
  counted_writable h = some_counted (export_answer xs ys zs n is js ks m room) h (λ k e. (export_counted k e).0)

  -- and where none are counted, none is written
  pub none_counted : (c : ℕ) → c ≡ count_of (export_answer xs ys zs n is js ks m room) → c ≤ 0 → (k : ℕ) → export_answer xs ys zs n is js ks m room ≡ Ok k → ⊥
  none_counted c e h k g =
      let w = export_counted k g in
      let same : c ≡ k = e ∙ ap count_of g in
      omega (arith, w.1)

  -- no more bytes than there is room for
  pub export_few : (c : ℕ) → c ≡ count_of (export_answer xs ys zs n is js ks m room) → c ≤ room
  export_few c h = rw h (count_most (export_answer xs ys zs n is js ks m room) room (λ k e. let w = export_counted k e in omega (arith, w.0.fits, w.1)))

  -- what the file holds: written where it is counted, then zeros to the end
  pub export_held : (l l' l'' : List ℕ) (c : ℕ)
      → length l ≡ room
      → c ≡ count_of (export_answer xs ys zs n is js ks m room)
      → length l' ≡ length l
      → ((k : ℕ) → export_answer xs ys zs n is js ks m room ≡ Ok k → l' ≡ sets l 0 (file_of (facets_lent xs ys zs n is js ks m)))
      → l'' ≡ sets l' c (zeros (length l' - c))
      → l'' ≡ held_for 0 (export_answer xs ys zs n is js ks m room) (length l) (file_of (facets_lent xs ys zs n is js ks m))
  export_held l l' l'' c e ec long f z =
      z
      ∙ zeros_clear l' c (omega (arith, e, long, export_few c ec))
      ∙ ap (λ (x : ℕ). cleared_from 0 x l') ec
      ∙ held_by 0 l l' (file_of (facets_lent xs ys zs n is js ks m)) long (export_answer xs ys zs n is js ks m room) (λ k g.
      let w = export_counted k g in (
        w.1 ∙ sym (file_length (facets_lent xs ys zs n is js ks m) ∙ ap (λ (x : ℕ). 84 + 50 * x) (facets_length xs ys zs n is js ks m w.0.triangles)),
        omega (arith, w.0.fits, w.1, e),
        f k g,
      ))

-- a file's length by its count
module _ (file : List ℕ) where
  pub length_short : length file < 84 → length_bad file ≡ true
  length_short h = rw (lt-ltb (length file) 84 h)

  pub length_other : 84 ≤ length file → (length file ≡ 84 + 50 * stated_in file → ⊥) → length_bad file ≡ true
  length_other h f = rw (le-ltb (length file) 84 h, ne_eqb (length file) (84 + 50 * stated_in file) f)

  pub length_right : length file ≡ 84 + 50 * stated_in file → length_bad file ≡ false
  length_right e = rw (le-ltb (length file) 84 (omega arith), eq-eqb (length file) (84 + 50 * stated_in file) e)

  pub right_long : length_bad file ≡ false → length file ≡ 84 + 50 * stated_in file
  right_long e = eqb-true (length file) (84 + 50 * stated_in file) (yes refl (or_second (ltb (length file) 84) _ e))

-- a file that is read is as long as its count says, its corners pass, and they have room in three equal lists
pub record Readable (file : List ℕ) (a b c k : ℕ) : Type 0 where
  pub stated : stated_for file a b c ≡ Ok (stated_in file)
  pub long : length file ≡ 84 + 50 * stated_in file
  pub passed : every vertex_ok (corners_of (facets_in file)) ≡ true
  pub second : b ≡ a
  pub third : c ≡ a
  pub fits : 3 * stated_in file ≤ a
  pub counted : k ≡ 3 * stated_in file

module _ (file : List ℕ) (a b c : ℕ) where
  -- the lengths of the list of bytes and of the three lists pass
  abbrev pub lists_fit : Bool
  lists_fit = file_fits (length file) && set_ok a b c 0

  -- what the file states, where it is not refused for a length
  stated_right : (n : ℕ) → stated_for file a b c ≡ Ok n → (lists_fit ≡ true) × (length_bad file ≡ false) × (n ≡ stated_in file)
  unfolding stated_for
  stated_right n e =
      let p = passed_if lists_fit _ Lengths n e in
      let q = passed_unless (length_bad file) _ BadLength n p.1 in
      (p.0, q.0, counts (stated_in file) n q.1)

  -- as many triangles as are stated lie in the file, none where it is refused
  pub stated_asks : (n : ℕ) → n ≡ count_of (stated_for file a b c) → (50 * n ≤ length file - 84) × (n ≤ 1048576)
  stated_asks n e = asks (stated_for file a b c) e stated_right
    where
      asks : (x : Result ℕ Refusal)
          → n ≡ count_of x
          → ((k : ℕ) → x ≡ Ok k → (lists_fit ≡ true) × (length_bad file ≡ false) × (k ≡ stated_in file))
          → (50 * n ≤ length file - 84) × (n ≤ 1048576)
      asks (Ok k) e f =
          let r = f k refl in
          let long = right_long file r.1 in
          let most = leb-true (length file) 52428884 (and_first _ _ r.0) in
          (omega (arith, e, r.2), omega (arith, e, r.2))
      asks (Err why) e f = rw e (zero-le, zero-le)

  -- ---- the answer

  abbrev passes : ℕ → Bool
  passes n = every vertex_ok (corners_of (facets_from n file 84))

  turned : (e : Bool) (x : Result ℕ Refusal) → cond (not e) (Err BadVertex) x ≡ cond e x (Err BadVertex)
  turned true x = refl
  turned false x = refl

  in_order : (p q : Bool)
      → cond p (cond q (Err BadLength) (cond (not (passes (stated_in file))) (Err BadVertex) (room_for (3 * stated_in file) a))) (Err Lengths)
      ≡ read_answer (cond p (cond q (Err BadLength) (Ok (stated_in file))) (Err Lengths))
      (passes (count_of (cond p (cond q (Err BadLength) (Ok (stated_in file))) (Err Lengths)))) a
  unfolding read_answer
  in_order true true = refl
  in_order true false = turned (passes (stated_in file)) _
  in_order false q = refl

  -- it follows from what is stated and whether the corners pass
  import_is : import_answer file a b c ≡ read_answer (stated_for file a b c) (passes (count_of (stated_for file a b c))) a
  unfolding import_answer stated_for
  import_is = in_order lists_fit (length_bad file)

  pub import_answered : (x : Result ℕ Refusal) (m : ℕ) (r : Bool) (room : ℕ) (answer : Result ℕ Refusal)
      → x ≡ stated_for file a b c
      → m ≡ count_of (stated_for file a b c)
      → r ≡ passes m
      → room ≡ a
      → answer ≡ read_answer x r room
      → answer ≡ import_answer file a b c
  import_answered x m r room answer ex em er e h =
      let same : r ≡ passes (count_of x) = er ∙ ap passes (em ∙ ap count_of (sym ex)) in
      rw (import_is, ← ex, ← e) (h ∙ ap (λ (b : Bool). read_answer x b room) same)

  pub import_counted : (k : ℕ) → import_answer file a b c ≡ Ok k → Readable file a b c k
  unfolding import_answer stated_for
  import_counted k e =
      let p = passed_if lists_fit _ Lengths k e in
      let q = passed_unless (length_bad file) _ BadLength k p.1 in
      let r = passed_unless (corners_bad file) _ BadVertex k q.1 in
      let s = room_counted (3 * stated_in file) a k r.1 in
      let t = and_second (file_fits (length file)) _ p.0 in
      record {
        stated = rw (p.0, q.0);
        long = right_long file q.0;
        passed = yes refl r.0;
        second = sym (eqb-true a b (and_first _ _ t));
        third = sym (eqb-true a c (and_first _ _ (and_second (eqb a b) _ t)));
        fits = s.0;
        counted = s.1;
      }

  -- what a list of coordinates holds
  pub import_held : (g : Vertex → Float) (l l' l'' : List Float) (m : ℕ) (r : Bool) (n : ℕ)
      → ((k : ℕ) → Readable file a b c k → length l ≡ a)
      → m ≡ count_of (stated_for file a b c)
      → r ≡ passes m
      → ColumnRead r m l (map g (corners_of (facets_from m file 84))) l'
      → n ≡ count_of (import_answer file a b c)
      → l'' ≡ cleared_from zero_f n l'
      → l'' ≡ held_for zero_f (import_answer file a b c) (length l) (map g (corners_of (facets_in file)))
  import_held g l l' l'' m r n room em er f en z =
      z
      ∙ ap (λ (x : ℕ). cleared_from zero_f x l') en
      ∙ held_by zero_f l l' (map g (corners_of (facets_in file))) f.long (import_answer file a b c) (λ k h.
      let read = import_counted k h in
      let stated : m ≡ stated_in file = em ∙ ap count_of read.stated in (
        read.counted
            ∙ sym (length-map (corners_of (facets_in file)) g ∙ corners_length (facets_in file) ∙ ap (λ (x : ℕ). 3 * x) (read_length (stated_in file) file 84)),
        omega (arith, read.fits, read.counted, room k read),
        f.written (er ∙ ap passes stated ∙ read.passed) (omega (arith, read.fits, room k read, stated))
            ∙ ap (λ (x : ℕ). sets l 0 (map g (corners_of (facets_from x file 84)))) stated,
      ))
