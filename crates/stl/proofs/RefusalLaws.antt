-- When a mesh or a file is refused, exactly: with 11, with 10 and with 6, each in both directions.
-- Assumes nothing.
use Rattle.std.specs.Prelude.{Ok, Err, Result}
use Prim.Native.Nat.{ℕ, ◌+◌, ◌*◌, ◌<◌}
use native.Mathlib.Omega.{arith}
use mathlib.Core.Path.{◌≡◌, refl, sym, ap, ◌∙◌}
use mathlib.Core.Logic.{◌⊎◌, inl, inr, ⊎_elim, ◌↔◌}
use mathlib.Core.Bool.{Bool, true, false, cond, ◌&&◌, true≢false, false≢true}
use mathlib.Core.List.Memᴰ
use mathlib.Core.List.{List, [], ◌∷◌}
use borrow.Author.Tests.{leb-false, lt-leb, eqb-false, ltb-true}
use lib.Dec.{leb, ltb, lit<}
use lib.ListN.{length}
use lib.Ieee.{Float}
use Rattle.refusals.specs.Refusals.{number_of, answer_number}
use Rattle.refusals.specs.declared.Refusal.{Refusal}
use Rattle.refusals.specs.declared.Refusal.TheVariants.{Lengths, NoPlace, BadVertex, BadLength}
use Rattle.lists.specs.Lists.{◌∈◌}
use Rattle.lists.proofs.Bools.{yes, no, cases, and_first, and_second, or_cases}
use Rattle.floats.proofs.Values.{le_or_lt}
use Rattle.corners.specs.Corners.{every, vertex_ok, vertices_in, triangle_ok, triangles_in}
use Rattle.stl.specs.Files.{stated_in, length_bad, corners_bad, facets_in, corners_of}
use Rattle.stl.specs.Calls.{export_answer, import_answer}
use Rattle.stl.proofs.AnswerLaws.{never, sets_fit, lists_fit, length_short, length_other, length_right, right_long}

-- ---- a test that fails

-- some element of a list fails a test
abbrev pub Fails : {A : Type 0} → (A → Bool) → List A → Type 0
Fails {A} test l = (x : A) × (x ∈ l) × (test x ≡ false)

module _ {A : Type 0} (test : A → Bool) where
  fails_behind : (x : A) (xs : List A) → Fails test xs → Fails test (x ∷ xs)
  fails_behind x xs f = (f.0, Memᴰ.tail f.1, f.2)

  first_or_later : (x : A) (xs : List A) → (every test xs ≡ false → Fails test xs) → (b : Bool) → test x ≡ b → b && every test xs ≡ false → Fails test (x ∷ xs)
  first_or_later x xs f false p e = (x, Memᴰ.head refl, p)
  first_or_later x xs f true p e = fails_behind x xs (f e)

  some_fails : (l : List A) → every test l ≡ false → Fails test l
  unfolding every
  some_fails [] e = absurd (true≢false e)
  some_fails (x ∷ xs) e = first_or_later x xs (some_fails xs) (test x) refl e

  fails_some : (l : List A) → Fails test l → every test l ≡ true → ⊥
  unfolding every
  fails_some [] f e = Memᴰ.not-nil f.1
  fails_some (x ∷ xs) f e =
      ⊎_elim (λ p. false≢true (sym f.2 ∙ ap test p ∙ and_first (test x) (every test xs) e))
      (λ m. fails_some xs (f.0, m, f.2) (and_second (test x) (every test xs) e))
      (Memᴰ.cases_cons f.1)

  fails_not : (l : List A) → Fails test l → every test l ≡ false
  fails_not l f = cases (λ (b : Bool). every test l ≡ b → b ≡ false) (every test l) (λ e h. absurd (fails_some l f h)) (λ e h. refl) refl

-- of two lists, one has an element that fails
either_fails : {A B : Type 0} (f : A → Bool) (l : List A) (g : B → Bool) (m : List B) → every f l && every g m ≡ false → Fails f l ⊎ Fails g m
either_fails f l g m = go (every f l) refl
  where
    go : (b : Bool) → every f l ≡ b → b && every g m ≡ false → Fails f l ⊎ Fails g m
    go false p e = inl (some_fails f l p)
    go true p e = inr (some_fails g m e)

fails_either : {A B : Type 0} (f : A → Bool) (l : List A) (g : B → Bool) (m : List B) → Fails f l ⊎ Fails g m → every f l && every g m ≡ false
fails_either f l g m (inl p) = rw (fails_not f l p)
fails_either f l g m (inr p) = rw (fails_not g m p) (and_none (every f l))
  where
    and_none : (b : Bool) → b && false ≡ false
    and_none true = refl
    and_none false = refl

-- ---- answers by their tests, in order

other : (why why' : Refusal) → number_of why < number_of why' → ◌≡◌ {A = Result ℕ Refusal} (Err why) (Err why') → ⊥
other why why' h e = let same : number_of why ≡ number_of why' = ap answer_number e in omega arith

-- a mesh is tested for lengths, for vertices and for room
abbrev mesh_ladder : Bool → Bool → Bool → ℕ → Result ℕ Refusal
mesh_ladder a b c n = cond a (cond b (cond c (Ok n) (Err NoPlace)) (Err BadVertex)) (Err Lengths)

mesh_2 : (a b c : Bool) (n : ℕ) → (mesh_ladder a b c n ≡ Err Lengths) ↔ (a ≡ false)
mesh_2 false b c n = (λ e. refl, λ e. refl)
mesh_2 true true true n = (λ e. absurd (never Lengths n (sym e)), λ e. absurd (true≢false e))
mesh_2 true true false n = (λ e. absurd (other Lengths NoPlace (lit< tt) (sym e)), λ e. absurd (true≢false e))
mesh_2 true false c n = (λ e. absurd (other Lengths BadVertex (lit< tt) (sym e)), λ e. absurd (true≢false e))

mesh_10 : (a b c : Bool) (n : ℕ) → (mesh_ladder a b c n ≡ Err BadVertex) ↔ ((a ≡ true) × (b ≡ false))
mesh_10 false b c n = (λ e. absurd (other Lengths BadVertex (lit< tt) e), λ p. absurd (false≢true p.0))
mesh_10 true true true n = (λ e. absurd (never BadVertex n (sym e)), λ p. absurd (true≢false p.1))
mesh_10 true true false n = (λ e. absurd (other NoPlace BadVertex (lit< tt) e), λ p. absurd (true≢false p.1))
mesh_10 true false c n = (λ e. (refl, refl), λ p. refl)

mesh_6 : (a b c : Bool) (n : ℕ) → (mesh_ladder a b c n ≡ Err NoPlace) ↔ ((a ≡ true) × (b ≡ true) × (c ≡ false))
mesh_6 false b c n = (λ e. absurd (other Lengths NoPlace (lit< tt) e), λ p. absurd (false≢true p.0))
mesh_6 true true true n = (λ e. absurd (never NoPlace n (sym e)), λ p. absurd (true≢false p.2))
mesh_6 true true false n = (λ e. (refl, refl, refl), λ p. refl)
mesh_6 true false c n = (λ e. absurd (other NoPlace BadVertex (lit< tt) (sym e)), λ p. absurd (false≢true p.1))

-- a file is tested for lengths, for its own length, and then as a mesh is
abbrev file_ladder : Bool → Bool → Bool → Bool → ℕ → Result ℕ Refusal
file_ladder a l v c n = cond a (cond l (Err BadLength) (cond v (Err BadVertex) (cond c (Ok n) (Err NoPlace)))) (Err Lengths)

file_2 : (a l v c : Bool) (n : ℕ) → (file_ladder a l v c n ≡ Err Lengths) ↔ (a ≡ false)
file_2 false l v c n = (λ e. refl, λ e. refl)
file_2 true true v c n = (λ e. absurd (other Lengths BadLength (lit< tt) (sym e)), λ e. absurd (true≢false e))
file_2 true false true c n = (λ e. absurd (other Lengths BadVertex (lit< tt) (sym e)), λ e. absurd (true≢false e))
file_2 true false false true n = (λ e. absurd (never Lengths n (sym e)), λ e. absurd (true≢false e))
file_2 true false false false n = (λ e. absurd (other Lengths NoPlace (lit< tt) (sym e)), λ e. absurd (true≢false e))

file_11 : (a l v c : Bool) (n : ℕ) → (file_ladder a l v c n ≡ Err BadLength) ↔ ((a ≡ true) × (l ≡ true))
file_11 false l v c n = (λ e. absurd (other Lengths BadLength (lit< tt) e), λ p. absurd (false≢true p.0))
file_11 true true v c n = (λ e. (refl, refl), λ p. refl)
file_11 true false true c n = (λ e. absurd (other BadVertex BadLength (lit< tt) e), λ p. absurd (false≢true p.1))
file_11 true false false true n = (λ e. absurd (never BadLength n (sym e)), λ p. absurd (false≢true p.1))
file_11 true false false false n = (λ e. absurd (other NoPlace BadLength (lit< tt) e), λ p. absurd (false≢true p.1))

file_10 : (a l v c : Bool) (n : ℕ) → (file_ladder a l v c n ≡ Err BadVertex) ↔ ((a ≡ true) × (l ≡ false) × (v ≡ true))
file_10 false l v c n = (λ e. absurd (other Lengths BadVertex (lit< tt) e), λ p. absurd (false≢true p.0))
file_10 true true v c n = (λ e. absurd (other BadVertex BadLength (lit< tt) (sym e)), λ p. absurd (true≢false p.1))
file_10 true false true c n = (λ e. (refl, refl, refl), λ p. refl)
file_10 true false false true n = (λ e. absurd (never BadVertex n (sym e)), λ p. absurd (false≢true p.2))
file_10 true false false false n = (λ e. absurd (other NoPlace BadVertex (lit< tt) e), λ p. absurd (false≢true p.2))

file_6 : (a l v c : Bool) (n : ℕ) → (file_ladder a l v c n ≡ Err NoPlace) ↔ ((a ≡ true) × (l ≡ false) × (v ≡ false) × (c ≡ false))
file_6 false l v c n = (λ e. absurd (other Lengths NoPlace (lit< tt) e), λ p. absurd (false≢true p.0))
file_6 true true v c n = (λ e. absurd (other NoPlace BadLength (lit< tt) (sym e)), λ p. absurd (true≢false p.1))
file_6 true false true c n = (λ e. absurd (other NoPlace BadVertex (lit< tt) (sym e)), λ p. absurd (true≢false p.2))
file_6 true false false true n = (λ e. absurd (never NoPlace n (sym e)), λ p. absurd (true≢false p.3))
file_6 true false false false n = (λ e. (refl, refl, refl, refl), λ p. refl)

-- ---- writing

module _ (xs ys zs : List Float) (n : ℕ) (is js ks : List ℕ) (m room : ℕ) where
  abbrev passes : Bool
  passes = every vertex_ok (vertices_in xs ys zs n) && every (triangle_ok n) (triangles_in is js ks m)

  abbrev lengths : Bool
  lengths = sets_fit xs ys zs n is js ks m room

  ladder : export_answer xs ys zs n is js ks m room ≡ mesh_ladder lengths passes (leb (84 + 50 * m) room) (84 + 50 * m)
  unfolding export_answer
  ladder = refl

  -- 2: exactly when the lengths don't pass
  pub export_lengths : (export_answer xs ys zs n is js ks m room ≡ Err Lengths) ↔ (lengths ≡ false)
  export_lengths = rw ladder (mesh_2 lengths passes (leb (84 + 50 * m) room) (84 + 50 * m))

  -- 10: exactly when they pass, and some vertex is out of range or some triangle names no vertex
  pub export_vertex : (export_answer xs ys zs n is js ks m room ≡ Err BadVertex) ↔
      ((lengths ≡ true) × (Fails vertex_ok (vertices_in xs ys zs n) ⊎ Fails (triangle_ok n) (triangles_in is js ks m)))
  export_vertex =
      rw ladder
      (let on = mesh_10 lengths passes (leb (84 + 50 * m) room) (84 + 50 * m) in (
        λ e. ((on.0 e).0, either_fails vertex_ok (vertices_in xs ys zs n) (triangle_ok n) (triangles_in is js ks m) (on.0 e).1),
        λ p. on.1 (p.0, fails_either vertex_ok (vertices_in xs ys zs n) (triangle_ok n) (triangles_in is js ks m) p.1),
      ))

  -- 6: exactly when all pass, and the file is shorter than 84 + 50 for each triangle
  pub export_room : (export_answer xs ys zs n is js ks m room ≡ Err NoPlace) ↔
      ((lengths ≡ true) × (every vertex_ok (vertices_in xs ys zs n) && every (triangle_ok n) (triangles_in is js ks m) ≡ true) × (room < 84 + 50 * m))
  export_room =
      rw ladder
      (let on = mesh_6 lengths passes (leb (84 + 50 * m) room) (84 + 50 * m) in (
        λ e. let p = on.0 e in (p.0, p.1, leb-false (84 + 50 * m) room p.2),
        λ p. on.1 (p.0, p.1, lt-leb (84 + 50 * m) room p.2),
      ))

-- ---- reading

module _ (file : List ℕ) (a b c : ℕ) where
  abbrev lists : Bool
  lists = lists_fit file a b c

  steps : import_answer file a b c ≡ file_ladder lists (length_bad file) (corners_bad file) (leb (3 * stated_in file) a) (3 * stated_in file)
  unfolding import_answer
  steps = refl

  -- 2: exactly when the lengths don't pass
  pub import_lengths : (import_answer file a b c ≡ Err Lengths) ↔ (lists ≡ false)
  import_lengths = rw steps (file_2 lists (length_bad file) (corners_bad file) (leb (3 * stated_in file) a) (3 * stated_in file))

  bad_length : length_bad file ≡ true → (length file < 84) ⊎ (length file ≡ 84 + 50 * stated_in file → ⊥)
  bad_length e =
      ⊎_elim
      (λ h. inl (ltb-true (length file) 84 h))
      (λ h. inr (eqb-false (length file) (84 + 50 * stated_in file) (no refl h)))
      (or_cases (ltb (length file) 84) _ e)

  length_bad_lem : (length file < 84) ⊎ (length file ≡ 84 + 50 * stated_in file → ⊥) → length_bad file ≡ true
  length_bad_lem (inl h) = length_short file h
  length_bad_lem (inr f) = ⊎_elim (λ h. length_other file h f) (λ h. length_short file h) (le_or_lt 84 (length file))

  -- 11: exactly when they pass, and the file is under 84 bytes or not 84 + 50n long for its count n
  pub import_length : (import_answer file a b c ≡ Err BadLength) ↔ ((lists ≡ true) × ((length file < 84) ⊎ (length file ≡ 84 + 50 * stated_in file → ⊥)))
  import_length =
      rw steps
      (let on = file_11 lists (length_bad file) (corners_bad file) (leb (3 * stated_in file) a) (3 * stated_in file) in
      (λ e. ((on.0 e).0, bad_length (on.0 e).1), λ p. on.1 (p.0, length_bad_lem p.1)))

  -- 10: exactly when the lengths are right, and some corner is out of range
  pub import_vertex : (import_answer file a b c ≡ Err BadVertex) ↔
      ((lists ≡ true) × (length file ≡ 84 + 50 * stated_in file) × Fails vertex_ok (corners_of (facets_in file)))
  import_vertex =
      rw steps
      (let on = file_10 lists (length_bad file) (corners_bad file) (leb (3 * stated_in file) a) (3 * stated_in file) in (
        λ e. let p = on.0 e in (p.0, right_long file p.1, some_fails vertex_ok (corners_of (facets_in file)) (no refl p.2)),
        λ p. on.1 (p.0, length_right file p.1, rw (fails_not vertex_ok (corners_of (facets_in file)) p.2)),
      ))

  -- 6: exactly when the lengths are right, every corner passes, and a list has fewer places than corners
  pub import_room : (import_answer file a b c ≡ Err NoPlace) ↔
      ((lists ≡ true) × (length file ≡ 84 + 50 * stated_in file) × (every vertex_ok (corners_of (facets_in file)) ≡ true) × (a < 3 * stated_in file))
  import_room =
      rw steps
      (let on = file_6 lists (length_bad file) (corners_bad file) (leb (3 * stated_in file) a) (3 * stated_in file) in (
        λ e. let p = on.0 e in (p.0, right_long file p.1, yes refl p.2, leb-false (3 * stated_in file) a p.3),
        λ p. on.1 (p.0, length_right file p.1, rw p.2, lt-leb (3 * stated_in file) a p.3),
      ))
