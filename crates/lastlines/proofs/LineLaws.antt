-- Laws of what M prints.
-- Assumes nothing.
use Rattle.std.specs.Prelude.{Ok, Err, Some, None, Option, Result}
use Prim.Native.Nat.{ℕ, zero, suc, ◌+◌, ◌*◌, ◌/◌, ◌%◌, ◌≤◌}
use native.Mathlib.Nat.{zero-add, add-zero}
use native.Mathlib.Omega.{arith}
use mathlib.Core.Path.{◌≡◌, refl, sym, ap, ◌∙◌}
use mathlib.Core.Bool.{Bool, true, false, cond}
use mathlib.Core.List.{List, [], ◌∷◌, ◌++◌, append_assoc, append-nil}
use lib.ListN.{length, get_or, length-append}
use lib.Seq.{sets}
use lib.Ieee.{Float, nan}
use lib.Dec.{ltb}
use borrow.Author.Tests.{leb-true}
use Rattle.floats.specs.Floats.{zero32}
use Rattle.lists.proofs.Bools.{cases, and_first}
use Rattle.lists.proofs.Writing.{sets_append}
use Rattle.refusals.specs.declared.Refusal.{Refusal}
use Rattle.refusals.specs.Refusals.{number_of}
use Rattle.refusals.specs.declared.Refusal.TheVariants.{NoPlace}
use Rattle.table.specs.Table.{Table}
use Rattle.table.specs.declared.Settings.{Settings}
use Rattle.lines.specs.declared.Line.{Line}
use Rattle.lines.specs.declared.Line.TheVariants as line
use Rattle.lines.specs.Lines.{line_of}
use Rattle.mesh.specs.Mesh.{edges_of, triangles_of, vertices_of, have_room, held_in, mesh_check, meshed_on, meshed_if, mesh_answer_on, mesh_answer}
use Rattle.slopes.specs.Vertices.{xs_of, ys_of, zs_of}
use Rattle.texts.specs.Texts.{hex_digits, hex_field, decimal_from, counts_line, vertex_line, bad_line, refused_line}
use Rattle.fusing.specs.declared.Fused.{Fused}
use Rattle.fusing.specs.declared.Fused.TheVariants as fused
use Rattle.fusing.specs.Fusing.{outcome}
use Rattle.lastlines.specs.declared.Stepped.{Stepped}
use Rattle.lastlines.specs.Lastcheck.{setup_of, reading_of, vertex_lines, printed_for, mesh_text, goes_on_lem, held, After, after, after_setup, after_reading, after_mesh, after_line, step_of, stepped_as, IsStep}
use Rattle.lastlines.specs.Steps.{edges_in, stepped, Prints, PrintsStep}

-- a vertex's line has 29 bytes
pub vertex_length : (x y z : Float) → length (vertex_line x y z) ≡ 29
unfolding vertex_line hex_field hex_digits
vertex_length x y z = refl

module _ (xs ys zs : List Float) where
  pub lines_length : (n i : ℕ) → length (vertex_lines n i xs ys zs) ≡ 29 * n
  unfolding vertex_lines
  lines_length zero i = refl
  lines_length (suc n) i =
      rw (
        length-append (vertex_line (get_or xs i nan) (get_or ys i nan) (get_or zs i nan)) (vertex_lines n (suc i) xs ys zs),
        vertex_length (get_or xs i nan) (get_or ys i nan) (get_or zs i nan),
        lines_length n (suc i),
      ) (omega arith)

  pub lines_none : (l : List ℕ) (at : ℕ) → l ≡ sets l at (vertex_lines 0 0 xs ys zs)
  unfolding vertex_lines
  lines_none l at = refl

  -- the lines of i vertices and of one more
  lines_step :
      (k i : ℕ)
      → vertex_lines (k + 1) i xs ys zs ≡ vertex_lines k i xs ys zs ++ vertex_line (get_or xs (i + k) nan) (get_or ys (i + k) nan) (get_or zs (i + k) nan)
  unfolding vertex_lines
  lines_step zero i = rw (add-zero i) (append-nil (vertex_line (get_or xs i nan) (get_or ys i nan) (get_or zs i nan)))
  lines_step (suc k) i =
      let e : suc k + 1 ≡ suc (k + 1) = omega arith in
      let f : i + suc k ≡ suc i + k = omega arith in
      rw (e, lines_step k (suc i), f, append_assoc)

  pub lines_more :
      (l : List ℕ) (at i : ℕ) {m n : List ℕ} → m ≡ sets l at (vertex_lines i 0 xs ys zs) →
      n ≡ sets m (at + 29 * i) (vertex_line (get_or xs i nan) (get_or ys i nan) (get_or zs i nan)) → n ≡ sets l at (vertex_lines (i + 1) 0 xs ys zs)
  lines_more l at i e f =
      f
      ∙ rw (
        e,
        lines_step i 0,
        zero-add i,
        sets_append l at (vertex_lines i 0 xs ys zs) (vertex_line (get_or xs i nan) (get_or ys i nan) (get_or zs i nan)),
        lines_length i 0,
      )

  pub lines_all : (l : List ℕ) (at : ℕ) {i n : ℕ} {m : List ℕ} → m ≡ sets l at (vertex_lines i 0 xs ys zs) → i ≡ n → m ≡ sets l at (vertex_lines n 0 xs ys zs)
  lines_all l at e f = e ∙ ap (λ (k : ℕ). sets l at (vertex_lines k 0 xs ys zs)) f

-- a number has at most k digits
pub decimal_length : (k n : ℕ) (text : List ℕ) → length (decimal_from k n text) ≤ k + length text
unfolding decimal_from
decimal_length zero n text = omega arith
decimal_length (suc k) n text =
    cases (λ (b : Bool). length (cond b ((48 + n) ∷ text) (decimal_from k (n / 10) ((48 + n % 10) ∷ text))) ≤ suc k + length text) (ltb n 10)
    (λ e. omega arith)
    (λ e. omega (arith, decimal_length k (n / 10) ((48 + n % 10) ∷ text)))

pub counts_length : (r e t : ℕ) → length (counts_line r e t) ≤ 84
unfolding counts_line
counts_length r e t =
    simp length-append (omega (arith, decimal_length 20 r [], decimal_length 20 e [], decimal_length 20 t []))

pub counts_fit : {at : ℕ} (r e t : ℕ) → at ≡ length (counts_line r e t) → at ≤ 84
counts_fit r e t h = rw h (counts_length r e t)

-- an answer has at most 512 edges
bound_if : (v : Result (Unit {0}) Refusal) (t : Table) → edges_in (meshed_if v t held) ≤ 512
unfolding meshed_on
bound_if (Ok tt) t =
    cases (λ (b : Bool). edges_in (cond b (Ok (length (edges_of t), length (triangles_of t))) (Err NoPlace)) ≤ 512) (have_room t held)
    (λ e. leb-true _ _ (and_first _ _ e))
    (λ e. omega arith)
bound_if (Err why) t = omega arith

pub edges_bound : (s : Settings) (t : Table) → edges_in (mesh_answer s t held) ≤ 512
unfolding mesh_answer_on
edges_bound s t = bound_if (mesh_check s t held) t

pub edges_in_lem : (s : Settings) (t : Table) {a : Result (ℕ × ℕ) Refusal} → a ≡ mesh_answer s t held → edges_in a ≤ 512
edges_in_lem s t e = rw e (edges_bound s t)

pub edges_few : {a : Result (ℕ × ℕ) Refusal} {n m : ℕ} → a ≡ Ok (n, m) → edges_in a ≤ 512 → n ≤ 512
edges_few e h = rw e at h

-- counts and then vertices are what a mesh prints
pub print_done :
    (s : Settings) (rows n m : ℕ) (xs ys zs : List Float) (l : List ℕ) {a : Result (ℕ × ℕ) Refusal} {k o : List ℕ} {at : ℕ}
    → a ≡ Ok (n, m)
    → at ≡ length (counts_line rows n m)
    → k ≡ sets l 0 (counts_line rows n m)
    → o ≡ sets k at (vertex_lines n 0 xs ys zs)
    → Prints (Some s) (printed_for a rows xs ys zs) (goes_on_lem a) (stepped (Some s) (at + 29 * n) true) l o
unfolding printed_for
print_done s rows n m xs ys zs l {a} {k} {o} {at} d e f g =
    let long : at + 29 * n ≡ length (counts_line rows n m ++ vertex_lines n 0 xs ys zs) =
    rw (length-append (counts_line rows n m) (vertex_lines n 0 xs ys zs), lines_length xs ys zs n 0, e) in
    let place : 0 + length (counts_line rows n m) ≡ at = omega arith in
    rw d (record {
      answer = ap (λ (j : ℕ). stepped (Some s) j true) long;
      text = g ∙ rw (f, sets_append l 0 (counts_line rows n m) (vertex_lines n 0 xs ys zs), place);
    })

pub print_refused :
    (s : Settings) (rows : ℕ) (xs ys zs : List Float) (why : Refusal) {a : Result (ℕ × ℕ) Refusal} {r : Stepped} {l o : List ℕ}
    → a ≡ Err why
    → Prints (Some s) (refused_line why) false r l o
    → Prints (Some s) (printed_for a rows xs ys zs) (goes_on_lem a) r l o
unfolding printed_for
print_refused s rows xs ys zs why e p = rw e p

-- what the mesh's answer and its lists print is what M prints
pub surface :
    (s : Settings) (t : Table) (l : List ℕ) {a : Result (ℕ × ℕ) Refusal} {xs ys zs : List Float} {r : Stepped} {o : List ℕ} → a ≡ mesh_answer s t held →
    xs ≡ held_in zero32 (mesh_answer s t held) 512 (xs_of (vertices_of s t)) → ys ≡ held_in zero32 (mesh_answer s t held) 512 (ys_of (vertices_of s t)) →
    zs ≡ held_in zero32 (mesh_answer s t held) 512 (zs_of (vertices_of s t)) →
    Prints (Some s) (printed_for a t.count xs ys zs) (goes_on_lem a) r l o → PrintsStep (after_mesh s t) r l o
unfolding mesh_text after_mesh
surface s t l e f g h p = record { answer = p.answer ∙ rw (f, g, h, e); text = p.text ∙ rw (f, g, h, e) }

-- no line prints more than 15,000 bytes
pub refused_length : (why : Refusal) → length (refused_line why) ≤ 29
unfolding refused_line
refused_length why = simp length-append (omega (arith, decimal_length 20 (number_of why) []))

bad_length : (n : ℕ) → length (bad_line n) ≤ 25
unfolding bad_line
bad_length n = simp length-append (omega (arith, decimal_length 20 n []))

mesh_short : (a : Result (ℕ × ℕ) Refusal) (rows : ℕ) (xs ys zs : List Float) → edges_in a ≤ 512 → length (printed_for a rows xs ys zs) ≤ 15000
unfolding printed_for
mesh_short (Ok (n, m)) rows xs ys zs h =
    rw (length-append (counts_line rows n m) (vertex_lines n 0 xs ys zs), lines_length xs ys zs n 0) (omega (arith, counts_length rows n m))
mesh_short (Err why) rows xs ys zs h = omega (arith, refused_length why)

module _ (t : Table) where
  setup_short : (w : Result Settings Refusal) → length (after_setup w t).text ≤ 15000
  unfolding after_setup
  setup_short (Ok s) = omega arith
  setup_short (Err why) = omega (arith, refused_length why)

  reading_short : (r : Result Fused Refusal) (s : Settings) → length (after_reading r s t).text ≤ 15000
  unfolding after_reading
  reading_short (Ok fused) s = omega arith
  reading_short (Err why) s = omega (arith, refused_length why)

  surface_short : (s : Settings) → length (after_mesh s t).text ≤ 15000
  unfolding after_mesh mesh_text
  surface_short s = mesh_short (mesh_answer s t held) t.count _ _ _ (edges_bound s t)

module _ (n : ℕ) (t : Table) where
  line_short : (g : Option Line) (s : Option Settings) → length (after_line g n s t).text ≤ 15000
  unfolding after_line
  line_short (Some (line.Settings a b c)) None = setup_short t (setup_of a b c)
  line_short (Some (line.Settings a b c)) (Some s) = omega (arith, bad_length n)
  line_short (Some (line.Reading x y z d c)) (Some s) =
      reading_short (reading_of s t x y z d c).left (reading_of s t x y z d c).answer s
  line_short (Some (line.Reading x y z d c)) None = omega (arith, bad_length n)
  line_short (Some line.Mesh) (Some s) = surface_short t s
  line_short (Some line.Mesh) None = omega (arith, bad_length n)
  line_short None s = omega (arith, bad_length n)

-- P and D leave the table that they are handed
setup_left : (w : Result Settings Refusal) (t : Table) → t ≡ (after_setup w t).left
unfolding after_setup
setup_left (Ok s) t = refl
setup_left (Err why) t = refl

reading_left : (r : Result Fused Refusal) (s : Settings) (t : Table) → t ≡ (after_reading r s t).left
unfolding after_reading
reading_left (Ok fused) s t = refl
reading_left (Err why) s t = refl

-- one line is what its kind does
module _ (bytes : List ℕ) (n : ℕ) (s : Option Settings) (t : Table) (l : List ℕ) {g : Option Line} (e : g ≡ line_of bytes) where
  pub is_step :
      {a : After} {r : Stepped} {t' : Table} {o : List ℕ}
      → after_line g n s t ≡ a
      → PrintsStep a r l o
      → t' ≡ a.left
      → IsStep (step_of bytes n s t) r t' l o
  unfolding step_of
  is_step {a} q p k =
      let same : a ≡ step_of bytes n s t = sym q ∙ ap (λ (g : Option Line). after_line g n s t) e in
      record {
        answer = p.answer ∙ ap stepped_as same;
        left = k ∙ ap (λ (x : After). x.left) same;
        text = p.text ∙ ap (λ (x : After). sets l 0 x.text) same;
        short = line_short n t (line_of bytes) s;
      }

  pub step_settings :
      {a b c : ℕ} {w : Result Settings Refusal} {r : Stepped} {o : List ℕ}
      → g ≡ Some (line.Settings a b c)
      → s ≡ None
      → w ≡ setup_of a b c
      → PrintsStep (after_setup w t) r l o
      → IsStep (step_of bytes n s t) r t l o
  unfolding after_line
  step_settings {w = w} k f d p = is_step (rw (k, f, d)) p (setup_left w t)

  pub step_reading :
      {x y z d c : ℕ} {u : Settings} {w : Result Fused Refusal} {t' : Table} {r : Stepped} {o : List ℕ}
      → g ≡ Some (line.Reading x y z d c)
      → s ≡ Some u
      → outcome w t' ≡ reading_of u t x y z d c
      → PrintsStep (after_reading w u t') r l o
      → IsStep (step_of bytes n s t) r t' l o
  unfolding after_line
  step_reading {u = u} {w = w} {t' = t'} k f d p = is_step (rw (k, f, ← d)) p (reading_left w u t')

  pub step_mesh :
      {u : Settings} {r : Stepped} {o : List ℕ} → g ≡ Some line.Mesh → s ≡ Some u → PrintsStep (after_mesh u t) r l o → IsStep (step_of bytes n s t) r t l o
  unfolding after_line after_mesh
  step_mesh k f p = is_step (rw (k, f)) p refl

  -- any other line
  pub step_bad :
      {r : Stepped} {o : List ℕ}
      → after_line g n s t ≡ after s t (bad_line n) false
      → Prints s (bad_line n) false r l o
      → IsStep (step_of bytes n s t) r t l o
  step_bad k p = is_step k p refl

-- a reading that made a row or changed one is silent, and the run goes on
module _ (s : Settings) where
  pub fused_new : (l : List ℕ) {w : Result Fused Refusal} → w ≡ Ok fused.New → (t : Table) → PrintsStep (after_reading w s t) (stepped (Some s) 0 true) l l
  unfolding after_reading
  fused_new l e t = rw e (record { answer = refl; text = refl })

  pub fused_changed : (l : List ℕ) {w : Result Fused Refusal} → w ≡ Ok fused.Changed → (t : Table) → PrintsStep (after_reading w s t) (stepped (Some s) 0 true) l l
  unfolding after_reading
  fused_changed l e t = rw e (record { answer = refl; text = refl })
