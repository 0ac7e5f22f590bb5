-- Document 01's surface, drawn: where the tests pass and the edges have room, the two lists hold the edge list, so that groups and triangles are
-- document 01's.
-- Assumes nothing.
use Rattle.std.specs.Prelude.{Ok, Err, Result}
use Prim.Native.Nat.{ℕ, ◌-◌, ◌≤◌}
use native.Mathlib.Omega.{arith}
use mathlib.Core.Path.{◌≡◌, sym, ap, ◌∙◌}
use mathlib.Core.Bool.{Bool, true, cond}
use mathlib.Core.List.{List}
use lib.Dec.{eqb}
use lib.Ieee.{Float}
use lib.ListN.{length, take, replicate, length-map}
use borrow.Author.Tests.{le-leb}
use Rattle.lists.specs.Padding.{padded}
use Rattle.lists.specs.Listing.{room_for, count_of, held_for}
use Rattle.lists.specs.Threes.{Three, column0, column1, column2}
use Rattle.lists.proofs.Bools.{and_first, and_second, and_eq}
use Rattle.lists.proofs.PaddingLaws.{padded_length}
use Rattle.refusals.specs.declared.Refusal.TheVariants.{Lengths}
use Rattle.search.specs.Keys.{ascending}
use Rattle.table.specs.Table.{Table, table, rows}
use Rattle.table.proofs.Laying.{columns}
use Rattle.table.specs.Rows.{keys_of}
use Rattle.edges.specs.Edges.{Edge}
use Rattle.edges.specs.Listing.{firsts, seconds, outputs_ok, answer_if}
use Rattle.edges.specs.Steps.{Accepted, Tested}
use Rattle.edges.specs.declared.Surface.TheVariants.{Open}
use Rattle.edges.proofs.AnswerLaws.{outputs_same}
use Rattle.edges.proofs.ListingLaws.{rows_rise}
use Rattle.groups.specs.Groups.{groups}
use Rattle.groups.specs.CellEdges.{pairs_ok}
use Rattle.triangles.specs.Triangles.{triangles}
use Rattle.triangles.specs.Building.{Source, source, Rooms as Lent, groups_at, triangles_at, cells_of, sizes_ok, room_for_both, built_answer, groups_held, held0, held1, held2}
use Rattle.triangles.proofs.Built.{groups_built, triangles_built}
use Rattle.mesh.specs.Mesh.{edges_of, groups_of, triangles_of}
use Rattle.mesh.specs.Steps.{Fit, Drawing}
use Rattle.refusals.specs.declared.Refusal.{Refusal}

module _ (v : Result (Unit {0}) Refusal) (ks : List ℕ) (ds ws : List Float) (cnt a b : ℕ) (tested : Tested v ks ds ws cnt a b) (l : Lent) (fit : Fit v l) where
  abbrev t : Table
  t = table ks ds ws cnt

  abbrev es : List Edge
  es = edges_of t

  acc : Accepted (table ks ds ws cnt) × (b ≡ a)
  acc = let h = tested fit.passed in (h.0, outputs_same a b h.1)

  rise : ascending (keys_of (rows t)) ≡ true
  rise = rows_rise ks ds ws cnt acc.0

  keys_are : take cnt ks ≡ keys_of (rows t)
  keys_are = sym (columns ks ds ws cnt acc.0.distances acc.0.weights).0

  outputs : outputs_ok a b ≡ true
  outputs = (tested fit.passed).1

  edges_answer : answer_if v es a ≡ room_for (length es) a
  unfolding answer_if
  edges_answer = ap (λ (c : Result (Unit {0}) Refusal). answer_if c es a) fit.passed

  -- ---- where the edges have room

  module _ (fits : length es ≤ a) where
    edges_count : answer_if v es a ≡ Ok (length es)
    edges_count = edges_answer ∙ rw (le-leb (length es) a fits)

    abbrev as' : List ℕ
    as' = padded 0 a (firsts es)

    abbrev bs : List ℕ
    bs = padded 0 b (seconds es)

    first_long : length as' ≡ a
    first_long = padded_length 0 a (firsts es) (omega (arith, length-map es (λ (e : Edge). e.first)))

    second_long : length bs ≡ b
    second_long = padded_length 0 b (seconds es) (omega (arith, length-map es (λ (e : Edge). e.second), acc.1))

    pub pairs : pairs_ok (length as') (length bs) (length es) ≡ true
    pairs =
        rw (first_long, second_long)
        (and_eq (and_first (eqb a b) _ outputs)
        (and_eq (and_second (eqb a b) _ outputs) (le-leb (length es) a fits)))

    abbrev src : Source
    src = source ks cnt as' bs (length es)

    sizes : sizes_ok src l ≡ true
    unfolding sizes_ok
    sizes = and_eq (and_eq (le-leb (length ks) 65536 acc.0.few) (le-leb cnt (length ks) acc.0.fits)) (and_eq pairs fit.rest)

    groups_are : groups_at src (cells_of src) ≡ groups_of t
    unfolding padded
    groups_are =
        groups_built (rows t) rise (replicate (a - length (firsts es)) 0)
        (replicate (b - length (seconds es)) 0) pairs (take cnt ks)
        ∙ ap (groups es) keys_are

    triangles_are : triangles_at src (cells_of src) ≡ triangles_of t
    unfolding padded
    triangles_are =
        triangles_built (rows t) rise (replicate (a - length (firsts es)) 0)
        (replicate (b - length (seconds es)) 0) pairs (take cnt ks)
        ∙ ap (triangles es) keys_are

    built_is : built_answer src l ≡ room_for_both (length (groups_of t)) l.groups (length (triangles_of t)) l.t0
    unfolding built_answer
    built_is =
        ap (λ (b : Bool).
        cond b (room_for_both (length (groups_at src (cells_of src))) l.groups
        (length (triangles_at src (cells_of src))) l.t0) (Err Lengths)) sizes
        ∙ ap (λ (g : List ℕ). room_for_both (length g) l.groups (length (triangles_at src (cells_of src))) l.t0) groups_are
        ∙ ap (λ (k : List (Three ℕ)). room_for_both (length (groups_of t)) l.groups (length k) l.t0) triangles_are

  -- ---- the calls for the edges, and for groups and triangles

  module _ (e : Result ℕ Refusal) (n : ℕ) (c : Result ℕ Refusal) (f' s' : List ℕ)
      (edges : e ≡ answer_if v es a)
      (f-is : f' ≡ held_for 0 e a (firsts es))
      (s-is : s' ≡ held_for 0 e b (seconds es))
      (count : n ≡ count_of e)
      (built : c ≡ built_answer (source ks cnt f' s' n) l) where
    module _ (fits : length es ≤ a) where
      e_count : e ≡ Ok (length es)
      e_count = edges ∙ edges_count fits

      f_held : f' ≡ padded 0 a (firsts es)
      unfolding held_for
      f_held = f-is ∙ ap (λ (x : Result ℕ Refusal). held_for 0 x a (firsts es)) e_count

      s_held : s' ≡ padded 0 b (seconds es)
      unfolding held_for
      s_held = s-is ∙ ap (λ (x : Result ℕ Refusal). held_for 0 x b (seconds es)) e_count

      n_count : n ≡ length es
      n_count = count ∙ ap count_of e_count

      src_is : source ks cnt f' s' n ≡ src fits
      src_is = λ i. source ks cnt (f_held i) (s_held i) (n_count i)

      -- a list that was filled
      filled_as : (room : ℕ) (found : Source → List ℕ) (right : List ℕ) → found (src fits) ≡ right →
          (g' : List ℕ)
          → g' ≡ held_for 0 (built_answer (source ks cnt f' s' n) l) room (found (source ks cnt f' s' n))
          → (j : ℕ)
          → c ≡ Ok j
          → g' ≡ padded 0 room right
      unfolding held_for
      filled_as room found right is g' was j q =
          was
          ∙ ap (λ (w : Result ℕ Refusal). held_for 0 w room (found (source ks cnt f' s' n))) (sym built ∙ q)
          ∙ ap (padded 0 room) (ap found src_is ∙ is)

    pub drawn_open : (g' x' y' z' : List ℕ)
        → g' ≡ groups_held (source ks cnt f' s' n) l
        → x' ≡ held0 (source ks cnt f' s' n) l
        → y' ≡ held1 (source ks cnt f' s' n) l
        → z' ≡ held2 (source ks cnt f' s' n) l
        → Drawing Open t a b l (record { edges = e; built = c }) f' s' g' x' y' z'
    drawn_open g' x' y' z' g-is x-is y_is z_is =
        record {
          edges = edges ∙ edges_answer;
          first = f_held;
          second = s_held;
          built = λ fits. built ∙ ap (λ (x : Source). built_answer x l) (src_is fits) ∙ built_is fits;
          groups = λ fits. filled_as fits l.groups (λ (x : Source). groups_at x (cells_of x)) (groups_of t) (groups_are fits) g' g-is;
          t0 = λ fits. filled_as fits l.t0 (λ (x : Source). column0 (triangles_at x (cells_of x))) (column0 (triangles_of t))
              (ap column0 (triangles_are fits)) x' x-is;
          t1 = λ fits. filled_as fits l.t1 (λ (x : Source). column1 (triangles_at x (cells_of x))) (column1 (triangles_of t))
              (ap column1 (triangles_are fits)) y' y_is;
          t2 = λ fits. filled_as fits l.t2 (λ (x : Source). column2 (triangles_at x (cells_of x))) (column2 (triangles_of t))
              (ap column2 (triangles_are fits)) z' z_is;
        }
