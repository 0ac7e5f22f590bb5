-- The beginning and the end of the march: blank lists hold nothing, and once no cell waits the marks are the stored rows, scattered. Assumes nothing.
use Rattle.std.specs.Prelude.{Ok, Err, Result, None, Option, Some}
use mathlib.Core.Path.{◌≡◌, refl, sym, ap, subst, ◌∙◌}
use mathlib.Core.Bool.{Bool, true, false, or-true}
use mathlib.Core.List.Memᴰ
use mathlib.Core.List.{List, [], ◌∷◌}
use mathlib.Core.Logic.{⊎_elim}
use Prim.Native.Nat.{ℕ, suc, ◌-◌, ◌<◌, ◌≤◌}
use native.Mathlib.Omega.{arith}
use borrow.Author.Tests.{eq-eqb, ne_eqb}
use lib.Dec.{eqb}
use lib.ListN.{length, get_or, set, replicate, length-replicate}
use lib.Ieee.{Float, nan}
use Rattle.floats.specs.Floats.{zero32}
use Rattle.heap.specs.Heap.{Heaped, Scattered}
use Rattle.heap.proofs.Laws.{heaped_start, heaped_end}
use Rattle.ids.specs.Key.{on_lattice}
use Rattle.lists.specs.Lists.{◌∈◌, All}
use Rattle.lists.specs.Padding.{padded}
use Rattle.lists.specs.Places.{filled}
use Rattle.lists.proofs.PaddingLaws.{padded_length}
use Rattle.marks.specs.Marks.{label, standing}
use Rattle.marks.proofs.Keeping.{label_real, within, standing_at, looked, kept_at, kept_once, value_at_lem, kept_none, look_none}
use Rattle.search.specs.Keys.{member, ascending}
use Rattle.table.specs.Table.{Row}
use Rattle.table.specs.Rows.{keys_of as table_keys}
use Rattle.marching.specs.March.{MarchedRow, Cell, State, Rooms, Going, on, and_then, keys_of, distances_of, cells_of, distance_of, seeds, sow_all, take_up_to, nothing}
use Rattle.marching.specs.March as march
use Rattle.marching.specs.declared.Course.{Course}
use Rattle.marching.specs.Lattice.{lattice_of, march_from}
use Rattle.marching.proofs.Lattice.{seeds_ascend, lattice_keeps}
use Rattle.marching.proofs.Sound.{after_on}
use Rattle.neighbors.specs.Neighbors.{neighbours}
use Rattle.hearing.specs.Hearing.{or_waits, Marked}
use Rattle.hearing.proofs.Fitting.{key_for, key_for_lem, key_real}
use Rattle.hearing.proofs.Walking.{real_key}
use Rattle.refusals.specs.declared.Refusal.{Refusal}
use Rattle.fronts.specs.Fronts.{marking, Held, rooms_of}
use Rattle.racing.specs.declared.Pace.{Pace}
use Rattle.racing.specs.Racing.{unlabelled, MayStep, Goes, Blank, Sown, Emptied, Laid, Finished}
use Rattle.fronts.proofs.Marking.{stored_here}
use Rattle.fronts.proofs.Walking.{stopped_then}
use Rattle.racing.proofs.Marching.{no_cells, same_rooms}
use Rattle.racing.proofs.Labelling.{labelled, labels_ascend, distances_same, distance_labelled, labelled_from, keys_back}

-- ---- blank lists

pub blank_long : {A : Type 0} (v : A) (m : ℕ) (l : List A) → l ≡ padded v m [] → length l ≡ m
blank_long v m l e = ap length e ∙ padded_length v m [] (omega arith)

-- cleared lists of paired lengths are blank
pub cleared :
    (ks₀ cs₀ : List ℕ) (ds₀ es₀ : List Float) (ks cs : List ℕ) (ds es : List Float)
    → length ds₀ ≡ length ks₀
    → length es₀ ≡ length cs₀
    → ks ≡ filled 0 ks₀
    → ds ≡ filled zero32 ds₀
    → es ≡ filled zero32 es₀
    → cs ≡ filled 0 cs₀
    → Blank ks ds es cs
unfolding padded
cleared ks₀ cs₀ ds₀ es₀ ks cs ds es p q a b c d =
    let l : length ks ≡ length ks₀ = ap length a ∙ length-replicate (length ks₀) 0 in
    let m : length cs ≡ length cs₀ = ap length d ∙ length-replicate (length cs₀) 0 in
    let x : length ks₀ ≡ length ks - 0 = omega arith in
    let y : length ds₀ ≡ length ks - 0 = omega arith in
    let z : length es₀ ≡ length cs - 0 = omega arith in
    let w : length cs₀ ≡ length cs - 0 = omega arith in
    record {
      keys = a ∙ ap (λ (i : ℕ). replicate i 0) x;
      distances = b ∙ ap (λ (i : ℕ). replicate i zero32) y;
      estimates = c ∙ ap (λ (i : ℕ). replicate i zero32) z;
      cells = d ∙ ap (λ (i : ℕ). replicate i 0) w;
    }

pub blank_ready : (lean : Bool) (ks : List ℕ) (ds es : List Float) (cs : List ℕ) → Blank ks ds es cs → MayStep lean nothing 0 ks ds 0 es cs
unfolding padded or_waits distance_of member ascending marking
blank_ready lean ks ds es cs h =
    record {
      held = record {
        front = record {
          marked = record {
            marks = λ k n. look_none (length ks - 0) ks h.keys k ds ∙ sym (unmarked lean k);
            kept = kept_none (length ks - 0) ks h.keys;
            long = blank_long zero32 (length ks) ds h.distances;
            finite = λ k d e. absurd (let z : ◌≡◌ {A = ℕ} 0 1 = cc in omega arith);
            ascends = refl;
          };
          heap = heaped_start es cs h.estimates h.cells;
          lattice = λ k e. absurd (let z : ◌≡◌ {A = ℕ} 0 1 = cc in omega arith);
        };
        count = refl;
      };
      spare = λ _ l. absurd (omega arith);
    }
  where
    unmarked : (l : Bool) (k : ℕ) → or_waits None (member k (marking l [])) ≡ None
    unmarked true k = refl
    unmarked false k = refl

-- ---- scattered rows

member_row : (r : MarchedRow) (rs : List MarchedRow) → r ∈ rs → member r.key (keys_of rs) ≡ true
unfolding member
member_row r [] m = absurd (Memᴰ.not-nil m)
member_row r (s ∷ rs) m =
    ⊎_elim (λ (e : r ≡ s). let q : s.key ≡ r.key = ap (λ (x : MarchedRow). x.key) (sym e) in
    rw (eq-eqb s.key r.key q)) (λ n. rw (member_row r rs n) (or-true (eqb s.key r.key)))
    (Memᴰ.cases_cons m)

all_in : (rs : List MarchedRow) → All (λ (r : MarchedRow). on_lattice r.key ≡ true) rs → (r : MarchedRow) → r ∈ rs → on_lattice r.key ≡ true
unfolding All
all_in [] a r m = absurd (Memᴰ.not-nil m)
all_in (s ∷ rs) a r m =
    ⊎_elim (λ (e : r ≡ s). ap (λ (x : MarchedRow). on_lattice x.key) e ∙ a.0) (λ n. all_in rs a.1 r n) (Memᴰ.cases_cons m)

module _ (s : State) (n : ℕ) (ks : List ℕ) (ds es : List Float) (cs : List ℕ) (h : Held true s n ks ds 0 es cs)
    (own : All (λ (r : MarchedRow). on_lattice r.key ≡ true) s.stored) where
  pub empty : s.waiting ≡ []
  empty = no_cells s.waiting h.front.heap.counted

  bare : Marked s.stored [] ks ds
  unfolding marking
  bare = h.front.marked

  -- a stored row stands somewhere, by its label
  stands : (r : MarchedRow) → r ∈ s.stored → (i : ℕ) × ((i < length ks) × (get_or ks i 0 ≡ label r.key))
  unfolding or_waits
  stands r m =
      let d = stored_here r.key s.stored (member_row r s.stored m) in
      let l = looked (label r.key) ks ds d.0 (bare.marks r.key (real_key r.key (all_in s.stored own r m)) ∙ rw d.1) in
      let at = standing_at (label r.key) ks l.0 l.1.0 in
      (l.0, (within ks l.0 (λ z. label_real r.key (sym at ∙ z)), at))

  pub scattered : Scattered (labelled s.stored) ks ds
  unfolding or_waits member
  scattered =
      record {
        long = bare.long;
        ascends = labels_ascend s.stored own bare.ascends;
        real = λ r m z. let x = labelled_from r s.stored m in label_real x.0.key (sym (ap (λ (y : MarchedRow). y.key) x.1.1) ∙ z);
        all =
            λ r m.
            let x = labelled_from r s.stored m in
            let y = stands x.0 x.1.0 in
            (y.0, (y.1.0, y.1.1 ∙ sym (ap (λ (q : MarchedRow). q.key) x.1.1)));
        held =
            λ i l z.
            let k = key_for (get_or ks i 0) in
            let e : label k ≡ get_or ks i 0 = key_for_lem (get_or ks i 0) z in
            let found = subst (λ (y : ℕ). standing y ks ≡ Ok i) (sym e) (kept_at ks bare.kept i z) in
            ap (λ (y : ℕ). distance_of y (labelled s.stored)) (sym e)
            ∙ distance_labelled k s.stored (key_real (get_or ks i 0)) own
            ∙ only (distance_of k s.stored) (get_or ds i nan) (sym (bare.marks k (key_real (get_or ks i 0))) ∙ value_at_lem (label k) ks ds i found);
        once = λ i j l m z e. kept_once ks bare.kept i j z e;
      }
    where
      only : (o : Option Float) (x : Float) → or_waits o false ≡ Some x → o ≡ Some x
      only None x e = absurd (let z : ◌≡◌ {A = ℕ} 0 1 = cc in omega arith)
      only (Some d) x e = e

  -- sorted and with the first key unlabelled, they are the march's rows
  pub laid :
      n ≤ length ks
      → (ks' ks'' : List ℕ) (ds' : List Float)
      → length ks'' ≡ length ks
      → ((rs : List MarchedRow) → Scattered rs ks ds → (ks' ≡ padded 0 (length ks) (keys_of rs)) × (ds' ≡ padded zero32 (length ks) (distances_of rs)))
      → ks'' ≡ unlabelled ks'
      → Laid s n ks'' ds' es cs
  laid f ks' ks'' ds' l sorted back =
      let x = sorted (labelled s.stored) scattered in
      let z = heaped_end 0 es cs (subst (λ (w : List Cell). Heaped w 0 es cs) empty h.front.heap) in
      record {
        keys = rw l (back ∙ ap unlabelled x.0 ∙ keys_back (length ks) s.stored own bare.ascends);
        distances = rw l (x.1 ∙ ap (padded zero32 (length ks)) (distances_same s.stored));
        count = h.count;
        fits = rw l f;
        ascends = bare.ascends;
        empty = empty;
        estimates = z.0;
        cells = z.1;
      }

-- ---- the first key

pub unlabel_none : (ks : List ℕ) → length ks ≤ 0 → ks ≡ unlabelled ks
unfolding unlabelled
unlabel_none [] l = refl
unlabel_none (k ∷ ks) l = absurd (omega arith)

pub unlabel_other : (ks : List ℕ) → (get_or ks 0 0 ≡ 1 → ⊥) → ks ≡ unlabelled ks
unfolding unlabelled
unlabel_other [] n = refl
unlabel_other (k ∷ ks) n = rw (ne_eqb k 1 n)

pub unlabel_one : (ks : List ℕ) → 0 < length ks → get_or ks 0 0 ≡ 1 → set ks 0 0 ≡ unlabelled ks
unfolding unlabelled
unlabel_one [] l e = absurd (omega arith)
unlabel_one (k ∷ ks) l e = rw (eq-eqb k 1 e)

-- ---- the whole

module _ (c : Course) (t : Float) (rs : List Row) (ks₀ cs₀ : List ℕ) (r : Result Pace Refusal) (ks : List ℕ) (ds es : List Float)
    (cs : List ℕ) (did : Goes (sow_all neighbours (rooms_of ks₀ cs₀) (seeds t rs) nothing) r ks ds es cs) where
  -- a seed stops it
  pub march_stopped :
      (why : Refusal)
      → r ≡ Err why
      → (ks' : List ℕ) (ds' es' : List Float) (cs' : List ℕ)
      → Finished (march_from c.size c.most (rooms_of ks₀ cs₀) t rs) (Err why) ks' ds' es' cs'
  unfolding Goes Finished march.march
  march_stopped why e ks' ds' es' cs' =
      stopped_then _ _ why (subst (λ (x : Result Pace Refusal). Goes (sow_all neighbours (rooms_of ks₀ cs₀) (seeds t rs) nothing) x ks ds es cs) e did)

  module _ (a : ascending (table_keys rs) ≡ true) (p : length ks ≡ length ks₀) (q : length cs ≡ length cs₀) (at : Pace) (e : r ≡ Ok at) where
    -- all seeds are sown
    pub sown_all : (s : State) × ((sow_all neighbours (rooms_of ks₀ cs₀) (seeds t rs) nothing ≡ on s) × Sown (seeds t rs) neighbours at.lean s at.rows ks ds at.waiting es cs)
    unfolding Goes
    sown_all =
        let x = subst (λ (x : Result Pace Refusal). Goes (sow_all neighbours (rooms_of ks₀ cs₀) (seeds t rs) nothing) x ks ds es cs) e did in (
          x.0,
          (
            x.1.0,
            record {
              ascends = seeds_ascend t rs a;
              sown = ap (λ (m : Rooms). sow_all neighbours m (seeds t rs) nothing) (same_rooms (rooms_of ks₀ cs₀) ks cs p q) ∙ x.1.0;
              ready = x.1.1;
            },
          ),
        )

    module _ (o : Result (ℕ × ℕ) Refusal) (ks' : List ℕ) (ds' es' : List Float) (cs' : List ℕ)
        (takes : (s : State) → Sown (seeds t rs) neighbours at.lean s at.rows ks ds at.waiting es cs
        → Emptied (take_up_to (lattice_of c) (rooms_of ks cs) (suc (length ks)) s) o ks' ds' es' cs') where
      emptied : Emptied (march_from c.size c.most (rooms_of ks₀ cs₀) t rs) o ks' ds' es' cs'
      unfolding march.march and_then
      emptied =
          let x = sown_all in
          subst (λ (g : Going). Emptied (and_then g (take_up_to (lattice_of c) (rooms_of ks₀ cs₀) (suc (length ks₀)))) o ks' ds' es' cs') (sym x.1.0)
          (subst (λ (m : Rooms). Emptied (take_up_to (lattice_of c) m (suc m.rows) x.0) o ks' ds' es' cs')
          (same_rooms (rooms_of ks₀ cs₀) ks cs p q) (takes x.0 x.1.1))

      -- a taking stops it
      pub march_halted : (why : Refusal) → o ≡ Err why → Finished (march_from c.size c.most (rooms_of ks₀ cs₀) t rs) (Err why) ks' ds' es' cs'
      unfolding Emptied Finished
      march_halted why f = subst (λ (x : Result (ℕ × ℕ) Refusal). Emptied (march_from c.size c.most (rooms_of ks₀ cs₀) t rs) x ks' ds' es' cs') f emptied

      -- no cell waits any more, and the rows are sorted
      pub march_done :
          All (λ (x : Row). on_lattice x.key ≡ true) rs
          → (a : ℕ × ℕ)
          → o ≡ Ok a
          → (ks'' ks''' : List ℕ) (ds'' : List Float)
          → length ks''' ≡ length ks'
          → ((rs : List MarchedRow)
          → Scattered rs ks' ds'
          → (ks'' ≡ padded 0 (length ks') (keys_of rs)) × (ds'' ≡ padded zero32 (length ks') (distances_of rs)))
          → ks''' ≡ unlabelled ks''
          → Finished (march_from c.size c.most (rooms_of ks₀ cs₀) t rs) (Ok a) ks''' ds'' es' cs'
      unfolding Emptied Finished
      march_done all a f ks'' ks''' ds'' l sorted back =
          let x = subst (λ (x : Result (ℕ × ℕ) Refusal). Emptied (march_from c.size c.most (rooms_of ks₀ cs₀) t rs) x ks' ds' es' cs') f emptied in
          let own =
          after_on (λ s. All (λ (r : MarchedRow). on_lattice r.key ≡ true) s.stored) (march_from c.size c.most (rooms_of ks₀ cs₀) t rs) x.0
          (lattice_keeps c.size c.most (rooms_of ks₀ cs₀) t rs all) x.1.0 in
          (x.0, (x.1.0, (x.1.1.0, laid x.0 a.0 ks' ds' es' cs' x.1.1.1.0 own x.1.1.1.1 ks'' ks''' ds'' l sorted back)))
