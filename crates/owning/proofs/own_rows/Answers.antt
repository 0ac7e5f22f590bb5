-- `owning::own_rows` meets its contract: the keys are copied, sorted, and those that rise are taken.
use Prim.Native.Nat.{ℕ, ◌+◌, ◌<◌, ◌-◌}
use mathlib.Core.Path.{◌≡◌, refl, subst, ◌∙◌}
use mathlib.Core.Bool.{Bool}
use mathlib.Core.List.{List}
use native.Mathlib.Nat.{not-suc-le-zero}
use native.Mathlib.Omega.{arith}
use borrow.Author.Tests.{eqb-true, eqb-false}
use lib.Dec.{eqb}
use lib.ListN.{length, get_or, set, length-set}
use lib.Seq.{get_or-set_same, get_or-set_other}
use Rattle.lists.proofs.Bools.{cases}
use Rattle.sorting.specs.Sorting.{Numbered}
use Rattle.sorting.proofs.Numbering.{each_numbered}
use borrow.Author.Rules.{rules}
use Rattle.owning.proofs.own_rows.Invariants.{Copied}
use Rattle.owning.proofs.own_rows.Goals as goal

copied_more : (ks : List ℕ) (from i : ℕ) (sorted places : List ℕ)
    → Copied ks from i sorted places
    → i < length sorted
    → i < length places
    → Copied ks from (i + 1) (set sorted i (get_or ks (from + i) 0)) (set places i i)
copied_more ks from i sorted places h a b j l =
    cases (λ (x : Bool).
    (get_or (set sorted i (get_or ks (from + i) 0)) j 0 ≡ get_or ks (from + j) 0) × (get_or (set places i i) j 0 ≡ j)) (eqb j i)
    (λ q.
    let same : j ≡ i = eqb-true j i q in
    rw same (get_or-set_same sorted i (get_or ks (from + i) 0) 0 a, get_or-set_same places i i 0 b))
    (λ q.
    let other = eqb-false j i q in
    let k = h j (omega (arith, other)) in
    (get_or-set_other sorted i j (get_or ks (from + i) 0) 0 other ∙ k.0, get_or-set_other places i j i 0 other ∙ k.1))

renumbered : {own : List ℕ} {k l s : ℕ} → k ≡ l → Numbered own k s → Numbered own l s
renumbered {own} {k} {l} {s} e n = subst (λ (x : ℕ). Numbered own x s) e n

pub loop-i-init : goal.loop-i-init
loop-i-init c = (search rules, refl, refl, λ j l. absurd (not-suc-le-zero l))

pub loop-i-preserved : goal.loop-i-preserved
loop-i-preserved c =
    let L = c.loop-i in (
      search rules,
      simp length-set L.invariant.1,
      simp length-set L.invariant.2,
      copied_more c.args.batch_keys.now c.args.from L.i L.sorted L.places L.invariant.3 (omega arith) (omega arith),
    )

pub returns : goal.returns
returns c =
    let copied = c.loop-i.invariant.3 in
    let d = c.distinct.ensures in record {
      upper_bound = (omega (arith, d.upper_bound.0), d.upper_bound.1);
      own_slots = λ i l.
          renumbered (copied i (omega arith)).0
          (each_numbered (c.args.to - c.args.from) c.loop-i.sorted c.loop-i.places _ _
          c.sort.ensures (λ j m. (copied j (omega arith)).1) _ _ d.slotted
          (omega (arith, c.sort.auto.keys, c.sort.auto.places)) (omega (arith, c.sort.auto.keys, c.sort.auto.places))
          (omega (arith, c.distinct.auto.slots)) i (omega arith));
    }
