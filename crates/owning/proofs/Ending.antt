-- A part of a batch, from the rows loaded to the rows settled: it leaves what its readings leave in turn.
-- Assumes nothing.
use Rattle.std.specs.Prelude.{Ok}
use mathlib.Core.Path.{◌≡◌, sym, ap, subst, ◌∙◌}
use mathlib.Core.Bool.{true}
use mathlib.Core.List.{List}
use Prim.Native.Nat.{ℕ, ◌+◌, ◌≤◌}
use native.Mathlib.Nat.{add-zero}
use borrow.Author.Tests.{le-leb}
use lib.ListN.{length, take}
use lib.Ieee.{Float}
use Rattle.gathering.specs.Gathering.{puts, Loaded}
use Rattle.gathering.proofs.LoadLaws.{puts_loaded, waits_loaded}
use Rattle.gathering.proofs.Planning.{relaid_same}
use Rattle.table.specs.declared.Settings.{Settings}
use Rattle.search.specs.Keys.{ascending}
use Rattle.table.specs.Table.{Table, table, rows_of, rows, lengths_ok, table_check, relaid}
use Rattle.table.proofs.RowLaws.{lengths_known}
use Rattle.table.proofs.Checking.{sound}
use Rattle.table.proofs.Putting.{rows_length}
use Rattle.owning.specs.declared.Ran.{Ran}
use Rattle.batching.specs.Batches.{Entry}
use Rattle.owning.specs.Runs.{over, Ready, RunLeft, RanTo, RunTo}

-- own rows in lists of 4,096
pub own_fits : (a b c n : ℕ) → a ≡ 4096 → b ≡ 4096 → c ≡ 4096 → n ≤ 4096 → lengths_ok a b c n ≡ true
own_fits a b c n p q r h = rw (p, q, r, le-leb n 4096 h)

module _ (s : Settings) (ks : List ℕ) (ds ws : List Float) (n : ℕ) (passed : table_check s (table ks ds ws n) ≡ (Ok tt)) where
  abbrev t : Table
  t = table ks ds ws n

  known : lengths_ok (length ks) (length ds) (length ws) n ≡ true
  known = (sound s t passed).lengths

  fit : (n ≤ length ks) × (length ds ≡ length ks) × (length ws ≡ length ks) × (length ks ≤ 65536)
  fit = lengths_known (length ks) (length ds) (length ws) n known

  module _ (ss oks : List ℕ) (ods ows : List Float) (own : ℕ) (o : length ss ≡ 4096) (p : length oks ≡ 4096) (q : length ods ≡ 4096)
      (r : length ows ≡ 4096) (few : own ≤ 4096) (up : ascending (take own oks) ≡ true)
      (loaded : Loaded t ss oks ods ows own) where
    nothing_new : puts s.max_weight (rows_of oks ods ows own) (rows t) ≡ rows t
    nothing_new =
        puts_loaded s.max_weight ks ds ws n known (sound s t passed).order ss oks ods ows own (rw o few) (rw q few) (rw r few) loaded

    over_same : over s t oks ods ows own ≡ t
    over_same = ap (relaid t) nothing_new ∙ relaid_same ks ds ws n known

    pub ready : Ready s t oks ods ows own 0
    ready =
        record {
          passed = passed;
          again = ap (table_check s) over_same ∙ passed;
          lengths = own_fits (length oks) (length ods) (length ows) own p q r few;
          order = up;
          waits =
              waits_loaded s.max_weight ks ds ws n known (sound s t passed).order ss oks ods ows own (rw o few) (rw q few) (rw r few) loaded
              (sound s t passed).ranges;
          many = ap length nothing_new ∙ rows_length ks ds ws n known ∙ sym (add-zero n);
          fits = rw (add-zero n) fit.0;
        }

    module _ (room : ℕ) (rs : List Entry) (from : ℕ) (ran_to : Ran) (ods' ows' : List Float)
        (ran : RanTo s oks ods ows own room rs from ran_to ods' ows') (left : n + room ≤ length ks) where
      -- what settling needs
      pub counted : (n + ran_to.added ≡ length (puts s.max_weight (rows_of oks ods' ows' own) (rows t))) × (n + ran_to.added ≤ length ks)
      counted = let q = (ran.0 t ready left).1 in (sym q.many, q.fits)

      pub settled :
          (ks' : List ℕ) (ds' ws' : List Float)
          → table ks' ds' ws' (n + ran_to.added) ≡ over s t oks ods' ows' own
          → RunTo s t rs from from ran_to.run (table ks' ds' ws' (n + ran_to.added))
      settled ks' ds' ws' e =
          let q = ran.0 t ready left in (
            subst (λ (u : Table). RunLeft s u rs from from ran_to.run.end (table ks' ds' ws' (n + ran_to.added)))
                over_same
                (subst (λ (u : Table). RunLeft s (over s t oks ods ows own) rs from from ran_to.run.end u) (sym e) q.0),
            ap (table_check s) e ∙ q.1.again,
            ran.1,
          )
