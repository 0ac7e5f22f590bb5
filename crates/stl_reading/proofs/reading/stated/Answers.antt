-- `stl::reading::stated` meets its contract: the lengths are tested, then the file's own.
-- Assumes nothing.
use Rattle.std.proofs.Common.{not}
use Prim.Native.Nat.{ℕ, ◌+◌, ◌*◌}
use mathlib.Core.Path.{◌≡◌, sym, ap, ◌∙◌}
use mathlib.Core.List.{List}
use mathlib.Core.Bool.{Bool, ◌&&◌}
use lib.ListN.{length}
use Rattle.lists.proofs.Bools.{yes, no}
use Rattle.corners.specs.Corners.{set_ok}
use Rattle.stl.specs.Calls.{file_fits}
use Rattle.stl.specs.Steps.{stated_for}
use Rattle.stl.proofs.AnswerLaws.{length_short, length_other, length_right}
use Rattle.stl_reading.proofs.reading.stated.Goals as goal

-- the lengths, tested
fit : (file : List ℕ) (a b c : ℕ) {r : Bool} → r ≡ set_ok a b c 0 → file_fits (length file) && r ≡ file_fits (length file) && set_ok a b c 0
fit file a b c e = ap (λ b. file_fits (length file) && b) e

pub returns-then-not-file-set_ok : goal.returns-then-not-file-set_ok
unfolding stated_for
returns-then-not-file-set_ok c = rw (no (fit c.args.file.now c.args.a c.args.b c.args.c c.set_ok.ensures) (ap not c.if-not-file-set_ok.true))

pub returns-then-file-lt84 : goal.returns-then-file-lt84
unfolding stated_for
returns-then-file-lt84 c =
    rw (yes (fit c.args.file.now c.args.a c.args.b c.args.c c.set_ok.ensures) (ap not c.if-not-file-set_ok.false), length_short _ c.if-file-lt84.true)

pub returns-then-file-count : goal.returns-then-file-count
unfolding stated_for
returns-then-file-count c =
    let n = c.read_word-count.ensures in
    rw (
      yes (fit c.args.file.now c.args.a c.args.b c.args.c c.set_ok.ensures) (ap not c.if-not-file-set_ok.false),
      length_other _ c.if-file-lt84.false (λ e. c.if-file-count.true (e ∙ ap (λ k. 84 + 50 * k) (sym n))),
    )

pub returns : goal.returns
unfolding stated_for
returns c =
    let n = c.read_word-count.ensures in
    rw (
      yes (fit c.args.file.now c.args.a c.args.b c.args.c c.set_ok.ensures) (ap not c.if-not-file-set_ok.false),
      length_right _ (c.if-file-count.false ∙ ap (λ k. 84 + 50 * k) n),
      n,
    )
