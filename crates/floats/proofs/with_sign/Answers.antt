-- `floats::with_sign` meets its contract. A signed number is read back from its bits by `to_z-of_z`, since it fits. Assumes nothing.
use Rattle.std.specs.Prelude.{Ok}
use Rattle.std.proofs.Common.{◌≡◌, ℕ, zero, suc, ◌^◌, ◌≤◌, ℤ, pos, ◌-ℤ◌, neg_ℤ, sym, ap, ◌∙◌, subst, arith, w32, w64, SFits, to_z, of_z, le-leb}
use lib.IntN.{+ℤ_idl}
use mir.ValLaws.{to_z-of_z, to_z_pos}
use borrow.Author.Tests.{lt-leb}
use Rattle.floats.proofs.with_sign.Goals as goal

-- 0 - w, and that it fits
minus : (w : ℕ) → w ≤ 2 ^ 31 → pos 0 -ℤ to_z w64 w ≡ neg_ℤ (pos w)
minus w h = ap (λ (z : ℤ). pos 0 -ℤ z) (to_z_pos w64 w (omega arith)) ∙ +ℤ_idl (neg_ℤ (pos w))

minus_fits32 : (w : ℕ) → w ≤ 2 ^ 31 → SFits w32 (neg_ℤ (pos w))
minus_fits32 zero h = record { sfits = omega arith }
minus_fits32 (suc w) h = record { sfits = omega arith }

minus_fits64 : (w : ℕ) → w ≤ 2 ^ 31 → SFits w64 (neg_ℤ (pos w))
minus_fits64 zero h = record { sfits = omega arith }
minus_fits64 (suc w) h = record { sfits = omega arith }

minus_read : (w : ℕ) → w ≤ 2 ^ 31 → to_z w64 (of_z w64 (pos 0 -ℤ to_z w64 w)) ≡ neg_ℤ (pos w)
minus_read w h = ap (λ (z : ℤ). to_z w64 (of_z w64 z)) (minus w h) ∙ to_z-of_z w64 (neg_ℤ (pos w)) (minus_fits64 w h)

pub overflow_sub-result : goal.overflow_sub-result
overflow_sub-result c = let w = c.args.w in subst (SFits w64) (sym (minus w c.if-w-le2147483648.true)) (minus_fits64 w c.if-w-le2147483648.true)

pub overflow_cast-result-then-w-le2147483648 : goal.overflow_cast-result-then-w-le2147483648
overflow_cast-result-then-w-le2147483648 c = let w = c.args.w in subst (SFits w32) (sym (minus_read w c.if-w-le2147483648.true)) (minus_fits32 w c.if-w-le2147483648.true)

pub returns-then-w-le2147483648 : goal.returns-then-w-le2147483648
returns-then-w-le2147483648 c =
    let w = c.args.w in
    ap (λ (z : ℤ). Ok (to_z w32 (of_z w32 z))) (minus_read w c.if-w-le2147483648.true)
    ∙ ap Ok (to_z-of_z w32 (neg_ℤ (pos w)) (minus_fits32 w c.if-w-le2147483648.true))
    ∙ sym (simp (c.if-below.true, le-leb w (2 ^ 31) c.if-w-le2147483648.true))

pub returns-else-w-le2147483648 : goal.returns-else-w-le2147483648
returns-else-w-le2147483648 c = simp (c.if-below.true, lt-leb _ _ c.if-w-le2147483648.false)

pub returns-then-w-le2147483647 : goal.returns-then-w-le2147483647
returns-then-w-le2147483647 c =
    let w = c.args.w in
    ap Ok (to_z_pos w32 w (omega arith)) ∙ sym (simp (c.if-below.false, le-leb w 0x7fff_ffff c.if-w-le2147483647.true))

pub returns-else-w-le2147483647 : goal.returns-else-w-le2147483647
returns-else-w-le2147483647 c = simp (c.if-below.false, lt-leb _ _ c.if-w-le2147483647.false)
