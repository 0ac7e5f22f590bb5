-- Parity, an end, the even number below and the odd one above, read off the 32 bits of an i32: the lowest bit of two's
-- complement is the number's parity, and clearing or setting it moves the number by one at most. Assumes nothing.
use Prim.Native.Nat.{ℕ, zero, suc, ◌+◌, ◌-◌, ◌*◌, ◌/◌, ◌%◌, ◌^◌, ◌<◌}
use native.Mathlib.Omega.{arith}
use mathlib.Core.Path.{◌≡◌, refl, ap, ◌∙◌}
use mathlib.Core.Bool.{Bool, true, false, cond, ◌||◌, or-false}
use lib.Dec.{eqb}
use lib.Bits.{bit_and, bit_or, and_mask, and_high, or_add_and}
use lib.IntN.{ℤ, pos, negsuc, suc_ℤ, pred_ℤ, nat_abs}
use mir.Syntax.{w32}
use mir.Val.{SFits, to_z, of_z}
use mir.ValLaws.{to_z-of_z}
use borrow.Author.Tests.{eqb-true, eqb-false, eq-eqb, ne_eqb}
use Rattle.lists.proofs.Bools.{both_ways}
use Rattle.bcc_utils.specs.Snapping.{even, even_down, odd_up, is_end}

-- ---- parity

even_is : (z : ℤ) → even z ≡ true → nat_abs z % 2 ≡ 0
unfolding even
even_is z e = eqb-true (nat_abs z % 2) 0 e

odd_is : (z : ℤ) → even z ≡ false → nat_abs z % 2 ≡ 1
unfolding even
odd_is z e = let h : nat_abs z % 2 ≡ 0 → ⊥ = eqb-false (nat_abs z % 2) 0 e in at_one (nat_abs z) h
  where
    at_one : (n : ℕ) → (n % 2 ≡ 0 → ⊥) → n % 2 ≡ 1
    at_one n h = omega arith

lowest : (n : ℕ) → n < 2 ^ 31 → (2 ^ 32 - suc n) % 2 ≡ suc n % 2
lowest n h = omega arith

pub even_read : (z : ℤ) → SFits w32 z → eqb (bit_and (of_z w32 z) 1) 0 ≡ even z
unfolding even
even_read (pos n) h = ap (λ (k : ℕ). eqb k 0) (and_mask n 1)
even_read (negsuc n) h = ap (λ (k : ℕ). eqb k 0) (and_mask (2 ^ 32 - suc n) 1 ∙ lowest n h.sfits)

-- ---- the lowest bit cleared, and set

cleared : (n : ℕ) → n < 2 ^ 32 → bit_and n 0xFFFF_FFFE ≡ n - n % 2
cleared n h = and_high n 31 1 ∙ halved n h
  where
    halved : (n : ℕ) → n < 2 ^ 32 → n / 2 % 2 ^ 31 * 2 ≡ n - n % 2
    halved n h = omega arith

set_low : (n : ℕ) → bit_or n 1 ≡ n + 1 - n % 2
set_low n = omega (arith, or_add_and n 1, and_mask n 1)

-- n is what stands for z in 32 bits
record Word (z : ℤ) (n : ℕ) : Type 0 where
  stands : n ≡ of_z w32 z
  within : SFits w32 z

word_read : (z : ℤ) (n : ℕ) → Word z n → to_z w32 n ≡ z
word_read z n w = ap (to_z w32) w.stands ∙ to_z-of_z w32 z w.within

word_lt : (z : ℤ) → SFits w32 z → of_z w32 z < 2 ^ 32
word_lt (pos n) h = omega (arith, h.sfits)
word_lt (negsuc n) h = omega (arith, h.sfits)

down_word : (z : ℤ) (b : Bool) (n : ℕ) → even z ≡ b → SFits w32 z → n ≡ of_z w32 z - of_z w32 z % 2 → Word (cond b z (pred_ℤ z)) n
down_word (pos k) true n e h q = record { stands = omega (arith, even_is (pos k) e); within = h }
down_word (pos zero) false n e h q = absurd (zero_even (odd_is (pos 0) e))
  where
    zero_even : 0 % 2 ≡ 1 → ⊥
    zero_even e = omega arith
down_word (pos (suc k)) false n e h q =
    record { stands = omega (arith, odd_is (pos (suc k)) e); within = record { sfits = omega (arith, h.sfits) } }
down_word (negsuc k) true n e h q = record { stands = omega (arith, even_is (negsuc k) e, h.sfits); within = h }
down_word (negsuc k) false n e h q =
    record { stands = omega (arith, odd_is (negsuc k) e, h.sfits); within = record { sfits = omega (arith, odd_is (negsuc k) e, h.sfits) } }

up_word : (z : ℤ) (b : Bool) (n : ℕ) → even z ≡ b → SFits w32 z → n ≡ of_z w32 z + 1 - of_z w32 z % 2 → Word (cond b (suc_ℤ z) z) n
up_word (pos k) true n e h q =
    record { stands = omega (arith, even_is (pos k) e); within = record { sfits = omega (arith, even_is (pos k) e, h.sfits) } }
up_word (pos k) false n e h q = record { stands = omega (arith, odd_is (pos k) e); within = h }
up_word (negsuc zero) true n e h q = absurd (one_odd (even_is (negsuc 0) e))
  where
    one_odd : 1 % 2 ≡ 0 → ⊥
    one_odd e = omega arith
up_word (negsuc (suc k)) true n e h q =
    record { stands = omega (arith, even_is (negsuc (suc k)) e, h.sfits); within = record { sfits = omega (arith, h.sfits) } }
up_word (negsuc k) false n e h q = record { stands = omega (arith, odd_is (negsuc k) e, h.sfits); within = h }

pub even_down_read : (z : ℤ) → SFits w32 z → to_z w32 (bit_and (of_z w32 z) 0xFFFF_FFFE) ≡ even_down z
unfolding even_down
even_down_read z h = word_read _ _ (down_word z (even z) _ refl h (cleared (of_z w32 z) (word_lt z h)))

pub odd_up_read : (z : ℤ) → SFits w32 z → to_z w32 (bit_or (of_z w32 z) 1) ≡ odd_up z
unfolding odd_up
odd_up_read z h = word_read _ _ (up_word z (even z) _ refl h (set_low (of_z w32 z)))

-- ---- the ends

pub end_read : (z : ℤ) → SFits w32 z → eqb (of_z w32 z) 0x7FFF_FFFF || eqb (of_z w32 z) 0x8000_0000 ≡ is_end z
unfolding is_end
end_read (pos n) h = ap (λ (t : Bool). eqb n 0x7FFF_FFFF || t) (ne_eqb n 0x8000_0000 (λ e. omega (arith, h.sfits))) ∙ or-false _
end_read (negsuc n) h =
    ap (λ (t : Bool). t || eqb (2 ^ 32 - suc n) 0x8000_0000) (ne_eqb (2 ^ 32 - suc n) 0x7FFF_FFFF (λ e. omega (arith, h.sfits)))
    ∙ both_ways (eqb (2 ^ 32 - suc n) 0x8000_0000) (eqb (suc n) 0x8000_0000)
    (λ e. eq-eqb (suc n) 0x8000_0000 (omega (arith, eqb-true (2 ^ 32 - suc n) 0x8000_0000 e, h.sfits)))
    (λ e. eq-eqb (2 ^ 32 - suc n) 0x8000_0000 (omega (arith, eqb-true (suc n) 0x8000_0000 e)))
