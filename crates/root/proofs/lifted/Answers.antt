-- `root::lifted` meets its contract: t has k + 1 digits, so t * 2 ^ (23 - k) has 24. Assumes nothing.
use Rattle.std.proofs.Common.{◌≡◌, ℕ, ◌+◌, ◌-◌, ◌*◌, ◌%◌, ◌^◌, ◌<◌, ◌≤◌, inl, inr, sym, ap, ◌∙◌, mul-le-mul_right, mul-lt-mul_of_pos_right, mul_assoc, mod-eq_of_lt, arith, pow-add, pow_pos, pow_mono}
use Rattle.floats.proofs.Values.{le_or_lt}
use Rattle.root.specs.Steps.{units_of_one, LeadOf}
use Rattle.root.proofs.lifted.Goals as goal

few : (t k : ℕ) → 2 ^ k ≤ t → t < 2 ^ 23 → k ≤ 22
few t k l h = elim (le_or_lt 23 k) [ inl g ↦ let p : 2 ^ 23 ≤ 2 ^ k = pow_mono g in omega arith | inr g ↦ omega arith ]

power : (k u n : ℕ) → k + u ≡ n → 2 ^ k * 2 ^ u ≡ 2 ^ n
power k u n e = sym (pow-add 2 k u) ∙ ap (λ (z : ℕ). 2 ^ z) e

lead : (t k u : ℕ) → k + u ≡ 23 → 2 ^ k ≤ t → t < 2 * 2 ^ k → LeadOf (t * units_of_one) (t * 2 ^ u % 2 ^ 32) (149 - u)
unfolding units_of_one
lead t k u e l h =
    let p = power k u 23 e in
    let a : 2 ^ k * 2 ^ u ≤ t * 2 ^ u = mul-le-mul_right (2 ^ u) l in
    let b : t * 2 ^ u < 2 * 2 ^ k * 2 ^ u = mul-lt-mul_of_pos_right h (pow_pos u) in
    let f : t * 2 ^ u < 2 ^ 24 = omega arith in
    let m : t * 2 ^ u % 2 ^ 32 ≡ t * 2 ^ u = mod-eq_of_lt (omega arith) in
    rw m (record {
      same = ap (λ (z : ℕ). t * z) (sym (power u (149 - u) 149 (omega arith))) ∙ sym (mul_assoc t (2 ^ u) (2 ^ (149 - u)));
      low = omega arith;
      high = f;
      least = omega arith;
      most = omega arith;
    })

pub overflow_sub-up : goal.overflow_sub-up
overflow_sub-up c = omega (arith, few c.args.t c.ilog2-up.result c.ilog2-up.ensures.power_le c.requires.1)

pub returns : goal.returns
returns c =
    let k = c.ilog2-up.result in
    let o = c.ilog2-up.ensures in
    lead c.args.t k (23 - k) (omega (arith, few c.args.t k o.power_le c.requires.1)) o.power_le o.next_power_gt
