-- `floats::halves_up` meets its contract: the doubled size is exact, so its whole part is known. Assumes nothing.
use Rattle.std.proofs.Common.{◌≡◌, true, ℕ, ◌+◌, ◌/◌, T, sym, ap, ◌∙◌, subst, arith}
use lib.Ieee.{Float, binary32, fits, add, lt}
use lib.Ieee.Positive.{num, den, den_pos}
use Rattle.floats.proofs.Halves.{Cut, cut_of, half_of, up_of}
use Rattle.floats.specs.Steps.{too_large_lem}
use Rattle.floats.specs.Floats.{size_of}
use Rattle.floats.proofs.halves_up.Goals as goal

-- the doubled size
doubled : (x s : Float) → T (fits binary32 x) → lt (size_of x) too_large_lem ≡ true → s ≡ size_of x → Cut (add binary32 s s) (num x) (den x)
doubled x s f h e = subst (λ (s : Float). Cut (add binary32 s s) (num x) (den x)) (sym e) (cut_of x f h)

-- the same where the size is known
cut : (c : goal.After-size-s) → Cut (add binary32 c.size-s.result c.size-s.result) (num c.args.x) (den c.args.x)
cut c = doubled c.args.x c.size-s.result (subst T (sym c.well_formed.0.1) tt) c.requires c.size-s.ensures

pub truncating_f32_to_u64-requires : goal.truncating_f32_to_u64-requires
truncating_f32_to_u64-requires c = record { lower_bound = (cut c).above; upper_bound = (cut c).below }

pub overflow_add-result : goal.overflow_add-result
overflow_add-result c = omega (arith, c.truncating_f32_to_u64.ensures, (cut c.before).is, (cut c.before).few)

pub returns : goal.returns
returns c =
    let x = c.args.x in
    ap (λ (n : ℕ). (n + 1) / 2) (c.truncating_f32_to_u64.ensures ∙ (cut c.before).is) ∙ half_of (num x) (den x) (den_pos x) ∙ sym (up_of x c.requires)
