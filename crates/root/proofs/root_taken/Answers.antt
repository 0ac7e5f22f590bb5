-- `root::root_taken` meets its contract: a zero and the infinity are their own roots, and any other value goes by its bits. Assumes nothing.
use Rattle.std.proofs.Common.{◌≡◌, ℕ, Bool, true, false, not, T, sym, ap, ◌∙◌, subst}
use lib.Ieee.{Float, binary32, fits, is_nan, of_bits, to_bits}
use lib.Ieee.Bits.{of_bits-to_bits, nan_bits_is}
use Rattle.floats.specs.Floats.{zero32}
use Rattle.floats.proofs.Order.{le_second}
use Rattle.root.specs.Root.{root_of}
use Rattle.root.proofs.Taken.{zero_root, pattern_pos, infinite_root, root_fits, root_number}
use Rattle.root.proofs.root_taken.Goals as goal

-- the format holds the argument
held : (x : Float) → fits binary32 x ≡ true → T (fits binary32 x)
held x e = subst T (sym e) tt

number : (b : Bool) → b ≡ false → T (not b)
number b e = subst (λ (t : Bool). T (not t)) (sym e) tt

-- what `root_bits` gives, as a float
result : (x : Float) (b : ℕ) → T (fits binary32 x) → b ≡ to_bits binary32 (root_of (of_bits binary32 (to_bits binary32 x))) → of_bits binary32 b ≡ root_of x
result x b f e =
    ap (of_bits binary32) (e ∙ ap (λ (v : Float). to_bits binary32 (root_of v)) (of_bits-to_bits binary32 x f))
    ∙ of_bits-to_bits binary32 (root_of x) (root_fits x f)

pub returns-then-x : goal.returns-then-x
returns-then-x c = zero_root c.args.x c.if-x.true

pub float_to_bits-b : goal.float_to_bits-b
float_to_bits-b c = number _ (le_second zero32 c.args.x c.requires)

pub root_bits-requires : goal.root_bits-requires
root_bits-requires c = (pattern_pos c.args.x (held c.args.x c.well_formed.0.1) c.if-x.false, c.if-b-lt2139095040.true)

pub float_from_bits-result : goal.float_from_bits-result
float_from_bits-result c =
    let f = held c.args.x c.well_formed.0.1 in
    number _
    (nan_bits_is binary32 c.root_bits.result
    ∙ ap is_nan (result c.args.x c.root_bits.result f c.root_bits.ensures)
    ∙ root_number c.args.x (le_second zero32 c.args.x c.requires))

pub returns-then-b-lt2139095040 : goal.returns-then-b-lt2139095040
returns-then-b-lt2139095040 c = result c.args.x c.root_bits.result (held c.args.x c.well_formed.0.1) c.root_bits.ensures

pub returns-else-b-lt2139095040 : goal.returns-else-b-lt2139095040
returns-else-b-lt2139095040 c = infinite_root c.args.x (held c.args.x c.well_formed.0.1) c.requires c.if-b-lt2139095040.false
