-- A tetrahedron cut, by its four ascending keys and their sides, as a program makes it.
use Rattle.std.specs.Prelude.{ℕ, Bool, true, false}
use Rattle.cuts.specs.declared.Cut.{Cut}
use Rattle.cuts.specs.declared.Cut.TheVariants.{Nothing, One, Two}

-- one against three others, in the order of their keys; two inside against two outside
abbrev pub cut_of : Bool → Bool → Bool → Bool → ℕ → ℕ → ℕ → ℕ → Cut
cut_of true true true true a b c d = Nothing
cut_of true true true false a b c d = One d a b c
cut_of true true false true a b c d = One c a b d
cut_of true true false false a b c d = Two a b c d
cut_of true false true true a b c d = One b a c d
cut_of true false true false a b c d = Two a c b d
cut_of true false false true a b c d = Two a d b c
cut_of true false false false a b c d = One a b c d
cut_of false true true true a b c d = One a b c d
cut_of false true true false a b c d = Two b c a d
cut_of false true false true a b c d = Two b d a c
cut_of false true false false a b c d = One b a c d
cut_of false false true true a b c d = Two c d a b
cut_of false false true false a b c d = One c a b d
cut_of false false false true a b c d = One d a b c
cut_of false false false false a b c d = Nothing
