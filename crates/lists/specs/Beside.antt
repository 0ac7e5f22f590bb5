-- Three lists side by side.
use Rattle.std.specs.Prelude.{List, [], ◌∷◌}

-- what three lists hold, place by place, as far as all three go
unfoldable pub beside_by : {A B C D : Type 0} → (A → B → C → D) → List A → List B → List C → List D
beside_by make [] bs cs = []
beside_by make (a ∷ as') [] cs = []
beside_by make (a ∷ as') (b ∷ bs) [] = []
beside_by make (a ∷ as') (b ∷ bs) (c ∷ cs) = make a b c ∷ beside_by make as' bs cs
