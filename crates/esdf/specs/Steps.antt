-- What the private functions promise each other.
use Rattle.std.specs.Prelude.{ℕ, List, Ok, Err, Result}
use Rattle.lists.specs.Places.{filled}
use Rattle.refusals.specs.declared.Refusal.{Refusal}

-- what is left of a list by a march's answer: the list, or v throughout where it is refused
unfoldable pub tidied : {A : Type 0} → A → Result (ℕ × ℕ) Refusal → List A → List A
tidied v (Ok (n, t)) l = l
tidied v (Err why) l = filled v l
