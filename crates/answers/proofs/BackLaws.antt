-- What a call hands back, from what the layer below answers and what is read off its answer. Assumes nothing.
use Prim.Native.Nat.{ℕ}
use mathlib.Core.Path.{◌≡◌, ap, ◌∙◌}
use Rattle.fusing.specs.Fusing.{Outcome, fused_number}
use Rattle.batching.specs.declared.Counts.{Counts}
use Rattle.batching.specs.Batches.{BatchOutcome, batched_number, batched_counts, batched_at}
use Rattle.answers.specs.Readings.{fuse_back, fuse_handed, batch_back, batch_handed}

-- two numbers that are read off one answer
pub both : {A B C : Type 0} (f : A → B) (g : A → C) {a b : A} {x : B} {y : C} → a ≡ b → (x ≡ f a) × (y ≡ g a) → (x ≡ f b) × (y ≡ g b)
both f g e h = (h.0 ∙ ap f e, h.1 ∙ ap g e)

pub fuse_back_lem : {o o' : Outcome} {n : ℕ} → o ≡ o' → n ≡ fused_number o.answer → fuse_back n o.left ≡ fuse_handed o'
fuse_back_lem {o} e p = ap (λ m. fuse_back m o.left) p ∙ ap fuse_handed e

pub batch_back_lem :
    {o o' : BatchOutcome}
    {n at : ℕ}
    {c : Counts}
    → o ≡ o'
    → (n ≡ batched_number o.answer) × ((c ≡ batched_counts o.answer) × (at ≡ batched_at o.answer))
    → batch_back n o.left c at ≡ batch_handed o'
batch_back_lem {o} e p = rw (p.0, p.1.0, p.1.1) (ap batch_handed e)
