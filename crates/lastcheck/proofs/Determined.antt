-- The contracts settle what is printed: two outcomes of a byte, or of the end of the input, are equal.
-- Assumes nothing.
use Prim.Native.Nat.{ℕ, ◌≤◌}
use native.Mathlib.Omega.{arith}
use mathlib.Core.Path.{◌≡◌, sym, ◌∙◌}
use mathlib.Core.List.{List}
use lib.ListN.{length, take}
use Rattle.lists.proofs.Writing.{sets_front}
use Rattle.lastcheck.specs.declared.Run.{Run}
use Rattle.lastcheck.specs.Run.{State}
use Rattle.lastcheck.specs.Steps.{state_of, Printed, Moved, Finished}

-- what is to be printed: how many bytes, and which
pub printed : {text : List ℕ} {r a b : Run} → Printed text r a → Printed text r b → (a.printed ≡ b.printed) × (a.out ≡ b.out)
printed p q = (p.printed ∙ sym q.printed, p.wrote ∙ sym q.wrote)

-- a line or a byte: where the run stands, how many bytes are printed, and which
pub moved : {s : State} {text : List ℕ} {r a b : Run} → Moved s text r a → Moved s text r b → (state_of a ≡ state_of b) × (a.printed ≡ b.printed) × (a.out ≡ b.out)
moved m n = (m.next ∙ sym n.next, m.prints.printed ∙ sym n.prints.printed, m.prints.wrote ∙ sym n.prints.wrote)

-- so the bytes that are written are the text
pub written_text : {text : List ℕ} {r r' : Run} → Printed text r r' → 15000 ≤ length r.out → take r'.printed r'.out ≡ text
written_text {text = text} {r = r} p h = rw (p.printed, p.wrote) (sets_front r.out text (omega (arith, p.printed, p.short)))

-- the end of the input
pub finished : {r a b : Run} → Finished r a → Finished r b → (a.printed ≡ b.printed) × (a.out ≡ b.out)
finished f g = printed f g
