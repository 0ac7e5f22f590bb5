-- Every public contract settles its outcome: two that meet it are equal, in the answer and in every lent place.
-- Assumes nothing.
use mathlib.Core.Path.{◌≡◌, sym, ◌∙◌}
use Rattle.texts.proofs.counts_line.Reads as counts_line
use Rattle.texts.proofs.bad_line.Reads as bad_line
use Rattle.texts.proofs.refused_line.Reads as refused_line
use Rattle.texts.proofs.vertex_line.Reads as vertex_line

pub counts_line_determined : (κs : _) (a : _) (r r' : _) (s s' : _)
    → counts_line.Post κs a r s
    → counts_line.Post κs a r' s'
    → (r ≡ r') × (s.0.now ≡ s'.0.now)
counts_line_determined κs a r r' s s' p q = (p.0 ∙ sym q.0, p.1 ∙ sym q.1)

pub bad_line_determined : (κs : _) (a : _) (r r' : _) (s s' : _) → bad_line.Post κs a r s → bad_line.Post κs a r' s' → (r ≡ r') × (s.0.now ≡ s'.0.now)
bad_line_determined κs a r r' s s' p q = (p.0 ∙ sym q.0, p.1 ∙ sym q.1)

pub refused_line_determined : (κs : _) (a : _) (r r' : _) (s s' : _)
    → refused_line.Post κs a r s
    → refused_line.Post κs a r' s'
    → (r ≡ r') × (s.0.now ≡ s'.0.now)
refused_line_determined κs a r r' s s' p q = (p.0 ∙ sym q.0, p.1 ∙ sym q.1)

pub vertex_line_determined : (κs : _) (a : _) (r r' : _) (s s' : _) → vertex_line.Post κs a r s → vertex_line.Post κs a r' s' → s.0.now ≡ s'.0.now
vertex_line_determined κs a r r' s s' p q = p ∙ sym q
