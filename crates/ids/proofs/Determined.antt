-- Every public contract settles its outcome: two answers that meet it are equal.
-- Assumes nothing.
use mathlib.Core.Path.{◌≡◌, sym, ◌∙◌}
use Rattle.ids.proofs.new.Reads as new
use Rattle.ids.proofs.decode_coords.Reads as decode_coords
use Rattle.ids.proofs.is_on_lattice.Reads as is_on_lattice
use Rattle.ids.proofs.head.Reads as head
use Rattle.ids.proofs.scale_tier.Reads as scale_tier
use Rattle.ids.proofs.frame_id.Reads as frame_id
use Rattle.ids.proofs.lod.Reads as lod
use Rattle.ids.proofs.morton.Reads as morton
use Rattle.ids.proofs.morton_encode.Reads as morton_encode
use Rattle.ids.proofs.morton_decode.Reads as morton_decode

pub new_determined : (κs : _) (a : _) (r r' : _) (s s' : _) → new.Post κs a r s → new.Post κs a r' s' → r ≡ r'
new_determined κs a r r' s s' p q = p ∙ sym q

pub decode_coords_determined : (κs : _) (a : _) (r r' : _) (s s' : _) → decode_coords.Post κs a r s → decode_coords.Post κs a r' s' → r ≡ r'
decode_coords_determined κs a r r' s s' p q = p ∙ sym q

pub is_on_lattice_determined : (κs : _) (a : _) (r r' : _) (s s' : _) → is_on_lattice.Post κs a r s → is_on_lattice.Post κs a r' s' → r ≡ r'
is_on_lattice_determined κs a r r' s s' p q = p ∙ sym q

pub head_determined : (κs : _) (a : _) (r r' : _) (s s' : _) → head.Post κs a r s → head.Post κs a r' s' → r ≡ r'
head_determined κs a r r' s s' p q = p ∙ sym q

pub scale_tier_determined : (κs : _) (a : _) (r r' : _) (s s' : _) → scale_tier.Post κs a r s → scale_tier.Post κs a r' s' → r ≡ r'
scale_tier_determined κs a r r' s s' p q = p ∙ sym q

pub frame_id_determined : (κs : _) (a : _) (r r' : _) (s s' : _) → frame_id.Post κs a r s → frame_id.Post κs a r' s' → r ≡ r'
frame_id_determined κs a r r' s s' p q = p ∙ sym q

pub lod_determined : (κs : _) (a : _) (r r' : _) (s s' : _) → lod.Post κs a r s → lod.Post κs a r' s' → r ≡ r'
lod_determined κs a r r' s s' p q = p ∙ sym q

pub morton_determined : (κs : _) (a : _) (r r' : _) (s s' : _) → morton.Post κs a r s → morton.Post κs a r' s' → r ≡ r'
morton_determined κs a r r' s s' p q = p ∙ sym q

pub morton_encode_determined : (κs : _) (a : _) (r r' : _) (s s' : _) → morton_encode.Post κs a r s → morton_encode.Post κs a r' s' → r ≡ r'
morton_encode_determined κs a r r' s s' p q = p ∙ sym q

pub morton_decode_determined : (κs : _) (a : _) (r r' : _) (s s' : _) → morton_decode.Post κs a r s → morton_decode.Post κs a r' s' → r ≡ r'
morton_decode_determined κs a r r' s s' p q = p ∙ sym q
