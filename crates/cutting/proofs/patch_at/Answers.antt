-- `cutting::patch_at` meets its contract: three that are pairwise adjacent are cut, and no others.
-- Assumes nothing.
use Rattle.std.proofs.Common.{not}
use Prim.Native.Nat.{◌<◌}
use mathlib.Core.Path.{ap, ◌∙◌}
use native.Mathlib.Omega.{arith}
use lib.ListN.{length}
use Rattle.lists.proofs.Bools.{yes, no}
use Rattle.tetrahedra.specs.Near.{close}
use Rattle.cuts.specs.Patches.{patch_by, triangles_of_patch, triangles_by}
use Rattle.cuts.proofs.VertexLaws.{patch_in}
use Rattle.cutting.specs.Corners.{cut_with}
use Rattle.cutting.proofs.patch_at.Goals as goal

pub returns-then-not-meets-i : goal.returns-then-not-meets-i
unfolding cut_with close triangles_by patch_by triangles_of_patch
returns-then-not-meets-i c =
    let short : c.args.i < length c.args.cells.now = omega (arith, c.requires.2, c.requires.3, c.requires.4) in
    let il = c.requires.1.told c.args.i c.args.l short (omega (arith, c.requires.2, c.requires.3)) c.requires.4 in
    rw (c.requires.5, no il (ap not c.if-not-meets-i.true))

pub returns-then-not-meets-j : goal.returns-then-not-meets-j
unfolding cut_with close triangles_by patch_by triangles_of_patch
returns-then-not-meets-j c =
    let short : c.args.i < length c.args.cells.now = omega (arith, c.requires.2, c.requires.3, c.requires.4) in
    let il = c.requires.1.told c.args.i c.args.l short (omega (arith, c.requires.2, c.requires.3)) c.requires.4 in
    let jl = c.requires.1.told c.args.j c.args.l (omega (arith, c.requires.3, c.requires.4)) c.requires.3 c.requires.4 in
    rw (c.requires.5, yes il (ap not c.if-not-meets-i.false), no jl (ap not c.if-not-meets-j.true))

pub returns : goal.returns
unfolding cut_with close
returns c =
    let short : c.args.i < length c.args.cells.now = omega (arith, c.requires.2, c.requires.3, c.requires.4) in
    let il = c.requires.1.told c.args.i c.args.l short (omega (arith, c.requires.2, c.requires.3)) c.requires.4 in
    let jl = c.requires.1.told c.args.j c.args.l (omega (arith, c.requires.3, c.requires.4)) c.requires.3 c.requires.4 in
    rw (c.requires.5, yes il (ap not c.if-not-meets-i.false), yes jl (ap not c.if-not-meets-j.false))
    (ap triangles_of_patch c.patch_of.ensures ∙ patch_in _ _ _ c.requires.6 _ _)
