-- `measuring::ray_distance` meets its contract: the root takes the sum of squares, which is not below zero.
-- Assumes nothing.
use mathlib.Core.Path.{ap, ◌∙◌}
use Rattle.root.specs.Root.{root_answer}
use Rattle.measuring.proofs.Rays.{squares_is, root_taken, root_not_refused}
use Rattle.measuring.proofs.ray_distance.Goals as goal

pub returns-in-Ok : goal.returns-in-Ok
returns-in-Ok c =
    let a = c.args in
    root_taken a.size.0 a.key a.x a.y a.z a.depth a.confidence c.requires.size_value c.requires.confidence_value _ _
    (c.root.ensures
    ∙ ap root_answer
    (squares_is a.size.0 a.key a.x a.y a.z _ _ _ _ c.morton_decode-c.ensures
    c.apart-dx.ensures c.apart-dy.ensures
    c.apart-dz.ensures))
    c.in-Ok.is

pub returns-in-Err : goal.returns-in-Err
returns-in-Err c =
    let a = c.args in
    absurd (root_not_refused a.size.0 a.key a.x a.y a.z a.depth a.confidence c.requires.size_value c.requires.confidence_value _ _
    (c.root.ensures
    ∙ ap root_answer
    (squares_is a.size.0 a.key a.x a.y a.z _ _ _ _ c.morton_decode-c.ensures
    c.apart-dx.ensures c.apart-dy.ensures
    c.apart-dz.ensures))
    c.in-Err.is)
