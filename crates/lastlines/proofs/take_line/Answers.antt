-- `lastlines::take_line` meets its contract: a line in its place does what its kind does, any other is bad.
-- Assumes nothing.
use Rattle.std.proofs.Common.{◌≡◌, false, rules, Some, None}
use Rattle.lines.specs.declared.Line.TheVariants as line
use Rattle.table.specs.Table.{table}
use Rattle.texts.specs.Texts.{bad_line}
use Rattle.lastlines.specs.Lastcheck.{after, after_line}
use Rattle.lastlines.proofs.LineLaws.{step_settings, step_reading, step_mesh, step_bad}
use Rattle.lastlines.proofs.take_line.Goals as goal
use Rattle.lastlines.proofs.take_line.Goals.{in_default-via-in-Some+in-Settings+in_default, in_default-via-in-Some+in-Reading+in_default, in_default-via-in-Some+in-Mesh+in_default, in_default-via-in_default}

pub returns-in-Some-Settings-None : goal.returns-in-Some-Settings-None
returns-in-Some-Settings-None c =
    let h = c.in-Some-Settings-None in
    let k : c.line_of.result ≡ Some (line.Settings h.truncation h.weight h.size) = search rules in
    let f : c.args.settings ≡ None = search rules in
    step_settings _ _ _ _ _ c.line_of.ensures k f c.set_up.ensures (c.after_setup.ensures _)

pub returns-in-Some-Reading-Some : goal.returns-in-Some-Reading-Some
returns-in-Some-Reading-Some c =
    let h = c.in-Some-Reading-Some in
    let k : c.line_of.result ≡ Some (line.Reading h.x h.y h.z h.distance h.confidence) = search rules in
    let f : c.args.settings ≡ Some h.settings = search rules in
    step_reading _ _ _ _ _ c.line_of.ensures k f c.take_reading-answer.ensures (c.after_reading.ensures _)

pub returns-in-Some-Mesh-Some : goal.returns-in-Some-Mesh-Some
returns-in-Some-Mesh-Some c =
    let h = c.in-Some-Mesh-Some in
    let k : c.line_of.result ≡ Some line.Mesh = search rules in
    let f : c.args.settings ≡ Some h.settings = search rules in
    step_mesh _ _ _ _ _ c.line_of.ensures k f c.print_surface.ensures

pub returns-in_default : goal.returns-in_default
unfolding after_line
returns-in_default c =
    let a = c.args in
    let t = table a.keys.now a.distances.now a.weights.now a.count.now in
    let bad : after_line c.line_of.result a.number a.settings t ≡ after a.settings t (bad_line a.number) false =
    elim c.in_default.branch [
      | in_default-via-in-Some+in-Settings+in_default w ↦ search rules
      | in_default-via-in-Some+in-Reading+in_default w ↦ search rules
      | in_default-via-in-Some+in-Mesh+in_default w ↦ search rules
      | in_default-via-in_default w ↦ search rules
    ] in
    step_bad _ _ _ _ _ c.line_of.ensures bad c.reject.ensures
