-- What each line does, and what the run prints.
use Rattle.std.specs.Prelude.{ℕ, zero, suc, ◌≤◌, ◌≡◌, Bool, true, false, cond, List, [], ◌∷◌, ◌++◌, eqb, length, get_or, replicate, Float, Ok, Err, Some, None, Option, Result}
use Rattle.std.specs.Option.{is_some, unwrap_or}
use Rattle.std.proofs.lemmas.List.Edits.{sets}
use Rattle.std.specs.Float.{nan, binary32}
use Rattle.std.specs.Float.Ieee.{nan_bits, of_bits}
use Rattle.floats.specs.Floats.{zero32}
use Rattle.ids.specs.Key.{made_of}
use Rattle.lines.specs.declared.Line.{Line}
use Rattle.lines.specs.declared.Line.TheVariants as line
use Rattle.lines.specs.Lines.{line_of}
use Rattle.mesh.specs.declared.Rooms.{Rooms}
use Rattle.mesh.specs.Mesh.{rooms, mesh_answer, held_in, vertices_of}
use Rattle.refusals.specs.declared.Refusal.TheVariants.{Setting, OffLattice, BadReading}
use Rattle.table.specs.declared.Settings.{Settings}
use Rattle.table.specs.Table.{Table, table, settings_of, settings_ok}
use Rattle.texts.specs.Texts.{counts_line, vertex_line, bad_line, refused_line}
use Rattle.fusing.specs.declared.Fused.{Fused}
use Rattle.measuring.specs.declared.Reading.TheVariants as reading
use Rattle.fusing.specs.Fusing.{Outcome, outcome, fuse}
use Rattle.slopes.specs.Vertices.{xs_of, ys_of, zs_of}
use Rattle.lastlines.specs.declared.Stepped.{Stepped}
use Rattle.lastlines.specs.declared.Flagged.{Flagged}
use Rattle.refusals.specs.declared.Refusal.{Refusal}

-- the float of 32 bits; a NaN's bits are none
unfoldable pub given_of : ℕ → Option Float
given_of bits = cond (nan_bits binary32 bits) None (Some (of_bits binary32 bits))

-- settings, tested at once: 1 where one is outside its range
unfoldable pub tested_as : Bool → Settings → Result Settings Refusal
tested_as true settings = Ok settings
tested_as false settings = Err Setting

-- the maximum distance is +0
abbrev pub settings_with : Float → Float → Float → Settings
settings_with t w s = settings_of t w s zero32

-- three numbers as settings
unfoldable pub settings_from : Float → Float → Float → Result Settings Refusal
settings_from t w s = tested_as (settings_ok (settings_with t w s)) (settings_with t w s)

-- a NaN's bits are a setting outside its range
abbrev pub with_setting : Option Float → (Float → Result Settings Refusal) → Result Settings Refusal
with_setting (Some x) rest = rest x
with_setting None rest = Err Setting

-- what P does: truncation, maximum weight and size as bits
unfoldable pub setup_of : ℕ → ℕ → ℕ → Result Settings Refusal
setup_of t w s =
    with_setting (given_of t) λ a.
    with_setting (given_of w) λ b.
    with_setting (given_of s) λ c.
    settings_from a b c

-- a NaN's bits are a reading that is not finite, or a confidence outside 0..1: 5
abbrev pub with_reading : Option Float → (Float → Result (ℕ × Float × Float) Refusal) → Result (ℕ × Float × Float) Refusal
with_reading (Some x) rest = rest x
with_reading None rest = Err BadReading

-- mixed parity is 4
abbrev pub with_key : Result ℕ Refusal → (ℕ → Result (ℕ × Float × Float) Refusal) → Result (ℕ × Float × Float) Refusal
with_key (Ok k) rest = rest k
with_key (Err why) rest = Err OffLattice

-- the cell at x, y, z, head 0
unfoldable pub cell_of : ℕ → ℕ → ℕ → Result ℕ Refusal
cell_of x y z = made_of 0 x y z

-- a direct reading of it
unfoldable pub taken_of : ℕ → ℕ → ℕ → ℕ → ℕ → Result (ℕ × Float × Float) Refusal
taken_of x y z d c =
    with_key (cell_of x y z) λ k.
    with_reading (given_of d) λ distance.
    with_reading (given_of c) λ confidence.
    Ok (k, distance, confidence)

-- fused into the table
unfoldable pub fused_as : Result (ℕ × Float × Float) Refusal → Settings → Table → Outcome
fused_as (Ok (k, distance, confidence)) s t = fuse s t k (reading.Direct (record { 0 = distance }) confidence)
fused_as (Err why) s t = outcome (Err why) t

-- what D does: x, y, z, then distance and confidence as bits
unfoldable pub reading_of : Settings → Table → ℕ → ℕ → ℕ → ℕ → ℕ → Outcome
reading_of s t x y z d c = fused_as (taken_of x y z d c) s t

-- the lines of n vertices from place i of three lists on
unfoldable pub vertex_lines : ℕ → ℕ → List Float → List Float → List Float → List ℕ
vertex_lines zero i xs ys zs = []
vertex_lines (suc n) i xs ys zs = vertex_line (get_or xs i nan) (get_or ys i nan) (get_or zs i nan) ++ vertex_lines n (suc i) xs ys zs

-- 512 edges and vertices, 1,024 group numbers, 1,024 triangles
abbrev pub held : Rooms
held = rooms 512 512 512 512 512 512 512 512 1024 1024 1024 1024

-- what an answer prints: the counts and each vertex's bits, or why it is refused
unfoldable pub printed_for : Result (ℕ × ℕ) Refusal → ℕ → List Float → List Float → List Float → List ℕ
printed_for (Ok (n, m)) rows xs ys zs = counts_line rows n m ++ vertex_lines n 0 xs ys zs
printed_for (Err why) rows xs ys zs = refused_line why

-- what M prints
unfoldable pub mesh_text : Settings → Table → List ℕ
mesh_text s t =
    let a = mesh_answer s t held in
    printed_for a t.count
    (held_in zero32 a 512 (xs_of (vertices_of s t)))
    (held_in zero32 a 512 (ys_of (vertices_of s t)))
    (held_in zero32 a 512 (zs_of (vertices_of s t)))

-- the run goes on unless M is refused
abbrev pub goes_on_lem : Result (ℕ × ℕ) Refusal → Bool
goes_on_lem (Ok (n, m)) = true
goes_on_lem (Err why) = false

-- after a line: the settings, where P came, the table, what is printed, and whether the run goes on
pub record After : Type 0 where
  pub settings : Option Settings
  pub left : Table
  pub text : List ℕ
  pub goes : Bool

abbrev pub after : Option Settings → Table → List ℕ → Bool → After
after s t text goes = record { settings = s; left = t; text = text; goes = goes }

-- P is silent unless it is refused
unfoldable pub after_setup : Result Settings Refusal → Table → After
after_setup (Ok s) t = after (Some s) t [] true
after_setup (Err why) t = after None t (refused_line why) false

-- D is silent unless it is refused
unfoldable pub after_reading : Result Fused Refusal → Settings → Table → After
after_reading (Ok fused) s t = after (Some s) t [] true
after_reading (Err why) s t = after (Some s) t (refused_line why) false

-- M leaves the table as it is
unfoldable pub after_mesh : Settings → Table → After
after_mesh s t = after (Some s) t (mesh_text s t) (goes_on_lem (mesh_answer s t held))

-- P comes first and once, the others after it; a line that is bad, or not in its place, prints its number and ends the run
unfoldable pub after_line : Option Line → ℕ → Option Settings → Table → After
after_line (Some (line.Settings a b c)) n None t = after_setup (setup_of a b c) t
after_line (Some (line.Settings a b c)) n (Some s) t = after (Some s) t (bad_line n) false
after_line (Some (line.Reading x y z d c)) n (Some s) t = let o = reading_of s t x y z d c in after_reading o.answer s o.left
after_line (Some (line.Reading x y z d c)) n None t = after None t (bad_line n) false
after_line (Some line.Mesh) n (Some s) t = after_mesh s t
after_line (Some line.Mesh) n None t = after None t (bad_line n) false
after_line None n s t = after s t (bad_line n) false

-- one line, by its bytes and its number
unfoldable pub step_of : List ℕ → ℕ → Option Settings → Table → After
step_of bytes n s t = after_line (line_of bytes) n s t

-- what the call answers of it
abbrev pub stepped_as : After → Stepped
stepped_as a = record { settings = a.settings; length = length a.text; goes_on = a.goes }

-- the answer, the table, and what stands in the lent bytes from the front on; no line prints more than 15,000 bytes
pub record IsStep (a : After) (r : Stepped) (t : Table) (out out' : List ℕ) : Type 0 where
  pub answer : r ≡ stepped_as a
  pub left : t ≡ a.left
  pub text : out' ≡ sets out 0 a.text
  pub short : length a.text ≤ 15000

-- settings beside a flag that says whether P came
abbrev pub settings_if : Bool → Settings → Option Settings
settings_if started s = cond started (Some s) None

-- what a call answers of it that is lent a flag and settings: the settings as they came, where P didn't
abbrev pub flagged_as : Settings → After → Flagged
flagged_as s a = record { started = is_some a.settings; settings = unwrap_or a.settings s; length = length a.text; goes_on = a.goes }

-- what the run prints for its lines, the first of them numbered n; it ends at a line that is bad or refused
unfoldable pub transcript_from : ℕ → Option Settings → Table → List (List ℕ) → List ℕ
transcript_from n s t [] = []
transcript_from n s t (l ∷ ls) =
    let a = step_of l n s t in
    a.text ++ cond a.goes (transcript_from (suc n) a.settings a.left ls) []

-- bytes after the last newline are a line
unfoldable pub unended : List ℕ → List (List ℕ)
unended [] = []
unended (b ∷ bs) = (b ∷ bs) ∷ []

-- the lines of an input, after bytes of the present line that were kept: cut at newlines
unfoldable pub lines_from : List ℕ → List ℕ → List (List ℕ)
lines_from kept [] = unended kept
lines_from kept (b ∷ bs) = cond (eqb b 10) (kept ∷ lines_from [] bs) (lines_from (kept ++ (b ∷ [])) bs)

-- the run begins without settings, and with 256 places, none of them a row
abbrev pub unfilled : Table
unfilled = table (replicate 256 0) (replicate 256 zero32) (replicate 256 zero32) 0

-- what the program prints for its input
unfoldable pub transcript : List ℕ → List ℕ
transcript input = transcript_from 1 None unfilled (lines_from [] input)
