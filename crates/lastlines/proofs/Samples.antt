-- Inputs and what the program prints for them: its endings, and the sample of document 01. By computation.
-- Assumes nothing.
use Prim.Native.Nat.{ℕ}
use mathlib.Core.Path.{◌≡◌, refl}
use mathlib.Core.List.{List, [], ◌∷◌, ◌++◌, map}
use lib.Count.{count_trailing_zeros}
use lib.Ieee.{span, climb, size, odd, units, round, neg, sum, add, sub, mul, div, lt, eq, le, ne, of_int, of_fields, of_bits, to_bits, nan_bits}
use Rattle.lists.specs.Beside.{beside_by}
use Rattle.lines.specs.Lines.{digit_of, hex_from, word_at, digits_from, number_at, settings_line, reading_line, line_of}
use Rattle.texts.specs.Texts.{hex_digits, hex_field, decimal_from, counts_line, vertex_line, bad_line, refused_line}
use Rattle.ids.specs.Key.{same_parity}
use Rattle.ids.specs.Morton.{respaced, morton}
use Rattle.lists.specs.Padding.{padded}
use Rattle.lists.specs.Lists.{joined, kept, insert, place}
use Rattle.search.specs.Keys.{rises_from, ascending, next, find}
use Rattle.table.specs.Table.{rows_ok, need, check_with, put, relaid}
use Rattle.fusing.specs.Fusing.{new_weight, fused_voxel, voxel_at, has_place, step_at, stored, fused_near, fused_if, fuse_if, effect_of, fuse}
use Rattle.measuring.specs.Readings.{admit_if, admitted}
use Rattle.edges.specs.Edges.{edges_to, edges}
use Rattle.table.specs.Rows.{stored as stored-edges}
use Rattle.edges.specs.ZeroCrossing.{crossing}
use Rattle.neighbors.specs.Neighbors.{offsets, in_box, reached_from, shown, neighbours_by}
use Rattle.slopes.specs.Stored.{distance_at, or_zero}
use Rattle.vertices.specs.StoredRows.{distance_of as distance_of-vertices}
use Rattle.slopes.specs.Vertices.{part_of as part_of-vertices, vertex_of, vertex_at}
use Rattle.groups.specs.CellEdges.{paired, cell_span, cell_edges}
use Rattle.groups.specs.Groups.{numbers_from}
use Rattle.groups.specs.Near.{gathered}
use Rattle.lists.specs.Threes.{with_third, with_two, threes, twos_of, threes_of}
use Rattle.mesh.specs.Mesh.{mesh_check, meshed_on, mesh_answer_on, held_in}
use Rattle.lastlines.specs.Lastcheck.{given_of, tested_as, settings_from, setup_of, cell_of, taken_of, fused_as, reading_of, vertex_lines, printed_for, mesh_text, after_setup, after_reading, after_mesh, after_line, step_of, transcript_from, unended, lines_from, transcript}

-- `P 3f800000 42c80000 3f800000` and a newline
abbrev pub ready : List ℕ
ready = 80 ∷ 32 ∷ 51 ∷ 102 ∷ 56 ∷ 48 ∷ 48 ∷ 48 ∷ 48 ∷ 48 ∷ 32 ∷ 52 ∷ 50 ∷ 99 ∷ 56 ∷ 48 ∷ 48 ∷ 48 ∷ 48 ∷ 32 ∷ 51 ∷ 102 ∷ 56 ∷ 48 ∷ 48 ∷ 48 ∷ 48 ∷ 48 ∷ 10 ∷ []

-- nothing; `M` before `P`; a NaN's bits as truncation; a size of -0; `P` twice;
-- a blank line; a cell of mixed parity; a NaN's bits as confidence; a mesh without rows, and `X`; the sample of document 01
abbrev pub inputs : List (List ℕ)
inputs =
    []
    ∷ (77 ∷ [])
    ∷ (80 ∷ 32 ∷ 55 ∷ 102 ∷ 99 ∷ 48 ∷ 48 ∷ 48 ∷ 48 ∷ 48 ∷ 32 ∷ 52 ∷ 50 ∷ 99 ∷ 56 ∷ 48 ∷ 48 ∷ 48 ∷ 48 ∷ 32 ∷ 51 ∷ 102 ∷ 56 ∷ 48 ∷ 48 ∷ 48 ∷ 48 ∷ 48 ∷ 10 ∷ [])
    ∷ (80 ∷ 32 ∷ 51 ∷ 102 ∷ 56 ∷ 48 ∷ 48 ∷ 48 ∷ 48 ∷ 48 ∷ 32 ∷ 52 ∷ 50 ∷ 99 ∷ 56 ∷ 48 ∷ 48 ∷ 48 ∷ 48 ∷ 32 ∷ 56 ∷ 48 ∷ 48 ∷ 48 ∷ 48 ∷ 48 ∷ 48 ∷ 48 ∷ [])
    ∷ (ready ++ ready)
    ∷ (ready ++ (10 ∷ []))
    ∷ (ready
    ++ (68 ∷ 32 ∷ 48 ∷ 32 ∷ 49 ∷ 32 ∷ 48 ∷ 32 ∷ 51 ∷ 101 ∷ 56 ∷ 48 ∷ 48 ∷ 48 ∷ 48 ∷ 48 ∷ 32 ∷ 51 ∷ 102 ∷ 56 ∷ 48
    ∷ 48 ∷ 48 ∷ 48 ∷ 48 ∷ 10 ∷ 77 ∷ 10 ∷ []))
    ∷ (ready ++ (68 ∷ 32 ∷ 48 ∷ 32 ∷ 48 ∷ 32 ∷ 48 ∷ 32 ∷ 51 ∷ 101 ∷ 56 ∷ 48 ∷ 48 ∷ 48 ∷ 48 ∷ 48 ∷ 32 ∷ 102 ∷ 102 ∷ 99 ∷ 48 ∷ 48 ∷ 48 ∷ 48 ∷ 48 ∷ 10 ∷ []))
    ∷ (ready ++ (77 ∷ 10 ∷ 88 ∷ []))
    ∷ (ready
    ++ (68 ∷ 32 ∷ 49 ∷ 48 ∷ 32 ∷ 49 ∷ 48 ∷ 32 ∷ 49 ∷ 48 ∷ 32 ∷ 51 ∷ 101 ∷ 56 ∷ 48 ∷ 48 ∷ 48 ∷ 48 ∷ 48 ∷ 32 ∷ 51
    ∷ 102 ∷ 56 ∷ 48 ∷ 48 ∷ 48 ∷ 48 ∷ 48 ∷ 10 ∷ 68 ∷ 32 ∷ 49 ∷ 49 ∷ 32 ∷ 49 ∷ 49 ∷ 32 ∷ 49 ∷ 49 ∷ 32 ∷ 98 ∷ 101
    ∷ 56 ∷ 48 ∷ 48 ∷ 48 ∷ 48 ∷ 48 ∷ 32 ∷ 51 ∷ 102 ∷ 56 ∷ 48 ∷ 48 ∷ 48 ∷ 48 ∷ 48 ∷ 10 ∷ 77 ∷ 10 ∷ []))
    ∷ []

pub samples :
    map transcript inputs
    ≡ []
    ∷ (98 ∷ 97 ∷ 100 ∷ 32 ∷ 49 ∷ 10 ∷ [])
    ∷ (114 ∷ 101 ∷ 102 ∷ 117 ∷ 115 ∷ 101 ∷ 100 ∷ 32 ∷ 49 ∷ 10 ∷ [])
    ∷ (114 ∷ 101 ∷ 102 ∷ 117 ∷ 115 ∷ 101 ∷ 100 ∷ 32 ∷ 49 ∷ 10 ∷ [])
    ∷ (98 ∷ 97 ∷ 100 ∷ 32 ∷ 50 ∷ 10 ∷ [])
    ∷ (98 ∷ 97 ∷ 100 ∷ 32 ∷ 50 ∷ 10 ∷ [])
    ∷ (114 ∷ 101 ∷ 102 ∷ 117 ∷ 115 ∷ 101 ∷ 100 ∷ 32 ∷ 52 ∷ 10 ∷ [])
    ∷ (114 ∷ 101 ∷ 102 ∷ 117 ∷ 115 ∷ 101 ∷ 100 ∷ 32 ∷ 53 ∷ 10 ∷ [])
    ∷ (114 ∷ 111 ∷ 119 ∷ 115 ∷ 32 ∷ 48 ∷ 32 ∷ 101 ∷ 100 ∷ 103 ∷ 101 ∷ 115 ∷ 32 ∷ 48 ∷ 32 ∷ 116 ∷ 114 ∷ 105 ∷ 97 ∷ 110
    ∷ 103 ∷ 108 ∷ 101 ∷ 115 ∷ 32 ∷ 48 ∷ 10 ∷ 98 ∷ 97 ∷ 100 ∷ 32 ∷ 51 ∷ 10 ∷ [])
    ∷ (114 ∷ 111 ∷ 119 ∷ 115 ∷ 32 ∷ 50 ∷ 32 ∷ 101 ∷ 100 ∷ 103 ∷ 101 ∷ 115 ∷ 32 ∷ 49 ∷ 32 ∷ 116 ∷ 114 ∷ 105 ∷ 97 ∷ 110
    ∷ 103 ∷ 108 ∷ 101 ∷ 115 ∷ 32 ∷ 48 ∷ 10 ∷ 118 ∷ 32 ∷ 52 ∷ 49 ∷ 50 ∷ 56 ∷ 48 ∷ 48 ∷ 48 ∷ 48 ∷ 32 ∷ 52 ∷ 49 ∷ 50
    ∷ 56 ∷ 48 ∷ 48 ∷ 48 ∷ 48 ∷ 32 ∷ 52 ∷ 49 ∷ 50 ∷ 56 ∷ 48 ∷ 48 ∷ 48 ∷ 48 ∷ 10 ∷ [])
    ∷ []
unfolding count_trailing_zeros span climb size odd units round neg sum add sub mul div lt eq le ne of_int of_fields of_bits to_bits
    nan_bits digit_of hex_from word_at digits_from number_at settings_line reading_line line_of hex_digits hex_field
    decimal_from counts_line vertex_line bad_line refused_line same_parity respaced morton padded joined kept insert place
    rises_from ascending next find beside_by rows_ok need check_with put relaid new_weight fused_voxel voxel_at has_place step_at
    stored fused_near fused_if fuse_if effect_of fuse admit_if admitted edges_to edges stored-edges crossing offsets in_box reached_from shown neighbours_by
    distance_at distance_of-vertices or_zero part_of-vertices vertex_of vertex_at paired cell_span cell_edges numbers_from gathered
    with_third with_two threes twos_of threes_of mesh_check meshed_on mesh_answer_on held_in given_of tested_as settings_from
    setup_of cell_of taken_of fused_as reading_of vertex_lines printed_for mesh_text after_setup after_reading after_mesh after_line
    step_of transcript_from unended lines_from transcript
samples = refl
