-- Transcripts of scripts, from their bytes: arrays, selections and views.
use Rattle.std.proofs.Common.{ℕ, List, [], ◌∷◌, true, false, Some, None, ℤ, pos, negsuc, codes}
use Rattle.std.specs.Fmt.{digits}
use Rattle.h5_model.specs.Format.Fixed.{value_at, raw_at, bytes_of}
use Rattle.h5_model.specs.Tree.Objects.{ToObject, Dataset, Contiguous, Chunked, within_names, is_reached}
use Rattle.h5_model.specs.Tree.Paths.{names_of}
use Rattle.h5_model.specs.Edits.Applied.{with_edit}
use Rattle.h5_model.specs.Edits.Refusal.{refusal_of}
use Rattle.h5_model.specs.Views.Selection.{selection_of}
use Rattle.h5_model.specs.Views.Shown.{View, met_boxes}
use Rattle.h5_model.specs.Scripts.Sessions.{Session}
use Rattle.h5_model.specs.Scripts.Lines.{unescaped_text, type_from, line_asks}
use Rattle.h5_model.specs.Scripts.Text.{lines_below}
use Rattle.h5_model.proofs.MapSteps.{known}
use Rattle.h5_model.proofs.Sessions.{session_of, group_at, array_at, row_of, u8, i16le, i32le, i64be, new_file, OneLine, TwoLines, ThreeLines}

-- `/c`, five rows of four cells in chunks of two by three; the rows may grow without end
abbrev c_data : List ℕ → List ℤ → Dataset
c_data sizes cells =
    record { fixed = u8; sizes = sizes; maxima = None ∷ Some 4 ∷ []; storage = Chunked (2 ∷ 3 ∷ []); fill = pos 0; cells = cells }

abbrev c_file : List ℕ → List ℤ → List (ℕ × View) → ℕ → Session
c_file sizes cells views next_view =
    session_of (group_at 0 ((codes "c", ToObject 1) ∷ []) ∷ array_at 1 (c_data sizes cells) ∷ []) 2 views next_view

-- `/r`, eight cells of i16le
abbrev r_file : List ℤ → List (ℕ × View) → ℕ → Session
r_file cells views next_view =
    session_of (group_at 0 ((codes "r", ToObject 1) ∷ []) ∷ array_at 1 (row_of i16le (Contiguous true) cells 8) ∷ []) 2 views next_view

-- chunks that reach past the array
edge_chunks : TwoLines new_file
    (codes "dataset /c u8 5/inf,4 chunked:2,3") (codes "ok 0\n")
    (codes "write /c 0,0 1,1 5,4 1,1 1,2,3,4,5,6,7,8,9,10,11,12,13,14,15,16,17,18,19,20") (codes "ok 0\n")
    (c_file (5 ∷ 4 ∷ []) (pos 1 ∷ pos 2 ∷ pos 3 ∷ pos 4 ∷ pos 5 ∷ pos 6 ∷ pos 7 ∷ pos 8 ∷ pos 9 ∷ pos 10 ∷ pos 11 ∷ pos 12 ∷ pos 13 ∷ pos 14 ∷ pos 15 ∷ pos 16 ∷ pos 17 ∷ pos 18 ∷ pos 19 ∷ pos 20 ∷ []) [] 0)
unfolding line_asks unescaped_text type_from refusal_of names_of with_edit within_names is_reached selection_of met_boxes bytes_of value_at raw_at lines_below digits
edge_chunks = (simp known, simp known, simp known)

all_rows : OneLine (c_file (5 ∷ 4 ∷ []) (pos 1 ∷ pos 2 ∷ pos 3 ∷ pos 4 ∷ pos 5 ∷ pos 6 ∷ pos 7 ∷ pos 8 ∷ pos 9 ∷ pos 10 ∷ pos 11 ∷ pos 12 ∷ pos 13 ∷ pos 14 ∷ pos 15 ∷ pos 16 ∷ pos 17 ∷ pos 18 ∷ pos 19 ∷ pos 20 ∷ []) [] 0)
    (codes "dump /c") (codes "/c dataset u8 {5/inf, 4} chunked {2, 3} fill 0\n1 2 3 4\n5 6 7 8\n9 10 11 12\n13 14 15 16\n17 18 19 20\n")
    (c_file (5 ∷ 4 ∷ []) (pos 1 ∷ pos 2 ∷ pos 3 ∷ pos 4 ∷ pos 5 ∷ pos 6 ∷ pos 7 ∷ pos 8 ∷ pos 9 ∷ pos 10 ∷ pos 11 ∷ pos 12 ∷ pos 13 ∷ pos 14 ∷ pos 15 ∷ pos 16 ∷ pos 17 ∷ pos 18 ∷ pos 19 ∷ pos 20 ∷ []) [] 0)
unfolding line_asks unescaped_text type_from refusal_of names_of with_edit within_names is_reached selection_of met_boxes bytes_of value_at raw_at lines_below digits
all_rows = (simp known, simp known)

-- cells lost are gone, and the view comes back
last_cell : TwoLines (c_file (5 ∷ 4 ∷ []) (pos 1 ∷ pos 2 ∷ pos 3 ∷ pos 4 ∷ pos 5 ∷ pos 6 ∷ pos 7 ∷ pos 8 ∷ pos 9 ∷ pos 10 ∷ pos 11 ∷ pos 12 ∷ pos 13 ∷ pos 14 ∷ pos 15 ∷ pos 16 ∷ pos 17 ∷ pos 18 ∷ pos 19 ∷ pos 20 ∷ []) [] 0)
    (codes "view /c 4,3 1,1 1,1 1,1") (codes "view 0\n")
    (codes "show 0") (codes "kept 20\n")
    (c_file (5 ∷ 4 ∷ []) (pos 1 ∷ pos 2 ∷ pos 3 ∷ pos 4 ∷ pos 5 ∷ pos 6 ∷ pos 7 ∷ pos 8 ∷ pos 9 ∷ pos 10 ∷ pos 11 ∷ pos 12 ∷ pos 13 ∷ pos 14 ∷ pos 15 ∷ pos 16 ∷ pos 17 ∷ pos 18 ∷ pos 19 ∷ pos 20 ∷ []) ((0, record { object = 1; slab = record { start = 4; stride = 1; count = 1; block = 1 } ∷ record { start = 3; stride = 1; count = 1; block = 1 } ∷ [] }) ∷ []) 1)
unfolding line_asks unescaped_text type_from refusal_of names_of with_edit within_names is_reached selection_of met_boxes bytes_of value_at raw_at lines_below digits
last_cell = (simp known, simp known, simp known)

shrunk : TwoLines (c_file (5 ∷ 4 ∷ []) (pos 1 ∷ pos 2 ∷ pos 3 ∷ pos 4 ∷ pos 5 ∷ pos 6 ∷ pos 7 ∷ pos 8 ∷ pos 9 ∷ pos 10 ∷ pos 11 ∷ pos 12 ∷ pos 13 ∷ pos 14 ∷ pos 15 ∷ pos 16 ∷ pos 17 ∷ pos 18 ∷ pos 19 ∷ pos 20 ∷ []) ((0, record { object = 1; slab = record { start = 4; stride = 1; count = 1; block = 1 } ∷ record { start = 3; stride = 1; count = 1; block = 1 } ∷ [] }) ∷ []) 1)
    (codes "resize /c 1,1") (codes "ok 1\n")
    (codes "show 0") (codes "fault 3 OutsideNow\n")
    (c_file (1 ∷ 1 ∷ []) (pos 1 ∷ []) ((0, record { object = 1; slab = record { start = 4; stride = 1; count = 1; block = 1 } ∷ record { start = 3; stride = 1; count = 1; block = 1 } ∷ [] }) ∷ []) 1)
unfolding line_asks unescaped_text type_from refusal_of names_of with_edit within_names is_reached selection_of met_boxes bytes_of value_at raw_at lines_below digits
shrunk = (simp known, simp known, simp known)

grown : TwoLines (c_file (1 ∷ 1 ∷ []) (pos 1 ∷ []) ((0, record { object = 1; slab = record { start = 4; stride = 1; count = 1; block = 1 } ∷ record { start = 3; stride = 1; count = 1; block = 1 } ∷ [] }) ∷ []) 1)
    (codes "resize /c 5,4") (codes "ok 0\n")
    (codes "show 0") (codes "kept 0\n")
    (c_file (5 ∷ 4 ∷ []) (pos 1 ∷ pos 0 ∷ pos 0 ∷ pos 0 ∷ pos 0 ∷ pos 0 ∷ pos 0 ∷ pos 0 ∷ pos 0 ∷ pos 0 ∷ pos 0 ∷ pos 0 ∷ pos 0 ∷ pos 0 ∷ pos 0 ∷ pos 0 ∷ pos 0 ∷ pos 0 ∷ pos 0 ∷ pos 0 ∷ []) ((0, record { object = 1; slab = record { start = 4; stride = 1; count = 1; block = 1 } ∷ record { start = 3; stride = 1; count = 1; block = 1 } ∷ [] }) ∷ []) 1)
unfolding line_asks unescaped_text type_from refusal_of names_of with_edit within_names is_reached selection_of met_boxes bytes_of value_at raw_at lines_below digits
grown = (simp known, simp known, simp known)

grown_rows : OneLine (c_file (5 ∷ 4 ∷ []) (pos 1 ∷ pos 0 ∷ pos 0 ∷ pos 0 ∷ pos 0 ∷ pos 0 ∷ pos 0 ∷ pos 0 ∷ pos 0 ∷ pos 0 ∷ pos 0 ∷ pos 0 ∷ pos 0 ∷ pos 0 ∷ pos 0 ∷ pos 0 ∷ pos 0 ∷ pos 0 ∷ pos 0 ∷ pos 0 ∷ []) ((0, record { object = 1; slab = record { start = 4; stride = 1; count = 1; block = 1 } ∷ record { start = 3; stride = 1; count = 1; block = 1 } ∷ [] }) ∷ []) 1)
    (codes "dump /c") (codes "/c dataset u8 {5/inf, 4} chunked {2, 3} fill 0\n1 0 0 0\n0 0 0 0\n0 0 0 0\n0 0 0 0\n0 0 0 0\n")
    (c_file (5 ∷ 4 ∷ []) (pos 1 ∷ pos 0 ∷ pos 0 ∷ pos 0 ∷ pos 0 ∷ pos 0 ∷ pos 0 ∷ pos 0 ∷ pos 0 ∷ pos 0 ∷ pos 0 ∷ pos 0 ∷ pos 0 ∷ pos 0 ∷ pos 0 ∷ pos 0 ∷ pos 0 ∷ pos 0 ∷ pos 0 ∷ pos 0 ∷ []) ((0, record { object = 1; slab = record { start = 4; stride = 1; count = 1; block = 1 } ∷ record { start = 3; stride = 1; count = 1; block = 1 } ∷ [] }) ∷ []) 1)
unfolding line_asks unescaped_text type_from refusal_of names_of with_edit within_names is_reached selection_of met_boxes bytes_of value_at raw_at lines_below digits
grown_rows = (simp known, simp known)

-- a view of blocks; an array that is not chunked is one box
eight : TwoLines new_file
    (codes "dataset /r i16le 8 contiguous") (codes "ok 0\n")
    (codes "write /r 0 1 8 1 0,1,2,3,4,5,6,7") (codes "ok 0\n")
    (r_file (pos 0 ∷ pos 1 ∷ pos 2 ∷ pos 3 ∷ pos 4 ∷ pos 5 ∷ pos 6 ∷ pos 7 ∷ []) [] 0)
unfolding line_asks unescaped_text type_from refusal_of names_of with_edit within_names is_reached selection_of met_boxes bytes_of value_at raw_at lines_below digits
eight = (simp known, simp known, simp known)

blocks : TwoLines (r_file (pos 0 ∷ pos 1 ∷ pos 2 ∷ pos 3 ∷ pos 4 ∷ pos 5 ∷ pos 6 ∷ pos 7 ∷ []) [] 0)
    (codes "view /r 1 3 2 2") (codes "view 0\n")
    (codes "show 0") (codes "kept 1 2 4 5\n")
    (r_file (pos 0 ∷ pos 1 ∷ pos 2 ∷ pos 3 ∷ pos 4 ∷ pos 5 ∷ pos 6 ∷ pos 7 ∷ []) ((0, record { object = 1; slab = record { start = 1; stride = 3; count = 2; block = 2 } ∷ [] }) ∷ []) 1)
unfolding line_asks unescaped_text type_from refusal_of names_of with_edit within_names is_reached selection_of met_boxes bytes_of value_at raw_at lines_below digits
blocks = (simp known, simp known, simp known)

one_changed : TwoLines (r_file (pos 0 ∷ pos 1 ∷ pos 2 ∷ pos 3 ∷ pos 4 ∷ pos 5 ∷ pos 6 ∷ pos 7 ∷ []) ((0, record { object = 1; slab = record { start = 1; stride = 3; count = 2; block = 2 } ∷ [] }) ∷ []) 1)
    (codes "write /r 4 1 1 1 40") (codes "ok 1\n")
    (codes "show 0") (codes "kept 1 2 40 5\n")
    (r_file (pos 0 ∷ pos 1 ∷ pos 2 ∷ pos 3 ∷ pos 40 ∷ pos 5 ∷ pos 6 ∷ pos 7 ∷ []) ((0, record { object = 1; slab = record { start = 1; stride = 3; count = 2; block = 2 } ∷ [] }) ∷ []) 1)
unfolding line_asks unescaped_text type_from refusal_of names_of with_edit within_names is_reached selection_of met_boxes bytes_of value_at raw_at lines_below digits
one_changed = (simp known, simp known, simp known)

one_beside : TwoLines (r_file (pos 0 ∷ pos 1 ∷ pos 2 ∷ pos 3 ∷ pos 40 ∷ pos 5 ∷ pos 6 ∷ pos 7 ∷ []) ((0, record { object = 1; slab = record { start = 1; stride = 3; count = 2; block = 2 } ∷ [] }) ∷ []) 1)
    (codes "write /r 3 1 1 1 9") (codes "ok 1\n")
    (codes "show 0") (codes "kept 1 2 40 5\n")
    (r_file (pos 0 ∷ pos 1 ∷ pos 2 ∷ pos 9 ∷ pos 40 ∷ pos 5 ∷ pos 6 ∷ pos 7 ∷ []) ((0, record { object = 1; slab = record { start = 1; stride = 3; count = 2; block = 2 } ∷ [] }) ∷ []) 1)
unfolding line_asks unescaped_text type_from refusal_of names_of with_edit within_names is_reached selection_of met_boxes bytes_of value_at raw_at lines_below digits
one_beside = (simp known, simp known, simp known)

no_view : TwoLines (r_file (pos 0 ∷ pos 1 ∷ pos 2 ∷ pos 9 ∷ pos 40 ∷ pos 5 ∷ pos 6 ∷ pos 7 ∷ []) ((0, record { object = 1; slab = record { start = 1; stride = 3; count = 2; block = 2 } ∷ [] }) ∷ []) 1)
    (codes "view /r 0 1 2 2") (codes "refused 15 BlocksOverlap\n")
    (codes "view /r 0 0 1 1") (codes "refused 14 StrideZero\n")
    (r_file (pos 0 ∷ pos 1 ∷ pos 2 ∷ pos 9 ∷ pos 40 ∷ pos 5 ∷ pos 6 ∷ pos 7 ∷ []) ((0, record { object = 1; slab = record { start = 1; stride = 3; count = 2; block = 2 } ∷ [] }) ∷ []) 1)
unfolding line_asks unescaped_text type_from refusal_of names_of with_edit within_names is_reached selection_of met_boxes bytes_of value_at raw_at lines_below digits
no_view = (simp known, simp known, simp known)

-- one run is lent
one_run : TwoLines (r_file (pos 0 ∷ pos 1 ∷ pos 2 ∷ pos 9 ∷ pos 40 ∷ pos 5 ∷ pos 6 ∷ pos 7 ∷ []) ((0, record { object = 1; slab = record { start = 1; stride = 3; count = 2; block = 2 } ∷ [] }) ∷ []) 1)
    (codes "view /r 0 1 1 2") (codes "view 1\n")
    (codes "show 1") (codes "lent 0 1\n")
    (r_file (pos 0 ∷ pos 1 ∷ pos 2 ∷ pos 9 ∷ pos 40 ∷ pos 5 ∷ pos 6 ∷ pos 7 ∷ []) ((0, record { object = 1; slab = record { start = 1; stride = 3; count = 2; block = 2 } ∷ [] }) ∷ (1, record { object = 1; slab = record { start = 0; stride = 1; count = 1; block = 2 } ∷ [] }) ∷ []) 2)
unfolding line_asks unescaped_text type_from refusal_of names_of with_edit within_names is_reached selection_of met_boxes bytes_of value_at raw_at lines_below digits
one_run = (simp known, simp known, simp known)

-- a view goes by the object, not by its name
two_names : TwoLines new_file
    (codes "dataset /a u8 3 contiguous") (codes "ok 0\n")
    (codes "link /a /b") (codes "ok 0\n")
    (session_of (group_at 0 ((codes "a", ToObject 1) ∷ (codes "b", ToObject 1) ∷ []) ∷ array_at 1 (row_of u8 (Contiguous true) (pos 0 ∷ pos 0 ∷ pos 0 ∷ []) 3) ∷ []) 2 [] 0)
unfolding line_asks unescaped_text type_from refusal_of names_of with_edit within_names is_reached selection_of met_boxes bytes_of value_at raw_at lines_below digits
two_names = (simp known, simp known, simp known)

first_name_gone : TwoLines (session_of (group_at 0 ((codes "a", ToObject 1) ∷ (codes "b", ToObject 1) ∷ []) ∷ array_at 1 (row_of u8 (Contiguous true) (pos 0 ∷ pos 0 ∷ pos 0 ∷ []) 3) ∷ []) 2 [] 0)
    (codes "view /a 0 2 2 1") (codes "view 0\n")
    (codes "unlink /a") (codes "ok 0\n")
    (session_of (group_at 0 ((codes "b", ToObject 1) ∷ []) ∷ array_at 1 (row_of u8 (Contiguous true) (pos 0 ∷ pos 0 ∷ pos 0 ∷ []) 3) ∷ []) 2 ((0, record { object = 1; slab = record { start = 0; stride = 2; count = 2; block = 1 } ∷ [] }) ∷ []) 1)
unfolding line_asks unescaped_text type_from refusal_of names_of with_edit within_names is_reached selection_of met_boxes bytes_of value_at raw_at lines_below digits
first_name_gone = (simp known, simp known, simp known)

seen_by_the_other : TwoLines (session_of (group_at 0 ((codes "b", ToObject 1) ∷ []) ∷ array_at 1 (row_of u8 (Contiguous true) (pos 0 ∷ pos 0 ∷ pos 0 ∷ []) 3) ∷ []) 2 ((0, record { object = 1; slab = record { start = 0; stride = 2; count = 2; block = 1 } ∷ [] }) ∷ []) 1)
    (codes "write /b 0 1 3 1 5,6,7") (codes "ok 1\n")
    (codes "show 0") (codes "kept 5 7\n")
    (session_of (group_at 0 ((codes "b", ToObject 1) ∷ []) ∷ array_at 1 (row_of u8 (Contiguous true) (pos 5 ∷ pos 6 ∷ pos 7 ∷ []) 3) ∷ []) 2 ((0, record { object = 1; slab = record { start = 0; stride = 2; count = 2; block = 1 } ∷ [] }) ∷ []) 1)
unfolding line_asks unescaped_text type_from refusal_of names_of with_edit within_names is_reached selection_of met_boxes bytes_of value_at raw_at lines_below digits
seen_by_the_other = (simp known, simp known, simp known)

-- an object that no link leads to is gone for good
last_name_gone : TwoLines (session_of (group_at 0 ((codes "b", ToObject 1) ∷ []) ∷ array_at 1 (row_of u8 (Contiguous true) (pos 5 ∷ pos 6 ∷ pos 7 ∷ []) 3) ∷ []) 2 ((0, record { object = 1; slab = record { start = 0; stride = 2; count = 2; block = 1 } ∷ [] }) ∷ []) 1)
    (codes "unlink /b") (codes "ok 0\n")
    (codes "show 0") (codes "fault 2 Gone\n")
    (session_of (group_at 0 [] ∷ []) 2 ((0, record { object = 1; slab = record { start = 0; stride = 2; count = 2; block = 1 } ∷ [] }) ∷ []) 1)
unfolding line_asks unescaped_text type_from refusal_of names_of with_edit within_names is_reached selection_of met_boxes bytes_of value_at raw_at lines_below digits
last_name_gone = (simp known, simp known, simp known)

still_gone : TwoLines (session_of (group_at 0 [] ∷ []) 2 ((0, record { object = 1; slab = record { start = 0; stride = 2; count = 2; block = 1 } ∷ [] }) ∷ []) 1)
    (codes "dataset /n u8 3 contiguous") (codes "ok 0\n")
    (codes "show 0") (codes "fault 2 Gone\n")
    (session_of (group_at 0 ((codes "n", ToObject 2) ∷ []) ∷ array_at 2 (row_of u8 (Contiguous true) (pos 0 ∷ pos 0 ∷ pos 0 ∷ []) 3) ∷ []) 3 ((0, record { object = 1; slab = record { start = 0; stride = 2; count = 2; block = 1 } ∷ [] }) ∷ []) 1)
unfolding line_asks unescaped_text type_from refusal_of names_of with_edit within_names is_reached selection_of met_boxes bytes_of value_at raw_at lines_below digits
still_gone = (simp known, simp known, simp known)

closed : TwoLines (session_of (group_at 0 ((codes "n", ToObject 2) ∷ []) ∷ array_at 2 (row_of u8 (Contiguous true) (pos 0 ∷ pos 0 ∷ pos 0 ∷ []) 3) ∷ []) 3 ((0, record { object = 1; slab = record { start = 0; stride = 2; count = 2; block = 1 } ∷ [] }) ∷ []) 1)
    (codes "close 0") (codes "closed\n")
    (codes "show 0") (codes "fault 1 NoSuchView\n")
    (session_of (group_at 0 ((codes "n", ToObject 2) ∷ []) ∷ array_at 2 (row_of u8 (Contiguous true) (pos 0 ∷ pos 0 ∷ pos 0 ∷ []) 3) ∷ []) 3 [] 1)
unfolding line_asks unescaped_text type_from refusal_of names_of with_edit within_names is_reached selection_of met_boxes bytes_of value_at raw_at lines_below digits
closed = (simp known, simp known, simp known)

-- a scalar, an array of no cells, selections of none
scalar : TwoLines new_file
    (codes "dataset /s i64be - contiguous") (codes "ok 0\n")
    (codes "write /s - - - - -9223372036854775808") (codes "ok 0\n")
    (session_of (group_at 0 ((codes "s", ToObject 1) ∷ []) ∷ array_at 1 (record { fixed = i64be; sizes = []; maxima = []; storage = Contiguous true; fill = pos 0; cells = negsuc 9223372036854775807 ∷ [] }) ∷ []) 2 [] 0)
unfolding line_asks unescaped_text type_from refusal_of names_of with_edit within_names is_reached selection_of met_boxes bytes_of value_at raw_at lines_below digits
scalar = (simp known, simp known, simp known)

no_cells : TwoLines (session_of (group_at 0 ((codes "s", ToObject 1) ∷ []) ∷ array_at 1 (record { fixed = i64be; sizes = []; maxima = []; storage = Contiguous true; fill = pos 0; cells = negsuc 9223372036854775807 ∷ [] }) ∷ []) 2 [] 0)
    (codes "dataset /z u8 0 contiguous") (codes "ok 0\n")
    (codes "view /z 0 1 0 1") (codes "view 0\n")
    (session_of (group_at 0 ((codes "s", ToObject 1) ∷ (codes "z", ToObject 2) ∷ []) ∷ array_at 1 (record { fixed = i64be; sizes = []; maxima = []; storage = Contiguous true; fill = pos 0; cells = negsuc 9223372036854775807 ∷ [] }) ∷ array_at 2 (row_of u8 (Contiguous false) [] 0) ∷ []) 3 ((0, record { object = 2; slab = record { start = 0; stride = 1; count = 0; block = 1 } ∷ [] }) ∷ []) 1)
unfolding line_asks unescaped_text type_from refusal_of names_of with_edit within_names is_reached selection_of met_boxes bytes_of value_at raw_at lines_below digits
no_cells = (simp known, simp known, simp known)

none_past_the_end : TwoLines (session_of (group_at 0 ((codes "s", ToObject 1) ∷ (codes "z", ToObject 2) ∷ []) ∷ array_at 1 (record { fixed = i64be; sizes = []; maxima = []; storage = Contiguous true; fill = pos 0; cells = negsuc 9223372036854775807 ∷ [] }) ∷ array_at 2 (row_of u8 (Contiguous false) [] 0) ∷ []) 3 ((0, record { object = 2; slab = record { start = 0; stride = 1; count = 0; block = 1 } ∷ [] }) ∷ []) 1)
    (codes "view /z 9 1 0 1") (codes "view 1\n")
    (codes "view /s - - - -") (codes "view 2\n")
    (session_of (group_at 0 ((codes "s", ToObject 1) ∷ (codes "z", ToObject 2) ∷ []) ∷ array_at 1 (record { fixed = i64be; sizes = []; maxima = []; storage = Contiguous true; fill = pos 0; cells = negsuc 9223372036854775807 ∷ [] }) ∷ array_at 2 (row_of u8 (Contiguous false) [] 0) ∷ []) 3 ((0, record { object = 2; slab = record { start = 0; stride = 1; count = 0; block = 1 } ∷ [] }) ∷ (1, record { object = 2; slab = record { start = 9; stride = 1; count = 0; block = 1 } ∷ [] }) ∷ (2, record { object = 1; slab = [] }) ∷ []) 3)
unfolding line_asks unescaped_text type_from refusal_of names_of with_edit within_names is_reached selection_of met_boxes bytes_of value_at raw_at lines_below digits
none_past_the_end = (simp known, simp known, simp known)

nothing_shown : ThreeLines (session_of (group_at 0 ((codes "s", ToObject 1) ∷ (codes "z", ToObject 2) ∷ []) ∷ array_at 1 (record { fixed = i64be; sizes = []; maxima = []; storage = Contiguous true; fill = pos 0; cells = negsuc 9223372036854775807 ∷ [] }) ∷ array_at 2 (row_of u8 (Contiguous false) [] 0) ∷ []) 3 ((0, record { object = 2; slab = record { start = 0; stride = 1; count = 0; block = 1 } ∷ [] }) ∷ (1, record { object = 2; slab = record { start = 9; stride = 1; count = 0; block = 1 } ∷ [] }) ∷ (2, record { object = 1; slab = [] }) ∷ []) 3)
    (codes "show 0") (codes "kept\n")
    (codes "show 1") (codes "kept\n")
    (codes "show 2") (codes "lent -9223372036854775808\n")
    (session_of (group_at 0 ((codes "s", ToObject 1) ∷ (codes "z", ToObject 2) ∷ []) ∷ array_at 1 (record { fixed = i64be; sizes = []; maxima = []; storage = Contiguous true; fill = pos 0; cells = negsuc 9223372036854775807 ∷ [] }) ∷ array_at 2 (row_of u8 (Contiguous false) [] 0) ∷ []) 3 ((0, record { object = 2; slab = record { start = 0; stride = 1; count = 0; block = 1 } ∷ [] }) ∷ (1, record { object = 2; slab = record { start = 9; stride = 1; count = 0; block = 1 } ∷ [] }) ∷ (2, record { object = 1; slab = [] }) ∷ []) 3)
unfolding line_asks unescaped_text type_from refusal_of names_of with_edit within_names is_reached selection_of met_boxes bytes_of value_at raw_at lines_below digits
nothing_shown = (simp known, simp known, simp known, simp known)

-- contiguous cells that are not stored read the fill, and the first write stores them
unstored : TwoLines (session_of (group_at 0 ((codes "d", ToObject 1) ∷ []) ∷ array_at 1 (row_of i32le (Contiguous false) (pos 0 ∷ pos 0 ∷ pos 0 ∷ []) 3) ∷ []) 2 [] 0)
    (codes "view /d 0 1 3 1") (codes "view 0\n")
    (codes "show 0") (codes "kept 0 0 0\n")
    (session_of (group_at 0 ((codes "d", ToObject 1) ∷ []) ∷ array_at 1 (row_of i32le (Contiguous false) (pos 0 ∷ pos 0 ∷ pos 0 ∷ []) 3) ∷ []) 2 ((0, record { object = 1; slab = record { start = 0; stride = 1; count = 3; block = 1 } ∷ [] }) ∷ []) 1)
unfolding line_asks unescaped_text type_from refusal_of names_of with_edit within_names is_reached selection_of met_boxes bytes_of value_at raw_at lines_below digits
unstored = (simp known, simp known, simp known)

stored : TwoLines (session_of (group_at 0 ((codes "d", ToObject 1) ∷ []) ∷ array_at 1 (row_of i32le (Contiguous false) (pos 0 ∷ pos 0 ∷ pos 0 ∷ []) 3) ∷ []) 2 ((0, record { object = 1; slab = record { start = 0; stride = 1; count = 3; block = 1 } ∷ [] }) ∷ []) 1)
    (codes "write /d 1 1 1 1 5") (codes "ok 0\n")
    (codes "show 0") (codes "lent 0 5 0\n")
    (session_of (group_at 0 ((codes "d", ToObject 1) ∷ []) ∷ array_at 1 (row_of i32le (Contiguous true) (pos 0 ∷ pos 5 ∷ pos 0 ∷ []) 3) ∷ []) 2 ((0, record { object = 1; slab = record { start = 0; stride = 1; count = 3; block = 1 } ∷ [] }) ∷ []) 1)
unfolding line_asks unescaped_text type_from refusal_of names_of with_edit within_names is_reached selection_of met_boxes bytes_of value_at raw_at lines_below digits
stored = (simp known, simp known, simp known)

-- chunks that an edit and a view both meet
two_views : TwoLines (c_file (5 ∷ 4 ∷ []) (pos 1 ∷ pos 2 ∷ pos 3 ∷ pos 4 ∷ pos 5 ∷ pos 6 ∷ pos 7 ∷ pos 8 ∷ pos 9 ∷ pos 10 ∷ pos 11 ∷ pos 12 ∷ pos 13 ∷ pos 14 ∷ pos 15 ∷ pos 16 ∷ pos 17 ∷ pos 18 ∷ pos 19 ∷ pos 20 ∷ []) [] 0)
    (codes "view /c 0,0 1,1 5,4 1,1") (codes "view 0\n")
    (codes "view /c 0,0 2,2 3,2 1,1") (codes "view 1\n")
    (c_file (5 ∷ 4 ∷ []) (pos 1 ∷ pos 2 ∷ pos 3 ∷ pos 4 ∷ pos 5 ∷ pos 6 ∷ pos 7 ∷ pos 8 ∷ pos 9 ∷ pos 10 ∷ pos 11 ∷ pos 12 ∷ pos 13 ∷ pos 14 ∷ pos 15 ∷ pos 16 ∷ pos 17 ∷ pos 18 ∷ pos 19 ∷ pos 20 ∷ []) ((0, record { object = 1; slab = record { start = 0; stride = 1; count = 5; block = 1 } ∷ record { start = 0; stride = 1; count = 4; block = 1 } ∷ [] }) ∷ (1, record { object = 1; slab = record { start = 0; stride = 2; count = 3; block = 1 } ∷ record { start = 0; stride = 2; count = 2; block = 1 } ∷ [] }) ∷ []) 2)
unfolding line_asks unescaped_text type_from refusal_of names_of with_edit within_names is_reached selection_of met_boxes bytes_of value_at raw_at lines_below digits
two_views = (simp known, simp known, simp known)

a_row : OneLine (c_file (5 ∷ 4 ∷ []) (pos 1 ∷ pos 2 ∷ pos 3 ∷ pos 4 ∷ pos 5 ∷ pos 6 ∷ pos 7 ∷ pos 8 ∷ pos 9 ∷ pos 10 ∷ pos 11 ∷ pos 12 ∷ pos 13 ∷ pos 14 ∷ pos 15 ∷ pos 16 ∷ pos 17 ∷ pos 18 ∷ pos 19 ∷ pos 20 ∷ []) ((0, record { object = 1; slab = record { start = 0; stride = 1; count = 5; block = 1 } ∷ record { start = 0; stride = 1; count = 4; block = 1 } ∷ [] }) ∷ (1, record { object = 1; slab = record { start = 0; stride = 2; count = 3; block = 1 } ∷ record { start = 0; stride = 2; count = 2; block = 1 } ∷ [] }) ∷ []) 2)
    (codes "write /c 2,0 1,1 1,4 1,1 51,52,53,54") (codes "ok 3\n")
    (c_file (5 ∷ 4 ∷ []) (pos 1 ∷ pos 2 ∷ pos 3 ∷ pos 4 ∷ pos 5 ∷ pos 6 ∷ pos 7 ∷ pos 8 ∷ pos 51 ∷ pos 52 ∷ pos 53 ∷ pos 54 ∷ pos 13 ∷ pos 14 ∷ pos 15 ∷ pos 16 ∷ pos 17 ∷ pos 18 ∷ pos 19 ∷ pos 20 ∷ []) ((0, record { object = 1; slab = record { start = 0; stride = 1; count = 5; block = 1 } ∷ record { start = 0; stride = 1; count = 4; block = 1 } ∷ [] }) ∷ (1, record { object = 1; slab = record { start = 0; stride = 2; count = 3; block = 1 } ∷ record { start = 0; stride = 2; count = 2; block = 1 } ∷ [] }) ∷ []) 2)
unfolding line_asks unescaped_text type_from refusal_of names_of with_edit within_names is_reached selection_of met_boxes bytes_of value_at raw_at lines_below digits
a_row = (simp known, simp known)

unselected_row : TwoLines (c_file (5 ∷ 4 ∷ []) (pos 1 ∷ pos 2 ∷ pos 3 ∷ pos 4 ∷ pos 5 ∷ pos 6 ∷ pos 7 ∷ pos 8 ∷ pos 51 ∷ pos 52 ∷ pos 53 ∷ pos 54 ∷ pos 13 ∷ pos 14 ∷ pos 15 ∷ pos 16 ∷ pos 17 ∷ pos 18 ∷ pos 19 ∷ pos 20 ∷ []) ((0, record { object = 1; slab = record { start = 0; stride = 1; count = 5; block = 1 } ∷ record { start = 0; stride = 1; count = 4; block = 1 } ∷ [] }) ∷ (1, record { object = 1; slab = record { start = 0; stride = 2; count = 3; block = 1 } ∷ record { start = 0; stride = 2; count = 2; block = 1 } ∷ [] }) ∷ []) 2)
    (codes "write /c 1,0 1,1 1,4 1,1 9,9,9,9") (codes "ok 3\n")
    (codes "show 1") (codes "kept 1 3 51 53 17 19\n")
    (c_file (5 ∷ 4 ∷ []) (pos 1 ∷ pos 2 ∷ pos 3 ∷ pos 4 ∷ pos 9 ∷ pos 9 ∷ pos 9 ∷ pos 9 ∷ pos 51 ∷ pos 52 ∷ pos 53 ∷ pos 54 ∷ pos 13 ∷ pos 14 ∷ pos 15 ∷ pos 16 ∷ pos 17 ∷ pos 18 ∷ pos 19 ∷ pos 20 ∷ []) ((0, record { object = 1; slab = record { start = 0; stride = 1; count = 5; block = 1 } ∷ record { start = 0; stride = 1; count = 4; block = 1 } ∷ [] }) ∷ (1, record { object = 1; slab = record { start = 0; stride = 2; count = 3; block = 1 } ∷ record { start = 0; stride = 2; count = 2; block = 1 } ∷ [] }) ∷ []) 2)
unfolding line_asks unescaped_text type_from refusal_of names_of with_edit within_names is_reached selection_of met_boxes bytes_of value_at raw_at lines_below digits
unselected_row = (simp known, simp known, simp known)

a_column_lost : TwoLines (c_file (5 ∷ 4 ∷ []) (pos 1 ∷ pos 2 ∷ pos 3 ∷ pos 4 ∷ pos 9 ∷ pos 9 ∷ pos 9 ∷ pos 9 ∷ pos 51 ∷ pos 52 ∷ pos 53 ∷ pos 54 ∷ pos 13 ∷ pos 14 ∷ pos 15 ∷ pos 16 ∷ pos 17 ∷ pos 18 ∷ pos 19 ∷ pos 20 ∷ []) ((0, record { object = 1; slab = record { start = 0; stride = 1; count = 5; block = 1 } ∷ record { start = 0; stride = 1; count = 4; block = 1 } ∷ [] }) ∷ (1, record { object = 1; slab = record { start = 0; stride = 2; count = 3; block = 1 } ∷ record { start = 0; stride = 2; count = 2; block = 1 } ∷ [] }) ∷ []) 2)
    (codes "resize /c 5,3") (codes "ok 3\n")
    (codes "show 0") (codes "fault 3 OutsideNow\n")
    (c_file (5 ∷ 3 ∷ []) (pos 1 ∷ pos 2 ∷ pos 3 ∷ pos 9 ∷ pos 9 ∷ pos 9 ∷ pos 51 ∷ pos 52 ∷ pos 53 ∷ pos 13 ∷ pos 14 ∷ pos 15 ∷ pos 17 ∷ pos 18 ∷ pos 19 ∷ []) ((0, record { object = 1; slab = record { start = 0; stride = 1; count = 5; block = 1 } ∷ record { start = 0; stride = 1; count = 4; block = 1 } ∷ [] }) ∷ (1, record { object = 1; slab = record { start = 0; stride = 2; count = 3; block = 1 } ∷ record { start = 0; stride = 2; count = 2; block = 1 } ∷ [] }) ∷ []) 2)
unfolding line_asks unescaped_text type_from refusal_of names_of with_edit within_names is_reached selection_of met_boxes bytes_of value_at raw_at lines_below digits
a_column_lost = (simp known, simp known, simp known)

a_column_gained : TwoLines (c_file (5 ∷ 3 ∷ []) (pos 1 ∷ pos 2 ∷ pos 3 ∷ pos 9 ∷ pos 9 ∷ pos 9 ∷ pos 51 ∷ pos 52 ∷ pos 53 ∷ pos 13 ∷ pos 14 ∷ pos 15 ∷ pos 17 ∷ pos 18 ∷ pos 19 ∷ []) ((0, record { object = 1; slab = record { start = 0; stride = 1; count = 5; block = 1 } ∷ record { start = 0; stride = 1; count = 4; block = 1 } ∷ [] }) ∷ (1, record { object = 1; slab = record { start = 0; stride = 2; count = 3; block = 1 } ∷ record { start = 0; stride = 2; count = 2; block = 1 } ∷ [] }) ∷ []) 2)
    (codes "resize /c 5,4") (codes "ok 0\n")
    (codes "show 0") (codes "kept 1 2 3 0 9 9 9 0 51 52 53 0 13 14 15 0 17 18 19 0\n")
    (c_file (5 ∷ 4 ∷ []) (pos 1 ∷ pos 2 ∷ pos 3 ∷ pos 0 ∷ pos 9 ∷ pos 9 ∷ pos 9 ∷ pos 0 ∷ pos 51 ∷ pos 52 ∷ pos 53 ∷ pos 0 ∷ pos 13 ∷ pos 14 ∷ pos 15 ∷ pos 0 ∷ pos 17 ∷ pos 18 ∷ pos 19 ∷ pos 0 ∷ []) ((0, record { object = 1; slab = record { start = 0; stride = 1; count = 5; block = 1 } ∷ record { start = 0; stride = 1; count = 4; block = 1 } ∷ [] }) ∷ (1, record { object = 1; slab = record { start = 0; stride = 2; count = 3; block = 1 } ∷ record { start = 0; stride = 2; count = 2; block = 1 } ∷ [] }) ∷ []) 2)
unfolding line_asks unescaped_text type_from refusal_of names_of with_edit within_names is_reached selection_of met_boxes bytes_of value_at raw_at lines_below digits
a_column_gained = (simp known, simp known, simp known)
