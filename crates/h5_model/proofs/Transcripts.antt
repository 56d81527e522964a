-- Transcripts of scripts, from their bytes: types and refusals.
use Rattle.std.proofs.Common.{List, None, [], ◌∷◌, refl, true, Bool, ℤ, pos, negsuc, codes}
use Rattle.std.specs.Fmt.{digits}
use Rattle.std.specs.FinMap.{from_sorted}
use Rattle.h5_model.specs.Format.Fixed.{value_at, raw_at, bytes_of}
use Rattle.h5_model.specs.Tree.Objects.{ToObject, Soft, Group, Compact, Contiguous, within_names, is_reached}
use Rattle.h5_model.specs.Tree.Paths.{names_of}
use Rattle.h5_model.specs.Edits.Applied.{with_edit}
use Rattle.h5_model.specs.Edits.Refusal.{refusal_of}
use Rattle.h5_model.specs.Views.Selection.{selection_of}
use Rattle.h5_model.specs.Views.Shown.{met_boxes}
use Rattle.h5_model.specs.Scripts.Sessions.{Session}
use Rattle.h5_model.specs.Scripts.Lines.{unescaped_text, type_from, line_asks}
use Rattle.h5_model.specs.Scripts.Text.{lines_below}
use Rattle.h5_model.proofs.MapSteps.{known}
use Rattle.h5_model.proofs.Sessions.{session_of, group_at, array_at, row_of, i8, u8, u16be, i32le, new_file, OneLine, TwoLines, ThreeLines}

-- `/d`, three cells of i32le
abbrev d_file : Bool → List ℤ → Session
d_file stored cells = session_of (group_at 0 ((codes "d", ToObject 1) ∷ []) ∷ array_at 1 (row_of i32le (Contiguous stored) cells 3) ∷ []) 2 [] 0

-- both ends of a type
both_ends : TwoLines new_file
    (codes "dataset /d i32le 3 contiguous") (codes "ok 0\n")
    (codes "write /d 0 1 3 1 1,-1,2147483647") (codes "ok 0\n")
    (d_file true (pos 1 ∷ negsuc 0 ∷ pos 2147483647 ∷ []))
unfolding line_asks unescaped_text type_from refusal_of names_of with_edit within_names is_reached selection_of met_boxes bytes_of value_at raw_at lines_below digits
both_ends = (simp known, simp known, simp known)

told_ends : OneLine (d_file true (pos 1 ∷ negsuc 0 ∷ pos 2147483647 ∷ []))
    (codes "dump /d") (codes "/d dataset i32le {3} contiguous fill 0\n1 -1 2147483647\n")
    (d_file true (pos 1 ∷ negsuc 0 ∷ pos 2147483647 ∷ []))
unfolding line_asks unescaped_text type_from refusal_of names_of with_edit within_names is_reached selection_of met_boxes bytes_of value_at raw_at lines_below digits
told_ends = (simp known, simp known)

-- a refused write changes nothing
refused_write : TwoLines (d_file true (pos 1 ∷ negsuc 0 ∷ pos 2147483647 ∷ []))
    (codes "write /d 0 1 3 1 7,8,2147483648") (codes "refused 23 ValueRange\n")
    (codes "dump /d") (codes "/d dataset i32le {3} contiguous fill 0\n1 -1 2147483647\n")
    (d_file true (pos 1 ∷ negsuc 0 ∷ pos 2147483647 ∷ []))
unfolding line_asks unescaped_text type_from refusal_of names_of with_edit within_names is_reached selection_of met_boxes bytes_of value_at raw_at lines_below digits
refused_write = (simp known, simp known, simp known)

-- unsigned, the high byte first
high_byte_first : ThreeLines new_file
    (codes "dataset /u u16be 2 contiguous") (codes "ok 0\n")
    (codes "write /u 0 1 2 1 65535,258") (codes "ok 0\n")
    (codes "dump /u") (codes "/u dataset u16be {2} contiguous fill 0\n65535 258\n")
    (session_of (group_at 0 ((codes "u", ToObject 1) ∷ []) ∷ array_at 1 (row_of u16be (Contiguous true) (pos 65535 ∷ pos 258 ∷ []) 2) ∷ []) 2 [] 0)
unfolding line_asks unescaped_text type_from refusal_of names_of with_edit within_names is_reached selection_of met_boxes bytes_of value_at raw_at lines_below digits
high_byte_first = (simp known, simp known, simp known, simp known)

-- the lowest value of a type, and one past the highest
lowest_byte : TwoLines new_file
    (codes "dataset /b i8 1 contiguous") (codes "ok 0\n")
    (codes "write /b 0 1 1 1 -128") (codes "ok 0\n")
    (session_of (group_at 0 ((codes "b", ToObject 1) ∷ []) ∷ array_at 1 (row_of i8 (Contiguous true) (negsuc 127 ∷ []) 1) ∷ []) 2 [] 0)
unfolding line_asks unescaped_text type_from refusal_of names_of with_edit within_names is_reached selection_of met_boxes bytes_of value_at raw_at lines_below digits
lowest_byte = (simp known, simp known, simp known)

past_highest : TwoLines (session_of (group_at 0 ((codes "b", ToObject 1) ∷ []) ∷ array_at 1 (row_of i8 (Contiguous true) (negsuc 127 ∷ []) 1) ∷ []) 2 [] 0)
    (codes "write /b 0 1 1 1 128") (codes "refused 23 ValueRange\n")
    (codes "dump /b") (codes "/b dataset i8 {1} contiguous fill 0\n-128\n")
    (session_of (group_at 0 ((codes "b", ToObject 1) ∷ []) ∷ array_at 1 (row_of i8 (Contiguous true) (negsuc 127 ∷ []) 1) ∷ []) 2 [] 0)
unfolding line_asks unescaped_text type_from refusal_of names_of with_edit within_names is_reached selection_of met_boxes bytes_of value_at raw_at lines_below digits
past_highest = (simp known, simp known, simp known)

-- eight more links to one dataset
two_links : TwoLines (session_of (group_at 0 ((codes "d", ToObject 1) ∷ []) ∷ array_at 1 (row_of i32le (Contiguous true) (pos 1 ∷ negsuc 0 ∷ pos 2147483647 ∷ []) 3) ∷ []) 2 [] 0)
    (codes "link /d /e") (codes "ok 0\n")
    (codes "link /d /f") (codes "ok 0\n")
    (session_of (group_at 0 ((codes "d", ToObject 1) ∷ (codes "e", ToObject 1) ∷ (codes "f", ToObject 1) ∷ []) ∷ array_at 1 (row_of i32le (Contiguous true) (pos 1 ∷ negsuc 0 ∷ pos 2147483647 ∷ []) 3) ∷ []) 2 [] 0)
unfolding line_asks unescaped_text type_from refusal_of names_of with_edit within_names is_reached selection_of met_boxes bytes_of value_at raw_at lines_below digits
two_links = (simp known, simp known, simp known)

four_links : TwoLines (session_of (group_at 0 ((codes "d", ToObject 1) ∷ (codes "e", ToObject 1) ∷ (codes "f", ToObject 1) ∷ []) ∷ array_at 1 (row_of i32le (Contiguous true) (pos 1 ∷ negsuc 0 ∷ pos 2147483647 ∷ []) 3) ∷ []) 2 [] 0)
    (codes "link /d /g") (codes "ok 0\n")
    (codes "link /d /h") (codes "ok 0\n")
    (session_of (group_at 0 ((codes "d", ToObject 1) ∷ (codes "e", ToObject 1) ∷ (codes "f", ToObject 1) ∷ (codes "g", ToObject 1) ∷ (codes "h", ToObject 1) ∷ []) ∷ array_at 1 (row_of i32le (Contiguous true) (pos 1 ∷ negsuc 0 ∷ pos 2147483647 ∷ []) 3) ∷ []) 2 [] 0)
unfolding line_asks unescaped_text type_from refusal_of names_of with_edit within_names is_reached selection_of met_boxes bytes_of value_at raw_at lines_below digits
four_links = (simp known, simp known, simp known)

six_links : TwoLines (session_of (group_at 0 ((codes "d", ToObject 1) ∷ (codes "e", ToObject 1) ∷ (codes "f", ToObject 1) ∷ (codes "g", ToObject 1) ∷ (codes "h", ToObject 1) ∷ []) ∷ array_at 1 (row_of i32le (Contiguous true) (pos 1 ∷ negsuc 0 ∷ pos 2147483647 ∷ []) 3) ∷ []) 2 [] 0)
    (codes "link /d /i") (codes "ok 0\n")
    (codes "link /d /j") (codes "ok 0\n")
    (session_of (group_at 0 ((codes "d", ToObject 1) ∷ (codes "e", ToObject 1) ∷ (codes "f", ToObject 1) ∷ (codes "g", ToObject 1) ∷ (codes "h", ToObject 1) ∷ (codes "i", ToObject 1) ∷ (codes "j", ToObject 1) ∷ []) ∷ array_at 1 (row_of i32le (Contiguous true) (pos 1 ∷ negsuc 0 ∷ pos 2147483647 ∷ []) 3) ∷ []) 2 [] 0)
unfolding line_asks unescaped_text type_from refusal_of names_of with_edit within_names is_reached selection_of met_boxes bytes_of value_at raw_at lines_below digits
six_links = (simp known, simp known, simp known)

eight_links : TwoLines (session_of (group_at 0 ((codes "d", ToObject 1) ∷ (codes "e", ToObject 1) ∷ (codes "f", ToObject 1) ∷ (codes "g", ToObject 1) ∷ (codes "h", ToObject 1) ∷ (codes "i", ToObject 1) ∷ (codes "j", ToObject 1) ∷ []) ∷ array_at 1 (row_of i32le (Contiguous true) (pos 1 ∷ negsuc 0 ∷ pos 2147483647 ∷ []) 3) ∷ []) 2 [] 0)
    (codes "link /d /k") (codes "ok 0\n")
    (codes "link /d /l") (codes "ok 0\n")
    (session_of (group_at 0 ((codes "d", ToObject 1) ∷ (codes "e", ToObject 1) ∷ (codes "f", ToObject 1) ∷ (codes "g", ToObject 1) ∷ (codes "h", ToObject 1) ∷ (codes "i", ToObject 1) ∷ (codes "j", ToObject 1) ∷ (codes "k", ToObject 1) ∷ (codes "l", ToObject 1) ∷ []) ∷ array_at 1 (row_of i32le (Contiguous true) (pos 1 ∷ negsuc 0 ∷ pos 2147483647 ∷ []) 3) ∷ []) 2 [] 0)
unfolding line_asks unescaped_text type_from refusal_of names_of with_edit within_names is_reached selection_of met_boxes bytes_of value_at raw_at lines_below digits
eight_links = (simp known, simp known, simp known)

nine_lines : TwoLines (session_of (group_at 0 ((codes "d", ToObject 1) ∷ (codes "e", ToObject 1) ∷ (codes "f", ToObject 1) ∷ (codes "g", ToObject 1) ∷ (codes "h", ToObject 1) ∷ (codes "i", ToObject 1) ∷ (codes "j", ToObject 1) ∷ (codes "k", ToObject 1) ∷ (codes "l", ToObject 1) ∷ []) ∷ array_at 1 (row_of i32le (Contiguous true) (pos 1 ∷ negsuc 0 ∷ pos 2147483647 ∷ []) 3) ∷ []) 2 [] 0)
    (codes "ls") (codes "/ group\n/d dataset i32le {3}\n/e dataset i32le {3}\n/f dataset i32le {3}\n/g dataset i32le {3}\n/h dataset i32le {3}\n/i dataset i32le {3}\n/j dataset i32le {3}\n/k dataset i32le {3}\n/l dataset i32le {3}\n")
    (codes "repack") (codes "ok 0\n")
    (session_of (group_at 0 ((codes "d", ToObject 1) ∷ (codes "e", ToObject 1) ∷ (codes "f", ToObject 1) ∷ (codes "g", ToObject 1) ∷ (codes "h", ToObject 1) ∷ (codes "i", ToObject 1) ∷ (codes "j", ToObject 1) ∷ (codes "k", ToObject 1) ∷ (codes "l", ToObject 1) ∷ []) ∷ array_at 1 (row_of i32le (Contiguous true) (pos 1 ∷ negsuc 0 ∷ pos 2147483647 ∷ []) 3) ∷ []) 2 [] 0)
unfolding line_asks unescaped_text type_from refusal_of names_of with_edit within_names is_reached selection_of met_boxes bytes_of value_at raw_at lines_below digits
nine_lines = (simp known, refl, refl)

-- an attribute of the root
noted : TwoLines new_file
    (codes "attr / note u8 2 7,8") (codes "ok 0\n")
    (codes "dump /") (codes "/ group\n@note u8 {2} 7 8\n")
    (session_of ((0, record { content = Group (from_sorted []); attributes = from_sorted ((codes "note", record { fixed = u8; sizes = 2 ∷ []; values = pos 7 ∷ pos 8 ∷ []; body = None }) ∷ []); kept = [] }) ∷ []) 1 [] 0)
unfolding line_asks unescaped_text type_from refusal_of names_of with_edit within_names is_reached selection_of met_boxes bytes_of value_at raw_at lines_below digits
noted = (refl, simp known, simp known)

repacked : TwoLines (session_of ((0, record { content = Group (from_sorted []); attributes = from_sorted ((codes "note", record { fixed = u8; sizes = 2 ∷ []; values = pos 7 ∷ pos 8 ∷ []; body = None }) ∷ []); kept = [] }) ∷ []) 1 [] 0)
    (codes "repack") (codes "ok 0\n")
    (codes "dump /") (codes "/ group\n@note u8 {2} 7 8\n")
    (session_of ((0, record { content = Group (from_sorted []); attributes = from_sorted ((codes "note", record { fixed = u8; sizes = 2 ∷ []; values = pos 7 ∷ pos 8 ∷ []; body = None }) ∷ []); kept = [] }) ∷ []) 1 [] 0)
unfolding line_asks unescaped_text type_from refusal_of names_of with_edit within_names is_reached selection_of met_boxes bytes_of value_at raw_at lines_below digits
repacked = (refl, simp known, refl)

no_note : TwoLines (session_of ((0, record { content = Group (from_sorted []); attributes = from_sorted ((codes "note", record { fixed = u8; sizes = 2 ∷ []; values = pos 7 ∷ pos 8 ∷ []; body = None }) ∷ []); kept = [] }) ∷ []) 1 [] 0)
    (codes "unattr / note") (codes "ok 0\n")
    (codes "unattr / note") (codes "refused 25 NoSuchAttribute\n")
    new_file
unfolding line_asks unescaped_text type_from refusal_of names_of with_edit within_names is_reached selection_of met_boxes bytes_of value_at raw_at lines_below digits
no_note = (simp known, simp known, simp known)

-- soft links are stored, listed and unlinked, not followed
soft_link : TwoLines new_file
    (codes "soft /nowhere /s") (codes "ok 0\n")
    (codes "ls") (codes "/ group\n/s soft /nowhere\n")
    (session_of (group_at 0 ((codes "s", Soft (codes "/nowhere")) ∷ []) ∷ []) 1 [] 0)
unfolding line_asks unescaped_text type_from refusal_of names_of with_edit within_names is_reached selection_of met_boxes bytes_of value_at raw_at lines_below digits
soft_link = (simp known, simp known, simp known)

below_soft : TwoLines (session_of (group_at 0 ((codes "s", Soft (codes "/nowhere")) ∷ []) ∷ []) 1 [] 0)
    (codes "group /s/x") (codes "refused 5 NotAGroup\n")
    (codes "group /g") (codes "ok 0\n")
    (session_of (group_at 0 ((codes "g", ToObject 1) ∷ (codes "s", Soft (codes "/nowhere")) ∷ []) ∷ group_at 1 [] ∷ []) 2 [] 0)
unfolding line_asks unescaped_text type_from refusal_of names_of with_edit within_names is_reached selection_of met_boxes bytes_of value_at raw_at lines_below digits
below_soft = (simp known, simp known, simp known)

group_link : ThreeLines (session_of (group_at 0 ((codes "g", ToObject 1) ∷ (codes "s", Soft (codes "/nowhere")) ∷ []) ∷ group_at 1 [] ∷ []) 2 [] 0)
    (codes "link /g /h") (codes "refused 10 GroupLink\n")
    (codes "unattr /s a") (codes "refused 6 NotFound\n")
    (codes "unlink /s") (codes "ok 0\n")
    (session_of (group_at 0 ((codes "g", ToObject 1) ∷ []) ∷ group_at 1 [] ∷ []) 2 [] 0)
unfolding line_asks unescaped_text type_from refusal_of names_of with_edit within_names is_reached selection_of met_boxes bytes_of value_at raw_at lines_below digits
group_link = (simp known, simp known, simp known, simp known)

-- each group is followed by what it holds
nested : TwoLines new_file
    (codes "group /g") (codes "ok 0\n")
    (codes "group /g/h") (codes "ok 0\n")
    (session_of (group_at 0 ((codes "g", ToObject 1) ∷ []) ∷ group_at 1 ((codes "h", ToObject 2) ∷ []) ∷ group_at 2 [] ∷ []) 3 [] 0)
unfolding line_asks unescaped_text type_from refusal_of names_of with_edit within_names is_reached selection_of met_boxes bytes_of value_at raw_at lines_below digits
nested = (simp known, simp known, simp known)

nested_more : TwoLines (session_of (group_at 0 ((codes "g", ToObject 1) ∷ []) ∷ group_at 1 ((codes "h", ToObject 2) ∷ []) ∷ group_at 2 [] ∷ []) 3 [] 0)
    (codes "dataset /g/h/x u8 - compact fill=7") (codes "ok 0\n")
    (codes "soft a\\x20b /g/s") (codes "ok 0\n")
    (session_of (group_at 0 ((codes "g", ToObject 1) ∷ []) ∷ group_at 1 ((codes "h", ToObject 2) ∷ (codes "s", Soft (codes "a b")) ∷ []) ∷ group_at 2 ((codes "x", ToObject 3) ∷ []) ∷ array_at 3 (record { fixed = u8; sizes = []; maxima = []; storage = Compact; fill = pos 7; cells = pos 7 ∷ [] }) ∷ []) 4 [] 0)
unfolding line_asks unescaped_text type_from refusal_of names_of with_edit within_names is_reached selection_of met_boxes bytes_of value_at raw_at lines_below digits
nested_more = (simp known, simp known, simp known)

nested_list : OneLine (session_of (group_at 0 ((codes "g", ToObject 1) ∷ []) ∷ group_at 1 ((codes "h", ToObject 2) ∷ (codes "s", Soft (codes "a b")) ∷ []) ∷ group_at 2 ((codes "x", ToObject 3) ∷ []) ∷ array_at 3 (record { fixed = u8; sizes = []; maxima = []; storage = Compact; fill = pos 7; cells = pos 7 ∷ [] }) ∷ []) 4 [] 0)
    (codes "ls") (codes "/ group\n/g group\n/g/h group\n/g/h/x dataset u8 {}\n/g/s soft a\\x20b\n")
    (session_of (group_at 0 ((codes "g", ToObject 1) ∷ []) ∷ group_at 1 ((codes "h", ToObject 2) ∷ (codes "s", Soft (codes "a b")) ∷ []) ∷ group_at 2 ((codes "x", ToObject 3) ∷ []) ∷ array_at 3 (record { fixed = u8; sizes = []; maxima = []; storage = Compact; fill = pos 7; cells = pos 7 ∷ [] }) ∷ []) 4 [] 0)
unfolding line_asks unescaped_text type_from refusal_of names_of with_edit within_names is_reached selection_of met_boxes bytes_of value_at raw_at lines_below digits
nested_list = (simp known, refl)

nested_dumps : TwoLines (session_of (group_at 0 ((codes "g", ToObject 1) ∷ []) ∷ group_at 1 ((codes "h", ToObject 2) ∷ (codes "s", Soft (codes "a b")) ∷ []) ∷ group_at 2 ((codes "x", ToObject 3) ∷ []) ∷ array_at 3 (record { fixed = u8; sizes = []; maxima = []; storage = Compact; fill = pos 7; cells = pos 7 ∷ [] }) ∷ []) 4 [] 0)
    (codes "dump /g/h/x") (codes "/g/h/x dataset u8 {} compact fill 7\n7\n")
    (codes "dump /g/s") (codes "/g/s soft a\\x20b\n")
    (session_of (group_at 0 ((codes "g", ToObject 1) ∷ []) ∷ group_at 1 ((codes "h", ToObject 2) ∷ (codes "s", Soft (codes "a b")) ∷ []) ∷ group_at 2 ((codes "x", ToObject 3) ∷ []) ∷ array_at 3 (record { fixed = u8; sizes = []; maxima = []; storage = Compact; fill = pos 7; cells = pos 7 ∷ [] }) ∷ []) 4 [] 0)
unfolding line_asks unescaped_text type_from refusal_of names_of with_edit within_names is_reached selection_of met_boxes bytes_of value_at raw_at lines_below digits
nested_dumps = (simp known, simp known, simp known)

dumps_refused : ThreeLines (session_of (group_at 0 ((codes "g", ToObject 1) ∷ []) ∷ group_at 1 ((codes "h", ToObject 2) ∷ (codes "s", Soft (codes "a b")) ∷ []) ∷ group_at 2 ((codes "x", ToObject 3) ∷ []) ∷ array_at 3 (record { fixed = u8; sizes = []; maxima = []; storage = Compact; fill = pos 7; cells = pos 7 ∷ [] }) ∷ []) 4 [] 0)
    (codes "dump /q") (codes "refused 6 NotFound\n")
    (codes "dump q") (codes "refused 1 BadPath\n")
    (codes "dump /g/s/x") (codes "refused 5 NotAGroup\n")
    (session_of (group_at 0 ((codes "g", ToObject 1) ∷ []) ∷ group_at 1 ((codes "h", ToObject 2) ∷ (codes "s", Soft (codes "a b")) ∷ []) ∷ group_at 2 ((codes "x", ToObject 3) ∷ []) ∷ array_at 3 (record { fixed = u8; sizes = []; maxima = []; storage = Compact; fill = pos 7; cells = pos 7 ∷ [] }) ∷ []) 4 [] 0)
unfolding line_asks unescaped_text type_from refusal_of names_of with_edit within_names is_reached selection_of met_boxes bytes_of value_at raw_at lines_below digits
dumps_refused = (simp known, refl, simp known, simp known)

-- a group goes with all that is linked below it alone
nested_gone : OneLine (session_of (group_at 0 ((codes "g", ToObject 1) ∷ []) ∷ group_at 1 ((codes "h", ToObject 2) ∷ (codes "s", Soft (codes "a b")) ∷ []) ∷ group_at 2 ((codes "x", ToObject 3) ∷ []) ∷ array_at 3 (record { fixed = u8; sizes = []; maxima = []; storage = Compact; fill = pos 7; cells = pos 7 ∷ [] }) ∷ []) 4 [] 0)
    (codes "unlink /g") (codes "ok 0\n")
    (session_of (group_at 0 [] ∷ []) 4 [] 0)
unfolding line_asks unescaped_text type_from refusal_of names_of with_edit within_names is_reached selection_of met_boxes bytes_of value_at raw_at lines_below digits
nested_gone = (simp known, simp known)

-- an array that is linked elsewhere stays
nested_linked : OneLine (session_of (group_at 0 ((codes "g", ToObject 1) ∷ []) ∷ group_at 1 ((codes "h", ToObject 2) ∷ (codes "s", Soft (codes "a b")) ∷ []) ∷ group_at 2 ((codes "x", ToObject 3) ∷ []) ∷ array_at 3 (record { fixed = u8; sizes = []; maxima = []; storage = Compact; fill = pos 7; cells = pos 7 ∷ [] }) ∷ []) 4 [] 0)
    (codes "link /g/h/x /y") (codes "ok 0\n")
    (session_of (group_at 0 ((codes "g", ToObject 1) ∷ (codes "y", ToObject 3) ∷ []) ∷ group_at 1 ((codes "h", ToObject 2) ∷ (codes "s", Soft (codes "a b")) ∷ []) ∷ group_at 2 ((codes "x", ToObject 3) ∷ []) ∷ array_at 3 (record { fixed = u8; sizes = []; maxima = []; storage = Compact; fill = pos 7; cells = pos 7 ∷ [] }) ∷ []) 4 [] 0)
unfolding line_asks unescaped_text type_from refusal_of names_of with_edit within_names is_reached selection_of met_boxes bytes_of value_at raw_at lines_below digits
nested_linked = (simp known, simp known)

nested_stays : OneLine (session_of (group_at 0 ((codes "g", ToObject 1) ∷ (codes "y", ToObject 3) ∷ []) ∷ group_at 1 ((codes "h", ToObject 2) ∷ (codes "s", Soft (codes "a b")) ∷ []) ∷ group_at 2 ((codes "x", ToObject 3) ∷ []) ∷ array_at 3 (record { fixed = u8; sizes = []; maxima = []; storage = Compact; fill = pos 7; cells = pos 7 ∷ [] }) ∷ []) 4 [] 0)
    (codes "unlink /g") (codes "ok 0\n")
    (session_of (group_at 0 ((codes "y", ToObject 3) ∷ []) ∷ array_at 3 (record { fixed = u8; sizes = []; maxima = []; storage = Compact; fill = pos 7; cells = pos 7 ∷ [] }) ∷ []) 4 [] 0)
unfolding line_asks unescaped_text type_from refusal_of names_of with_edit within_names is_reached selection_of met_boxes bytes_of value_at raw_at lines_below digits
nested_stays = (simp known, simp known)
