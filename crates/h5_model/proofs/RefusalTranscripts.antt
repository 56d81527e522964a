-- Transcripts of scripts, from their bytes: each refusal by its number and name.
use Rattle.std.proofs.Common.{[], ◌∷◌, refl, true, Some, None, pos, negsuc, codes}
use Rattle.std.specs.Fmt.{digits}
use Rattle.h5_model.specs.Format.Fixed.{value_at, raw_at, bytes_of}
use Rattle.h5_model.specs.Tree.Objects.{ToObject, Contiguous, Chunked, within_names, is_reached}
use Rattle.h5_model.specs.Tree.Paths.{names_of}
use Rattle.h5_model.specs.Edits.Applied.{with_edit}
use Rattle.h5_model.specs.Edits.Refusal.{refusal_of}
use Rattle.h5_model.specs.Views.Selection.{selection_of}
use Rattle.h5_model.specs.Views.Shown.{met_boxes}
use Rattle.h5_model.specs.Scripts.Sessions.{Session}
use Rattle.h5_model.specs.Scripts.Lines.{unescaped_text, type_from, line_asks}
use Rattle.h5_model.specs.Scripts.Text.{lines_below}
use Rattle.h5_model.proofs.MapSteps.{known}
use Rattle.h5_model.proofs.Sessions.{session_of, group_at, array_at, row_of, u8, i32le, TwoLines}

-- `/d`, three cells, and `/c`, five rows of four cells in chunks
two : Session
two = session_of (group_at 0 ((codes "c", ToObject 2) ∷ (codes "d", ToObject 1) ∷ []) ∷ array_at 1 (row_of i32le (Contiguous true) (pos 1 ∷ negsuc 0 ∷ pos 2147483647 ∷ []) 3)
    ∷ array_at 2 (record { fixed = u8; sizes = 5 ∷ 4 ∷ []; maxima = None ∷ Some 4 ∷ []; storage = Chunked (2 ∷ 3 ∷ []); fill = pos 0; cells = pos 1 ∷ pos 2 ∷ pos 3 ∷ pos 4 ∷ pos 5 ∷ pos 6 ∷ pos 7 ∷ pos 8 ∷ pos 9 ∷ pos 10 ∷ pos 11 ∷ pos 12 ∷ pos 13 ∷ pos 14 ∷ pos 15 ∷ pos 16 ∷ pos 17 ∷ pos 18 ∷ pos 19 ∷ pos 20 ∷ [] }) ∷ []) 3 [] 0

lines_1_2 : TwoLines two
    (codes "group d") (codes "refused 1 BadPath\n")
    (codes "group /") (codes "refused 3 IsRoot\n")
    two
unfolding line_asks unescaped_text type_from refusal_of names_of with_edit within_names is_reached selection_of met_boxes bytes_of value_at raw_at lines_below digits two
lines_1_2 = (refl, refl, refl)

lines_3_4 : TwoLines two
    (codes "group /x/y") (codes "refused 4 NoSuchParent\n")
    (codes "unlink /x") (codes "refused 6 NotFound\n")
    two
unfolding line_asks unescaped_text type_from refusal_of names_of with_edit within_names is_reached selection_of met_boxes bytes_of value_at raw_at lines_below digits two
lines_3_4 = (simp known, simp known, simp known)

lines_5_6 : TwoLines two
    (codes "dataset /d u8 1 compact") (codes "refused 7 AlreadyThere\n")
    (codes "write / 0 1 1 1 1") (codes "refused 9 NotADataset\n")
    two
unfolding line_asks unescaped_text type_from refusal_of names_of with_edit within_names is_reached selection_of met_boxes bytes_of value_at raw_at lines_below digits two
lines_5_6 = (simp known, simp known, simp known)

lines_7_8 : TwoLines two
    (codes "dataset /q u8 4 chunked:0") (codes "refused 12 BadSpec\n")
    (codes "dataset /q u8 1/18446744073709551615 chunked:1") (codes "refused 12 BadSpec\n")
    two
unfolding line_asks unescaped_text type_from refusal_of names_of with_edit within_names is_reached selection_of met_boxes bytes_of value_at raw_at lines_below digits two
lines_7_8 = (simp known, simp known, simp known)

lines_9_10 : TwoLines two
    (codes "attr /c n u8 0,1099511627777 -") (codes "refused 21 TooManyCells\n")
    (codes "resize /c 5") (codes "refused 13 RankMismatch\n")
    two
unfolding line_asks unescaped_text type_from refusal_of names_of with_edit within_names is_reached selection_of met_boxes bytes_of value_at raw_at lines_below digits two
lines_9_10 = (simp known, simp known, simp known)

lines_11_12 : TwoLines two
    (codes "write /c 4,4 1,1 1,1 1,1 9") (codes "refused 16 OutOfExtent\n")
    (codes "resize /d 4") (codes "refused 17 NotChunked\n")
    two
unfolding line_asks unescaped_text type_from refusal_of names_of with_edit within_names is_reached selection_of met_boxes bytes_of value_at raw_at lines_below digits two
lines_11_12 = (simp known, simp known, simp known)

lines_13_14 : TwoLines two
    (codes "resize /c 5,5") (codes "refused 18 AboveMaximum\n")
    (codes "dataset /q u8 1/inf chunked:1073741825") (codes "refused 19 ChunkTooLarge\n")
    two
unfolding line_asks unescaped_text type_from refusal_of names_of with_edit within_names is_reached selection_of met_boxes bytes_of value_at raw_at lines_below digits two
lines_13_14 = (simp known, simp known, simp known)

lines_15_16 : TwoLines two
    (codes "dataset /q u8 65525 compact") (codes "refused 20 CompactTooLarge\n")
    (codes "dataset /q u8 1099511627777 chunked:1") (codes "refused 21 TooManyCells\n")
    two
unfolding line_asks unescaped_text type_from refusal_of names_of with_edit within_names is_reached selection_of met_boxes bytes_of value_at raw_at lines_below digits two
lines_15_16 = (simp known, simp known, simp known)

lines_17_18 : TwoLines two
    (codes "write /c 0,0 1,1 1,1 1,1 1,2") (codes "refused 22 ValueCount\n")
    (codes "grop /x") (codes "bad line\n")
    two
unfolding line_asks unescaped_text type_from refusal_of names_of with_edit within_names is_reached selection_of met_boxes bytes_of value_at raw_at lines_below digits two
lines_17_18 = (simp known, refl, simp known)
