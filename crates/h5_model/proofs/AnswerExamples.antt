-- Answers that the tree leaves open, how lines count, and the objects that edits touch and name, by computation.
use Rattle.std.proofs.Common.{◌≡◌, ℕ, [], ◌∷◌, refl, Some, None, pos, codes}
use Rattle.std.specs.FinMap.{from_sorted}
use Rattle.std.specs.Fmt.{digits}
use Rattle.h5_model.specs.Format.Fixed.{bytes_of, raw_at, value_at}
use Rattle.h5_model.specs.Tree.Objects.{Tree, ToObject, Soft, Compact, within_names}
use Rattle.h5_model.specs.Tree.Paths.{names_of}
use Rattle.h5_model.specs.Edits.Applied.{with_edit, named_object}
use Rattle.h5_model.specs.Edits.Refusal.{refusal_of}
use Rattle.h5_model.specs.Edits.Touched.{touched_by}
use Rattle.h5_model.specs.Views.Selection.{selection_of}
use Rattle.h5_model.specs.Scripts.Sessions.{Session}
use Rattle.h5_model.specs.Scripts.Lines.{Change, OpenView, Show, ListAll, Repack, Unread}
use Rattle.h5_model.specs.Scripts.Answers.{Refused, Accepted, Told, answer_of, outcomes_of, transcript_of}
use Rattle.h5_model.specs.declared.edits.Edit.TheVariants.{CreateGroup, HardLink, SoftLink, Unlink, Write}
use Rattle.h5_model.specs.declared.hyperslab.Hyper.{Hyper}
use Rattle.h5_model.specs.declared.edit_fault.EditFault.TheVariants as fault
use Rattle.h5_model.proofs.MapSteps.{known}
use Rattle.h5_model.proofs.Sessions.{session_of, group_at, array_at, u8, new_file}

-- `/g` holds the group `h` and the soft link `s`, and `/g/h` the scalar `x`
abbrev nested : ℕ → Session
nested next_view = session_of (group_at 0 ((codes "g", ToObject 1) ∷ []) ∷ group_at 1 ((codes "h", ToObject 2) ∷ (codes "s", Soft (codes "a")) ∷ [])
    ∷ group_at 2 ((codes "x", ToObject 3) ∷ [])
    ∷ array_at 3 (record { fixed = u8; sizes = []; maxima = []; storage = Compact; fill = pos 7; cells = pos 7 ∷ [] }) ∷ []) 4 [] next_view

abbrev tree : Tree
tree = ((nested 0).state).tree

abbrev scalar : Hyper
scalar = record { start = []; stride = []; count = []; block = [] }

-- ---- what is given

-- the numbers of views end
no_view_number : (answer_of (nested 4294967295) (OpenView (codes "/g/h/x") scalar) None).text ≡ codes "fault 4 TooManyViews\n"
unfolding names_of digits
no_view_number = simp known

last_view_number : (answer_of (nested 4294967294) (OpenView (codes "/g/h/x") scalar) None).text ≡ codes "view 4294967294\n"
unfolding names_of digits
last_view_number = simp known

-- want of memory, behind the other rules of a view and of an edit
view_without_memory : (answer_of (nested 0) (OpenView (codes "/g/h/x") scalar) (Some fault.NoMemory)).text ≡ codes "fault 5 NoMemory\n"
unfolding names_of digits
view_without_memory = simp known

view_of_a_group : (answer_of (nested 0) (OpenView (codes "/g") scalar) (Some fault.NoMemory)).text ≡ codes "refused 9 NotADataset\n"
unfolding names_of digits
view_of_a_group = simp known

edit_without_memory : (answer_of (nested 0) (Change (CreateGroup (codes "/n"))) (Some fault.NoMemory)).text ≡ codes "refused 31 NoMemory\n"
unfolding refusal_of names_of digits
edit_without_memory = simp known

edit_of_a_taken_path : (answer_of (nested 0) (Change (CreateGroup (codes "/g"))) (Some fault.NoMemory)).text ≡ codes "refused 7 AlreadyThere\n"
unfolding refusal_of names_of digits
edit_of_a_taken_path = simp known

-- what else is given comes behind the rules of the tree
edit_of_a_full_image : (answer_of (nested 0) (Change (CreateGroup (codes "/g"))) (Some fault.ImageFull)).text ≡ codes "refused 7 AlreadyThere\n"
unfolding refusal_of names_of digits
edit_of_a_full_image = simp known

list_without_memory : (answer_of (nested 0) ListAll (Some fault.NoMemory)).text ≡ codes "refused 31 NoMemory\n"
unfolding digits
list_without_memory = refl

repack_of_a_full_image : (answer_of (nested 0) Repack (Some fault.ImageFull)).text ≡ codes "refused 30 ImageFull\n"
unfolding digits
repack_of_a_full_image = refl

-- ---- how views are kept

-- the scalar is seen by the view 0
abbrev viewed : Session
viewed = record (nested 1) { views = from_sorted ((0, record { object = 3; slab = [] }) ∷ []) }

shown_as_lent : (answer_of viewed (Show 0) None).text ≡ codes "lent 7\n"
unfolding selection_of bytes_of value_at raw_at digits
shown_as_lent = simp known

-- a script: the view is opened, its cell written, and what it then sees is shown
seen : transcript_of (nested 0) ((OpenView (codes "/g/h/x") scalar, None) ∷ (Change (Write (codes "/g/h/x") scalar (pos 9 ∷ [])), None) ∷ (Show 0, None) ∷ [])
    ≡ codes "view 0\nok 0\nlent 9\n"
unfolding transcript_of refusal_of names_of with_edit selection_of bytes_of value_at raw_at digits
seen = simp known

-- ---- how lines count

counted : outcomes_of new_file ((Change (CreateGroup (codes "/g")), None) ∷ (Change (CreateGroup (codes "/g")), None) ∷ []) ≡ Accepted ∷ Refused ∷ []
unfolding with_edit refusal_of names_of digits
counted = simp known

others_counted : outcomes_of (nested 0) ((Show 0, None) ∷ (ListAll, None) ∷ (Repack, None) ∷ (Unread, None) ∷ []) ≡ Refused ∷ Told ∷ Accepted ∷ Refused ∷ []
unfolding digits
others_counted = simp known

-- ---- objects that an edit touches, and the one that its answer names

unlinked_with_all_below : touched_by tree (Unlink (codes "/g")) ≡ 0 ∷ 1 ∷ 2 ∷ 3 ∷ []
unfolding touched_by names_of within_names
unlinked_with_all_below = simp known

linked_twice : touched_by tree (HardLink (codes "/g/h/x") (codes "/g/y")) ≡ 1 ∷ 3 ∷ []
unfolding touched_by names_of
linked_twice = simp known

created_in : touched_by tree (CreateGroup (codes "/g/h/y")) ≡ 2 ∷ []
unfolding touched_by names_of
created_in = simp known

written_alone : touched_by tree (Write (codes "/g/h/x") scalar (pos 1 ∷ [])) ≡ 3 ∷ []
unfolding touched_by names_of
written_alone = simp known

target_named : named_object tree (HardLink (codes "/g/h/x") (codes "/y")) 4 ≡ Some 3
unfolding names_of
target_named = simp known

new_one_named : named_object tree (CreateGroup (codes "/y")) 4 ≡ Some 4
new_one_named = refl

none_named : named_object tree (SoftLink (codes "a") (codes "/y")) 4 ≡ None
none_named = refl
