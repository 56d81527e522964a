-- When an edit is refused for the image: what the image says decides, beside the tree.
use Rattle.std.specs.Prelude.{ℕ, ◌+◌, ◌<◌, ◌&&◌, Bool, true, false, not, Option, Some, None, IsTrue, IsFalse, nat_lt, is_none, if◌then◌else◌, List, [], ◌∷◌, length}
use Rattle.std.specs.Option.{option_map_or}
use Rattle.h5_model.specs.Format.Messages.{most_messages}
use Rattle.h5_model.specs.Format.Limits.{most_bytes}
use Rattle.h5_model.specs.Tree.Objects.{Tree}
use Rattle.h5_model.specs.Tree.Paths.{dataset_at}
use Rattle.h5_model.specs.Edits.Bounds.{bound_of, new_chunks}
use Rattle.h5_model.specs.Edits.Facts.{Facts}
use Rattle.h5_model.specs.Edits.Refusal.{refusal_of}
use Rattle.h5_model.specs.Edits.Applied.{State, state_after}
use Rattle.h5_model.specs.declared.edits.Edit.{Edit}
use Rattle.h5_model.specs.declared.edits.Edit.TheVariants.{CreateGroup, CreateDataset, HardLink, SoftLink, SetAttr, Write, Resize}
use Rattle.h5_model.specs.declared.edit_fault.EditFault.{EditFault}
use Rattle.h5_model.specs.declared.edit_fault.EditFault.TheVariants as fault

-- the edits that add a link or a chunk
abbrev pub adds_entry : Edit → Bool
adds_entry (CreateGroup path) = true
adds_entry (CreateDataset path spec) = true
adds_entry (HardLink target path) = true
adds_entry (SoftLink text path) = true
adds_entry (Write path hyper values) = true
adds_entry _ = false

-- what is given, want of memory too, comes behind the rules of the tree
abbrev pub refusal_or : Option EditFault → Option EditFault → Option EditFault
refusal_or (Some f) given = Some f
refusal_or None given = given

-- a message must be added: by every SetAttr, and by a Resize whose dataspace message has no maxima
abbrev pub must_add : Facts → Edit → Bool
must_add f (SetAttr path attr) = true
must_add f (Resize path dims) = not f.has_maxima
must_add f _ = false

-- the header's total is 16 bits wide, and a Continuation may come with the message
abbrev pub is_header_full : Facts → Edit → Bool
is_header_full f edit = must_add f edit && nat_lt most_messages (f.total + 2)

-- the image would have more than `most_bytes`
abbrev pub is_image_full : Facts → Tree → Edit → Bool
is_image_full f tree edit = nat_lt most_bytes (f.length + bound_of f tree edit)

-- how many links or chunks an edit adds to a tree
abbrev pub new_entries : Facts → Tree → Edit → ℕ
new_entries f tree (Write path hyper values) = option_map_or (λ d. length (new_chunks f (Write path hyper values) d)) (dataset_at tree path) 0
new_entries f tree edit = if adds_entry edit then 1 else 0

-- one of them, in its turn, finds the root at level 15 and has to split it
abbrev pub AtTop : Facts → Tree → Edit → Type 0
AtTop f tree edit = (added : ℕ) × (added < new_entries f tree edit) × IsTrue (f.splits_top added)

-- What the image decides of an edit that no rule of the tree refuses, memory aside: HeaderFull exactly where it holds; then TreeTooDeep where
-- one of the entries finds no room, and always where the first one does; then ImageFull exactly where it holds.
abbrev pub IsGiven : Facts → Tree → Edit → Option EditFault → Type 0
IsGiven f tree edit None = IsFalse (is_header_full f edit) × IsFalse (f.splits_top 0) × IsFalse (is_image_full f tree edit)
IsGiven f tree edit (Some fault.HeaderFull) = IsTrue (is_header_full f edit)
IsGiven f tree edit (Some fault.TreeTooDeep) = IsFalse (is_header_full f edit) × AtTop f tree edit
IsGiven f tree edit (Some fault.ImageFull) = IsFalse (is_header_full f edit) × IsFalse (f.splits_top 0) × IsTrue (is_image_full f tree edit)
IsGiven f tree edit _ = ⊥

-- the state after edits, each with what the image or memory decided of it; refused ones are passed over
abbrev pub after_edits : State → List (Edit × Option EditFault) → State
after_edits s [] = s
after_edits s (step ∷ steps) =
    after_edits (if is_none (refusal_or (refusal_of s.tree s.next step.0) step.1) then state_after s step.0 else s) steps
