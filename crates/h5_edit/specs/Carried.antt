-- What image and memory decide of an edit beside the rules of the tree, and when it is accepted or refused (File Format Specification
-- 3.0, sections III.A.1, III.C and IV.A).
use Rattle.std.specs.Prelude.{◌≡◌, ◌↔◌, ℕ, ◌+◌, Bool, not, nat_lt, IsTrue, Option, Some, None, List, length}
use Rattle.std.specs.FinMap.{get}
use Rattle.std.specs.Option.{option_map_or, option_and_then}
use Rattle.h5_model.specs.Edits.Applied.{with_edit}
use Rattle.h5_model.specs.Edits.Facts.{Facts}
use Rattle.h5_model.specs.Edits.ImageAnswers.{IsGiven, refusal_or}
use Rattle.h5_model.specs.Format.Addresses.{SymbolTable}
use Rattle.h5_model.specs.Format.Heap.{segment_block}
use Rattle.h5_model.specs.Format.Messages.{prefix_at, total_in, most_messages}
use Rattle.h5_model.specs.Tree.Paths.{object_at, parent_at}
use Rattle.h5_model.specs.Edits.Refusal.{refusal_of}
use Rattle.h5_model.specs.Format.Superblock.{k_values}
use Rattle.h5_model.specs.Tree.Objects.{Tree}
use Rattle.h5_model.specs.declared.edits.Edit.{Edit}
use Rattle.h5_model.specs.declared.edits.Edit.TheVariants.{CreateGroup, CreateDataset, HardLink, SoftLink, SetAttr, Write, Resize}
use Rattle.h5_model.specs.declared.edit_fault.EditFault.{EditFault}
use Rattle.h5_model.specs.declared.edit_fault.EditFault.TheVariants as fault
use Rattle.h5_query.specs.LinkAdded.{IsGroupOf}
use Rattle.h5_query.specs.LinkEdits.{IsFullFor}
use Rattle.h5_query.specs.Opened.State.{FileState}
use Rattle.h5_query.specs.Resized.{LacksMaxima}
use Rattle.h5_edit.specs.StorageFacts.{AreStorageFacts}

-- ---- what the image and memory decide, beside the rules of the tree

-- how many messages the header of the object at a path has, as its prefix says
abbrev pub total_at : FileState → List ℕ → ℕ
total_at f path = option_map_or (λ header. total_in (prefix_at f.image header)) (option_and_then (get f.table) (object_at f.tree path)) 0

-- it has no place for a message more, with which a Continuation may come: the total has two bytes
abbrev pub is_total_full : FileState → List ℕ → Bool
is_total_full f path = nat_lt most_messages (total_at f path + 2)

-- the tree that an edit gives
abbrev pub tree_after : FileState → Edit → Tree
tree_after f edit = with_edit f.tree edit f.next

-- of an edit that puts a link at a path: the heap and the tree of the group that takes the link, which has room for its name or has none
pub record AreGroupFacts (f : FileState) (path : List ℕ) (facts : Facts) : Type 0 where
  pub parent : ℕ
  pub name : List ℕ
  pub at : parent_at f.tree path ≡ Some (parent, name)
  pub table : SymbolTable
  pub group : IsGroupOf f parent table
  pub heap : facts.heap ≡ (segment_block f.image table.heap).len
  pub top : IsTrue (facts.splits_top 0) ↔ IsFullFor f.image table name

-- of other sizes: the header of the array at the path, and whether its Dataspace message has maxima
pub record AreExtentFacts (f : FileState) (path : List ℕ) (facts : Facts) : Type 0 where
  pub total : facts.total ≡ total_at f path
  pub maxima : LacksMaxima f.image (option_and_then (get f.table) (object_at f.tree path)) (not facts.has_maxima)

-- what is asked of each edit
abbrev pub AreFactsAt : FileState → Edit → Facts → Type 0
AreFactsAt f (SetAttr path attr) facts = facts.total ≡ total_at f path
AreFactsAt f (Resize path dims) facts = AreExtentFacts f path facts
AreFactsAt f (Write path hyper values) facts = AreStorageFacts f path (Write path hyper values) facts
AreFactsAt f (HardLink target path) facts = AreGroupFacts f path facts
AreFactsAt f (SoftLink text path) facts = AreGroupFacts f path facts
AreFactsAt f (CreateGroup path) facts = AreGroupFacts f path facts
AreFactsAt f (CreateDataset path spec) facts = AreGroupFacts f path facts
AreFactsAt f edit facts = Unit {0}

-- The facts of an edit are those of the image.
pub record AreFacts (f : FileState) (edit : Edit) (facts : Facts) : Type 0 where
  pub long : facts.length ≡ length f.image
  pub k : facts.k ≡ k_values f.image
  pub at : AreFactsAt f edit facts

-- By them the image decides of an edit. Memory may be short at any time.
abbrev pub IsGivenInPlace : FileState → Edit → Option EditFault → Type 0
IsGivenInPlace f edit (Some fault.NoMemory) = Unit {0}
IsGivenInPlace f edit given = (facts : Facts) × AreFacts f edit facts × IsGiven facts f.tree edit given

-- it counts where no rule of the tree refuses the edit
abbrev pub IsGivenFor : FileState → Edit → Option EditFault → Type 0
IsGivenFor f edit given = refusal_of f.tree f.next edit ≡ None → IsGivenInPlace f edit given

-- ---- accepted edits, and refusals

-- no rule of the tree refuses the edit, nor what is given beside them
pub record IsAccepted (f : FileState) (edit : Edit) : Type 0 where
  pub accepted : refusal_of f.tree f.next edit ≡ None
  pub given : IsGivenFor f edit None

-- by a rule of the tree, or by what is given beside them
pub record IsRefused (f : FileState) (edit : Edit) (e : EditFault) : Type 0 where
  pub given : Option EditFault
  pub allowed : IsGivenFor f edit given
  pub answer : refusal_or (refusal_of f.tree f.next edit) given ≡ Some e
