-- An object that was read in a walk (File Format Specification 3.0, sections III.C and IV.A).
use Rattle.std.specs.Prelude.{◌≡◌, ◌≢◌, ℕ, ◌+◌, ◌-◌, ◌≤◌, ◌⊎◌, true, IsTrue, Option, None, List, [], ◌∷◌, ◌++◌, length}
use Rattle.std.specs.List.{AllByRecursion, Contains}
use Rattle.h5_model.specs.Format.Limits.{most_names}
use Rattle.h5_bytes.specs.Blocks.{cover, Inside}
use Rattle.h5_bytes.specs.declared.Block.{Block}
use Rattle.h5_model.specs.Format.Addresses.{SymbolTable}
use Rattle.h5_model.specs.Format.Messages.{HasMessages, Message}
use Rattle.h5_model.specs.Format.Reached.{Named, naming_of, ObjectHeader}
use Rattle.h5_model.specs.Format.Symbols.{Target, Header, Text, symbol_bytes, symbols_in}
use Rattle.h5_model.specs.Faults.Breaches.{is_header}
use Rattle.h5_model.specs.Format.Superblock.{leaf_k}
use Rattle.h5_model.specs.declared.open_fault.Cause.{Cause}
use Rattle.h5_attr.specs.Attributes.{HasNamesOnce}
use Rattle.h5_header.specs.Heads.{is_read}
use Rattle.h5_header.specs.Kinds.{IsOfGroup, IsOfDataset}
use Rattle.h5_header.specs.Listed.{Listed, messages_in, IsWithin}
use Rattle.h5_group.specs.Told.{symbol_nodes_told}
use Rattle.h5_header.specs.Walk.Walked.{IsWalked}
use Rattle.h5_header.specs.Walk.Met.{IsMet, IsHeaderMet}
use Rattle.h5_open.specs.declared.opened.object.OpenedObject.{OpenedObject}
use Rattle.h5_open.specs.Opened.Judged.{IsFirstBreach, array_breach, group_breach}
use Rattle.h5_open.specs.Opened.Kept.{IsObjectKept}
use Rattle.h5_open.specs.Opened.Refused.{IsOpenRefusedAt}
use Rattle.h5_open.specs.Opened.Objects.{content_links, object_blocks}
use Rattle.h5_open.specs.Placed.Whole.{IsGroupContent}

-- The object stands in the image, with its header there, and its blocks are claimed. The root is a group; a group 64 links below it
-- has no links.
pub record IsObjectRead (image : List ℕ) (held now : List Block) (header depth : ℕ) (o : OpenedObject) : Type 0 where
  pub kept : IsObjectKept image o
  pub header_is : o.messages.header ≡ header
  pub top : depth ≡ 0 → IsGroupContent o.content
  pub shallow : 1 ≤ length (content_links image o.content) → depth + 1 ≤ most_names
  pub inside : Inside (length image) (object_blocks image o)
  pub claimed : (p : ℕ) → cover p now ≡ cover p held + cover p (object_blocks image o)

-- The fields of these links, those of soft links aside, were met. They differ, and stand in blocks that were not claimed before.
abbrev pub AreWaiting : List ℕ → List Block → List Block → List Named → ℕ → List (List ℕ × Target) → List ℕ → Type 0
AreWaiting image held now followed depth [] fields = fields ≡ []
AreWaiting image held now followed depth ((name, Text text) ∷ links) fields = AreWaiting image held now followed depth links fields
AreWaiting image held now followed depth ((name, Header header) ∷ links) [] = ⊥
AreWaiting image held now followed depth ((name, Header header) ∷ links) (field ∷ fields) =
    IsMet image now followed (naming_of field ObjectHeader header (depth + 1)) × (cover (field - 8) held ≡ 0)
    × AllByRecursion (λ other. other ≢ field) fields × AreWaiting image held now followed depth links fields

-- the field is this one, or stands in a block that was not claimed before
abbrev pub IsOwn : List Block → ℕ → Named → Type 0
IsOwn held field y = (y.field ≡ field) ⊎ (cover (y.field - 8) held ≡ 0)

-- More fields were followed, of which one names the object's header, and none another. The links of the object wait.
pub record IsObjectFollowed (image : List ℕ) (held now : List Block) (followed : List Named) (field depth : ℕ) (o : OpenedObject) : Type 0 where
  pub new : List Named
  pub walked : IsWalked image now (new ++ followed)
  pub stands : AllByRecursion (IsOwn held field) new
  pub only : AllByRecursion (λ (y : Named). is_header y.role ≡ true → y.at ≡ o.messages.header) new
  pub first : Contains new (naming_of field ObjectHeader o.messages.header depth)
  pub fields : List ℕ
  pub waiting : AreWaiting image held now (new ++ followed) depth (content_links image o.content) fields

-- the messages of a header were read
pub record IsHeaderRead (image : List ℕ) (m : Listed) : Type 0 where
  pub has : HasMessages image m.header (messages_in image m.list) m.blocks
  pub known : AllByRecursion (λ x. IsTrue (is_read x.kind)) m.list
  pub within : IsWithin (length image) m.list
  pub inside : Inside (length image) m.blocks

-- a symbol node of a group at the last level, with a link
pub record IsDeepAt (image : List ℕ) (table : SymbolTable) (depth node : ℕ) : Type 0 where
  pub node_of : Contains (symbol_nodes_told image table) node
  pub deep : most_names ≤ depth
  pub some : 1 ≤ symbols_in (symbol_bytes image (leaf_k image) node)

-- a header was met, and its messages are read
pub record IsHeaderDone (image : List ℕ) (held now : List Block) (followed : List Named) (field depth : ℕ) (m : Listed) : Type 0 where
  pub met : IsHeaderMet image held followed field m.header depth
  pub read : IsHeaderRead image m
  pub claimed : (p : ℕ) → cover p now ≡ cover p held + cover p m.blocks

-- ---- a step of the walk, from wherever it has met a header so many links below the root

-- then it has followed the fields of this object, but for its links
abbrev pub FollowsObject : List ℕ → List Block → List Block → ℕ → ℕ → OpenedObject → Type 0
FollowsObject image old now header depth o = (followed : List Named) (field : ℕ)
    → IsHeaderMet image old followed field header depth → IsObjectFollowed image old now followed field depth o

-- the object is refused
abbrev pub IsObjectFault : List ℕ → List Block → ℕ → ℕ → Cause → ℕ → Type 0
IsObjectFault image old header depth cause address = (followed : List Named) (field : ℕ)
    → IsHeaderMet image old followed field header depth → IsOpenRefusedAt image cause address

-- what is named comes first of what is wrong with the names of attributes and the bodies; or nothing is wrong with them
abbrev pub IsFirstIfSome : List Message → Option Cause → Cause → Type 0
IsFirstIfSome ms bodies cause = IsFirstBreach ms bodies cause ⊎ (HasNamesOnce ms × (bodies ≡ None))

-- so it is where the header has messages of a group, or of an array below the root
abbrev pub NamesFirst : List Message → ℕ → Cause → Type 0
NamesFirst ms depth cause = (IsOfGroup ms → IsFirstIfSome ms (group_breach ms) cause)
    × (1 ≤ depth → IsOfDataset ms → IsFirstIfSome ms (array_breach ms) cause)

-- ---- the same step, when the messages of the header are read

-- with what was claimed before the header, the object is read
abbrev pub IsContentRead : List ℕ → List Block → List Block → Listed → ℕ → OpenedObject → Type 0
IsContentRead image old now m depth o = (held : List Block)
    → ((p : ℕ) → cover p old ≡ cover p held + cover p m.blocks) → IsObjectRead image held now m.header depth o

-- and its fields are followed
abbrev pub FollowsContent : List ℕ → List Block → List Block → Listed → ℕ → OpenedObject → Type 0
FollowsContent image old now m depth o = (held : List Block) (followed : List Named) (field : ℕ)
    → IsHeaderDone image held old followed field depth m → IsObjectFollowed image held now followed field depth o

-- or it is refused
abbrev pub IsContentFault : List ℕ → List Block → Listed → ℕ → Cause → ℕ → Type 0
IsContentFault image old m depth cause address = (held : List Block) (followed : List Named) (field : ℕ)
    → IsHeaderDone image held old followed field depth m → IsOpenRefusedAt image cause address
