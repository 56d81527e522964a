-- How far the walk of opening has come (File Format Specification 3.0, section IV.A).
use Rattle.std.specs.Prelude.{◌≡◌, ℕ, ◌+◌, ◌-◌, ◌<◌, ◌≤◌, ◌⊎◌, true, Option, List, [], ◌∷◌, ◌++◌, length}
use Rattle.std.specs.List.{AllByRecursion, Contains, IsDistinct, flat_map}
use Rattle.std.specs.Ordering.{nat_cmp, eq_by_cmp}
use Rattle.std.specs.BTreeMap.{BTreeMap}
use Rattle.h5_model.specs.Format.Limits.{most_bytes, most_names}
use Rattle.h5_bytes.specs.Blocks.{cover, Separate, Inside}
use Rattle.h5_bytes.specs.declared.Block.{Block}
use Rattle.h5_model.specs.Format.Reached.{Named, naming_of, ObjectHeader}
use Rattle.h5_model.specs.Format.Symbols.{Target, Header, Text}
use Rattle.h5_model.specs.Faults.Breaches.{is_header, AreLinkFields}
use Rattle.h5_model.specs.declared.open_fault.Cause.{Cause}
use Rattle.h5_header.specs.Walk.Walked.{IsWalked}
use Rattle.h5_header.specs.Walk.Met.{IsMet}
use Rattle.h5_open.specs.declared.opened.object.OpenedObject.{OpenedObject}
use Rattle.h5_open.specs.Opened.Kept.{IsObjectKept, IsIndex}
use Rattle.h5_open.specs.Opened.Refused.{IsOpenRefusedAt}
use Rattle.h5_open.specs.Opened.Objects.{IsDense, headers, objects_of, content_links, object_blocks, opened_blocks, table_of}
use Rattle.h5_open.specs.Placed.Whole.{IsGroupContent, HasHeight, IsLed, AreLed, HasParent, AreNamed}
use Rattle.h5_open.specs.Counted.Counts.{AreCounted}
use Rattle.h5_open.specs.Counted.Links.{leading_links, all_links}
use Rattle.h5_open.specs.Read.{IsOwn, AreWaiting}

-- Each number has an object, whose header has the number. No two have one header, and headers lie below 2 GiB, so numbers fit.
pub record IsNumbered (slots : List (Option OpenedObject)) (numbers : BTreeMap ℕ ℕ) : Type 0 where
  pub all : IsDense slots
  pub index : IsIndex (table_of slots) numbers
  pub distinct : IsDistinct (eq_by_cmp nat_cmp) (headers (objects_of slots))
  pub low : AllByRecursion (λ h. h < most_bytes) (headers (objects_of slots))

-- a field that was followed names the header of this object
abbrev pub IsNamedBy : List Named → OpenedObject → Type 0
IsNamedBy followed o = (y : Named) × Contains followed y × (y.at ≡ o.messages.header) × (is_header y.role ≡ true)

-- Different fields that name this header were met, as many as these links lead to it. They stand in claimed blocks.
pub record AreFieldsMet (image : List ℕ) (held : List Block) (links : List (List ℕ × Target)) (header : ℕ) : Type 0 where
  pub fields : List ℕ
  pub name : AreLinkFields image header fields
  pub stand : AllByRecursion (λ field. 1 ≤ cover (field - 8) held) fields
  pub long : length fields ≡ leading_links header links

-- The walk has read these objects, and claimed their blocks and the superblock. Each followed field that names a header names that of
-- one of them. The fields of all their links were met.
pub record IsUnder (image : List ℕ) (held : List Block) (followed : List Named) (objects : List OpenedObject) : Type 0 where
  pub walked : IsWalked image held followed
  pub separate : Separate held
  pub covered : (p : ℕ) → cover p held ≡ cover p (opened_blocks image objects)
  pub within : Inside (length image) (flat_map (object_blocks image) objects)
  pub each : AllByRecursion (IsObjectKept image) objects
  pub distinct : IsDistinct (eq_by_cmp nat_cmp) (headers objects)
  pub parents : AreNamed image [] objects
  pub known : AllByRecursion (λ (y : Named). is_header y.role ≡ true → Contains (headers objects) y.at) followed
  pub named : AllByRecursion (IsNamedBy followed) objects
  pub fields : (header : ℕ) → AreFieldsMet image held (all_links image objects) header

-- The walk has come to a field that names a header; it is the root's, or that of a link of an object that was read.
pub record IsReady (image : List ℕ) (held : List Block) (followed : List Named) (objects : List OpenedObject) (field header depth : ℕ) : Type 0 where
  pub under : IsUnder image held followed objects
  pub met : IsMet image held followed (naming_of field ObjectHeader header depth)
  pub parent : (objects ≡ []) ⊎ HasParent image objects header

-- More objects were read, all of whose links lead to objects.
pub record AreFurtherObjects (image : List ℕ) (held now : List Block) (followed : List Named) (field : ℕ) (objects objects' more : List OpenedObject) : Type 0 where
  pub grown : objects' ≡ objects ++ more
  pub new : List Named
  pub under : IsUnder image now (new ++ followed) objects'
  pub stands : AllByRecursion (IsOwn held field) new
  pub led : AllByRecursion (AreLed image objects') more

-- The object at a header was read, and all objects below it.
pub record IsTreeRead (image : List ℕ) (held now : List Block) (followed : List Named) (objects objects' : List OpenedObject) (field header depth : ℕ) : Type 0 where
  pub object : OpenedObject
  pub others : List OpenedObject
  pub header_is : object.messages.header ≡ header
  pub top : depth ≡ 0 → IsGroupContent object.content
  pub shallow : HasHeight image objects' (most_names - depth) object
  pub further : AreFurtherObjects image held now followed field objects objects' (object ∷ others)

-- the walk has come to a link of an object so many links below the root
abbrev pub IsLinkReady : List ℕ → List Block → List Named → List OpenedObject → ℕ → ℕ → (List ℕ × Target) → Type 0
IsLinkReady image held followed objects field depth (name, Header header) = IsReady image held followed objects field header (depth + 1)
IsLinkReady image held followed objects field depth (name, Text text) = IsUnder image held followed objects

-- the link leads to an object, and all objects below it were read
pub record IsLinkRead (image : List ℕ) (held now : List Block) (followed : List Named) (objects objects' : List OpenedObject) (field depth : ℕ) (link : List ℕ × Target) : Type 0 where
  pub more : List OpenedObject
  pub further : AreFurtherObjects image held now followed field objects objects' more
  pub led : IsLed image objects' (most_names - (depth + 1)) link

-- ---- steps of the walk

-- from wherever it has come to a field that names this header, it then has read the object there and all below it
abbrev pub ReadsFrom : List ℕ → List Block → List Block → List OpenedObject → List OpenedObject → ℕ → ℕ → Type 0
ReadsFrom image old now objects objects' header depth = (followed : List Named) (field : ℕ)
    → IsReady image old followed objects field header depth → IsTreeRead image old now followed objects objects' field header depth

-- or one of these objects is refused
abbrev pub IsFaultFrom : List ℕ → List Block → List OpenedObject → List ℕ → List ℕ → ℕ → ℕ → Cause → ℕ → Type 0
IsFaultFrom image old objects counts name header depth cause address = (followed : List Named) (field : ℕ) (waiting : List (List ℕ × Target))
    → IsReady image old followed objects field header depth → AreCounted image objects counts ((name, Header header) ∷ waiting)
    → IsOpenRefusedAt image cause address

-- the same from wherever it has come to this link
abbrev pub ReadsLink : List ℕ → List Block → List Block → List OpenedObject → List OpenedObject → ℕ → (List ℕ × Target) → Type 0
ReadsLink image old now objects objects' depth link = (followed : List Named) (field : ℕ)
    → IsLinkReady image old followed objects field depth link → IsLinkRead image old now followed objects objects' field depth link

abbrev pub IsLinkFault : List ℕ → List Block → List OpenedObject → List ℕ → ℕ → (List ℕ × Target) → Cause → ℕ → Type 0
IsLinkFault image old objects counts depth link cause address = (followed : List Named) (field : ℕ) (waiting : List (List ℕ × Target))
    → IsLinkReady image old followed objects field depth link → AreCounted image objects counts (link ∷ waiting) → IsOpenRefusedAt image cause address

-- the link does not wait any more: it was followed and counted, and so were all links of the objects that were read then
abbrev pub CountsLink : List ℕ → List OpenedObject → List ℕ → List OpenedObject → List ℕ → (List ℕ × Target) → Type 0
CountsLink image objects counts objects' counts' link = (waiting : List (List ℕ × Target))
    → AreCounted image objects counts (link ∷ waiting) → AreCounted image objects' counts' waiting

-- Of the links of an object that was read, the first ones were followed; these are left, and wait.
pub record IsPartly (image : List ℕ) (held now : List Block) (followed : List Named) (objects objects' : List OpenedObject) (field header depth : ℕ) (left : List (List ℕ × Target)) : Type 0 where
  pub object : OpenedObject
  pub others : List OpenedObject
  pub header_is : object.messages.header ≡ header
  pub top : depth ≡ 0 → IsGroupContent object.content
  pub shallow : 1 ≤ length (content_links image object.content) → depth + 1 ≤ most_names
  pub first : List (List ℕ × Target)
  pub links_are : content_links image object.content ≡ first ++ left
  pub grown : objects' ≡ (objects ++ object ∷ []) ++ others
  pub new : List Named
  pub under : IsUnder image now (new ++ followed) objects'
  pub stands : AllByRecursion (IsOwn held field) new
  pub led : AllByRecursion (AreLed image objects') others
  pub passed : AllByRecursion (IsLed image objects' (most_names - (depth + 1))) first
  pub fields : List ℕ
  pub waiting : AreWaiting image held now (new ++ followed) depth left fields
