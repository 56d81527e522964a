-- How many links lead to each object, as a walk follows them, and what a reference count has to be (File Format Specification 3.0,
-- section IV.A.1.a).
use Rattle.std.specs.Prelude.{◌≡◌, ◌≢◌, ℕ, ◌+◌, ◌<◌, ◌≤◌, Some, List, length, slice_get, slice_index}
use Rattle.std.specs.List.{Contains}
use Rattle.h5_model.specs.Format.Limits.{most_hard_links}
use Rattle.h5_model.specs.Format.Messages.{prefix_at, reference_count}
use Rattle.h5_model.specs.Format.Symbols.{Target}
use Rattle.h5_model.specs.declared.open_fault.Cause.{Cause}
use Rattle.h5_model.specs.declared.open_fault.Cause.TheVariants.{TooLarge, LinkCount, GroupLinkedTwice}
use Rattle.h5_open.specs.declared.opened.object.OpenedObject.{OpenedObject}
use Rattle.h5_open.specs.Opened.Objects.{headers}
use Rattle.h5_open.specs.Placed.Whole.{IsGroupContent}
use Rattle.h5_open.specs.Counted.Links.{leading_links, all_links}

-- The count of an object: so many links of these objects lead to it as were followed, those aside that wait. They are 65535 at most,
-- and one to a group.
pub record IsCount (image : List ℕ) (objects : List OpenedObject) (waiting : List (List ℕ × Target)) (o : OpenedObject) (count : ℕ) : Type 0 where
  pub exact : count + leading_links o.messages.header waiting ≡ leading_links o.messages.header (all_links image objects)
  pub limit : count ≤ most_hard_links
  pub once : IsGroupContent o.content → count ≤ 1

-- The links of these objects were followed and counted, those aside that wait. Each that was followed leads to one of the objects.
pub record AreCounted (image : List ℕ) (objects : List OpenedObject) (counts : List ℕ) (waiting : List (List ℕ × Target)) : Type 0 where
  pub long : length counts ≡ length objects
  pub each : (number : ℕ) (o : OpenedObject) → slice_get objects number ≡ Some o → IsCount image objects waiting o (slice_index counts number)
  pub elsewhere : (header : ℕ) → (Contains (headers objects) header → ⊥) → leading_links header waiting ≡ leading_links header (all_links image objects)

-- one link more may lead to an object to which so many do
pub record MayBeLinked (o : OpenedObject) (count : ℕ) : Type 0 where
  pub array : IsGroupContent o.content → ⊥
  pub limit : count < most_hard_links

-- or why it may not
abbrev pub IsLinkedFully : OpenedObject → ℕ → Cause → Type 0
IsLinkedFully o count GroupLinkedTwice = IsGroupContent o.content
IsLinkedFully o count TooLarge = most_hard_links ≤ count
IsLinkedFully o count cause = ⊥

pub record IsRefusedAgain (o : OpenedObject) (count : ℕ) (cause : Cause) (address : ℕ) : Type 0 where
  pub header : address ≡ o.messages.header
  pub full : IsLinkedFully o count cause

-- the reference count of one of these objects, at its header, is not the number of links that lead there
pub record HasMiscount (image : List ℕ) (objects : List OpenedObject) (cause : Cause) (address : ℕ) : Type 0 where
  pub object : OpenedObject
  pub among : Contains objects object
  pub header : address ≡ object.messages.header
  pub is : cause ≡ LinkCount
  pub wrong : reference_count (prefix_at image object.messages.header) ≢ leading_links object.messages.header (all_links image objects)
