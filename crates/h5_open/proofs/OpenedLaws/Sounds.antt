-- What is kept of an opened image tells a sound value.
use Rattle.std.proofs.Common.{◌≡◌, inl, inr, ℕ, ◌≤◌, List, [], ◌∷◌, length, ap, ◌∙◌, subst, arith, Option, Some, None}
use Rattle.std.specs.Prelude.{MatchOption, option_map, slice_get}
use Rattle.std.specs.Option.{option_flatten}
use Rattle.std.specs.Ordering.{nat_cmp}
use Rattle.std.specs.BTreeMap.{BTreeMap, get as lookup}
use Rattle.std.specs.FinMap.{get}
use Rattle.std.proofs.lemmas.Option.{same_Some}
use Rattle.h5_bytes.specs.declared.Block.{Block}
use Rattle.h5_model.specs.Format.Limits.{most_bytes}
use Rattle.h5_model.specs.Format.Superblock.{root_header, superblock_length}
use Rattle.h5_model.specs.Tree.Objects.{Object}
use Rattle.h5_space.specs.Space.{Space}
use Rattle.h5_space.specs.Whole.{IsApart}
use Rattle.h5_laws.specs.Trees.Sound.{IsSoundTree}
use Rattle.h5_laws.proofs.Lists.{In, in_all, in_at}
use Rattle.h5_laws.proofs.SoundLaws.Read.{sound_reading}
use Rattle.h5_open.specs.declared.opened.object.OpenedObject.{OpenedObject}
use Rattle.h5_open.specs.Opened.Kept.{IsOpened, IsObjectKept}
use Rattle.h5_open.specs.Opened.Objects.{header_of, objects_of, object_in, table_of, tree_of}
use Rattle.h5_open.specs.Opened.Sound.{IsSound, IsObjectOf, IsHeaderIn}
use Rattle.h5_open.specs.Opened.State.{opened_state}
use Rattle.h5_open.proofs.OpenedLaws.Entries.{get_table, get_tree, slot_of}
use Rattle.h5_open.proofs.OpenedLaws.Numbers.{numbered}
use Rattle.h5_open.proofs.OpenedLaws.ReadBlocks.{opened_all}

-- ---- objects

-- an object in a slot is one of those that there are
pub in_objects : (slots : List (Option OpenedObject)) (o : OpenedObject) → In (Some o) slots → In o (objects_of slots)
in_objects [] o there = absurd there
in_objects (None ∷ slots) o (inl e) = absurd (let never : None ≡ Some o = e in cc)
in_objects (None ∷ slots) o (inr there) = in_objects slots o there
in_objects (Some x ∷ slots) o (inl e) = inl (same_Some x o e)
in_objects (Some x ∷ slots) o (inr there) = inr (in_objects slots o there)

pub from_objects : (slots : List (Option OpenedObject)) (o : OpenedObject) → In o (objects_of slots) → In (Some o) slots
from_objects [] o there = absurd there
from_objects (None ∷ slots) o there = inr (from_objects slots o there)
from_objects (Some x ∷ slots) o (inl e) = inl (ap (λ (y : OpenedObject). Some y) e)
from_objects (Some x ∷ slots) o (inr there) = inr (from_objects slots o there)

module _ (image : Space) (slots : List (Option OpenedObject)) (numbers : BTreeMap ℕ ℕ) (opened : IsOpened image slots numbers) where
  abbrev told : Option OpenedObject → Option Object
  told slot = option_map (object_in image.bytes (table_of slots)) slot

  -- its superblock lies in it, and it is no longer than an image may be
  pub superblock_whole : superblock_length image.bytes ≤ length image.bytes
  superblock_whole = opened.reads.1.holds.superblock.whole

  pub image_short : length image.bytes ≤ most_bytes
  image_short = omega (arith, opened.reads.1.holds.whole, opened.reads.1.holds.superblock.small)

  pub sound_tree : IsSoundTree (tree_of image.bytes slots)
  sound_tree = sound_reading image.bytes (table_of slots) (tree_of image.bytes slots) opened.reads.0 opened.reads.1

  object_kept : (k : ℕ) (o : OpenedObject) → slice_get slots k ≡ Some (Some o) → IsObjectKept image.bytes o
  object_kept k o at = in_all (IsObjectKept image.bytes) o (objects_of slots) opened.each (in_objects slots o (in_at slots k (Some o) at))

  pub object_of : (k : ℕ) (o : OpenedObject) → slice_get slots k ≡ Some (Some o) → IsObjectOf (opened_state image slots) k o
  object_of k o at = record {
    header = get_table slots k ∙ ap (λ (s : Option (Option OpenedObject)). option_map header_of (option_flatten s)) at;
    kept = object_kept k o at;
    there = get_tree image.bytes slots k ∙ ap (λ (s : Option (Option OpenedObject)). told (option_flatten s)) at;
  }

  -- ---- what is looked up

  -- by a number that was not given out, or whose slot is empty
  pub none_found : (n : ℕ) → option_flatten (slice_get slots n) ≡ None → get (table_of slots) n ≡ None
  none_found n none = get_table slots n ∙ ap (option_map header_of) none

  -- the root is the first
  pub root_slot : (root : OpenedObject) × (slice_get slots 0 ≡ Some (Some root)) × (header_of root ≡ root_header image.bytes)
  root_slot = slot_of slots 0 (root_header image.bytes) (opened.reads.1).holds.root

  -- and by a header
  pub number_found : (header : ℕ) → MatchOption (lookup nat_cmp numbers header) (IsHeaderIn (table_of slots) header → ⊥) (λ n. get (table_of slots) n ≡ Some header)
  number_found header = go (lookup nat_cmp numbers header) (opened.index header) where
    go : (found : Option ℕ) → MatchOption found ((n : ℕ) → get (table_of slots) n ≡ Some header → ⊥) (λ n. get (table_of slots) n ≡ Some header)
        → MatchOption found (IsHeaderIn (table_of slots) header → ⊥) (λ n. get (table_of slots) n ≡ Some header)
    go None none = λ there. none there.0 there.1
    go (Some n) is = is

  -- ---- the value

  pub sound : IsSound (opened_state image slots)
  sound = record {
    placed = opened.reads.0;
    reads = opened.reads.1;
    numbers = numbered image slots numbers opened;
    apart = subst (λ (bs : List Block). IsApart bs image.free (length image.bytes))
        (opened_all image.bytes slots (tree_of image.bytes slots) opened.reads.0 opened.each opened.reads.1) opened.apart;
  }
