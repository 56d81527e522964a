-- Which trees the plain layout can hold: those that an image reads as, or that an accepted edit gives.
use Rattle.std.specs.Prelude.{◌≡◌, ℕ, ◌+◌, ◌*◌, ◌≤◌, Some, length}
use Rattle.std.specs.FinMap.{get, len}
use Rattle.h5_model.specs.Format.Limits.{highest_level}
use Rattle.h5_model.specs.Format.Messages.{most_messages}
use Rattle.h5_model.specs.Format.PlainLength.{rows_of}
use Rattle.h5_model.specs.Tree.Objects.{Tree, Object, Content, Group, Array, Dataset, Links}
use Rattle.h5_btree.specs.Writing.Written.{root_level}
use Rattle.h5_repack.specs.Bodies.Bodies.{others_of}
use Rattle.h5_repack.specs.Bodies.Headers.{AreStoredFor, IsLowStorage}
use Rattle.h5_model.specs.Format.Superblock.{AreKValues, chunk_k_of}
use Rattle.h5_repack.specs.Bodies.Sound.{IsPlainObject, IsPlainArray}
use Rattle.h5_repack.specs.Image.Written.{StoredIn}
use Rattle.h5_laws.specs.Trees.Sound.{IsSoundTree}
use Rattle.h5_model.specs.declared.k_values.KValues.{KValues}

-- the messages can be counted
abbrev pub IsPlainContent : ℕ → Content → Type 0
IsPlainContent others (Group links) = 1 + others ≤ most_messages
IsPlainContent others (Array d) = IsPlainArray d others × (3 + others ≤ most_messages)

pub record IsPlain (o : Object) : Type 0 where
  pub others : IsPlainObject o
  pub content : IsPlainContent (length (others_of o)) o.content

abbrev pub ArePlain : Tree → Type 0
ArePlain tree = (number : ℕ) (o : Object) → get tree number ≡ Some o → IsPlain o

-- the tree of a group has at most 16 levels
abbrev pub IsLow : ℕ → ℕ → Links → Type 0
IsLow leaf internal links = root_level internal (rows_of (2 * leaf) (len links)) ≤ highest_level

-- so has that of a group, or of so many stored chunks
abbrev pub IsLowContent : KValues → ℕ → Content → Type 0
IsLowContent k count (Group links) = IsLow k.leaf k.internal links
IsLowContent k count (Array d) = IsLowStorage (chunk_k_of k) count d.storage

abbrev pub AreLow : KValues → StoredIn → Tree → Type 0
AreLow k stored tree = (number : ℕ) (o : Object) → get tree number ≡ Some o → IsLowContent k (length (stored number)) o.content

-- these are the stored chunks of each array that is in chunks
abbrev pub AreStoredIn : StoredIn → Tree → Type 0
AreStoredIn stored tree =
    (number : ℕ) (o : Object) (d : Dataset) → get tree number ≡ Some o → o.content ≡ Array d → AreStoredFor (stored number) d

pub record IsPlainTree (k : KValues) (stored : StoredIn) (tree : Tree) : Type 0 where
  pub in_range : AreKValues k
  pub sound : IsSoundTree tree
  pub each : ArePlain tree
  pub low : AreLow k stored tree
  pub chunks : AreStoredIn stored tree
