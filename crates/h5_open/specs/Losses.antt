-- What goes with a link that is taken out of a group of an opened image: the objects that lose all their hard links, with their blocks, and
-- the arrays that lose some of theirs (File Format Specification 3.0, sections III.C and IV.A.1.a).
use Rattle.std.specs.Prelude.{◌≡◌, ◌⊎◌, ℕ, ◌+◌, ◌≤◌, Option, List, map}
use Rattle.std.specs.List.{Contains, IsDistinct, flat_map}
use Rattle.std.specs.Ordering.{nat_cmp, eq_by_cmp}
use Rattle.h5_bytes.specs.Blocks.{cover}
use Rattle.h5_bytes.specs.declared.Block.{Block}
use Rattle.h5_laws.specs.Trees.Unlinked.{AreReachedFrom, lost_links}
use Rattle.h5_model.specs.Tree.Objects.{Link, hard_links}
use Rattle.h5_open.specs.declared.opened.object.OpenedObject.{OpenedObject}
use Rattle.h5_open.specs.Opened.Objects.{tree_of}
use Rattle.h5_open.specs.SlotsInPlace.{blocks_at}

-- The objects to which paths lead from the link are parted: those that lose all their hard links, whose blocks are held; and those that
-- keep some, each with how many are left to it.
pub record AreLosses (image : List ℕ) (slots : List (Option OpenedObject)) (link : Link) (gone : List ℕ) (less : List (ℕ × ℕ)) (held : List Block) : Type 0 where
  pub numbers : List ℕ
  pub reached : AreReachedFrom (tree_of image slots) link numbers
  pub gone_once : IsDistinct (eq_by_cmp nat_cmp) gone
  pub less_once : IsDistinct (eq_by_cmp nat_cmp) (map (λ (l : ℕ × ℕ). l.0) less)
  pub goes : (n : ℕ) → Contains gone n → Contains numbers n × (lost_links (tree_of image slots) link numbers n ≡ hard_links (tree_of image slots) n)
  pub stays : (n left : ℕ) → Contains less (n, left)
      → Contains numbers n × (1 ≤ left) × (left + lost_links (tree_of image slots) link numbers n ≡ hard_links (tree_of image slots) n)
  pub parted : (n : ℕ) → Contains numbers n → Contains gone n ⊎ ((left : ℕ) × Contains less (n, left))
  pub blocks : (p : ℕ) → cover p held ≡ cover p (flat_map (blocks_at image slots) gone)
