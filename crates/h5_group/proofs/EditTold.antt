-- A group as the image tells it, before an edit in place and after it.
use Rattle.std.proofs.Common.{◌≡◌, ℕ, ◌≤◌, List, [], ◌∷◌, length, refl, sym, subst, arith}
use Rattle.h5_bytes.specs.declared.Block.{Block}
use Rattle.h5_laws.proofs.Lists.{In, all_in, contains_in}
use Rattle.h5_model.specs.Format.Addresses.{SymbolTable}
use Rattle.h5_model.specs.Format.Limits.{most_bytes}
use Rattle.h5_model.specs.Format.Superblock.{k_values}
use Rattle.h5_model.specs.Format.Symbols.{Target}
use Rattle.h5_space.specs.Space.{Space}
use Rattle.h5_space.specs.Moves.{Moves}
use Rattle.h5_space.specs.Whole.{IsApart}
use Rattle.h5_btree.proofs.WaySteps.{moves_roomy, roomy}
use Rattle.h5_group.specs.Edited.{HasGroupMoved, IsGroupIn, IsNewName, IsSomeGroup, superblock_block}
use Rattle.h5_group.specs.LinkEdits.{IsGroupApart}
use Rattle.h5_group.specs.Links.{HasNone}
use Rattle.h5_group.specs.Told.{blocks_told, links_told}
use Rattle.h5_group.proofs.ToldLaws.{blocks_are_told, links_are_told}
use Rattle.h5_group.proofs.Ways.{group_read}

-- What the image tells of a group, of which an edit has made one with these links.
pub record IsToldMoved (s t : Space) (table : SymbolTable) (links : List (List ℕ × Target)) : Type 0 where
  pub links_are : links ≡ links_told t.bytes table
  pub group : IsGroupApart t table
  pub moves : Moves s t (blocks_told s.bytes table) (blocks_told t.bytes table)
  pub k : k_values t.bytes ≡ k_values s.bytes

-- ---- before the edit, in whatever room

group_roomy : (s : Space) (bytes blocks : ℕ) (table : SymbolTable) → IsGroupApart s table → length s.bytes ≤ most_bytes
    → IsGroupIn (roomy s bytes blocks) table (links_told s.bytes table) [] (blocks_told s.bytes table)
group_roomy s bytes blocks table group short = record {
  linked = group.read.linked;
  more = group.read.linked.listed.loose;
  spared = refl;
  apart = group.apart;
  long = group.long;
  leaf_some = group.k.leaf_low;
  leaf_few = group.k.leaf_high;
  some = group.k.internal_low;
  few = group.k.internal_high;
  short = omega (arith, short);
}

pub group_told : (s : Space) (table : SymbolTable) → IsGroupApart s table → length s.bytes ≤ most_bytes
    → IsGroupIn s table (links_told s.bytes table) [] (blocks_told s.bytes table)
group_told s table group short = group_roomy s s.room_bytes s.room_blocks table group short

pub some_told : (s : Space) (table : SymbolTable) → IsGroupApart s table → length s.bytes ≤ most_bytes → IsSomeGroup s table []
some_told s table group short = (links_told s.bytes table, blocks_told s.bytes table, group_told s table group short)

pub told_new : (image : List ℕ) (table : SymbolTable) (name : List ℕ) → HasNone image table name → IsNewName name (links_told image table)
told_new image table name none =
    all_in (λ (l : List ℕ × Target). l.0 ≡ name → ⊥) (links_told image table) (λ l at is.
    none l.1 (contains_in (name, l.1) (links_told image table) (subst (λ (n : List ℕ). In (n, l.1) (links_told image table)) is at)))

-- ---- after it

told_again : (s : Space) (table : SymbolTable) (links : List (List ℕ × Target)) (spare : List ℕ) (blocks : List Block) → IsGroupIn s table links spare blocks → IsGroupApart s table
told_again s table links spare blocks g = record {
  read = group_read s table links spare blocks g;
  apart = subst (λ (bs : List Block). IsApart (superblock_block s.bytes ∷ bs) s.free (length s.bytes)) (blocks_are_told s.bytes table links blocks g.linked) g.apart;
  long = g.long;
  k = record { leaf_low = g.leaf_some; leaf_high = g.leaf_few; internal_low = g.some; internal_high = g.few };
}

-- in room that was reserved before
module _ (s t u : Space) (bytes blocks : ℕ) (is : t ≡ roomy s bytes blocks) (table : SymbolTable) where
  pub group_then : IsGroupApart s table → length s.bytes ≤ most_bytes → IsGroupIn t table (links_told s.bytes table) [] (blocks_told s.bytes table)
  group_then group short = subst (λ (x : Space). IsGroupIn x table (links_told s.bytes table) [] (blocks_told s.bytes table)) (sym is) (group_roomy s bytes blocks table group short)

  pub moved_told : (links : List (List ℕ × Target)) → HasGroupMoved t u table (blocks_told s.bytes table) links [] → IsToldMoved s u table links
  moved_told links moved =
      let m = subst (λ (x : Space). HasGroupMoved x u table (blocks_told s.bytes table) links []) is moved in
      record {
        links_are = links_are_told u.bytes table links m.blocks (m.group).linked;
        group = told_again u table links [] m.blocks m.group;
        moves = subst (Moves s u (blocks_told s.bytes table)) (blocks_are_told u.bytes table links m.blocks (m.group).linked)
            (moves_roomy s u bytes blocks (blocks_told s.bytes table) m.blocks m.moves);
        k = m.k;
      }
