-- A link that comes into a group: its texts, and then its entry at the end of the way that was found before.
use Rattle.std.proofs.Common.{◌≡◌, ℕ, ◌+◌, ◌*◌, ◌<◌, ◌≤◌, IsTrue, List, [], ◌∷◌, ◌++◌, length, inl, inr, sym, ap, ◌∙◌, subst, arith, mul-le-mul_right}
use Rattle.std.specs.List.{Contains}
use Rattle.std.proofs.lemmas.Bool.{cases_lt}
use Rattle.h5_bytes.specs.declared.Block.{Block}
use Rattle.h5_model.specs.Format.Limits.{most_bytes}
use Rattle.h5_model.specs.Format.Addresses.{SymbolTable}
use Rattle.h5_model.specs.Format.Superblock.{leaf_k, k_values}
use Rattle.h5_model.specs.Format.Heap.{segment_block, segment_of}
use Rattle.h5_model.specs.Format.Nodes.{node_length}
use Rattle.h5_model.specs.Format.Sizes.{symbol_node}
use Rattle.h5_model.specs.Format.Symbols.{Entry, IsEntry, Target, link_of, symbols_at}
use Rattle.h5_model.specs.Tree.Paths.{is_name}
use Rattle.h5_model.proofs.KLaws.{same_internal, same_leaf}
use Rattle.h5_space.specs.Space.{Space}
use Rattle.h5_space.specs.Moves.{Spends}
use Rattle.h5_space.proofs.MovesLaws.{spends_then, spends_within}
use Rattle.h5_btree.specs.Insertion.{IsFullWay}
use Rattle.h5_btree.specs.declared.way.Step.{Step}
use Rattle.h5_btree.proofs.WaySteps.{way_low}
use Rattle.h5_group.specs.Edited.{HasEntryPut, HasGroupMoved, IsEntryFor, IsGroupIn, IsLinkPut, IsNewName, entries_below, heap_text, offsets_of}
use Rattle.h5_group.specs.KeptNodes.{AreNodesKept}
use Rattle.h5_group.specs.LinkEdits.{IsFullFor, link_room}
use Rattle.h5_group.specs.Nodes.Trees.{kind_in}
use Rattle.h5_group.specs.Told.{symbol_nodes_told}
use Rattle.h5_group.specs.Ways.{IsWayOf}
use Rattle.h5_group.proofs.EditSteps.{moved_then}
use Rattle.h5_group.proofs.PutDeep.{full_of}
use Rattle.h5_group.proofs.PutWays.{entries_stay, full_before}

-- ---- the entry

module _ (s t : Space) (table : SymbolTable) (links : List (List ℕ × Target)) (blocks : List Block) (e : Entry) (name : List ℕ) (target : Target)
    (m : HasGroupMoved s t table blocks links (offsets_of e ++ [])) (link_is : link_of (segment_of t.bytes table.heap) e ≡ (name, target)) (new : IsNewName name links) where
  name_is : heap_text t table e.name ≡ name
  name_is = ap (λ (l : List ℕ × Target). l.0) link_is

  new_there : IsNewName (heap_text t table e.name) links
  new_there = subst (λ (n : List ℕ). IsNewName n links) (sym name_is) new

  -- may come in, once its texts stand there
  pub entry_for : IsTrue (is_name name) → IsEntry e → IsEntryFor t table e
  entry_for named known = record {
    links = links;
    spare = [];
    blocks = m.blocks;
    group = m.group;
    new_name = new_there;
    named = subst (λ (n : List ℕ). IsTrue (is_name n)) (sym name_is) named;
    known = known;
  }

  -- and the link has come in with it
  pub link_put : (u : Space) → HasEntryPut t u table e → (links' : List (List ℕ × Target)) × IsLinkPut (name, target) links links' × HasGroupMoved s u table blocks links' []
  link_put u put =
      let r = put links [] m.blocks m.group new_there in (
        r.0,
        subst (λ (l : List ℕ × Target). IsLinkPut l links r.0) link_is r.1,
        moved_then s t u table blocks links r.0 (offsets_of e ++ []) [] m r.2,
      )

-- ---- the way

-- so many steps a way has at most
pub few_steps : (s : Space) (table : SymbolTable) (name : List ℕ) (way : List Step) → IsWayOf s table name way → length way ≤ 16
few_steps s table name way w =
    let low = way_low s (kind_in s.bytes) table.tree w.level way w.owned w.symbol_nodes w.number w.ends in
    omega (arith, low, ap length w.ends.way_is)

module _ (s t : Space) (table : SymbolTable) (links : List (List ℕ × Target)) (spare : List ℕ) (blocks : List Block) (g : IsGroupIn s table links spare blocks) (name : List ℕ)
    (links' : List (List ℕ × Target)) (spare' : List ℕ) (blocks' : List Block) (h : IsGroupIn t table links' spare' blocks')
    (k_same : k_values t.bytes ≡ k_values s.bytes) (kept : AreNodesKept s t table (g.linked).owned)
    (same : (n : ℕ) → Contains (symbol_nodes_told s.bytes table) n → symbols_at t.bytes (leaf_k t.bytes) n ≡ symbols_at s.bytes (leaf_k s.bytes) n)
    (way : List Step) (w : IsWayOf s table name way) where
  -- has room still, where the tree had it before the texts came in
  pub low_still : (IsFullFor s.bytes table name → ⊥) → (step : Step) (above : List Step) → way ≡ step ∷ above → IsFullWay t.bytes (kind_in t.bytes) way
      → length (entries_below t table step) ≡ 2 * leaf_k t.bytes → length way < 16
  low_still roomy step above is full entries = elim (cases_lt (length way) 16) [
    | inl low ↦ low
    | inr past ↦
        let few = few_steps s table name way w in
        absurd (roomy (full_of s table name links spare blocks g way w step above is (omega (arith, few, past))
        (full_before s table links spare blocks g name t links' spare' blocks' h k_same kept way w full)
        (ap length (sym (entries_stay s table links spare blocks g name t links' spare' blocks' h k_same kept way w step above is same))
        ∙ entries ∙ ap (λ (k : ℕ). 2 * k) (same_leaf t.bytes s.bytes k_same))))
  ]

-- ---- the room

module _ (s t : Space) (table : SymbolTable) (occupied : ℕ) (spent : Spends s t (2 * (segment_block s.bytes table.heap).len + occupied + 16) 2)
    (k_same : k_values t.bytes ≡ k_values s.bytes) (steps : ℕ) (few : steps ≤ 16) where
  rows : (steps + 1) * node_length (kind_in t.bytes) ≤ 17 * node_length (kind_in t.bytes)
  rows = mul-le-mul_right (node_length (kind_in t.bytes)) (omega (arith, few))

  pub room_left : link_room s.bytes table occupied ≤ s.room_bytes → symbol_node (leaf_k t.bytes) + (steps + 1) * node_length (kind_in t.bytes) ≤ t.room_bytes
  room_left room = let left = spent.bytes_left in omega (arith, room, left, rows, same_internal t.bytes s.bytes k_same, same_leaf t.bytes s.bytes k_same)

  pub still_small : length s.bytes + link_room s.bytes table occupied ≤ most_bytes
      → length t.bytes + (symbol_node (leaf_k t.bytes) + (steps + 1) * node_length (kind_in t.bytes)) ≤ most_bytes
  still_small room = let grown = spent.grown in omega (arith, room, grown, rows, same_internal t.bytes s.bytes k_same, same_leaf t.bytes s.bytes k_same)

  pub spent_then : (u : Space) → Spends t u (symbol_node (leaf_k t.bytes) + (steps + 1) * node_length (kind_in t.bytes)) (steps + 2) → Spends s u (link_room s.bytes table occupied) 20
  spent_then u then =
      spends_within s u _ _ _ _ (omega (arith, rows, same_internal t.bytes s.bytes k_same, same_leaf t.bytes s.bytes k_same)) (omega (arith, few)) (spends_then s t u _ _ _ _ spent then)
