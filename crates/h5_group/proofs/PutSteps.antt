-- An entry that comes in at the end of a way: after the keys along it gave way, and after its texts came in.
use Rattle.std.proofs.Common.{◌≡◌, ◌↔◌, ℕ, ◌+◌, ◌*◌, ◌<◌, ◌≤◌, ◌==◌, if◌then◌else◌, Bool, true, false, IsTrue, List, [], ◌∷◌, ◌++◌, length, inl, inr, sym, ap, ◌∙◌, subst, arith}
use Rattle.std.specs.List.{Contains}
use Rattle.std.proofs.lemmas.Bool.{cases_lt}
use Rattle.h5_bytes.specs.Bytes.{part}
use Rattle.h5_bytes.specs.Texts.{text_at}
use Rattle.h5_bytes.specs.declared.Block.{Block}
use Rattle.h5_bytes.proofs.TableLaws.{length-table}
use Rattle.h5_model.specs.Format.Addresses.{SymbolTable}
use Rattle.h5_model.specs.Format.Superblock.{leaf_k}
use Rattle.h5_model.specs.Format.Heap.{segment_of}
use Rattle.h5_model.specs.Format.Symbols.{Entry, Target, entry_of, link_of, symbol_bytes, symbols_in}
use Rattle.h5_model.specs.Tree.Paths.{is_name}
use Rattle.h5_space.specs.Space.{Space}
use Rattle.h5_heap.proofs.TakenLaws.{contains_head}
use Rattle.h5_btree.specs.Removal.{EndsInTree}
use Rattle.h5_btree.specs.declared.way.Step.{Step}
use Rattle.h5_group.specs.Edited.{HasEntryPut, HasGroupMoved, IsEntryFor, IsGroupIn, IsLinkPut, IsNewName, entries_below, node_below, offsets_of}
use Rattle.h5_group.specs.Nodes.Trees.{kind_in}
use Rattle.h5_group.proofs.DropCalls.{end_told}
use Rattle.h5_group.proofs.EditSteps.{moved_then}
use Rattle.h5_group.proofs.Standing.{node_formed}
use Rattle.h5_group.proofs.Ways.{group_read}

-- the name is the first of the texts that an entry names
pub name_first : (e : Entry) (spare : List ℕ) → Contains (offsets_of e ++ spare) e.name
name_first e spare = contains_head e.name ((if e.cache == 2 then e.text ∷ [] else []) ++ spare)

-- ---- after keys gave way, for a text that no link names

module _ (s t : Space) (table : SymbolTable) (e : Entry)
    (stays : (links : List (List ℕ × Target)) (spare : List ℕ) (blocks : List Block) → IsGroupIn s table links spare blocks → Contains spare e.name
    → HasGroupMoved s t table blocks links spare)
    (segment : segment_of t.bytes table.heap ≡ segment_of s.bytes table.heap) where
  pub stays_for : (f : IsEntryFor s table e) → HasGroupMoved s t table f.blocks f.links (offsets_of e ++ f.spare)
  stays_for f = stays f.links (offsets_of e ++ f.spare) f.blocks f.group (name_first e f.spare)

  -- the entry may come in still
  pub entry_for_then : IsEntryFor s table e → IsEntryFor t table e
  entry_for_then f = record {
    links = f.links;
    spare = f.spare;
    blocks = (stays_for f).blocks;
    group = (stays_for f).group;
    new_name = subst (λ (bytes : List ℕ). IsNewName (text_at bytes e.name) f.links) (sym segment) f.new_name;
    named = subst (λ (bytes : List ℕ). IsTrue (is_name (text_at bytes e.name))) (sym segment) f.named;
    known = f.known;
  }

  -- and where it does, it has come in from before
  pub put_after : (u : Space) → HasEntryPut t u table e → HasEntryPut s u table e
  put_after u put links spare blocks g new =
      let m = stays links (offsets_of e ++ spare) blocks g (name_first e spare) in
      let r = put links spare m.blocks m.group (subst (λ (bytes : List ℕ). IsNewName (text_at bytes e.name) links) (sym segment) new) in (
        r.0,
        subst (λ (bytes : List ℕ). IsLinkPut (link_of bytes e) links r.0) segment r.1,
        moved_then s t u table blocks links r.0 (offsets_of e ++ spare) spare m r.2,
      )

-- ---- the symbol node at the end of a way

module _ (s : Space) (table : SymbolTable) (links : List (List ℕ × Target)) (spare : List ℕ) (blocks : List Block) (g : IsGroupIn s table links spare blocks)
    (level : ℕ) (way : List Step) (owned list : List ℕ) (k : ℕ) (e : EndsInTree s (kind_in s.bytes) table.tree level way owned list k)
    (step : Step) (above : List Step) (is : way ≡ step ∷ above) where
  -- has no more entries than there is room for
  pub below_roomy : length (entries_below s table step) ≤ 2 * leaf_k s.bytes
  below_roomy =
      let node = node_below s table step in
      let bytes = symbol_bytes s.bytes (leaf_k s.bytes) node in
      let told = end_told s table links spare blocks g level way owned list k e node
      (λ other rest also.
      let both : step ∷ above ≡ other ∷ rest = sym is ∙ also in
      let one : step ≡ other = cc in
      ap (node_below s table) one) in
      let formed = node_formed s.bytes table (group_read s table links spare blocks g) node told in
      let long = length-table (λ i. entry_of (part (8 + 40 * i) 40 bytes)) (λ i. entry_of (part (8 + 40 * i) 40 bytes)) (symbols_in bytes) 0 in
      omega (arith, long, formed.roomy)

  pub below_room : (full : Bool) → IsTrue full ↔ (length (entries_below s table step) ≡ 2 * leaf_k s.bytes) → full ≡ false
      → length (entries_below s table step) < 2 * leaf_k s.bytes
  below_room full tells is_no =
      let most = below_roomy in
      elim (cases_lt (length (entries_below s table step)) (2 * leaf_k s.bytes)) [
        | inl low ↦ low
        | inr past ↦ let bad : true ≡ false = sym (tells.1 (omega (arith, most, past))) ∙ is_no in absurd (cc)
      ]
