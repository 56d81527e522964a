-- A group that was read in a walk.
use Rattle.std.proofs.Common.{◌≡◌, ◌⊎◌, inl, inr, ℕ, ◌+◌, ◌-◌, ◌*◌, ◌<◌, ◌≤◌, List, [], ◌∷◌, map, length, refl, sym, subst, Some, arith, Bool, true}
use Rattle.std.specs.Prelude.{◌==◌}
use Rattle.std.specs.List.{find}
use Rattle.h5_bytes.specs.Blocks.{cover, Separate, Inside}
use Rattle.h5_bytes.specs.declared.Block.{Block}
use Rattle.h5_bytes.proofs.BlockLaws.{all_append, all_left, all_right, all_so, cover-append}
use Rattle.h5_model.specs.Format.Limits.{most_names}
use Rattle.h5_model.specs.Format.MessageTypes.{symbol_table_kind}
use Rattle.h5_model.specs.Format.Addresses.{SymbolTable, symbol_table_of}
use Rattle.h5_model.specs.Format.Superblock.{leaf_k}
use Rattle.h5_model.specs.Format.Messages.{Message, HasMessages, count_of}
use Rattle.h5_model.specs.Format.Symbols.{symbol_block}
use Rattle.h5_model.specs.Format.Heap.{heap_blocks}
use Rattle.h5_model.specs.Format.Nodes.{tree_blocks}
use Rattle.h5_model.specs.Format.Reached.{Named, naming_of, ObjectHeader, SymbolNode, Reached}
use Rattle.h5_model.specs.declared.open_fault.Cause.{Cause}
use Rattle.h5_model.specs.declared.open_fault.Cause.TheVariants.{NoMemory, MissingMessage, TooDeep}
use Rattle.h5_attr.specs.Attributes.{HasNamesOnce}
use Rattle.h5_header.specs.Listed.{Listed, messages_in}
use Rattle.h5_laws.proofs.Lists.{In, in_all, in_contains}
use Rattle.h5_header.specs.Walk.Met.{IsHeaderMet, with_header}
use Rattle.h5_header.proofs.WalkLaws.ListLaws.{no_root_refused}
use Rattle.h5_group.specs.Nodes.Trees.{kind_in, group_nodes_blocks}
use Rattle.h5_group.specs.Nodes.Walk.{AreSymbolsReached}
use Rattle.h5_group.specs.Exact.{HasExactKeys}
use Rattle.h5_group.specs.Links.{IsGroupRead}
use Rattle.h5_group.specs.Told.{nodes_told, symbol_nodes_told, links_told, blocks_told}
use Rattle.h5_group.specs.Walk.{IsGroupMet, IsGroupFollowed}
use Rattle.h5_open.specs.declared.opened.object.OpenedObject.{OpenedObject}
use Rattle.h5_open.specs.declared.opened.object.OpenedContent.TheVariants as content
use Rattle.h5_open.specs.Opened.Judged.{IsGroupList, IsKindBreach}
use Rattle.h5_open.specs.Opened.Refused.{IsOpenRefusedAt}
use Rattle.h5_open.specs.Read.{IsHeaderRead, IsHeaderDone, IsObjectRead, IsObjectFollowed, IsOwn, IsDeepAt}
use Rattle.h5_open.proofs.HeaderFields.{only_inner}
use Rattle.h5_open.proofs.TableLaws.{found_table, table_numbers, tree_met, heap_met}
use Rattle.h5_open.proofs.ContentLaws.{content_followed, message_free}
use Rattle.h5_open.proofs.ArrayLaws.{list_breach}
use Rattle.h5_open.proofs.PlaceLaws.{links_wait}
use Rattle.h5_header.proofs.WalkLaws.MetHeader.{met_walked}

abbrev pub group_object : Listed → SymbolTable → Bool → OpenedObject
group_object m table tidy = record { messages = m; content = content.Group table; tidy = tidy }

pub group_object_read : (image : List ℕ) (held now after : List Block) (m : Listed) (table : SymbolTable) (tidy : Bool) (depth : ℕ) → (tidy ≡ true → HasExactKeys image table) → IsHeaderRead image m → IsGroupList (messages_in image m.list) table
    → HasNamesOnce (messages_in image m.list) → IsGroupRead image table → (1 ≤ length (links_told image table) → depth + 1 ≤ most_names)
    → ((p : ℕ) → cover p now ≡ cover p held + cover p m.blocks) → ((p : ℕ) → cover p after ≡ cover p now + cover p (blocks_told image table))
    → IsObjectRead image held after m.header depth (group_object m table tidy)
group_object_read image held now after m table tidy depth exact read list names is shallow claimed stored = record {
  kept = record {
    header = record { has = read.has; inside = read.inside; within = read.within; names = names; attributes = list.attributes };
    known = read.known;
    content = (list.kinds, list.chosen, is);
    tidy = exact;
  };
  header_is = refl;
  top = λ e. tt;
  shallow = shallow;
  inside = all_append (λ (b : Block). b.at + b.len ≤ length image) m.blocks (blocks_told image table) read.inside is.inside;
  claimed = λ p. omega (arith, claimed p, stored p, cover-append p m.blocks (blocks_told image table));
}

-- the messages are not those of an object that may stand there, or not those of a group
module _ (image : List ℕ) (m : Listed) (has : HasMessages image m.header (messages_in image m.list) m.blocks) (inside : Inside (length image) m.blocks)
    (held : List Block) (followed : List Named) (field depth : ℕ) (met : IsHeaderMet image held followed field m.header depth) where
  abbrev all : List Message
  all = messages_in image m.list

  no_root : depth ≡ 0 → count_of symbol_table_kind all ≡ 0 → IsOpenRefusedAt image MissingMessage m.header
  no_root top none = no_root_refused image m.header all m.blocks has inside field (subst (λ (d : ℕ). Reached image (naming_of field ObjectHeader m.header d)) top (met.met).reached) none

  kind_breach : (cause : Cause) → IsKindBreach image m.header depth all cause → IsOpenRefusedAt image cause m.header
  kind_breach cause (inl (top, is, none)) = subst (λ (c : Cause). IsOpenRefusedAt image c m.header) (sym is) (no_root top none)
  kind_breach cause (inr breach) = list_breach image m.header all m.blocks has inside held followed field depth met cause breach

  pub kind_fault : (cause : Cause) (address : ℕ) → address ≡ m.header → IsKindBreach image m.header depth all cause → IsOpenRefusedAt image cause address
  kind_fault cause address at h = subst (IsOpenRefusedAt image cause) (sym at) (kind_breach cause h)

-- a symbol node of the group lies in the image
symbols_inside : (image : List ℕ) (nodes : List ℕ) → Inside (length image) (map (symbol_block (leaf_k image)) nodes) → (node : ℕ) → In node nodes → node + (8 + 80 * leaf_k image) ≤ length image
symbols_inside image [] inside node at = absurd at
symbols_inside image (x ∷ xs) inside node (inl e) = subst (λ (n : ℕ). n + (8 + 80 * leaf_k image) ≤ length image) e inside.0
symbols_inside image (x ∷ xs) inside node (inr at) = symbols_inside image xs inside.1 node at

symbol_there : (image : List ℕ) (table : SymbolTable) → IsGroupRead image table → (node : ℕ) → In node (symbol_nodes_told image table) → node + (8 + 80 * leaf_k image) ≤ length image
symbol_there image table read node at =
    let nodes = all_left (λ (b : Block). b.at + b.len ≤ length image) (group_nodes_blocks image (nodes_told image table) (symbol_nodes_told image table)) (heap_blocks image table.heap) read.inside in
    symbols_inside image (symbol_nodes_told image table)
    (all_right (λ (b : Block). b.at + b.len ≤ length image) (tree_blocks (kind_in image) (nodes_told image table)) (map (symbol_block (leaf_k image)) (symbol_nodes_told image table)) nodes) node at

-- ---- the group is met

module _ (image : List ℕ) (held now : List Block) (followed : List Named) (field depth : ℕ) (m : Listed) (done : IsHeaderDone image held now followed field depth m) (separate : Separate now)
    (table : SymbolTable) (list : IsGroupList (messages_in image m.list) table) where
  abbrev ms : List Message
  ms = messages_in image m.list

  abbrev has : HasMessages image m.header ms m.blocks
  has = (done.read).has

  pub found : (x : Message) × (find (λ (y : Message). y.kind == symbol_table_kind) ms ≡ Some x) × (symbol_table_of x.body ≡ Some table)
  found = found_table ms table list.chosen

  abbrev pub first : ℕ
  first = found.0.at

  long : 16 ≤ length found.0.body
  long = (table_numbers found.0.body table found.2).0

  pub group_met : IsGroupMet image now (with_header field m.header depth ms followed) first (first + 8) depth table
  group_met = record {
    walked = met_walked image held followed field m.header depth done.met ms m.blocks has now done.claimed;
    tree = tree_met image m.header ms m.blocks has (done.read).inside held followed field depth done.met now done.claimed separate table found.0 found.1 found.2;
    heap = heap_met image m.header ms m.blocks has (done.read).inside held followed field depth done.met now done.claimed separate table found.0 found.1 found.2;
    apart = λ e. omega (arith, e);
  }

  free : (f : ℕ) → first ≤ f → f < first + 16 → cover (f - 8) held ≡ 0
  free f from to = message_free image m.header ms m.blocks has held now done.claimed separate 17 found.0 found.1 f from (omega (arith, to, long))

  own_of : (y : Named) → (y.field ≡ first) ⊎ ((y.field ≡ first + 8) ⊎ (cover (y.field - 8) now ≡ 0)) → IsOwn held field y
  own_of y (inl e) = inr (subst (λ (f : ℕ). cover (f - 8) held ≡ 0) (sym e) (free first (omega arith) (omega arith)))
  own_of y (inr (inl e)) = inr (subst (λ (f : ℕ). cover (f - 8) held ≡ 0) (sym e) (free (first + 8) (omega arith) (omega arith)))
  own_of y (inr (inr none)) = inr (omega (arith, none, done.claimed (y.field - 8)))

  module _ (after : List Block) (gone : IsGroupFollowed image now after (with_header field m.header depth ms followed) first (first + 8) depth table) where
    -- its links wait
    pub group_object_followed : (tidy : Bool) → Separate after → ((p : ℕ) → cover p after ≡ cover p now + cover p (blocks_told image table)) → IsObjectFollowed image held after followed field depth (group_object m table tidy)
    group_object_followed tidy once stored =
        let waits = links_wait image table held now after (λ p. omega (arith, done.claimed p)) (with_header field m.header depth ms followed) first (first + 8) depth gone once stored in
        content_followed image held now followed field depth m done separate after (content.Group table) tidy gone.new gone.walked
        (all_so (λ (y : Named). (y.field ≡ first) ⊎ ((y.field ≡ first + 8) ⊎ (cover (y.field - 8) now ≡ 0))) (IsOwn held field) gone.new own_of gone.stands)
        (only_inner m.header gone.new gone.inner) waits.0 waits.1

    -- a link would stand too deep
    deep_refused : IsGroupRead image table → (address : ℕ) → IsDeepAt image table depth address → IsOpenRefusedAt image TooDeep address
    deep_refused read address is =
        let at : In address (symbol_nodes_told image table) = in_contains address (symbol_nodes_told image table) is.node_of in
        let reached = in_all (AreSymbolsReached image table.tree table.heap depth) address (symbol_nodes_told image table) gone.symbols_reached at in
        (naming_of reached.0 (SymbolNode table.tree table.heap) address depth, reached.1, refl, (symbol_there image table read address at, (is.deep, is.some)))

    -- or memory was short
    pub depth_fault : IsGroupRead image table → (cause : Cause) (address : ℕ) → (cause ≡ NoMemory) ⊎ ((cause ≡ TooDeep) × IsDeepAt image table depth address)
        → IsOpenRefusedAt image cause address
    depth_fault read cause address (inl e) = rw e tt
    depth_fault read cause address (inr (e, is)) = rw e (deep_refused read address is)
