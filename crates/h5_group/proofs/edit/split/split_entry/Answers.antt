use Rattle.std.proofs.Common.{◌≡◌, ◌≢◌, ℕ, ◌+◌, ◌*◌, ◌^◌, ◌<◌, ◌≤◌, List, [], ◌∷◌, ◌++◌, length, get_or, take, sym, ap, subst, ◌∙◌, arith, mul-le-mul_right}
use Rattle.std.specs.List.{AllByRecursion, insert}
use Rattle.std.proofs.lemmas.List.{length-map}
use Rattle.h5_bytes.specs.Numbers.{word}
use Rattle.h5_bytes.specs.Texts.{text_at}
use Rattle.h5_model.specs.Format.Superblock.{leaf_k}
use Rattle.h5_model.specs.Format.Heap.{segment_of}
use Rattle.h5_model.specs.Format.Nodes.{Kind, node_at, node_length}
use Rattle.h5_model.specs.Format.Symbols.{Entry, IsSymbolNode, symbol_block, symbol_bytes, symbols_at}
use Rattle.h5_space.specs.Space.{Space}
use Rattle.h5_space.specs.Whole.{IsApart}
use Rattle.h5_btree.specs.Held.{AreHeldKeys}
use Rattle.h5_btree.specs.Insertion.{IsChildPut, IsFullWay, IsPutAlong, KeepsEntries, Owns}
use Rattle.h5_btree.specs.Removal.{EndsInTree, EndsSomewhere}
use Rattle.h5_btree.specs.declared.way.Step.{Step}
use Rattle.h5_btree.proofs.WaySteps.{way_low}
use Rattle.h5_snod.specs.Written.{entry_from}
use Rattle.h5_group.specs.Edited.{offsets_of}
use Rattle.h5_group.specs.Nodes.Trees.{kind_in}
use Rattle.h5_group.specs.Split.{IsCutInTwo, follows_in}
use Rattle.h5_group.proofs.EntryKept.{symbols_stand}
use Rattle.h5_group.proofs.SplitCalls.{ends_behind, full_before, heap_behind, node_apart, segment_behind}
use Rattle.h5_group.proofs.SplitEntry.{split_all, split_all_exact}
use Rattle.h5_group.proofs.edit.split.split_entry.Goals as goal
use Rattle.h5_group.proofs.edit.split.split_entry.Goals.{After-node_at_end-node, After-cut-new}

-- ---- the symbol node at the end of the way

leaf_is : (c : After-node_at_end-node) → leaf_k c.args.image.now.bytes ≡ c.leaf_k-leaf.result
leaf_is c = sym (c.leaf_k-leaf.ensures ∙ ap leaf_k c.bytes.ensures)

full : (c : After-node_at_end-node) → length (symbols_at c.args.image.now.bytes (leaf_k c.args.image.now.bytes) c.node_at_end-node.result) ≡ 2 * leaf_k c.args.image.now.bytes
full c =
    let w = c.requires.way in
    subst (λ (n : ℕ). length (symbols_at c.args.image.now.bytes (leaf_k c.args.image.now.bytes) n) ≡ 2 * leaf_k c.args.image.now.bytes)
    (sym (c.node_at_end-node.ensures.node w.ends.step w.ends.above w.ends.way_is)) (c.requires.full w.ends.step w.ends.above w.ends.way_is)

-- ---- the cut

pub cut-new-requires-clause-inside : goal.cut-new-requires-clause-inside
cut-new-requires-clause-inside c =
    let e = c.requires.entry in
    let b = (goal.at.cut-new-requires-clause-inside c).After-node_at_end-node in
    subst (λ (l : ℕ). c.node_at_end-node.result + (8 + 80 * l) ≤ length c.args.image.now.bytes) (leaf_is b)
    (symbols_stand c.args.image.now c.args.table e.links (offsets_of (entry_from c.args.symbol) ++ e.spare) e.blocks e.group c.node_at_end-node.result c.node_at_end-node.ensures.one).inside

pub cut-new-requires-clause-form : goal.cut-new-requires-clause-form
cut-new-requires-clause-form c =
    let e = c.requires.entry in
    let b = (goal.at.cut-new-requires-clause-form c).After-node_at_end-node in
    subst (λ (l : ℕ). IsSymbolNode l (symbol_bytes c.args.image.now.bytes l c.node_at_end-node.result)) (leaf_is b)
    (symbols_stand c.args.image.now c.args.table e.links (offsets_of (entry_from c.args.symbol) ++ e.spare) e.blocks e.group c.node_at_end-node.result c.node_at_end-node.ensures.one).formed

pub cut-new-requires-clause-full : goal.cut-new-requires-clause-full
cut-new-requires-clause-full c =
    let b = (goal.at.cut-new-requires-clause-full c).After-node_at_end-node in
    subst (λ (l : ℕ). length (symbols_at c.args.image.now.bytes l c.node_at_end-node.result) ≡ 2 * l) (leaf_is b) (full b)

pub cut-new-requires-clause-apart : goal.cut-new-requires-clause-apart
cut-new-requires-clause-apart c =
    let e = c.requires.entry in
    let w = c.requires.way in
    let b = (goal.at.cut-new-requires-clause-apart c).After-node_at_end-node in
    subst (λ (l : ℕ). IsApart (symbol_block l c.node_at_end-node.result ∷ []) c.args.image.now.free (length c.args.image.now.bytes)) (leaf_is b)
    (node_apart c.args.image.now c.args.table e.links (offsets_of (entry_from c.args.symbol) ++ e.spare) e.blocks e.group w.level c.args.way.now w.owned w.symbol_nodes w.number w.ends
    c.node_at_end-node.result c.node_at_end-node.ensures.node)

pub cut-new-requires-clause-place : goal.cut-new-requires-clause-place
cut-new-requires-clause-place c =
    let b = (goal.at.cut-new-requires-clause-place c).After-node_at_end-node in
    let inside = c.name_place-place.ensures.inside in
    let count = length-map (symbols_at c.args.image.now.bytes (leaf_k c.args.image.now.bytes) c.node_at_end-node.result)
    (λ (o : Entry). text_at (segment_of c.args.image.now.bytes c.args.table.heap) o.name) in
    omega (arith, inside, count, full b, leaf_is b)

-- ---- after the cut

cut_is : (b : After-node_at_end-node) (c : After-cut-new) → c.leaf_k-leaf.result ≡ leaf_k c.args.image.now.bytes
    → IsCutInTwo c.args.image.now c.cut-new.new.image (leaf_k c.args.image.now.bytes) c.node_at_end-node.result c.name_place-place.result (entry_from c.args.symbol) c.cut-new.result
cut_is b c is = subst (λ (l : ℕ). IsCutInTwo c.args.image.now c.cut-new.new.image l c.node_at_end-node.result c.name_place-place.result (entry_from c.args.symbol) c.cut-new.result) is c.cut-new.ensures

shorter : (c : After-cut-new) → c.leaf_k-leaf.result ≡ leaf_k c.args.image.now.bytes → length c.cut-new.new.image.bytes < 2 ^ 64
shorter c is = let grown = c.cut-new.ensures.spends.grown in omega (arith, grown, is, c.requires.short)

ends_there : (b : After-node_at_end-node) (c : After-cut-new) → c.leaf_k-leaf.result ≡ leaf_k c.args.image.now.bytes
    → ((step : Step) (above : List Step) → c.args.way.now ≡ step ∷ above
    → c.node_at_end-node.result ≡ get_or (node_at c.args.image.now.bytes (kind_in c.args.image.now.bytes) step.node).children step.place 0)
    → EndsSomewhere c.cut-new.new.image c.group_kind-kind.result c.args.way.now
ends_there b c is end =
    let e = c.requires.entry in
    let w = c.requires.way in
    subst (λ (k : Kind). EndsSomewhere c.cut-new.new.image k c.args.way.now) (sym c.group_kind-kind.ensures)
    (ends_behind c.args.image.now c.args.table e.links (offsets_of (entry_from c.args.symbol) ++ e.spare) e.blocks e.group w.level c.args.way.now w.owned w.symbol_nodes w.number w.ends
    c.node_at_end-node.result end c.cut-new.new.image c.cut-new.result _ _ (cut_is b c is) (shorter c is))

pub keys_behind-keys-requires-clause-ends : goal.keys_behind-keys-requires-clause-ends
keys_behind-keys-requires-clause-ends c =
    let b = (goal.at.keys_behind-keys-requires-clause-ends c).After-node_at_end-node in
    ends_there b c (sym (leaf_is b)) c.node_at_end-node.ensures.node

pub keys_behind-keys-requires-clause-inside : goal.keys_behind-keys-requires-clause-inside
keys_behind-keys-requires-clause-inside c =
    let e = c.requires.entry in
    let b = (goal.at.keys_behind-keys-requires-clause-inside c).After-node_at_end-node in
    let there = (symbols_stand c.args.image.now c.args.table e.links (offsets_of (entry_from c.args.symbol) ++ e.spare) e.blocks e.group c.node_at_end-node.result c.node_at_end-node.ensures.one).inside in
    let grown = c.cut-new.ensures.moves.grown in
    omega (arith, there, grown, leaf_is b)

pub keys_behind-keys-requires-clause-heap : goal.keys_behind-keys-requires-clause-heap
keys_behind-keys-requires-clause-heap c =
    let e = c.requires.entry in
    let w = c.requires.way in
    let b = (goal.at.keys_behind-keys-requires-clause-heap c).After-node_at_end-node in
    heap_behind c.args.image.now c.args.table e.links (offsets_of (entry_from c.args.symbol) ++ e.spare) e.blocks e.group w.level c.args.way.now w.owned w.symbol_nodes w.number w.ends
    c.node_at_end-node.result c.node_at_end-node.ensures.node c.cut-new.new.image c.cut-new.result _ _ (cut_is b c (sym (leaf_is b))) (shorter c (sym (leaf_is b)))

pub put_at-requires-clause-ends : goal.put_at-requires-clause-ends
put_at-requires-clause-ends c =
    let b = (goal.at.put_at-requires-clause-ends c).After-node_at_end-node in
    let d = (goal.at.put_at-requires-clause-ends c).After-cut-new in
    ends_there b d (sym (leaf_is b)) c.node_at_end-node.ensures.node

pub put_at-requires-clause-keys : goal.put_at-requires-clause-keys
put_at-requires-clause-keys c =
    let w = c.requires.way in
    let low = way_low c.args.image.now (kind_in c.args.image.now.bytes) c.args.table.tree w.level c.args.way.now w.owned w.symbol_nodes w.number w.ends in
    let few : length c.args.way.now ≤ 16 = omega (arith, low, ap length w.ends.way_is) in
    let eight : c.group_kind-kind.result.key_length ≡ 8 = ap (λ (k : Kind). k.key_length) c.group_kind-kind.ensures in
    omega (arith, mul-le-mul_right c.group_kind-kind.result.key_length few, eight, c.keys_behind-keys.type_inv)

pub put_at-requires-clause-low : goal.put_at-requires-clause-low
put_at-requires-clause-low c all =
    let e = c.requires.entry in
    let w = c.requires.way in
    let b = (goal.at.put_at-requires-clause-low c).After-node_at_end-node in
    let d = (goal.at.put_at-requires-clause-low c).After-cut-new in
    c.requires.low (full_before c.args.image.now c.args.table e.links (offsets_of (entry_from c.args.symbol) ++ e.spare) e.blocks e.group w.level c.args.way.now w.owned w.symbol_nodes w.number w.ends
    c.node_at_end-node.result c.node_at_end-node.ensures.node c.cut-new.new.image c.cut-new.result _ _ (cut_is b d (sym (leaf_is b))) (shorter d (sym (leaf_is b)))
    (subst (λ (k : Kind). IsFullWay c.cut-new.new.image.bytes k c.args.way.now) c.group_kind-kind.ensures all))

-- ---- what the call has done, of the group's own kind

module _ (u t : Space) (way : List Step) (keys : List ℕ) (new : ℕ) where
  abbrev Puts : Kind → Type 0
  Puts kind = (root level k : ℕ) (owned list : List ℕ) → EndsInTree u kind root level way owned list k
      → (height : ℕ) × (all : List ℕ) × IsChildPut u t kind root height (insert list (k + 1) new) owned all

  abbrev Alongs : Kind → Type 0
  Alongs kind = (step : Step) (above : List Step) → way ≡ step ∷ above → IsPutAlong u.bytes t.bytes kind step.node above (step.place + 1) keys new

  abbrev Others : Kind → Type 0
  Others kind = (root level k : ℕ) (owned list : List ℕ) → EndsInTree u kind root level way owned list k
      → (n : ℕ) → Owns owned n → AllByRecursion (λ (step : Step). n ≢ step.node) way → KeepsEntries u.bytes t.bytes kind n

  abbrev Helds : List ℕ → Kind → Type 0
  Helds segment kind = (step : Step) (above : List Step) → way ≡ step ∷ above → AreHeldKeys u.bytes kind (follows_in segment) step.node above (step.place + 1) keys

pub returns-clause-put : goal.returns-clause-put
returns-clause-put c =
    let e = c.requires.entry in
    let w = c.requires.way in
    let b = (goal.at.returns-clause-put c).After-node_at_end-node in
    let d = (goal.at.returns-clause-put c).After-cut-new in
    let s = c.args.image.now in
    let u = c.cut-new.new.image in
    let t = c.put_at.new.image in
    let keys = c.keys_behind-keys.result in
    let new = c.cut-new.result in
    let way = c.args.way.now in
    let kind_is = c.group_kind-kind.ensures in
    let segment_is = segment_behind s c.args.table e.links (offsets_of (entry_from c.args.symbol) ++ e.spare) e.blocks e.group w.level way w.owned w.symbol_nodes w.number w.ends
    c.node_at_end-node.result c.node_at_end-node.ensures.node u new _ _ (cut_is b d (sym (leaf_is b))) (shorter d (sym (leaf_is b))) in
    let grown = c.cut-new.ensures.spends.grown in
    let more : length t.bytes ≤ length u.bytes + (length way + 1) * node_length (kind_in s.bytes)
    = subst (λ (k : Kind). length t.bytes ≤ length u.bytes + (length way + 1) * node_length k) kind_is c.put_at.ensures.spends.grown in
    split_all s u t c.args.table (entry_from c.args.symbol) c.name_place-place.result new way w keys
    (subst (Helds u t way keys new (segment_of s.bytes c.args.table.heap)) kind_is
    (subst (λ (g : List ℕ). Helds u t way keys new g c.group_kind-kind.result) segment_is c.keys_behind-keys.ensures.held))
    (subst (Puts u t way keys new) kind_is c.put_at.ensures.put) (subst (Alongs u t way keys new) kind_is c.put_at.ensures.along)
    (subst (Others u t way keys new) kind_is c.put_at.ensures.others)
    (shorter d (sym (leaf_is b))) (omega (arith, grown, more, leaf_is b, c.requires.short)) e.named e.known c.node_at_end-node.result c.node_at_end-node.ensures.node (
      c.name_place-place.ensures,
      full b,
      cut_is b d (sym (leaf_is b)),
      subst (λ (l : ℕ). (front : List Entry) (last : Entry) → symbols_at u.bytes l c.node_at_end-node.result ≡ front ++ last ∷ [] → take 8 keys ≡ word last.name)
          (sym (leaf_is b)) c.keys_behind-keys.ensures.first,
    )

pub returns-clause-exact : goal.returns-clause-exact
returns-clause-exact c =
    let e = c.requires.entry in
    let w = c.requires.way in
    let b = (goal.at.returns-clause-exact c).After-node_at_end-node in
    let d = (goal.at.returns-clause-exact c).After-cut-new in
    let s = c.args.image.now in
    let u = c.cut-new.new.image in
    let t = c.put_at.new.image in
    let keys = c.keys_behind-keys.result in
    let new = c.cut-new.result in
    let way = c.args.way.now in
    let kind_is = c.group_kind-kind.ensures in
    let segment_is = segment_behind s c.args.table e.links (offsets_of (entry_from c.args.symbol) ++ e.spare) e.blocks e.group w.level way w.owned w.symbol_nodes w.number w.ends
    c.node_at_end-node.result c.node_at_end-node.ensures.node u new _ _ (cut_is b d (sym (leaf_is b))) (shorter d (sym (leaf_is b))) in
    let grown = c.cut-new.ensures.spends.grown in
    let more : length t.bytes ≤ length u.bytes + (length way + 1) * node_length (kind_in s.bytes)
    = subst (λ (k : Kind). length t.bytes ≤ length u.bytes + (length way + 1) * node_length k) kind_is c.put_at.ensures.spends.grown in
    split_all_exact s u t c.args.table (entry_from c.args.symbol) c.name_place-place.result new way w keys
    (subst (Helds u t way keys new (segment_of s.bytes c.args.table.heap)) kind_is
    (subst (λ (g : List ℕ). Helds u t way keys new g c.group_kind-kind.result) segment_is c.keys_behind-keys.ensures.held))
    (subst (Puts u t way keys new) kind_is c.put_at.ensures.put) (subst (Alongs u t way keys new) kind_is c.put_at.ensures.along)
    (subst (Others u t way keys new) kind_is c.put_at.ensures.others)
    (shorter d (sym (leaf_is b))) (omega (arith, grown, more, leaf_is b, c.requires.short)) e.named e.known c.node_at_end-node.result c.node_at_end-node.ensures.node (
      c.name_place-place.ensures,
      full b,
      cut_is b d (sym (leaf_is b)),
      subst (λ (l : ℕ). (front : List Entry) (last : Entry) → symbols_at u.bytes l c.node_at_end-node.result ≡ front ++ last ∷ [] → take 8 keys ≡ word last.name)
          (sym (leaf_is b)) c.keys_behind-keys.ensures.first,
    ) e.links e.spare e.blocks e.group
