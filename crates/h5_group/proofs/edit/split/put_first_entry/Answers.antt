use Rattle.std.proofs.Common.{◌≡◌, inl, ℕ, ◌+◌, ◌*◌, ◌<◌, ◌^◌, List, [], ◌∷◌, ◌++◌, refl, sym, ap, ◌∙◌, subst, length, arith}
use Rattle.h5_bytes.specs.Bytes.{number_at}
use Rattle.h5_bytes.specs.Numbers.{word}
use Rattle.h5_model.specs.Format.Links.{offset_in}
use Rattle.h5_model.specs.Format.Nodes.{Kind, node_at}
use Rattle.h5_model.specs.Format.Rows.{Node}
use Rattle.h5_model.specs.Format.Superblock.{leaf_k}
use Rattle.h5_model.specs.Format.Symbols.{Entry}
use Rattle.h5_space.specs.Space.{Space}
use Rattle.h5_snod.specs.Written.{entry_from}
use Rattle.h5_btree.specs.Insertion.{IsChildPut, IsEmptyTree}
use Rattle.h5_btree.specs.Rewritten.{IsRewritten}
use Rattle.h5_group.specs.Edited.{offsets_of}
use Rattle.h5_group.specs.Nodes.Trees.{kind_in}
use Rattle.h5_group.specs.Split.{AreNewSymbols}
use Rattle.h5_group.proofs.FirstEntry.{first_exact_keys, first_put, still_empty}
use Rattle.h5_group.proofs.NameKeys.{offset_is}
use Rattle.h5_group.proofs.NewKeys.{new_low}
use Rattle.h5_group.proofs.edit.split.put_first_entry.Goals as goal
use Rattle.h5_group.proofs.edit.split.put_first_entry.Goals.{After-put_first}

added : (s u : Space) (leaf new : ℕ) (bytes : List ℕ) (e : Entry) → leaf ≡ leaf_k bytes → bytes ≡ s.bytes → AreNewSymbols s u leaf new (e ∷ [])
    → AreNewSymbols s u (leaf_k s.bytes) new (e ∷ [])
added s u leaf new bytes e is same more = subst (λ (l : ℕ). AreNewSymbols s u l new (e ∷ [])) (is ∙ ap leaf_k same) more

shorter : (s u : Space) (leaf new : ℕ) (e : Entry) → AreNewSymbols s u leaf new (e ∷ []) → length s.bytes + (8 + 80 * leaf) < 2 ^ 63 → length u.bytes < 2 ^ 63
shorter s u leaf new e more short = let grown = more.spends.grown in omega (arith, grown, short)

pub put_first-requires-clause-empty : goal.put_first-requires-clause-empty
put_first-requires-clause-empty c =
    let s = c.args.image.now in
    let u = c.new_symbols-new.new.image in
    let e = entry_from c.args.symbol in
    let g = c.requires.entry.group in
    let new = c.new_symbols-new.result in
    let more = added s u c.leaf_k-leaf.result new c.bytes.result.now e c.leaf_k-leaf.ensures c.bytes.ensures c.new_symbols-new.ensures in (
      (g.linked).owned,
      subst (λ (k : Kind). IsEmptyTree c.new_symbols-new.new.image k c.tree.result (g.linked).owned) (sym c.group_kind-kind.ensures)
          (subst (λ (r : ℕ). IsEmptyTree c.new_symbols-new.new.image (kind_in c.args.image.now.bytes) r (g.linked).owned) (sym c.tree.ensures)
          (still_empty s u u c.args.table c.requires.entry.links e c.requires.entry.spare c.requires.entry.blocks g c.requires.empty new more
          (shorter s u (leaf_k s.bytes) new e more c.requires.short))),
    )

-- what put_first has done, of the group's own kind and root
abbrev Puts : Space → Space → ℕ → Kind → ℕ → Type 0
Puts u t new kind root = (owned : List ℕ) → IsEmptyTree u kind root owned → (all : List ℕ) × IsChildPut u t kind root 0 (new ∷ []) owned all

abbrev Writes : Space → Space → List (List ℕ) → ℕ → Kind → ℕ → Type 0
Writes u t keys new kind root = IsRewritten u t kind root (record (node_at u.bytes kind root) { keys = keys; children = new ∷ [] })

abbrev zeros : List ℕ
zeros = 0 ∷ 0 ∷ 0 ∷ 0 ∷ 0 ∷ 0 ∷ 0 ∷ 0 ∷ []

zeros_name : offset_in zeros ≡ 0
unfolding number_at
zeros_name = refl

-- the last key is that of the name
key_is : (c : After-put_first) → c.to_le_bytes-name.result ≡ word c.args.symbol.name
key_is c = c.to_le_bytes-name.ensures

pub returns-clause-put : goal.returns-clause-put
returns-clause-put c links spare blocks group new_name =
    let s = c.args.image.now in
    let u = c.new_symbols-new.new.image in
    let t = c.put_first.new.image in
    let new = c.new_symbols-new.result in
    let kind = kind_in s.bytes in
    let root = c.args.table.tree in
    let e = entry_from c.args.symbol in
    let keys = zeros ∷ c.to_le_bytes-name.result ∷ [] in
    let own = (group.linked).owned in
    let puts : Puts u t new kind root
    = subst (λ (r : ℕ). Puts u t new kind r) c.tree.ensures (subst (λ (k : Kind). Puts u t new k c.tree.result) c.group_kind-kind.ensures c.put_first.ensures.put) in
    let writes : Writes u t keys new kind root
    = subst (λ (r : ℕ). Writes u t keys new kind r) c.tree.ensures (subst (λ (k : Kind). Writes u t keys new k c.tree.result) c.group_kind-kind.ensures c.put_first.ensures.node) in
    let more = added s u c.leaf_k-leaf.result new c.bytes.result.now e c.leaf_k-leaf.ensures c.bytes.ensures c.new_symbols-new.ensures in
    let short = shorter s u (leaf_k s.bytes) new e more c.requires.short in
    let empty = still_empty s u u c.args.table links e spare blocks group c.requires.empty new more short in
    let put = puts own empty in
    first_put s u t c.args.table links e spare blocks group c.requires.empty new more short put.0 put.1 zeros c.to_le_bytes-name.result zeros_name (ap offset_in (key_is (goal.at.returns-clause-put c).After-put_first) ∙ offset_is e.name (new_low s c.args.table links (offsets_of e ++ spare) blocks group e (inl refl) c.requires.entry.named))
    (ap (λ (o : Node). o.keys) writes.says) (ap (λ (o : Node). o.children) writes.says) (let more-grown = writes.spends.grown in omega (arith, more-grown)) c.requires.entry.named c.requires.entry.known

pub returns-clause-exact : goal.returns-clause-exact
returns-clause-exact c =
    let b = (goal.at.returns-clause-exact c).After-put_first in
    let entry = c.requires.entry in
    let links = entry.links in
    let spare = entry.spare in
    let blocks = entry.blocks in
    let group = entry.group in
    let s = c.args.image.now in
    let u = c.new_symbols-new.new.image in
    let t = c.put_first.new.image in
    let new = c.new_symbols-new.result in
    let kind = kind_in s.bytes in
    let root = c.args.table.tree in
    let e = entry_from c.args.symbol in
    let keys = zeros ∷ c.to_le_bytes-name.result ∷ [] in
    let own = (group.linked).owned in
    let puts : Puts u t new kind root
    = subst (λ (r : ℕ). Puts u t new kind r) c.tree.ensures (subst (λ (k : Kind). Puts u t new k c.tree.result) c.group_kind-kind.ensures c.put_first.ensures.put) in
    let writes : Writes u t keys new kind root
    = subst (λ (r : ℕ). Writes u t keys new kind r) c.tree.ensures (subst (λ (k : Kind). Writes u t keys new k c.tree.result) c.group_kind-kind.ensures c.put_first.ensures.node) in
    let more = added s u c.leaf_k-leaf.result new c.bytes.result.now e c.leaf_k-leaf.ensures c.bytes.ensures c.new_symbols-new.ensures in
    let short = shorter s u (leaf_k s.bytes) new e more c.requires.short in
    let empty = still_empty s u u c.args.table links e spare blocks group c.requires.empty new more short in
    let put = puts own empty in
    first_exact_keys s u t c.args.table links e spare blocks group c.requires.empty new more short put.0 put.1 zeros c.to_le_bytes-name.result zeros_name (ap offset_in (key_is b) ∙ offset_is e.name (new_low s c.args.table links (offsets_of e ++ spare) blocks group e (inl refl) c.requires.entry.named))
    (ap (λ (o : Node). o.keys) writes.says) (ap (λ (o : Node). o.children) writes.says) (let more-grown = writes.spends.grown in omega (arith, more-grown)) c.requires.entry.named c.requires.entry.known (key_is b)
