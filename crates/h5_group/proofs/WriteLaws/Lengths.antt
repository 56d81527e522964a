-- How long a group's links are in the plain layout.
use Rattle.std.proofs.Common.{◌≡◌, ℕ, suc, ◌+◌, ◌*◌, ◌≤◌, List, [], ◌∷◌, ◌++◌, length, refl, sym, ap, ◌∙◌, subst, arith, length-append}
use Rattle.std.specs.Prelude.{sum_by, nat_le, if◌then◌else◌}
use Rattle.std.specs.List.{AllZip}
use Rattle.std.specs.FinMap.{entries, len-entries}
use Rattle.std.proofs.lemmas.List.Sums.{sum_by-cons}
use Rattle.h5_bytes.specs.Numbers.{word}
use Rattle.h5_model.specs.Format.Limits.{highest_level}
use Rattle.h5_model.specs.Format.Nodes.{group_kind, node_length}
use Rattle.h5_model.specs.Format.PlainLength.{rows_of, nodes_over}
use Rattle.h5_model.specs.Format.PlainLength as plain
use Rattle.h5_model.specs.Format.Sizes.{group_node, symbol_node}
use Rattle.h5_model.specs.Tree.Objects.{Link, ToObject, Soft}
use Rattle.h5_btree.specs.Writing.Written.{tree_bytes, root_level}
use Rattle.h5_btree.specs.declared.write.child.Child.{Child}
use Rattle.h5_btree.proofs.WriteLaws.TreeLaws.{tree_length}
use Rattle.h5_heap.specs.Writing.Links.{Leads, ToGroup, ToArray, ToText}
use Rattle.h5_heap.specs.Writing.Written.{placed_links, texts_span, written_segment, heap_bytes}
use Rattle.h5_heap.proofs.WriteLaws.Lengths.{segment_length_is, length-heap_bytes}
use Rattle.h5_model.specs.Format.Superblock.{AreK}
use Rattle.h5_group.specs.Writing.Written.{runs_of, children_of, symbol_nodes, symbols_place, heap_place, links_bytes, tree_level}
use Rattle.h5_group.specs.Writing.Laws.{LinksLength, IsLinkWritten, GroupLength}
use Rattle.h5_group.proofs.WriteLaws.NameTrees.{lasts_fit}
use Rattle.h5_group.proofs.WriteLaws.SymbolNodes.{Placed}
use Rattle.h5_group.proofs.WriteLaws.Runs.{runs_pieces}
use Rattle.h5_group.proofs.WriteLaws.Steps.{nodes_end}
use Rattle.h5_group.proofs.WriteLaws.SymbolPlaces.{nodes_bytes, length-nodes, length-children}

sum_of : (xs ys zs : List ℕ) (a b c : ℕ) → length xs ≡ a → length ys ≡ 32 + b → length zs ≡ c → length (xs ++ (ys ++ zs)) ≡ a + 32 + b + c
sum_of xs ys zs a b c first second third =
    length-append xs (ys ++ zs) ∙ omega (arith, length-append ys zs)

module _ (leaf internal at : ℕ) (links : List (List ℕ × Leads)) where
  abbrev pub the_runs : List (List Placed)
  the_runs = runs_of leaf (placed_links links)

  abbrev pub the_children : List (Child ℕ)
  the_children = children_of leaf (symbols_place leaf internal at links) the_runs

  module _ (k : AreK leaf internal) (low : tree_level leaf internal links ≤ highest_level) where
    -- as many runs as symbol nodes
    pub runs_counted : length the_runs ≡ symbol_nodes leaf links
    runs_counted = nodes_end leaf links k.leaf_low

    pub children_counted : length the_children ≡ symbol_nodes leaf links
    children_counted = length-children leaf (symbols_place leaf internal at links) the_runs ∙ runs_counted

    pub level_low : root_level internal (length the_children) ≤ highest_level
    level_low = subst (λ n. root_level internal n ≤ highest_level) (sym children_counted) low

    pub nodes_long : length (nodes_bytes leaf the_runs) ≡ symbol_nodes leaf links * symbol_node leaf
    nodes_long = length-nodes leaf the_runs (runs_pieces leaf k.leaf_low (placed_links links)) ∙ ap (λ n. n * symbol_node leaf) runs_counted

    pub tree_long : length (tree_bytes (group_kind internal) word 0 at the_children) ≡ nodes_over 64 (2 * internal) (symbol_nodes leaf links) * group_node internal
    tree_long =
        let size : node_length (group_kind internal) ≡ group_node internal = omega arith in
        tree_length ℕ (group_kind internal) word 0 at the_children k.internal_low refl (lasts_fit internal the_children)
        ∙ (λ i. nodes_over 64 (2 * internal) (children_counted i) * size i)

pub links_length_is : LinksLength
unfolding links_bytes
links_length_is leaf internal at links plain =
    sum_of (tree_bytes (group_kind internal) word 0 at (the_children leaf internal at links)) (heap_bytes (heap_place leaf internal at links) links) (nodes_bytes leaf (the_runs leaf internal at links))
    (nodes_over 64 (2 * internal) (symbol_nodes leaf links) * group_node internal) (length (written_segment links)) (symbol_nodes leaf links * symbol_node leaf)
    (tree_long leaf internal at links plain.k plain.low) (length-heap_bytes (heap_place leaf internal at links) links) (nodes_long leaf internal at links plain.k plain.low)

-- ---- against the tree

same_span : (e : List ℕ × Link) (l : List ℕ × Leads) → IsLinkWritten e l → plain.link_span e ≡ texts_span l
same_span (name, ToObject number) (name', ToGroup header tree heap) is = ap (λ n. plain.link_span (n, ToObject number)) is
same_span (name, ToObject number) (name', ToArray header) is = ap (λ n. plain.link_span (n, ToObject number)) is
same_span (name, ToObject number) (name', ToText text) is = absurd is
same_span (name, Soft text) (name', ToGroup header tree heap) is = absurd is
same_span (name, Soft text) (name', ToArray header) is = absurd is
same_span (name, Soft text) (name', ToText text') is = λ i. plain.link_span (is.0 i, Soft (is.1 i))

same_spans : (es : List (List ℕ × Link)) (ls : List (List ℕ × Leads)) → AllZip IsLinkWritten es ls → sum_by plain.link_span es ≡ sum_by texts_span ls
same_spans [] [] all = refl
same_spans [] (l ∷ ls) all = absurd all
same_spans (e ∷ es) [] all = absurd all
same_spans (e ∷ es) (l ∷ ls) all = sum_by-cons plain.link_span e es
    ∙ (λ i. same_span e l all.0 i + same_spans es ls all.1 i) ∙ sym (sum_by-cons texts_span l ls)

same_count : (es : List (List ℕ × Link)) (ls : List (List ℕ × Leads)) → AllZip IsLinkWritten es ls → length es ≡ length ls
same_count [] [] all = refl
same_count [] (l ∷ ls) all = absurd all
same_count (e ∷ es) [] all = absurd all
same_count (e ∷ es) (l ∷ ls) all = ap suc (same_count es ls all.1)

abbrev length_by : ℕ → ℕ → ℕ → ℕ → ℕ
length_by leaf internal count segment =
    nodes_over 64 (2 * internal) (rows_of (2 * leaf) count) * group_node internal + 32 + segment + rows_of (2 * leaf) count * symbol_node leaf

pub group_length : GroupLength
group_length leaf internal group links all =
    let spans : sum_by texts_span links ≡ sum_by plain.link_span (entries group) = sym (same_spans (entries group) links all) in
    let segment : length (written_segment links) ≡ plain.plain_segment_size group
    = segment_length_is links ∙ ap (λ n. if nat_le (8 + n) 72 then 88 else 8 + n) spans in
    λ i. length_by leaf internal (sym (len-entries group ∙ same_count (entries group) links all) i) (segment i)
