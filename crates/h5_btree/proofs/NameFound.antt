-- The symbol node that a search for a name leads to is the one that has it, if the group has it.
use Rattle.std.proofs.Common.{◌≡◌, ℕ, ◌≤◌, Bool, List, [], ◌∷◌, length, get_or, sym, ap, subst, ◌∙◌, arith}
use Rattle.std.specs.Ordering.{nat_cmp, is_lt}
use Rattle.std.specs.Cmp.Lexicographic.{slice_cmp}
use Rattle.std.specs.List.{AllByRecursion, Contains}
use Rattle.std.proofs.lemmas.List.{length-map, get_or-map}
use Rattle.h5_bytes.specs.Texts.{text_at}
use Rattle.h5_bytes.proofs.BlockLaws.{all_so}
use Rattle.h5_model.specs.Format.Rows.{Node}
use Rattle.h5_model.specs.Format.Nodes.{Kind, HasTree, node_at}
use Rattle.h5_model.specs.Format.Links.{Symbols, IsOrdered, names_in, offset_in}
use Rattle.h5_model.proofs.OneTree.{children_are}
use Rattle.h5_laws.specs.Ladders.{IsOrderedBy, items_under}
use Rattle.h5_laws.specs.NameLadders.{key_text, name_lists, name_sides}
use Rattle.h5_laws.proofs.Lists.{In, in_contains, contains_in}
use Rattle.h5_laws.proofs.NameLadders.{by_names, name_order, names_under}
use Rattle.h5_btree.specs.Descent.{LeadsTo}
use Rattle.h5_btree.proofs.PlaceFound.{place_found}
use Rattle.h5_btree.proofs.WayLaws.{ends_low}

-- whether a name stands behind a key
abbrev pub name_behind : List ℕ → List ℕ → List ℕ → Bool
name_behind segment name key = is_lt (slice_cmp nat_cmp (text_at segment (offset_in key)) name)

pub name_found : (image : List ℕ) (kind : Kind) (root level : ℕ) (owned symbol_nodes : List ℕ) (S : Symbols) (segment name : List ℕ) (leaf : ℕ)
    → HasTree image kind root level owned symbol_nodes
    → AllByRecursion (λ at. IsOrdered (node_at image kind) S segment (node_at image kind at)) owned
    → LeadsTo (node_at image kind) (name_behind segment name) (node_at image kind root).level root leaf
    → Contains (names_in S segment symbol_nodes) name → Contains (names_in S segment (leaf ∷ [])) name
name_found image kind root level owned symbol_nodes S segment name leaf t ordered (node, i, ends, leaf_is) has =
    let V = node_at image kind in
    let bottom = name_lists S segment in
    let few : (n : Node) → length (bottom n) ≤ length n.children = λ n. omega (arith, length-map n.children (λ at. names_in S segment (at ∷ []))) in
    let sides = name_sides (key_text segment) in
    let each = all_so (λ at. IsOrdered V S segment (V at)) (λ at. IsOrderedBy sides V bottom (V at)) owned (λ at o. by_names V S segment (V at) o) ordered in
    let all : names_in S segment symbol_nodes ≡ items_under V bottom level root
    = ap (names_in S segment) (children_are image kind root level owned symbol_nodes t) ∙ sym (names_under V S segment level root) in
    let here = place_found sides (name_order (key_text segment)) bottom few (name_behind segment name) name (λ key. (λ is. is, λ is. is)) image kind root level owned symbol_nodes t each
    node i ends (subst (In name) all (in_contains name (names_in S segment symbol_nodes) has)) in
    let one : get_or (bottom node) i [] ≡ names_in S segment (leaf ∷ [])
    = get_or-map (λ at. names_in S segment (at ∷ [])) node.children i 0 [] (ends_low V (name_behind segment name) (V root).level root node i ends)
    ∙ ap (λ (n : ℕ). names_in S segment (n ∷ [])) (sym leaf_is) in
    contains_in name (names_in S segment (leaf ∷ [])) (subst (In name) one here)
