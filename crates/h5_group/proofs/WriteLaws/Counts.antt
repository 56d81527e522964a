-- How many links a segment of at most 2147483648 bytes has texts of, and numbers that don't overflow.
use Rattle.std.proofs.Common.{◌≡◌, ℕ, ◌+◌, ◌*◌, ◌^◌, ◌<◌, ◌≤◌, List, [], ◌∷◌, length, map, sym, ap, ◌∙◌, arith}
use Rattle.std.specs.List.{sum_by}
use Rattle.std.proofs.Math.Nat.{mul-le-mul}
use Rattle.std.proofs.lemmas.List.{length-map}
use Rattle.std.proofs.lemmas.List.Sums.{sum_by-cons}
use Rattle.h5_model.specs.Format.Limits.{most_bytes}
use Rattle.h5_model.specs.Format.Nodes.{Kind, group_kind, node_length}
use Rattle.h5_model.specs.Format.PlainLength.{rows_of, nodes_over}
use Rattle.h5_model.specs.Format.Sizes.{group_node, symbol_node}
use Rattle.h5_heap.specs.Writing.Links.{Leads, ToGroup, ToArray, ToText, name_and_leads}
use Rattle.h5_heap.specs.declared.write.link.ObjectPlace.{ObjectPlace}
use Rattle.h5_model.specs.declared.link.Link.{Link}
use Rattle.h5_heap.specs.Writing.Written.{texts_span, written_segment}
use Rattle.h5_heap.proofs.WriteLaws.Lengths.{used-le}
use Rattle.h5_group.specs.Writing.Written.{links_length, symbol_nodes}

pub product_low : (count size : ℕ) → count < 2 ^ 33 → size ≤ 2 ^ 22 → count * size ≤ 2 ^ 55
product_low count size few small =
    let count_low : count ≤ 2 ^ 33 = omega arith in
    let most : count * size ≤ 2 ^ 33 * 2 ^ 22 = mul-le-mul count_low small in
    omega arith

span_some : (l : List ℕ × Leads) → 8 ≤ texts_span l
span_some (name, ToGroup header tree heap) = omega arith
span_some (name, ToArray header) = omega arith
span_some (name, ToText text) = omega arith

spans_some : (links : List (List ℕ × Leads)) → 8 * length links ≤ sum_by texts_span links
spans_some [] = omega arith
spans_some (l ∷ links) = omega (arith, sum_by-cons texts_span l links, span_some l, spans_some links)

-- a link for each eight bytes at most
pub links_few : (links : List (Link ObjectPlace)) → length (written_segment (map name_and_leads links)) ≤ most_bytes → length links < 2 ^ 32
links_few links low =
    let some = spans_some (map name_and_leads links) in
    let used = used-le (map name_and_leads links) in
    omega (arith, length-map links name_and_leads)

-- ---- where the parts lie

-- numbers that were counted are those of these links
pub record AreCounted (leaf internal : ℕ) (links : List (List ℕ × Leads)) (nodes tree whole : ℕ) : Type 0 where
  pub nodes_are : nodes ≡ symbol_nodes leaf links
  pub tree_is : tree ≡ nodes_over 64 (2 * internal) (symbol_nodes leaf links) * group_node internal
  pub whole_is : whole ≡ links_length leaf internal links

pub counted : (leaf internal most room nodes over size tree segment rest : ℕ) (kind : Kind) (links : List (Link ObjectPlace))
    → most ≡ leaf → nodes ≡ rows_of (2 * most) (length links)
    → kind ≡ group_kind internal → over ≡ nodes_over 64 (2 * kind.k) nodes → size ≡ node_length kind → tree ≡ over * size
    → segment ≡ length (written_segment (map name_and_leads links))
    → room ≡ leaf → rest ≡ nodes * (8 + 80 * room)
    → AreCounted leaf internal (map name_and_leads links) nodes tree (tree + 32 + segment + rest)
counted leaf internal most room nodes over size tree segment rest kind links same row kind_is over_is size_is tree_told segment_told room_is rest_told =
    let nodes_are : nodes ≡ symbol_nodes leaf (map name_and_leads links) = row ∙ (λ i. rows_of (2 * same i) (sym (length-map links name_and_leads) i)) in
    let size_told : size ≡ group_node internal = size_is ∙ ap node_length kind_is ∙ omega arith in
    let tree_is : tree ≡ nodes_over 64 (2 * internal) (symbol_nodes leaf (map name_and_leads links)) * group_node internal
    = tree_told ∙ (λ i. over_is i * size_told i) ∙ (λ i. nodes_over 64 (2 * (kind_is i).k) (nodes_are i) * group_node internal) in
    let rest_is : rest ≡ symbol_nodes leaf (map name_and_leads links) * symbol_node leaf = rest_told ∙ (λ i. nodes_are i * (8 + 80 * room_is i)) in
    record { nodes_are = nodes_are; tree_is = tree_is; whole_is = λ i. tree_is i + 32 + segment_told i + rest_is i }
