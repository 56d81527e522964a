-- Rows of a tree, read at each address; and the fields that name its nodes.
use Rattle.std.proofs.Common.{◌≡◌, inl, inr, ℕ, zero, suc, ◌+◌, ◌<◌, List, [], ◌∷◌, ◌++◌, map, refl, sym, ap, ap₂, ◌∙◌, subst, arith}
use Rattle.std.proofs.lemmas.List.{map-append}
use Rattle.std.proofs.lemmas.Simd.{map-map}
use Rattle.std.specs.List.{flat_map, range_with_len}
use Rattle.h5_bytes.specs.Bytes.{undefined_address}
use Rattle.h5_bytes.specs.Tables.{table}
use Rattle.h5_model.specs.Format.Rows.{Reading, IsRow, AreRows, next_row, row_below, nodes}
use Rattle.h5_model.specs.Format.Nodes.{Kind, node_at, node_of, node_bytes, entries_in, key_place, child_in}
use Rattle.h5_laws.proofs.Lists.{In, in_left, in_right, in_either, in_flat, in_map, in_table}

pub row_is : (V : Reading) (level : ℕ) (row : List ℕ) → AreRows V level row → IsRow V level undefined_address row
row_is V zero row are = are
row_is V (suc level) row are = are.0

-- the rows from a row below on
pub rows_below : (V : Reading) (d l level : ℕ) (row : List ℕ) → d + l ≡ level → AreRows V level row → AreRows V l (row_below V d row)
rows_below V zero l level row e are = let same : level ≡ l = omega arith in subst (λ n. AreRows V n row) same are
rows_below V (suc d) l zero row e are = absurd (omega (arith, e))
rows_below V (suc d) l (suc level) row e are = rows_below V d l level (next_row V row) (omega (arith, e)) are.1

pub row_in_nodes : (V : Reading) (level n : ℕ) (row : List ℕ) → In n row → In n (nodes V level row)
row_in_nodes V zero n row at = at
row_in_nodes V (suc level) n row at = in_left n row (nodes V level (next_row V row)) at

-- a row below is among the nodes
pub in_nodes : (V : Reading) (d l level n : ℕ) (row : List ℕ) → d + l ≡ level → In n (row_below V d row) → In n (nodes V level row)
in_nodes V zero l level n row e at = row_in_nodes V level n row at
in_nodes V (suc d) l zero n row e at = absurd (omega (arith, e))
in_nodes V (suc d) l (suc level) n row e at = in_right n row (nodes V level (next_row V row)) (in_nodes V d l level n (next_row V row) (omega (arith, e)) at)

-- each of the nodes stands in one of the rows
pub row_of : (V : Reading) (level n : ℕ) (row : List ℕ) → In n (nodes V level row) → (d : ℕ) × (l : ℕ) × (d + l ≡ level) × In n (row_below V d row)
row_of V zero n row at = (0, 0, refl, at)
row_of V (suc level) n row at = elim (in_either n row (nodes V level (next_row V row)) at) [
  | inl here ↦ (0, suc level, omega arith, here)
  | inr below ↦ let p = row_of V level n (next_row V row) below in (suc p.0, p.1, omega (arith, p.2), p.3)
]

pub row_level : (V : Reading) (level left n : ℕ) (row : List ℕ) → IsRow V level left row → In n row → (V n).level ≡ level
row_level V level left n [] is at = absurd at
row_level V level left n (m ∷ row) is (inl e) = subst (λ k. (V k).level ≡ level) e is.0
row_level V level left n (m ∷ row) is (inr at) = row_level V level m n row is.3 at

pub row_after : (V : Reading) (d : ℕ) (row : List ℕ) → row_below V (suc d) row ≡ next_row V (row_below V d row)
row_after V zero row = refl
row_after V (suc d) row = row_after V d (next_row V row)

-- ---- fields

-- the fields of a node that name its children, each with what it names
abbrev pub fields_in : List ℕ → Kind → ℕ → List (ℕ × ℕ)
fields_in image kind node =
    table (λ i. (node + key_place kind i + kind.key_length, child_in kind (node_bytes image kind node) i)) (entries_in (node_bytes image kind node))

abbrev pub named_next : List ℕ → Kind → List (ℕ × ℕ) → List (ℕ × ℕ)
named_next image kind row = flat_map (λ (x : ℕ × ℕ). fields_in image kind x.1) row

-- the row so many levels below, each node behind the field that names it
abbrev pub named_row : List ℕ → Kind → ℕ → List (ℕ × ℕ) → List (ℕ × ℕ)
named_row image kind zero row = row
named_row image kind (suc d) row = named_row image kind d (named_next image kind row)

abbrev pub named_nodes : List (ℕ × ℕ) → List ℕ
named_nodes row = map (λ (x : ℕ × ℕ). x.1) row

fields_children : (image : List ℕ) (kind : Kind) (node : ℕ) → named_nodes (fields_in image kind node) ≡ (node_at image kind node).children
unfolding node_of
fields_children image kind node =
    map-map (λ (x : ℕ × ℕ). x.1) (λ (i : ℕ). (node + key_place kind i + kind.key_length, child_in kind (node_bytes image kind node) i))
    (range_with_len 0 (entries_in (node_bytes image kind node)))

pub next-named : (image : List ℕ) (kind : Kind) (row : List (ℕ × ℕ)) → named_nodes (named_next image kind row) ≡ next_row (node_at image kind) (named_nodes row)
next-named image kind [] = refl
next-named image kind (x ∷ row) =
    map-append (λ (y : ℕ × ℕ). y.1) (fields_in image kind x.1) (named_next image kind row)
    ∙ ap₂ (λ (a b : List ℕ). a ++ b) (fields_children image kind x.1) (next-named image kind row)

-- the nodes of a named row are the row
pub row-named : (image : List ℕ) (kind : Kind) (d : ℕ) (row : List (ℕ × ℕ))
    → named_nodes (named_row image kind d row) ≡ row_below (node_at image kind) d (named_nodes row)
row-named image kind zero row = refl
row-named image kind (suc d) row =
    row-named image kind d (named_next image kind row) ∙ ap (row_below (node_at image kind) d) (next-named image kind row)

pub named-after : (image : List ℕ) (kind : Kind) (d : ℕ) (row : List (ℕ × ℕ)) → named_row image kind (suc d) row ≡ named_next image kind (named_row image kind d row)
named-after image kind zero row = refl
named-after image kind (suc d) row = named-after image kind d (named_next image kind row)

-- a node that a field names stands in its row
pub in_row : (image : List ℕ) (kind : Kind) (d field root node first : ℕ) → In (field, node) (named_row image kind d ((first, root) ∷ []))
    → In node (row_below (node_at image kind) d (root ∷ []))
in_row image kind d field root node first at =
    subst (In node) (row-named image kind d ((first, root) ∷ [])) (in_map (λ (x : ℕ × ℕ). x.1) (field, node) (named_row image kind d ((first, root) ∷ [])) at)

-- a child of a node that a field names stands in the next row, behind its own field
pub in_next : (image : List ℕ) (kind : Kind) (d field root node first i : ℕ) → In (field, node) (named_row image kind d ((first, root) ∷ []))
    → i < entries_in (node_bytes image kind node)
    → In (node + key_place kind i + kind.key_length, child_in kind (node_bytes image kind node) i) (named_row image kind (suc d) ((first, root) ∷ []))
in_next image kind d field root node first i at low =
    subst (In (node + key_place kind i + kind.key_length, child_in kind (node_bytes image kind node) i)) (sym (named-after image kind d ((first, root) ∷ [])))
    (in_flat (λ (x : ℕ × ℕ). fields_in image kind x.1) (field, node) (node + key_place kind i + kind.key_length, child_in kind (node_bytes image kind node) i)
    (named_row image kind d ((first, root) ∷ [])) at
    (in_table (λ (j : ℕ). (node + key_place kind j + kind.key_length, child_in kind (node_bytes image kind node) j)) (entries_in (node_bytes image kind node)) i low))
