-- A node of a tree that is read keeps the rules of nodes and of rows.
use Rattle.std.proofs.Common.{◌≡◌, inl, inr, ℕ, zero, suc, ◌+◌, ◌-◌, List, [], ◌∷◌, ◌++◌, refl, ◌∙◌, subst, arith, true, false}
use Rattle.std.proofs.lemmas.Bool.Decides.{nat_tests}
use Rattle.std.specs.Prelude.{◌==◌, ◌&&◌, not, IsTrue}
use Rattle.h5_bytes.specs.Bytes.{undefined_address}
use Rattle.h5_model.specs.Format.Rows.{Reading, IsRow, AreRows, first_or_undefined, row_below}
use Rattle.h5_model.specs.Format.Nodes.{Kind, HasTree, node_at, node_bytes, entries_in}
use Rattle.h5_model.specs.Format.Reached.{level_at}
use Rattle.h5_model.specs.Faults.TreeFaults.{NodeBreach, SiblingBreach, last_or_undefined}
use Rattle.h5_model.proofs.OneTree.{level_is}
use Rattle.h5_laws.proofs.Lists.{In}
use Rattle.h5_laws.proofs.Rows.{row_is, rows_below, row_level}
use Rattle.h5_laws.proofs.Trees.{tree_rows, row_node, row_filled}

-- ---- neighbours

-- the nearest of these, or what stands before the row
last_or : ℕ → List ℕ → ℕ
last_or left [] = left
last_or left (n ∷ before) = last_or n before

last_is : (left n : ℕ) (before : List ℕ) → last_or left (n ∷ before) ≡ last_or_undefined (n ∷ before)
unfolding last_or
last_is left n [] = refl
last_is left n (m ∷ before) = last_is n m before

last_undefined : (before : List ℕ) → last_or undefined_address before ≡ last_or_undefined before
unfolding last_or
last_undefined [] = refl
last_undefined (n ∷ before) = last_is undefined_address n before

row_at : (V : Reading) (level left n : ℕ) (before after : List ℕ) → IsRow V level left (before ++ n ∷ after)
    → ((V n).left ≡ last_or left before) × ((V n).right ≡ first_or_undefined after)
unfolding last_or
row_at V level left n [] after is = (is.1, is.2)
row_at V level left n (m ∷ before) after is = row_at V level m n before after is.3

module _ (image : List ℕ) (kind : Kind) (root level : ℕ) (owned children : List ℕ) (has : HasTree image kind root level owned children) where
  pub sibling_excluded : (at : ℕ) → SiblingBreach image kind root at → ⊥
  sibling_excluded at (depth, before, after, low, row, wrong) =
      let V = node_at image kind in
      let top : level_at image kind root ≡ level = level_is image kind root level owned children has in
      let rows : AreRows V (level - depth) (row_below V depth (root ∷ []))
      = rows_below V depth (level - depth) level (root ∷ []) (omega (arith, low, top)) (tree_rows image kind root level owned children has) in
      let is : IsRow V (level - depth) undefined_address (before ++ at ∷ after) = subst (IsRow V (level - depth) undefined_address) row (row_is V (level - depth) (row_below V depth (root ∷ [])) rows) in
      let says = row_at V (level - depth) undefined_address at before after is in
      elim wrong [
        | inl left ↦ left (says.0 ∙ last_undefined before)
        | inr right ↦ right says.1
      ]

  module _ (d l at : ℕ) (e : d + l ≡ level) (there : In at (row_below (node_at image kind) d (root ∷ []))) where
    level_right : level_at image kind at ≡ l
    level_right =
        let V = node_at image kind in
        let rows = rows_below V d l level (root ∷ []) e (tree_rows image kind root level owned children has) in
        row_level V l undefined_address at (row_below V d (root ∷ [])) (row_is V l (row_below V d (root ∷ [])) rows) there

    -- only a root at level 0 is empty
    empty_excluded : entries_in (node_bytes image kind at) ≡ 0 → IsTrue (not (at == root && l == 0)) → ⊥
    empty_excluded none other = go d e there where
      go : (n : ℕ) → n + l ≡ level → In at (row_below (node_at image kind) n (root ∷ [])) → ⊥
      go zero same (inl is_root) = bottom l refl where
        bottom : (m : ℕ) → l ≡ m → ⊥
        bottom zero low =
            let one : (at == root) ≡ true = grind (arith, nat_tests, is_root) in
            let two : (l == 0) ≡ true = grind (arith, nat_tests, low) in
            let never : false ≡ true = rw (one, two) at other in
            absurd (cc)
        bottom (suc m) high = absurd (omega (arith, none, high, same, row_filled image kind root level owned children has d l at e there (omega (arith, high, same))))
      go zero same (inr never) = absurd never
      go (suc n) same at_row = absurd (omega (arith, none, same, row_filled image kind root level owned children has d l at e there (omega (arith, same))))

    pub node_excluded : NodeBreach image kind root l at → ⊥
    node_excluded (inl signature) = signature (row_node image kind root level owned children has d l at e there).signed
    node_excluded (inr (inl type_byte)) = type_byte (row_node image kind root level owned children has d l at e there).type_byte
    node_excluded (inr (inr (inl other_level))) = other_level level_right
    node_excluded (inr (inr (inr (inl deep)))) = absurd (omega (arith, deep, has.low, e))
    node_excluded (inr (inr (inr (inr (inl many))))) = absurd (omega (arith, many, (row_node image kind root level owned children has d l at e there).roomy))
    node_excluded (inr (inr (inr (inr (inr (none, other)))))) = empty_excluded none other
