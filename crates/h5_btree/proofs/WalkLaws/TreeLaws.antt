-- A tree whose rows are listed, in a walk.
use Rattle.std.proofs.Common.{◌≡◌, ℕ, zero, suc, ◌+◌, ◌≤◌, ◌⊎◌, inl, inr, List, [], ◌∷◌, length, refl, sym, subst, arith}
use Rattle.std.specs.List.{AllByRecursion}
use Rattle.h5_bytes.specs.declared.Block.{Block}
use Rattle.h5_bytes.proofs.BlockLaws.{all_left, all_right}
use Rattle.h5_model.specs.Format.Limits.{highest_level}
use Rattle.h5_model.specs.Format.Rows.{Reading, next_row, row_below, leaves, nodes}
use Rattle.h5_model.specs.Format.Nodes.{node_length}
use Rattle.h5_model.specs.Format.Reached.{Named, naming_of, Reached}
use Rattle.h5_model.specs.Faults.TreeFaults.{SiblingBreach}
use Rattle.h5_model.specs.declared.open_fault.Cause.{Cause}
use Rattle.h5_model.specs.declared.open_fault.Cause.TheVariants.{NoMemory, Sibling}
use Rattle.h5_space.specs.Walk.Walked.{Breaches}
use Rattle.h5_btree.specs.Walk.Forms.{TreeForm, kind_of, node_role}
use Rattle.h5_btree.specs.Walk.Followed.{IsFault, IsNodeReached, AreLeavesReached, IsTreeMet, IsTreeFollowed}
use Rattle.h5_btree.specs.Walk.Below.{reading_in}
use Rattle.h5_btree.specs.Walk.Further.{IsFurther, IsPlaceIn}
use Rattle.h5_btree.specs.Walk.Rows.{IsLevel, AreAllRows}
use Rattle.h5_btree.proofs.WalkLaws.FormLaws.{siblings_broken}
use Rattle.h5_btree.proofs.WalkLaws.AllLaws.{each_node, nodes_reached, leaves_reached}

-- what holds of all nodes holds of each row
row_all : (V : Reading) (P : ℕ → Type 0) (level : ℕ) (row : List ℕ) (depth : ℕ) → depth ≤ level → AllByRecursion P (nodes V level row) → AllByRecursion P (row_below V depth row)
row_all V P zero row zero low all = all
row_all V P zero row (suc depth) low all = absurd (omega (arith, low))
row_all V P (suc level) row zero low all = all_left P row (nodes V level (next_row V row)) all
row_all V P (suc level) row (suc depth) low all =
    row_all V P level (next_row V row) depth (omega (arith, low)) (all_right P row (nodes V level (next_row V row)) all)

module _ (image : List ℕ) (form : TreeForm) (root level : ℕ) (low : level ≤ highest_level) (read : IsLevel image form level (root ∷ [])) where
  module _ (held : List Block) (followed : List Named) (field heap depth : ℕ) (met : IsTreeMet image form held followed field root heap depth) where
    root_reached : Reached image (naming_of field (node_role form root heap level) root depth)
    root_reached = subst (λ (l : ℕ). Reached image (naming_of field (node_role form root heap l) root depth)) read.here.0.high met.met.reached

    all_nodes : AllByRecursion (IsNodeReached image form root heap depth) (nodes (reading_in image form) level (root ∷ []))
    all_nodes = nodes_reached image form root heap depth level (root ∷ []) low read ((field, root_reached), tt)

    all_leaves : AllByRecursion (AreLeavesReached image form root heap depth) (leaves (reading_in image form) level (root ∷ []))
    all_leaves = leaves_reached image form root heap depth level (root ∷ []) low read ((field, root_reached), tt)

    -- the tree is read
    pub tree_followed : (now : List Block) (all symbols : List ℕ) → AreAllRows image form root level all symbols
        → IsFurther image now followed (IsPlaceIn image form field (nodes (reading_in image form) level (root ∷ []))) → IsTreeFollowed image form now followed field root heap depth all symbols
    tree_followed now all symbols rows further = record {
      new = further.new;
      walked = further.walked;
      inner = further.inner;
      stands = subst (λ (ns : List ℕ). AllByRecursion (λ (y : Named). IsPlaceIn image form field ns y.field) further.new) (sym rows.owns) further.places;
      nodes_reached = subst (AllByRecursion (IsNodeReached image form root heap depth)) (sym rows.owns) all_nodes;
      leaves_reached = subst (AllByRecursion (AreLeavesReached image form root heap depth)) (sym rows.leads) all_leaves;
    }

    -- a node that does not name its neighbours
    sibling_fault : (address : ℕ) → SiblingBreach image (kind_of image form) root address → Breaches image Sibling address
    sibling_fault address (d, before, after, deep, is, wrong) =
        let high = read.here.0.high in
        let within : d ≤ level = omega (arith, deep, high) in
        let there : AllByRecursion (λ at. at + node_length (kind_of image form) ≤ length image) (nodes (reading_in image form) level (root ∷ []))
        = each_node image form (λ at. at + node_length (kind_of image form) ≤ length image) (λ l at inner. inner.stands.there) level (root ∷ []) read (read.here.0.there, tt) in
        let inside = all_right (λ at. at + node_length (kind_of image form) ≤ length image) before (address ∷ after)
        (subst (AllByRecursion (λ at. at + node_length (kind_of image form) ≤ length image)) is
        (row_all (reading_in image form) (λ at. at + node_length (kind_of image form) ≤ length image) level (root ∷ []) d within there)) in
        let reached = all_right (IsNodeReached image form root heap depth) before (address ∷ after)
        (subst (AllByRecursion (IsNodeReached image form root heap depth)) is
        (row_all (reading_in image form) (IsNodeReached image form root heap depth) level (root ∷ []) d within all_nodes)) in (
          naming_of reached.0.0 (node_role form root heap reached.0.1) address depth,
          reached.0.2,
          refl,
          siblings_broken image form reached.0.0 root heap reached.0.1 address depth inside.0 (d, before, after, deep, is, wrong),
        )

  pub tree_fault : (held : List Block) (cause : Cause) (address : ℕ) → (cause ≡ NoMemory) ⊎ ((cause ≡ Sibling) × SiblingBreach image (kind_of image form) root address)
      → (followed : List Named) (field heap depth : ℕ) → IsTreeMet image form held followed field root heap depth → IsFault image cause address
  tree_fault held cause address (inl e) = λ followed field heap depth met. subst (λ (x : Cause). IsFault image x address) (sym e) tt
  tree_fault held cause address (inr (e, breach)) = λ followed field heap depth met.
      subst (λ (x : Cause). IsFault image x address) (sym e) (sibling_fault held followed field heap depth met address breach)
