-- A walk through a whole tree, from its root down.
use Rattle.std.proofs.Common.{◌≡◌, ℕ, ◌+◌, ◌-◌, ◌≤◌, inl, inr, List, [], ◌∷◌, ◌++◌, length, refl, sym, ap, subst, append_assoc, arith}
use Rattle.std.specs.Prelude.{false}
use Rattle.h5_bytes.specs.Blocks.{holds, cover, Separate}
use Rattle.h5_bytes.specs.declared.Block.{Block}
use Rattle.h5_bytes.proofs.BlockLaws.{all_append, holds_in}
use Rattle.h5_model.specs.Format.Limits.{highest_level}
use Rattle.h5_model.specs.Format.Rows.{leaves, nodes}
use Rattle.h5_model.specs.Format.Nodes.{node_block, node_length, tree_blocks}
use Rattle.h5_model.specs.Format.Reached.{Named, naming_of}
use Rattle.h5_model.specs.Faults.Breaches.{is_header}
use Rattle.h5_model.specs.Faults.TreeFaults.{NodeBreach}
use Rattle.h5_model.specs.declared.open_fault.Cause.{Cause}
use Rattle.h5_space.specs.Walk.Walked.{IsWalked}
use Rattle.h5_btree.specs.Walk.Forms.{TreeForm, kind_of, node_role}
use Rattle.h5_btree.specs.Walk.Trees.{nodes_blocks}
use Rattle.h5_btree.specs.Walk.Followed.{IsFault, IsTreeMet}
use Rattle.h5_btree.specs.Walk.Below.{reading_in, IsStanding, IsTakenBelow, nodes_below}
use Rattle.h5_btree.specs.Walk.Further.{child_place, AreChildrenMet, IsPlaceBelow, IsPlaceIn, IsFurther, WalksTo, IsFaultBelow}
use Rattle.h5_btree.specs.Walk.Refused.{IsRefusedFor}
use Rattle.h5_btree.proofs.WalkLaws.FormLaws.{node_inner}
use Rattle.h5_btree.proofs.WalkLaws.Taken.{blocks_below, blocks_inner, nodes_inner}
use Rattle.h5_btree.proofs.WalkLaws.Steps.{node_fault, child_within, children_met}
use Rattle.h5_btree.proofs.WalkLaws.FurtherLaws.{all_weaker}

module _ (image : List ℕ) (form : TreeForm) (root : ℕ) (old : List Block) where
  abbrev level : ℕ
  level = (reading_in image form root).level

  abbrev children : List ℕ
  children = (reading_in image form root).children

  pub root_refused : (cause : Cause) (address : ℕ) → address ≡ root
      → IsRefusedFor (NodeBreach image (kind_of image form) root (reading_in image form root).level root) (length image) old (node_block (kind_of image form) root) cause
      → (followed : List Named) (field heap depth : ℕ) → IsTreeMet image form old followed field root heap depth → IsFault image cause address
  root_refused cause address e refused = λ followed field heap depth met.
      node_fault image form old followed met.walked field root heap root depth level met.met cause address e refused

  module _ (here : List Block) (stands : IsStanding image form level root) (low : level ≤ highest_level)
      (claimed : (p : ℕ) → cover p here ≡ cover p old + holds p root (node_length (kind_of image form))) (apart : Separate here) where
    rooted : 1 ≤ cover root here
    rooted =
        let one : holds root root (node_length (kind_of image form)) ≡ 1 = holds_in root root (node_length (kind_of image form)) (omega arith) (omega arith) in
        omega (arith, claimed root, one)

    below_root : (followed : List Named) (field heap depth : ℕ) → IsTreeMet image form old followed field root heap depth
        → AreChildrenMet image form here (naming_of field (node_role form root heap level) root depth ∷ followed) root heap depth level root (reading_in image form root)
    below_root followed field heap depth met =
        children_met image form old followed met.walked field root heap depth level root met.met stands low here claimed apart rooted

    pub below_refused : (cause : Cause) (address : ℕ) → IsFaultBelow image form here level root (reading_in image form root) cause address
        → (followed : List Named) (field heap depth : ℕ) → IsTreeMet image form old followed field root heap depth → IsFault image cause address
    below_refused cause address below = λ followed field heap depth met.
        below _ root heap depth (below_root followed field heap depth met)

    module _ (now : List Block) (taken : IsTakenBelow image form level children here now) where
      pub tree_claimed : (p : ℕ) → cover p now ≡ cover p old + cover p (nodes_blocks image form (nodes (reading_in image form) level (root ∷ [])) (leaves (reading_in image form) level (root ∷ [])))
      tree_claimed p =
          let all : cover p (nodes_blocks image form (nodes (reading_in image form) level (root ∷ [])) (leaves (reading_in image form) level (root ∷ [])))
          ≡ holds p root (node_length (kind_of image form)) + cover p (blocks_below image form level children) = blocks_inner image form p level root in
          omega (arith, taken.claimed p, claimed p, all)

      covers : (p : ℕ) → cover p (tree_blocks (kind_of image form) (nodes (reading_in image form) level (root ∷ [])))
          ≡ holds p root (node_length (kind_of image form)) + cover p (tree_blocks (kind_of image form) (nodes_below image form level children))
      covers p = ap (λ (ns : List ℕ). cover p (tree_blocks (kind_of image form) ns)) (nodes_inner image form level root)

      place_in : (field place : ℕ) → IsPlaceBelow image form level root children place → IsPlaceIn image form field (nodes (reading_in image form) level (root ∷ [])) place
      place_in field place (inl (j, few, e)) =
          let within = child_within image form level root j stands few in
          let back : place - 8 ≡ child_place image form root j - 8 = ap (λ (g : ℕ). g - 8) e in
          let one : holds (place - 8) root (node_length (kind_of image form)) ≡ 1
          = holds_in (place - 8) root (node_length (kind_of image form)) (omega (arith, within.0, back)) (omega (arith, within.1, back)) in
          inr (omega (arith, covers (place - 8), one))
      place_in field place (inr one) = inr (omega (arith, covers (place - 8), one))

      pub tree_walked : WalksTo image form here now level root (reading_in image form root) children
          → (followed : List Named) (field heap depth : ℕ) → IsTreeMet image form old followed field root heap depth
          → IsFurther image now followed (IsPlaceIn image form field (nodes (reading_in image form) level (root ∷ [])))
      tree_walked walks = λ followed field heap depth met.
          let y = naming_of field (node_role form root heap level) root depth in
          let all = nodes (reading_in image form) level (root ∷ []) in
          let f = walks (y ∷ followed) root heap depth (below_root followed field heap depth met) in
          record {
            new = f.new ++ y ∷ [];
            walked = subst (λ (ys : List Named). IsWalked image now ys) (sym (append_assoc f.new (y ∷ []) followed)) f.walked;
            inner = all_append (λ (z : Named). is_header z.role ≡ false) f.new (y ∷ []) f.inner (node_inner form root heap level, tt);
            places = all_append (λ (z : Named). IsPlaceIn image form field all z.field) f.new (y ∷ [])
                (all_weaker (IsPlaceBelow image form level root children) (IsPlaceIn image form field all) f.new (place_in field) f.places)
                (inl refl, tt);
          }
