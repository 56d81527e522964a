-- A walk goes further through the children of a node, one by one.
use Rattle.std.proofs.Common.{◌≡◌, ◌≢◌, ℕ, suc, ◌+◌, ◌-◌, ◌<◌, ◌≤◌, inl, inr, List, [], ◌∷◌, ◌++◌, length, slice_get, Some, refl, sym, ap, ◌∙◌, subst, append_assoc, length-append, arith}
use Rattle.std.specs.Prelude.{false, slice_index_or}
use Rattle.std.specs.List.{AllByRecursion}
use Rattle.std.proofs.lemmas.Option.{same_Some}
use Rattle.h5_bytes.specs.Blocks.{holds, cover, Separate}
use Rattle.h5_bytes.specs.declared.Block.{Block}
use Rattle.h5_bytes.proofs.BlockLaws.{all_append, holds_in}
use Rattle.h5_model.specs.Format.Rows.{Node}
use Rattle.h5_model.specs.Format.Nodes.{node_block, node_bytes, node_length, child_in, tree_blocks}
use Rattle.h5_model.specs.Format.Reached.{Named, naming_of}
use Rattle.h5_model.specs.Faults.TreeFaults.{NodeBreach}
use Rattle.h5_model.specs.Faults.Breaches.{is_header}
use Rattle.h5_model.specs.declared.open_fault.Cause.{Cause}
use Rattle.h5_btree.proofs.NodeLaws.{child_is}
use Rattle.h5_space.specs.Walk.Walked.{IsWalked}
use Rattle.h5_space.specs.Walk.Met.{IsMet}
use Rattle.h5_space.proofs.WalkLaws.MetFields.{met_walked}
use Rattle.h5_btree.specs.Walk.Forms.{TreeForm, kind_of, node_role, leaf_role, leaf_length, leaf_block, LeafBreach, child_role}
use Rattle.h5_btree.specs.Walk.Below.{reading_in, IsInner, IsTakenBelow, nodes_below, leaves_below}
use Rattle.h5_btree.specs.Walk.Further.{child_place, child_field, AreChildrenMet, IsPlaceBelow, IsFurther, WalksTo, IsFaultBelow}
use Rattle.h5_btree.specs.Walk.Refused.{IsRefusedFor, IsLeafRefused}
use Rattle.h5_btree.proofs.WalkLaws.FormLaws.{leaf_long, node_inner, leaf_inner, child_apart}
use Rattle.h5_btree.proofs.WalkLaws.NodeFaults.{refused_for}
use Rattle.h5_btree.proofs.WalkLaws.RowJoin.{cover-below}
use Rattle.h5_btree.proofs.WalkLaws.Taken.{cover-blocks, nodes_inner}
use Rattle.h5_btree.proofs.WalkLaws.Steps.{leaf_fault, key_fault, node_fault, child_within, children_met}

pub all_weaker : (P Q : ℕ → Type 0) (ys : List Named) → ((g : ℕ) → P g → Q g) → AllByRecursion (λ (y : Named). P y.field) ys → AllByRecursion (λ (y : Named). Q y.field) ys
all_weaker P Q [] f all = tt
all_weaker P Q (y ∷ ys) f all = (f y.field all.0, all_weaker P Q ys f all.1)

module _ (image : List ℕ) (form : TreeForm) where
  -- a place below a row is one below a longer row
  place_more : (level at : ℕ) (row more : List ℕ) (place : ℕ) → IsPlaceBelow image form level at row place → IsPlaceBelow image form level at (row ++ more) place
  place_more level at row more place (inl (j, low, e)) = inl (j, omega (arith, low, length-append row more), e)
  place_more level at row more place (inr one) = inr (omega (arith, one, cover-below image form (node_block (kind_of image form)) (place - 8) level row more))

  -- the next child's place is none of those below the row
  next_apart : (level at j : ℕ) (row : List ℕ) (old mid : List Block) → IsTakenBelow image form level row old mid → length row ≤ j → 1 ≤ cover (child_place image form at j - 8) old
      → IsPlaceBelow image form level at row (child_place image form at j) → ⊥
  next_apart level at j row old mid taken past stands (inl (k, low, e)) = absurd (omega (arith, e, child_apart (kind_of image form).key_length k j (omega (arith, past, low))))
  next_apart level at j row old mid taken past stands (inr one) =
      let p = child_place image form at j - 8 in
      absurd (omega (arith, one, stands, taken.claimed p, taken.separate p, cover-blocks image form p (nodes_below image form level row) (leaves_below image form level row)))

  -- a field that was met is met still
  met_further : (old mid : List Block) (followed : List Named) (Place : ℕ → Type 0) (z : Named) (f : IsFurther image mid followed Place) → ((p : ℕ) → cover p old ≤ cover p mid)
      → IsMet image old followed z → (Place z.field → ⊥) → IsMet image mid (f.new ++ followed) z
  met_further old mid followed Place z f grown met apart = record {
    reached = met.reached;
    behind = met.behind;
    stands = omega (arith, met.stands, grown (z.field - 8));
    fresh = all_append (λ (y : Named). y.field ≢ z.field) f.new followed
        (all_weaker Place (λ g. g ≢ z.field) f.new (λ g placed e. apart (subst Place e placed)) f.places) met.fresh;
  }

  -- the field of the next child is met
  next_met : (level : ℕ) (node : Node) (row : List ℕ) (child : ℕ) (old mid : List Block) (followed : List Named) (root heap depth at : ℕ)
      → AreChildrenMet image form old followed root heap depth level at node → IsTakenBelow image form level row old mid → (f : IsFurther image mid followed (IsPlaceBelow image form level at row))
      → length row < length node.children → slice_get node.children (length row) ≡ Some child
      → IsMet image mid (f.new ++ followed) (naming_of (child_place image form at (length row)) (child_role form root heap level) child depth)
  next_met level node row child old mid followed root heap depth at met taken f low got =
      let j = length row in
      let here = met.met j low in
      let same : child_in (kind_of image form) (node_bytes image (kind_of image form) at) j ≡ child
      = same_Some _ _ (sym (child_is (kind_of image form) (node_bytes image (kind_of image form) at) node (sym met.read) j low) ∙ got) in
      subst (λ (c : ℕ). IsMet image mid (f.new ++ followed) (naming_of (child_place image form at j) (child_role form root heap level) c depth)) same
      (met_further old mid followed (IsPlaceBelow image form level at row) (child_field image form root heap depth level at j) f (λ p. omega (arith, taken.claimed p)) here
      (next_apart level at j row old mid taken (omega arith) here.stands))

  pub walks_none : (level at : ℕ) (node : Node) (old : List Block) → WalksTo image form old old level at node []
  walks_none level at node old = λ followed root heap depth met. record { new = []; walked = met.walked; inner = tt; places = tt }

  -- ---- one symbol node more

  module _ (at : ℕ) (node : Node) (row : List ℕ) (child : ℕ) (old mid : List Block) (taken : IsTakenBelow image form 0 row old mid) (walks : WalksTo image form old mid 0 at node row)
      (low : length row < length node.children) (got : slice_get node.children (length row) ≡ Some child) where
    pub walks_bottom : (now : List Block) → ((p : ℕ) → cover p now ≡ cover p mid + holds p child (leaf_length image form)) → WalksTo image form old now 0 at node (row ++ child ∷ [])
    walks_bottom now claimed = λ followed root heap depth met.
        let f = walks followed root heap depth met in
        let y = naming_of (child_place image form at (length row)) (leaf_role form root heap) child depth in
        let here = next_met 0 node row child old mid followed root heap depth at met taken f low got in
        record {
          new = y ∷ f.new;
          walked = met_walked image mid (f.new ++ followed) f.walked y here now (λ p. rw (leaf_long image form (child_place image form at (length row)) root heap child depth) (claimed p));
          inner = (leaf_inner form root heap, f.inner);
          places = (
            inl (length row, omega (arith, length-append row (child ∷ [])), refl),
            all_weaker (IsPlaceBelow image form 0 at row) (IsPlaceBelow image form 0 at (row ++ child ∷ [])) f.new (place_more 0 at row (child ∷ [])) f.places,
          );
        }

    pub fault_bottom : (cause : Cause) (address : ℕ) → slice_index_or node.children (length row) 0 ≡ child → IsLeafRefused image form mid at node (length row) cause address
        → IsFaultBelow image form old 0 at node cause address
    fault_bottom cause address same (inl (e, refused)) = λ followed root heap depth met.
        let f = walks followed root heap depth met in
        leaf_fault image form mid (f.new ++ followed) f.walked (child_place image form at (length row)) root heap child depth
        (next_met 0 node row child old mid followed root heap depth at met taken f low got) cause address (e ∙ same)
        (subst (λ (c : ℕ). IsRefusedFor (LeafBreach image form c) (length image) mid (leaf_block image form c) cause) same refused)
    fault_bottom cause address same (inr (is, e, wrong)) = λ followed root heap depth met.
        key_fault image form old followed root heap depth at node (length row) met low cause address is e wrong

  -- ---- one node more, and what stands below it

  -- a place below the new node
  place_inner : (level at child : ℕ) (row : List ℕ) (place : ℕ) → IsInner image form level child → IsPlaceBelow image form level child (reading_in image form child).children place
      → IsPlaceBelow image form (suc level) at (row ++ child ∷ []) place
  place_inner level at child row place inner below = inr (some below) where
    covers : cover (place - 8) (tree_blocks (kind_of image form) (nodes_below image form (suc level) (row ++ child ∷ [])))
        ≡ cover (place - 8) (tree_blocks (kind_of image form) (nodes_below image form (suc level) row))
        + (holds (place - 8) child (node_length (kind_of image form)) + cover (place - 8) (tree_blocks (kind_of image form) (nodes_below image form level (reading_in image form child).children)))
    covers =
        let join = cover-below image form (node_block (kind_of image form)) (place - 8) (suc level) row (child ∷ []) in
        let one = ap (λ (ns : List ℕ). cover (place - 8) (tree_blocks (kind_of image form) ns)) (nodes_inner image form level child) in
        omega (arith, join, one)

    some : IsPlaceBelow image form level child (reading_in image form child).children place → 1 ≤ cover (place - 8) (tree_blocks (kind_of image form) (nodes_below image form (suc level) (row ++ child ∷ [])))
    some (inl (j, low, e)) =
        let within = child_within image form level child j inner.stands low in
        let back : place - 8 ≡ child_place image form child j - 8 = ap (λ (g : ℕ). g - 8) e in
        let here : holds (place - 8) child (node_length (kind_of image form)) ≡ 1
        = holds_in (place - 8) child (node_length (kind_of image form)) (omega (arith, within.0, back)) (omega (arith, within.1, back)) in
        omega (arith, covers, here)
    some (inr one) = omega (arith, covers, one)

  module _ (level at : ℕ) (node : Node) (row : List ℕ) (child : ℕ) (old mid : List Block) (taken : IsTakenBelow image form (suc level) row old mid) (walks : WalksTo image form old mid (suc level) at node row)
      (low : length row < length node.children) (got : slice_get node.children (length row) ≡ Some child) where
    pub fault_inner : (cause : Cause) (address : ℕ) → address ≡ child
        → IsRefusedFor ((root : ℕ) → 1 ≤ cover root mid → NodeBreach image (kind_of image form) root level child) (length image) mid (node_block (kind_of image form) child) cause
        → IsFaultBelow image form old (suc level) at node cause address
    fault_inner cause address e refused = λ followed root heap depth met.
        let f = walks followed root heap depth met in
        let rooted : 1 ≤ cover root mid = omega (arith, met.rooted, taken.claimed root) in
        node_fault image form mid (f.new ++ followed) f.walked (child_place image form at (length row)) root heap child depth level
        (next_met (suc level) node row child old mid followed root heap depth at met taken f low got) cause address e
        (refused_for ((r : ℕ) → 1 ≤ cover r mid → NodeBreach image (kind_of image form) r level child) (NodeBreach image (kind_of image form) root level child)
        (length image) mid (node_block (kind_of image form) child) cause (λ breach. breach root rooted) refused)

    module _ (inner : IsInner image form level child) (here : List Block) (claimed : (p : ℕ) → cover p here ≡ cover p mid + holds p child (node_length (kind_of image form))) (apart : Separate here) where
      below_met : (followed : List Named) (root heap depth : ℕ) (met : AreChildrenMet image form old followed root heap depth (suc level) at node)
          → AreChildrenMet image form here (naming_of (child_place image form at (length row)) (node_role form root heap level) child depth ∷ (walks followed root heap depth met).new ++ followed)
          root heap depth level child (reading_in image form child)
      below_met followed root heap depth met =
          let f = walks followed root heap depth met in
          children_met image form mid (f.new ++ followed) f.walked (child_place image form at (length row)) root heap depth level child
          (next_met (suc level) node row child old mid followed root heap depth at met taken f low got) inner.stands (omega (arith, met.low)) here claimed apart
          (omega (arith, met.rooted, taken.claimed root, claimed root))

      pub fault_below : (cause : Cause) (address : ℕ) → IsFaultBelow image form here level child (reading_in image form child) cause address → IsFaultBelow image form old (suc level) at node cause address
      fault_below cause address below = λ followed root heap depth met. below _ root heap depth (below_met followed root heap depth met)

      pub walks_inner : (now : List Block) → WalksTo image form here now level child (reading_in image form child) (reading_in image form child).children
          → WalksTo image form old now (suc level) at node (row ++ child ∷ [])
      walks_inner now below = λ followed root heap depth met.
          let f = walks followed root heap depth met in
          let y = naming_of (child_place image form at (length row)) (node_role form root heap level) child depth in
          let g = below (y ∷ f.new ++ followed) root heap depth (below_met followed root heap depth met) in
          record {
            new = g.new ++ y ∷ f.new;
            walked = subst (λ (ys : List Named). IsWalked image now ys) (sym (append_assoc g.new (y ∷ f.new) followed)) g.walked;
            inner = all_append (λ (z : Named). is_header z.role ≡ false) g.new (y ∷ f.new) g.inner (node_inner form root heap level, f.inner);
            places = all_append (λ (z : Named). IsPlaceBelow image form (suc level) at (row ++ child ∷ []) z.field) g.new (y ∷ f.new)
                (all_weaker (IsPlaceBelow image form level child (reading_in image form child).children) (IsPlaceBelow image form (suc level) at (row ++ child ∷ [])) g.new
                (λ place. place_inner level at child row place inner) g.places) (
                  inl (length row, omega (arith, length-append row (child ∷ [])), refl),
                  all_weaker (IsPlaceBelow image form (suc level) at row) (IsPlaceBelow image form (suc level) at (row ++ child ∷ [])) f.new (place_more (suc level) at row (child ∷ [])) f.places,
                );
          }
