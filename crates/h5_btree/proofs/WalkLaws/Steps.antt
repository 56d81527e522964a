-- One step of a walk down a tree: why a block is refused is a fault, and the fields of a node that was claimed are met.
use Rattle.std.proofs.Common.{◌≡◌, ℕ, zero, suc, ◌+◌, ◌-◌, ◌*◌, ◌<◌, ◌≤◌, List, ◌∷◌, length, refl, sym, ap, subst, arith}
use Rattle.std.proofs.lemmas.Bool.Decides.{nat_tests}
use Rattle.std.specs.Prelude.{Bool, true, false, ◌==◌, if◌then◌else◌}
use Rattle.h5_bytes.specs.Blocks.{holds, cover, Separate}
use Rattle.h5_bytes.specs.declared.Block.{Block}
use Rattle.h5_model.specs.Format.Limits.{highest_level}
use Rattle.h5_model.specs.Format.Rows.{Node}
use Rattle.h5_model.specs.Format.Nodes.{node_block, node_bytes, node_length, entries_in, child_in}
use Rattle.h5_model.specs.Format.Reached.{Named, Role, naming_of, Reached, by_block, length_of}
use Rattle.h5_model.specs.Faults.TreeFaults.{NodeBreach}
use Rattle.h5_model.specs.declared.open_fault.Cause.{Cause}
use Rattle.h5_model.specs.declared.open_fault.Cause.TheVariants.{Truncated, Overlap, NodeForm, ChunkKey, NoMemory}
use Rattle.h5_btree.proofs.NodeLaws.{length-children, child_room}
use Rattle.h5_space.specs.Claimed.{Shares}
use Rattle.h5_space.specs.Walk.Walked.{IsWalked}
use Rattle.h5_space.specs.Walk.Met.{IsMet}
use Rattle.h5_space.proofs.WalkLaws.MetFields.{field_after, met_truncated, met_overlaps, met_walked}
use Rattle.h5_btree.specs.Walk.Forms.{TreeForm, kind_of, node_role, leaf_role, leaf_block, LeafBreach, IsKeyedAt, child_role}
use Rattle.h5_btree.specs.Walk.Followed.{IsFault}
use Rattle.h5_btree.specs.Walk.Below.{reading_in, IsStanding}
use Rattle.h5_btree.specs.Walk.Further.{child_place, child_field, AreChildrenMet}
use Rattle.h5_btree.specs.Walk.Refused.{IsRefusedFor}
use Rattle.h5_btree.proofs.WalkLaws.FormLaws.{node_long, leaf_long, node_inner, leaf_inner, names_child, node_broken, leaf_broken, key_broken}

-- ---- refusals

module _ (image : List ℕ) (form : TreeForm) (held : List Block) (followed : List Named) (walked : IsWalked image held followed) (field root heap at depth : ℕ) where
  pub leaf_fault : IsMet image held followed (naming_of field (leaf_role form root heap) at depth) → (cause : Cause) (address : ℕ) → address ≡ at
      → IsRefusedFor (LeafBreach image form at) (length image) held (leaf_block image form at) cause → IsFault image cause address
  leaf_fault met Truncated address e h =
      met_truncated image held followed walked (naming_of field (leaf_role form root heap) at depth) met (leaf_inner form root heap) address e
      (subst (λ (n : ℕ). length image < at + n) (sym (leaf_long image form field root heap at depth)) h)
  leaf_fault met Overlap address e h =
      met_overlaps image held followed walked (naming_of field (leaf_role form root heap) at depth) met (leaf_inner form root heap) address e
      (subst (λ (n : ℕ). Shares held at n) (sym (leaf_long image form field root heap at depth)) h)
  leaf_fault met NodeForm address e h = (naming_of field (leaf_role form root heap) at depth, met.reached, sym e, leaf_broken image form field root heap at depth h.0 h.1)
  leaf_fault met NoMemory address e h = tt
  leaf_fault met _ address e h = absurd h

  pub node_fault : (level : ℕ) → IsMet image held followed (naming_of field (node_role form root heap level) at depth) → (cause : Cause) (address : ℕ) → address ≡ at
      → IsRefusedFor (NodeBreach image (kind_of image form) root level at) (length image) held (node_block (kind_of image form) at) cause → IsFault image cause address
  node_fault level met Truncated address e h =
      met_truncated image held followed walked (naming_of field (node_role form root heap level) at depth) met (node_inner form root heap level) address e
      (subst (λ (n : ℕ). length image < at + n) (sym (node_long image form field root heap level at depth)) h)
  node_fault level met Overlap address e h =
      met_overlaps image held followed walked (naming_of field (node_role form root heap level) at depth) met (node_inner form root heap level) address e
      (subst (λ (n : ℕ). Shares held at n) (sym (node_long image form field root heap level at depth)) h)
  node_fault level met NodeForm address e h = (naming_of field (node_role form root heap level) at depth, met.reached, sym e, node_broken image form field root heap level at depth h.0 h.1)
  node_fault level met NoMemory address e h = tt
  node_fault level met _ address e h = absurd h

-- ---- a node that is claimed

-- what stands below a node of a level
role_is : (form : TreeForm) (root heap level : ℕ) → child_role form root heap level ≡ (if level == 0 then leaf_role form root heap else node_role form root heap (level - 1))
role_is form root heap zero = refl
role_is form root heap (suc level) = chosen (suc level == 0) (grind (arith, nat_tests)) where
  chosen : (b : Bool) → b ≡ false → node_role form root heap level ≡ (if b then leaf_role form root heap else node_role form root heap (suc level - 1))
  chosen false e = let back : level ≡ suc level - 1 = omega arith in ap (node_role form root heap) back
  chosen true e = cc

-- child j stands in its node's block
pub child_within : (image : List ℕ) (form : TreeForm) (level at j : ℕ) → IsStanding image form level at → j < length (reading_in image form at).children
    → (at ≤ child_place image form at j - 8) × (child_place image form at j - 8 < at + node_length (kind_of image form)) × (child_place image form at j + 8 ≤ at + node_length (kind_of image form))
child_within image form level at j stands low =
    let count : entries_in (node_bytes image (kind_of image form) at) ≡ length (reading_in image form at).children
    = length-children (kind_of image form) (node_bytes image (kind_of image form) at) (reading_in image form at) refl in
    let kind = kind_of image form in
    let room : j < 2 * kind.k = omega (arith, count, low, stands.formed.roomy) in
    let ends = child_room kind.key_length (2 * kind.k) j room in
    (omega arith, omega (arith, ends), omega (arith, ends))

module _ (image : List ℕ) (form : TreeForm) (root heap depth level at field : ℕ) (stands : IsStanding image form level at) (high : level ≤ highest_level)
    (reached : Reached image (naming_of field (node_role form root heap level) at depth)) where
  pub child_reached : (j : ℕ) → j < length (reading_in image form at).children → Reached image (child_field image form root heap depth level at j)
  child_reached j low =
      let count : entries_in (node_bytes image (kind_of image form) at) ≡ length (reading_in image form at).children
      = length-children (kind_of image form) (node_bytes image (kind_of image form) at) (reading_in image form at) refl in
      let within = child_within image form level at j stands low in
      by_block {y = child_field image form root heap depth level at j} reached (names_child image form root heap level at depth (child_field image form root heap depth level at j) high (
        j,
        omega (arith, count, low),
        omega (arith, count, low, stands.formed.roomy),
        ap (λ (role : Role). naming_of (child_place image form at j) role (child_in (kind_of image form) (node_bytes image (kind_of image form) at) j) depth) (role_is form root heap level),
      ))
      (omega (arith, within.2, stands.there))

-- the fields of a node that was just claimed
module _ (image : List ℕ) (form : TreeForm) (held : List Block) (followed : List Named) (walked : IsWalked image held followed) (field root heap depth level at : ℕ)
    (met : IsMet image held followed (naming_of field (node_role form root heap level) at depth))
    (stands : IsStanding image form level at) (high : level ≤ highest_level) (now : List Block)
    (claimed : (p : ℕ) → cover p now ≡ cover p held + holds p at (node_length (kind_of image form))) (apart : Separate now) (rooted : 1 ≤ cover root now) where
  long_claimed : (p : ℕ) → cover p now ≡ cover p held + holds p at (length_of image (naming_of field (node_role form root heap level) at depth))
  long_claimed p = rw (node_long image form field root heap level at depth) (claimed p)

  pub children_met : AreChildrenMet image form now (naming_of field (node_role form root heap level) at depth ∷ followed) root heap depth level at (reading_in image form at)
  children_met = record {
    read = refl;
    reached = (field, met.reached);
    there = stands.there;
    walked = met_walked image held followed walked (naming_of field (node_role form root heap level) at depth) met now long_claimed;
    met = λ j low.
        let within = child_within image form level at j stands low in
        field_after image held followed walked (naming_of field (node_role form root heap level) at depth) met now long_claimed apart
        (child_field image form root heap depth level at j) (child_reached image form root heap depth level at field stands high met.reached j low)
        (omega arith) within.0 (rw (node_long image form field root heap level at depth) within.1);
    rooted = rooted;
    low = high;
  }

-- a node's key i is none that a leaf may have
pub key_fault : (image : List ℕ) (form : TreeForm) (held : List Block) (followed : List Named) (root heap depth at : ℕ) (node : Node) (i : ℕ)
    → AreChildrenMet image form held followed root heap depth 0 at node → i < length node.children → (cause : Cause) (address : ℕ) → cause ≡ ChunkKey → address ≡ at
    → (IsKeyedAt form node i → ⊥) → IsFault image cause address
key_fault image form held followed root heap depth at node i met low cause address is e wrong =
    let field = met.reached.0 in
    let few : i < length (reading_in image form at).children = subst (λ (n : Node). i < length n.children) met.read low in
    subst (λ (c : Cause). IsFault image c address) (sym is) (
      naming_of field (node_role form root heap 0) at depth,
      met.reached.1,
      sym e,
      key_broken image form field root heap at depth i met.there few (subst (λ (n : Node). IsKeyedAt form n i → ⊥) met.read wrong),
    )
