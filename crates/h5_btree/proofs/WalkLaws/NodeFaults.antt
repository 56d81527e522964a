-- A node that is refused breaks a rule.
use Rattle.std.proofs.Common.{◌≡◌, ℕ, ◌≤◌, inl, inr, List, length, refl, sym, subst, arith}
use Rattle.std.specs.Prelude.{Bool, true, false, ◌==◌, not, ◌&&◌, IsTrue}
use Rattle.std.proofs.lemmas.Bool.Decides.{nat_tests}
use Rattle.std.proofs.lemmas.Bool.{cases_lt}
use Rattle.h5_bytes.specs.Blocks.{cover}
use Rattle.h5_bytes.specs.declared.Block.{Block}
use Rattle.h5_model.specs.Format.Limits.{highest_level}
use Rattle.h5_model.specs.Format.Nodes.{Kind, node_bytes, node_of, entries_in}
use Rattle.h5_model.specs.Format.Reached.{level_at}
use Rattle.h5_model.specs.Faults.TreeFaults.{NodeBreach}
use Rattle.h5_model.specs.declared.open_fault.Cause.{Cause}
use Rattle.h5_model.specs.declared.open_fault.Cause.TheVariants.{Truncated, Overlap, NodeForm, NoMemory}
use Rattle.h5_space.specs.Claimed.{ClaimBreach}
use Rattle.h5_btree.specs.Form.{MayBeRoot, MayStandAt}
use Rattle.h5_btree.proofs.NodeLaws.{length-children}
use Rattle.h5_btree.specs.Walk.Refused.{IsRefusedFor}

-- a block that is refused for its form is so for what follows from that
pub refused_for : (P Q : Type 0) (end : ℕ) (held : List Block) (b : Block) (cause : Cause) → (P → Q) → IsRefusedFor P end held b cause → IsRefusedFor Q end held b cause
refused_for P Q end held b Truncated f h = h
refused_for P Q end held b Overlap f h = h
refused_for P Q end held b NodeForm f h = (h.0, f h.1)
refused_for P Q end held b NoMemory f h = h
refused_for P Q end held b _ f h = absurd h

-- so is one that could not be claimed
pub unclaimed_for : (P : Type 0) (end : ℕ) (held : List Block) (b : Block) (cause : Cause) (address : ℕ) → ClaimBreach end held b cause address
    → IsRefusedFor P end held b cause
unclaimed_for P end held b Truncated address h = h.1
unclaimed_for P end held b Overlap address h = h.1
unclaimed_for P end held b NoMemory address h = tt
unclaimed_for P end held b _ address h = absurd h

module _ (image : List ℕ) (kind : Kind) where
  above : (at level : ℕ) → 1 ≤ level → IsTrue (not (at == at && level == 0))
  above at level high = let other : (level == 0) ≡ false = grind (arith, nat_tests) in let same : (at == at) ≡ true = grind (arith, nat_tests) in rw (same, other) refl

  -- what cannot be a root
  pub root_breach : (at : ℕ) → (MayBeRoot (node_of kind (node_bytes image kind at)) → ⊥) → NodeBreach image kind at (level_at image kind at) at
  root_breach at never =
      let bytes = node_bytes image kind at in
      let node = node_of kind bytes in
      let count : entries_in bytes ≡ length node.children = length-children kind bytes node refl in
      elim (cases_lt highest_level node.level) [
        | inl high ↦ inr (inr (inr (inl high)))
        | inr low ↦ elim (cases_lt 0 node.level) [
          | inr ground_level ↦ absurd (never (omega (arith, low), λ some. absurd (omega (arith, some, ground_level))))
          | inl inner ↦ elim (cases_lt 0 (length node.children)) [
            | inl some ↦ absurd (never (omega (arith, low), λ l. some))
            | inr none ↦ inr (inr (inr (inr (inr (omega (arith, count, none), above at node.level inner)))))
          ]
        ]
      ]

  beside : (root at level : ℕ) → (at == root) ≡ false → IsTrue (not (at == root && level == 0))
  beside root at level other = rw other refl

  -- what cannot stand at a level below the root
  pub inner_breach : (root level at : ℕ) → (at == root) ≡ false → (MayStandAt level (node_of kind (node_bytes image kind at)) → ⊥) → NodeBreach image kind root level at
  inner_breach root level at other never =
      let bytes = node_bytes image kind at in
      let node = node_of kind bytes in
      let count : entries_in bytes ≡ length node.children = length-children kind bytes node refl in
      elim (cases_lt node.level level) [
        | inl low ↦ inr (inr (inl (λ e. absurd (omega (arith, low, e)))))
        | inr least ↦ elim (cases_lt level node.level) [
          | inl high ↦ inr (inr (inl (λ e. absurd (omega (arith, high, e)))))
          | inr most ↦ elim (cases_lt 0 (length node.children)) [
            | inl some ↦ absurd (never (omega (arith, least, most), some))
            | inr none ↦ inr (inr (inr (inr (inr (omega (arith, count, none), beside root at level other)))))
          ]
        ]
      ]

-- a byte that was not claimed is none that was
pub unclaimed_other : (root at : ℕ) (held : List Block) → cover at held ≡ 0 → 1 ≤ cover root held → (at == root) ≡ false
unclaimed_other root at held none some = by_test (at == root) refl where
  by_test : (b : Bool) → (at == root) ≡ b → b ≡ false
  by_test false e = refl
  by_test true e =
      let same : at ≡ root = grind (arith, nat_tests) in
      let one : 1 ≤ cover at held = subst (λ (p : ℕ). 1 ≤ cover p held) (sym same) some in
      absurd (omega (arith, none, one))
