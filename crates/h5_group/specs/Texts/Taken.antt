-- Texts of a group's heap that are taken one after another (File Format Specification 3.0, section III.D).
use Rattle.std.specs.Prelude.{◌≡◌, ℕ, ◌≤◌, ◌⊎◌, List, [], ◌++◌, length}
use Rattle.std.specs.List.{AllByRecursion, Contains}
use Rattle.std.specs.List.Sorted.{IsPermutation}
use Rattle.h5_bytes.specs.declared.Block.{Block}
use Rattle.h5_model.specs.Format.Heap.{HasNames, KeyNames}
use Rattle.h5_model.specs.declared.open_fault.Cause.{Cause}
use Rattle.h5_model.specs.declared.open_fault.Cause.TheVariants.{HeapName, NoMemory}
use Rattle.h5_heap.specs.Kept.{HeapState, segment_in}
use Rattle.h5_heap.specs.Spans.{HasTaken}

-- where the heap lies, and its free blocks, are as before
pub record IsSameHeap (old new : HeapState) : Type 0 where
  pub at : new.at ≡ old.at
  pub segment : new.segment ≡ old.segment
  pub free : new.free ≡ old.free

-- these texts, which links name, were taken after those of other links
pub record TakesLinked (image : List ℕ) (old new : HeapState) (offsets : List ℕ) : Type 0 where
  pub same : IsSameHeap old new
  pub taken : (linked : List ℕ) → HasTaken (segment_in image old) old linked [] → HasTaken (segment_in image old) new (linked ++ offsets) []

-- with these texts, and maybe more, which links name, the spans are not sound
abbrev pub AreUnsound : List ℕ → List Block → List ℕ → Type 0
AreUnsound segment free offsets = (names texts keys loose more : List ℕ) → IsPermutation (names ++ texts) (offsets ++ more)
    → HasNames segment free names texts keys loose → ⊥

-- one of these texts, which links name, cannot be taken after those of other links
abbrev pub AreLinkedRefused : List ℕ → HeapState → List ℕ → Type 0
AreLinkedRefused image heap offsets = (linked : List ℕ) → HasTaken (segment_in image heap) heap linked []
    → AreUnsound (segment_in image heap) heap.free (linked ++ offsets)

-- each of these keys names a text; those that no link names are taken from now on
pub record AreKeysNamed (segment : List ℕ) (heap : HeapState) (linked loose keys : List ℕ) : Type 0 where
  pub loose' : List ℕ
  pub taken : HasTaken segment heap linked loose'
  pub names : AllByRecursion (KeyNames linked loose') keys
  pub more : (k : ℕ) → Contains loose k → Contains loose' k
  pub only : (k : ℕ) → Contains loose' k → Contains loose k ⊎ Contains keys k

-- these keys were read, after all texts that links name
pub record NamesKeys (image : List ℕ) (old new : HeapState) (keys : List ℕ) : Type 0 where
  pub same : IsSameHeap old new
  pub named : (linked loose : List ℕ) → HasTaken (segment_in image old) old linked loose → AreKeysNamed (segment_in image old) new linked loose keys

-- with these keys among all keys, whatever texts these name, the spans are not sound; or memory was short
abbrev pub AreUnnamed : List ℕ → List Block → List ℕ → List ℕ → Cause → Type 0
AreUnnamed segment free linked keys NoMemory = Unit {0}
AreUnnamed segment free linked keys HeapName = (names texts all loose : List ℕ) → IsPermutation (names ++ texts) linked
    → ((k : ℕ) → Contains keys k → Contains all k) → 8 ≤ length segment → HasNames segment free names texts all loose → ⊥
AreUnnamed segment free linked keys _ = ⊥

-- why one of these keys names nothing, after all texts that links name and those that other keys alone name
abbrev pub AreKeysRefused : List ℕ → HeapState → List ℕ → Cause → Type 0
AreKeysRefused image heap keys cause = (linked loose : List ℕ) → HasTaken (segment_in image heap) heap linked loose
    → AreUnnamed (segment_in image heap) heap.free linked (loose ++ keys) cause
