-- Texts of a heap's segment, each with its zero and its padding, and which of them are taken (File Format
-- Specification 3.0, section III.D).
use Rattle.std.specs.Prelude.{◌≡◌, ◌≢◌, ℕ, ◌+◌, ◌%◌, ◌≤◌, ◌⊎◌, ◌↔◌, List, ◌∷◌, ◌++◌, map, length}
use Rattle.std.specs.List.{AllByRecursion, Contains}
use Rattle.h5_bytes.specs.Bytes.{byte_at}
use Rattle.h5_bytes.specs.Blocks.{block, holds, cover, Separate}
use Rattle.h5_bytes.specs.declared.Block.{Block}
use Rattle.h5_model.specs.Format.Heap.{span_of, KeyNames}
use Rattle.h5_model.specs.declared.open_fault.Cause.{Cause}
use Rattle.h5_model.specs.declared.open_fault.Cause.TheVariants.{HeapName}
use Rattle.h5_space.specs.Claimed.{Shares}
use Rattle.h5_heap.specs.Kept.{HeapState}

-- a text begins at this offset, and lies in the segment with its zero and its padding
pub record IsSpan (segment : List ℕ) (offset : ℕ) : Type 0 where
  pub aligned : offset % 8 ≡ 0
  pub within : offset + (span_of segment offset).len ≤ length segment

-- the text's span is held, and its offset is noted
pub record Takes (segment : List ℕ) (old new : HeapState) (offset : ℕ) : Type 0 where
  pub noted : new ≡ record old { held = new.held; taken = new.taken }
  pub begun : (x : ℕ) → Contains new.taken x ↔ ((x ≡ offset) ⊎ Contains old.taken x)
  pub covered : (p : ℕ) → cover p new.held ≡ cover p old.held + holds p offset (span_of segment offset).len
  pub separate : Separate new.held

-- the offset is that of the empty name or of a text that was taken, or its text is taken now
abbrev pub TakesOnce : List ℕ → HeapState → HeapState → ℕ → Type 0
TakesOnce segment old new offset = (((offset ≡ 0) ⊎ Contains old.taken offset) × (new ≡ old))
    ⊎ ((offset ≢ 0) × (Contains old.taken offset → ⊥) × Takes segment old new offset)

-- ---- refusals

-- why the empty name is not taken
abbrev pub IsNotEmpty : List ℕ → List Block → Cause → Type 0
IsNotEmpty segment held HeapName = byte_at segment 0 ≡ 0 → Shares held 0 8
IsNotEmpty segment held _ = ⊥

-- why a text is not taken: it does not lie in the segment, or shares a byte with what is held
abbrev pub IsUntaken : List ℕ → List Block → ℕ → Cause → Type 0
IsUntaken segment held offset HeapName = IsSpan segment offset → Shares held offset (span_of segment offset).len
IsUntaken segment held offset _ = ⊥

-- why a key names nothing
abbrev pub IsUnnamed : List ℕ → HeapState → ℕ → Cause → Type 0
IsUnnamed segment heap offset HeapName = IsSpan segment offset
    → (offset ≢ 0) × (Contains heap.taken offset → ⊥) × Shares heap.held offset (span_of segment offset).len
IsUnnamed segment heap offset _ = ⊥

-- ---- all that was taken

-- the spans of the empty name, of these texts, and of the free blocks
abbrev pub all_spans : List ℕ → List ℕ → List Block → List Block
all_spans segment offsets free = block 0 8 ∷ map (span_of segment) offsets ++ free

-- These texts were taken since the names were begun: those that links name, and then those that keys alone name.
-- Law has_names: when these are all texts of a group's links, and each of its keys is named, HasNames holds. Laws
-- begin_breach to key_breach: a text that is refused on the way is a HeapNameBreach.
pub record HasTaken (segment : List ℕ) (heap : HeapState) (linked loose : List ℕ) : Type 0 where
  pub empty : byte_at segment 0 ≡ 0
  pub spans : AllByRecursion (IsSpan segment) (linked ++ loose)
  pub covered : (p : ℕ) → cover p heap.held ≡ cover p (all_spans segment (linked ++ loose) heap.free)
  pub noted : (offset : ℕ) → Contains heap.taken offset ↔ Contains (linked ++ loose) offset
  pub separate : Separate heap.held

-- the key names a text: one that was taken, or one that is loose from now on
pub record HasNamed (segment : List ℕ) (heap : HeapState) (linked loose : List ℕ) (offset : ℕ) : Type 0 where
  pub loose' : List ℕ
  pub taken : HasTaken segment heap linked loose'
  pub names : KeyNames linked loose' offset
  pub more : (k : ℕ) → Contains loose k → Contains loose' k
  pub only : (k : ℕ) → Contains loose' k → Contains loose k ⊎ (k ≡ offset)
