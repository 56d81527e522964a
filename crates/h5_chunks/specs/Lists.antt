-- Chunks that are kept by their keys, one behind another (File Format Specification 3.0, section III.A.1).
use Rattle.std.specs.Prelude.{◌≡◌, ℕ, zero, suc, ◌+◌, ◌*◌, ◌/◌, ◌%◌, ◌≤◌, ◌||◌, Bool, false, nat_lt, not, List, [], ◌∷◌, ◌++◌, length, map, take, drop}
use Rattle.std.specs.FinMap.{entries, retain_keys}
use Rattle.std.specs.List.{AllByRecursion, filter}
use Rattle.h5_bytes.specs.Bytes.{number_at}
use Rattle.h5_model.specs.Format.Chunks.{Chunks}
use Rattle.h5_model.specs.Format.Limits.{most_dimensions}
use Rattle.h5_model.specs.Tree.Places.{is_inside}

-- chunks of one tree: of how many dimensions and bytes each is, and their offsets
pub record ChunkOffsets : Type 0 where
  pub rank : ℕ
  pub bytes : ℕ
  pub offsets : List (List ℕ)

-- how many bytes a key of so many dimensions has
abbrev pub key_length : ℕ → ℕ
key_length rank = 8 + 8 * (rank + 1)

-- rows of this length, so many of them
abbrev pub rows : ℕ → ℕ → List ℕ → List (List ℕ)
rows long zero bytes = []
rows long (suc n) bytes = take long bytes ∷ rows long n (drop long bytes)

abbrev pub keys_in : ℕ → List ℕ → List (List ℕ)
keys_in rank bytes = rows (key_length rank) (length bytes / key_length rank) bytes

-- The key is one of a chunk of so many dimensions and bytes.
pub record IsKeyOf (rank bytes : ℕ) (key : List ℕ) : Type 0 where
  pub long : length key ≡ key_length rank
  pub stored : number_at key 0 4 ≡ bytes
  pub unfiltered : number_at key 4 4 ≡ 0
  pub element : number_at key (8 + 8 * rank) 8 ≡ 0

-- These bytes are keys of chunks of so many dimensions and bytes, one behind another, and nothing else.
pub record AreKeysOf (rank bytes : ℕ) (keys : List ℕ) : Type 0 where
  pub few : rank ≤ most_dimensions
  pub whole : length keys % key_length rank ≡ 0
  pub each : AllByRecursion (IsKeyOf rank bytes) (keys_in rank keys)

-- of these chunks, one behind another, those that hold no cell of an extent of these sizes: their offsets
abbrev pub offsets_of_outer : List ℕ → List (List ℕ × ℕ) → List (List ℕ)
offsets_of_outer sizes chunks = map (λ e. e.0) (filter (λ e. not (is_inside sizes e.0)) chunks)

-- of these chunks those that hold no cell of an extent of these sizes: their offsets, ascending
abbrev pub offsets_outside : List ℕ → Chunks → List (List ℕ)
offsets_outside sizes chunks = map (λ e. e.0) (entries (retain_keys chunks (λ offsets. not (is_inside sizes offsets))))

-- a chunk of these sizes at these offsets reaches past an extent
abbrev pub reaches_beyond : List ℕ → List ℕ → List ℕ → Bool
reaches_beyond [] chunk offsets = false
reaches_beyond (n ∷ ns) [] offsets = false
reaches_beyond (n ∷ ns) (c ∷ cs) [] = false
reaches_beyond (n ∷ ns) (c ∷ cs) (o ∷ os) = nat_lt n (o + c) || reaches_beyond ns cs os

-- of these chunks, of these sizes, one behind another, those with cells on both sides of the edge of an extent: their offsets
abbrev pub offsets_of_edge : List ℕ → List ℕ → List (List ℕ × ℕ) → List (List ℕ)
offsets_of_edge sizes chunk chunks = filter (reaches_beyond sizes chunk) (map (λ e. e.0) (filter (λ e. is_inside sizes e.0) chunks))

-- of these chunks those with cells on both sides of the edge of an extent of these sizes: their offsets, ascending
abbrev pub offsets_across : List ℕ → List ℕ → Chunks → List (List ℕ)
offsets_across sizes chunk chunks = filter (reaches_beyond sizes chunk) (map (λ e. e.0) (entries (retain_keys chunks (is_inside sizes))))

-- the chunks of a list, and behind them those at these offsets
abbrev pub with_more : ChunkOffsets → List (List ℕ) → ChunkOffsets
with_more list offsets = record list { offsets = list.offsets ++ offsets }
