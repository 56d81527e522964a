-- A fact on each offset that the keys of some nodes hold, node by node.
use Rattle.std.proofs.Common.{ℕ, List, [], ◌∷◌, map}
use Rattle.std.specs.List.{AllByRecursion}
use Rattle.h5_bytes.proofs.BlockLaws.{all_append, all_left, all_right}
use Rattle.h5_model.specs.Format.Links.{key_offsets, offset_in}
use Rattle.h5_model.specs.Format.Rows.{Reading}
use Rattle.h5_btree.proofs.KeyedKeys.{all_mapped, all_unmapped}

module _ (V : Reading) (P : ℕ → Type 0) where
  abbrev pub HoldsOfKeys : ℕ → Type 0
  HoldsOfKeys n = AllByRecursion (λ (key : List ℕ). P (offset_in key)) (V n).keys

  pub offsets_parts : (ns : List ℕ) → AllByRecursion P (key_offsets V ns) → AllByRecursion HoldsOfKeys ns
  offsets_parts [] all = tt
  offsets_parts (n ∷ ns) all =
      (all_unmapped P offset_in (V n).keys (all_left P (map offset_in (V n).keys) (key_offsets V ns) all), offsets_parts ns (all_right P (map offset_in (V n).keys) (key_offsets V ns) all))

  pub offsets_joined : (ns : List ℕ) → AllByRecursion HoldsOfKeys ns → AllByRecursion P (key_offsets V ns)
  offsets_joined [] all = tt
  offsets_joined (n ∷ ns) all = all_append P (map offset_in (V n).keys) (key_offsets V ns) (all_mapped P offset_in (V n).keys all.0) (offsets_joined ns all.1)
