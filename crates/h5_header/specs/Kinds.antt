-- What an object is by the types of its messages (File Format Specification 3.0, section IV.A.2).
use Rattle.std.specs.Prelude.{◌≡◌, ◌≤◌, List, [], ◌∷◌}
use Rattle.std.specs.List.{AllByRecursion}
use Rattle.h5_model.specs.Format.MessageTypes.{dataspace_kind, datatype_kind, old_fill_value_kind, fill_value_kind, data_layout_kind, symbol_table_kind}
use Rattle.h5_model.specs.Format.Messages.{Message, count_of}

-- one Symbol Table, and no message of a dataset
pub record IsOfGroup (ms : List Message) : Type 0 where
  pub table : count_of symbol_table_kind ms ≡ 1
  pub alone : AllByRecursion (λ kind. count_of kind ms ≡ 0) (dataspace_kind ∷ datatype_kind ∷ old_fill_value_kind ∷ fill_value_kind ∷ data_layout_kind ∷ [])

-- no Symbol Table, the three messages of a dataset once, and at most one Fill Value of either kind
pub record IsOfDataset (ms : List Message) : Type 0 where
  pub no_table : count_of symbol_table_kind ms ≡ 0
  pub once : AllByRecursion (λ kind. count_of kind ms ≡ 1) (dataspace_kind ∷ datatype_kind ∷ data_layout_kind ∷ [])
  pub fills : AllByRecursion (λ kind. count_of kind ms ≤ 1) (old_fill_value_kind ∷ fill_value_kind ∷ [])
