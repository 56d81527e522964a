-- What an edit of attributes leaves of what the messages of a header say (File Format Specification 3.0, section IV.A.2).
use Rattle.std.specs.Prelude.{◌≡◌, ℕ, ◌≤◌, ◌==◌, Bool, false, IsTrue, List, [], ◌∷◌, option_and_then}
use Rattle.std.specs.List.{AllByRecursion, filter}
use Rattle.h5_model.specs.Format.Addresses.{symbol_table_of}
use Rattle.h5_model.specs.Format.Datatype.{fixed_of}
use Rattle.h5_model.specs.Format.MessageTypes.{nil_kind, datatype_kind, attribute_kind, continuation_kind, symbol_table_kind}
use Rattle.h5_model.specs.Format.Messages.{Message, count_of, first_body}

-- The other messages say what they said. A Symbol Table and a Datatype may have moved, and one that is alone of its type says the same.
pub record IsSaidStill (ms ms' : List Message) : Type 0 where
  -- messages of other types are the same, in their order
  pub others : (p : ℕ → Bool) → AllByRecursion (λ kind. p kind ≡ false) (nil_kind ∷ datatype_kind ∷ attribute_kind ∷ continuation_kind ∷ symbol_table_kind ∷ [])
      → filter (λ m. p m.kind) ms' ≡ filter (λ m. p m.kind) ms
  pub bodies : (kind : ℕ) → AllByRecursion (λ other. (other == kind) ≡ false) (nil_kind ∷ datatype_kind ∷ attribute_kind ∷ continuation_kind ∷ symbol_table_kind ∷ [])
      → first_body kind ms' ≡ first_body kind ms
  -- of each type but three there are as many
  pub counts : (kind : ℕ) → AllByRecursion (λ other. (other == kind) ≡ false) (nil_kind ∷ attribute_kind ∷ continuation_kind ∷ []) → count_of kind ms' ≡ count_of kind ms
  -- and none is of a type that was not there before
  pub types : (p : ℕ → Bool) → AllByRecursion (λ kind. IsTrue (p kind)) (nil_kind ∷ attribute_kind ∷ continuation_kind ∷ []) → AllByRecursion (λ m. IsTrue (p m.kind)) ms
      → AllByRecursion (λ m. IsTrue (p m.kind)) ms'
  pub table : count_of symbol_table_kind ms ≤ 1
      → option_and_then symbol_table_of (first_body symbol_table_kind ms') ≡ option_and_then symbol_table_of (first_body symbol_table_kind ms)
  pub datatype : count_of datatype_kind ms ≤ 1 → option_and_then fixed_of (first_body datatype_kind ms') ≡ option_and_then fixed_of (first_body datatype_kind ms)
