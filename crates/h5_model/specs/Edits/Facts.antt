-- What an image says of an edit, beside its tree.
use Rattle.std.specs.Prelude.{ℕ, Bool, List}
use Rattle.h5_model.specs.declared.k_values.KValues.{KValues}

-- How long the image is, and its K values; how many messages the header of the named object has, and whether its Dataspace message has
-- maxima; how long the heap segment of the group is that takes a link; which chunks of an array are stored; and of the tree that takes the
-- edit's links or chunks, whether its root is at level 15 and has to split for the next one, when so many are added.
pub record Facts : Type 0 where
  pub length : ℕ
  pub k : KValues
  pub total : ℕ
  pub has_maxima : Bool
  pub heap : ℕ
  pub is_stored : List ℕ → Bool
  pub splits_top : ℕ → Bool
