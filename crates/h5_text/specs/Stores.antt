-- How a dataset's cells are stored, as `dump` tells it.
use Rattle.std.specs.Prelude.{ℕ, true, List}
use Rattle.std.specs.Borrow.{Bor}
use Rattle.h5_model.specs.Scripts.Text.{storage_text}
use Rattle.h5_model.specs.Tree.Objects as tree
use Rattle.h5_model.specs.declared.dataset.Store.{Store}
use Rattle.h5_model.specs.declared.dataset.Store.TheVariants.{Compact, Contiguous, Chunked}

-- it is not told whether contiguous cells are stored yet
abbrev pub shown_storage : Store (Bor (List ℕ)) → tree.Storage
shown_storage Compact = tree.Compact
shown_storage Contiguous = tree.Contiguous true
shown_storage (Chunked sizes) = tree.Chunked sizes.now

abbrev pub store_text : Store (Bor (List ℕ)) → List ℕ
store_text store = storage_text (shown_storage store)
