-- What an edit of one attribute of an opened file asks of the object, and where its header is full (File Format Specification 3.0,
-- sections IV.A.1.a and IV.A.2.m).
use Rattle.std.specs.Prelude.{◌≡◌, ℕ, ◌+◌, Bool, false, nat_lt, IsTrue, Some, List}
use Rattle.std.specs.FinMap.{get, contains_key}
use Rattle.std.specs.Option.{option_map_or}
use Rattle.h5_model.specs.Format.Messages.{prefix_at, total_in, most_messages}
use Rattle.h5_model.specs.Tree.Objects.{Object}
use Rattle.h5_open.specs.Opened.State.{FileState}

-- the object of a number has an attribute of this name
abbrev pub IsAttributeThere : FileState → ℕ → List ℕ → Type 0
IsAttributeThere f number name = (o : Object) × (get f.tree number ≡ Some o) × IsTrue (contains_key o.attributes name)

-- The total of messages in the object's header has two bytes, and has no place for one more with which a Continuation may come.
abbrev pub has_full_header : FileState → ℕ → Bool
has_full_header f number = option_map_or (λ header. nat_lt most_messages (total_in (prefix_at f.image header) + 2)) (get f.table number) false
