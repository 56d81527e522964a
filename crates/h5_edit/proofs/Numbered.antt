-- Maps of which the keys are the numbers of slots that are filled.
use Rattle.std.proofs.Common.{◌≡◌, ℕ, Option, List, sym, ◌∙◌}
use Rattle.std.specs.Prelude.{slice_get}
use Rattle.std.specs.Option.{option_flatten}
use Rattle.std.specs.Ordering.{nat_cmp}
use Rattle.std.specs.Cmp.{nat_cmp_total}
use Rattle.std.specs.FinMap.{FinMap, get, from_entries, same_map, nat_cmp-IsAntisymmetric}
use Rattle.h5_query.specs.Opened.Objects.{numbered_objects}
use Rattle.h5_query.proofs.OpenedLaws.Made.{get_standing}

-- a map that looks up what slots have by their numbers
pub standing_map : {X : Type 0} (m : FinMap nat_cmp X) (slots : List (Option X)) → ((n : ℕ) → option_flatten (slice_get slots n) ≡ get m n) → m ≡ from_entries (numbered_objects 0 slots)
standing_map m slots same = same_map nat_cmp_total nat_cmp-IsAntisymmetric m (from_entries (numbered_objects 0 slots)) (λ q. sym (same q) ∙ sym (get_standing slots q))
