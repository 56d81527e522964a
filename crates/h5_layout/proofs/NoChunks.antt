-- Where no chunk is stored none holds a cell of an extent.
use Rattle.std.proofs.Common.{◌≡◌, ℕ, Bool, List, [], Option, None, refl, sym, ap, ◌∙◌, subst}
use Rattle.std.specs.Ordering.{nat_cmp}
use Rattle.std.specs.Cmp.Lexicographic.{slice_cmp}
use Rattle.std.specs.FinMap.{empty, entries, entries-from_sorted, get, get-empty, retain_keys}
use Rattle.h5_model.specs.Format.Reached.{Shape}
use Rattle.h5_model.specs.Tree.Places.{is_inside}
use Rattle.h5_model.proofs.MapSteps.{known-empty, retain_by_name}
use Rattle.h5_layout.specs.Kept.{chunks_below_root}

pub none_kept : (test : List ℕ → Bool) → entries (retain_keys (empty {X = ℕ} {R = slice_cmp nat_cmp}) test) ≡ []
none_kept test =
    ap (λ m. entries (retain_keys m test)) (known-empty (slice_cmp nat_cmp)) ∙ ap entries (retain_by_name [] test refl) ∙ entries-from_sorted (slice_cmp nat_cmp) [] tt

pub none_held : (image : List ℕ) (shape : Shape) (root : Option ℕ) (sizes : List ℕ) → root ≡ None
    → [] ≡ entries (retain_keys (chunks_below_root image shape root) (is_inside sizes))
none_held image shape root sizes none =
    sym (ap (λ r. entries (retain_keys (chunks_below_root image shape r) (is_inside sizes))) none ∙ none_kept (is_inside sizes))

-- nor is one stored at any offsets
pub none_stored : (image : List ℕ) (shape : Shape) (root : Option ℕ) (offsets : List ℕ) → root ≡ None
    → None ≡ get (chunks_below_root image shape root) offsets
none_stored image shape root offsets none =
    subst (λ (r : Option ℕ). None ≡ get (chunks_below_root image shape r) offsets) (sym none) (sym (get-empty (slice_cmp nat_cmp) offsets))
