-- Why a resize is refused, or that it is not: by its path, the array there, and its sizes.
use Rattle.std.proofs.Common.{◌≡◌, ◌≢◌, ℕ, ◌+◌, ◌-◌, ◌≤◌, ◌||◌, List, [], ◌∷◌, ◌++◌, drop, get_or, length, slice_get, take, take_all, refl, sym, ap, ◌∙◌, Bool, true, false, not, Option, Some, None, nat_le, nat_lt, arith}
use Rattle.std.proofs.Math.Bool.{or-false}
use Rattle.std.proofs.lemmas.Bool.Decides.{nat_tests}
use Rattle.std.proofs.lemmas.List.{drop_more}
use Rattle.std.proofs.lemmas.Option.{get_or_from_slice_get, slice_get_within}
use Rattle.std.specs.Prelude.{◌==◌, if◌then◌else◌}
use Rattle.std.specs.Option.{option_map_or}
use Rattle.std.proofs.lemmas.Bool.{not-false}
use Rattle.h5_model.specs.Edits.Refusal.{refusal_of, rules_of, first_holding, is_chunked, some_above}
use Rattle.h5_model.specs.Format.Limits.{most_cells}
use Rattle.h5_model.specs.Scripts.Reading.{dataset_rules}
use Rattle.h5_model.specs.Tree.Objects.{Tree, Dataset}
use Rattle.h5_model.specs.Tree.Paths.{dataset_at}
use Rattle.h5_model.specs.Tree.Places.{extent_cells}
use Rattle.h5_model.specs.declared.edits.Edit.TheVariants.{Resize}
use Rattle.h5_model.specs.declared.edit_fault.EditFault.{EditFault}
use Rattle.h5_model.specs.declared.edit_fault.EditFault.TheVariants as fault
use Rattle.h5_model.specs.Format.Described.{Described, storage_of}
use Rattle.h5_model.proofs.RefusalLaws.{none_holds}
use Rattle.h5_query.specs.Data.{dataset_told}
use Rattle.h5_query.specs.Opened.State.{FileState}
use Rattle.h5_query.proofs.RuleLaws.{first-behind, first-found}
use Rattle.h5_layout.specs.Extents.{CanHaveSizes}

-- as many sizes as the array has
pub same_rank : (dims sizes : List ℕ) (n : ℕ) → n ≡ length sizes → length dims ≡ n → (length dims == length sizes) ≡ true
same_rank dims sizes n same is = grind (arith, nat_tests)

-- whether there are too many cells, by whether there are few
pub many_of : (dims sizes : List ℕ) (small : Bool) → sizes ≡ dims → small ≡ nat_le (extent_cells sizes) most_cells → nat_lt most_cells (extent_cells dims) ≡ not small
many_of dims sizes small same is =
    let told : small ≡ nat_le (extent_cells dims) most_cells = is ∙ ap (λ (n : List ℕ). nat_le (extent_cells n) most_cells) same in
    by_test small told where
      by_test : (b : Bool) → b ≡ nat_le (extent_cells dims) most_cells → nat_lt most_cells (extent_cells dims) ≡ not b
      by_test true told = grind (arith, nat_tests)
      by_test false told = grind (arith, nat_tests)

-- the maxima from a dimension on are its maximum and those behind it
maxima_from : (k : ℕ) (ms : List (Option ℕ)) (m : Option ℕ) → slice_get ms k ≡ Some m → drop k ms ≡ m ∷ drop (k + 1) ms
maxima_from k ms m is = drop_more ms k m (slice_get_within ms k m is) ∙ ap (λ x. x ∷ drop (k + 1) ms) (get_or_from_slice_get ms k m m is)

-- the first of some sizes is above its maximum, or one of the others is
pub above_step : (sizes : List ℕ) (k : ℕ) (ms : List (Option ℕ)) (m : Option ℕ) → 1 ≤ length sizes → slice_get ms k ≡ Some m
    → some_above sizes (drop k ms) ≡ (option_map_or (λ n. nat_lt n (get_or sizes 0 0)) m false || some_above (take (length sizes - 1) (drop 1 sizes)) (drop (k + 1) ms))
above_step [] k ms m some is = absurd (omega (arith, some))
above_step (d ∷ ds) k ms m some is =
    ap (some_above (d ∷ ds)) (maxima_from k ms m is)
    ∙ ap (λ (xs : List ℕ). option_map_or (λ n. nat_lt n d) m false || some_above xs (drop (k + 1) ms)) (sym (take_all (length (d ∷ ds) - 1) ds (omega arith)))

module _ (tree : Tree) (next : ℕ) (path dims : List ℕ) where
  -- the rules behind those of the path, as the table asks them
  abbrev asked_of : Option Dataset → List (EditFault × Bool)
  asked_of found =
      (fault.RankMismatch, option_map_or (λ (d : Dataset). not (length dims == length d.sizes)) found false)
      ∷ (fault.NotChunked, option_map_or (λ (d : Dataset). not (is_chunked d.storage)) found false)
      ∷ (fault.AboveMaximum, option_map_or (λ (d : Dataset). some_above dims d.maxima) found false)
      ∷ (fault.TooManyCells, nat_lt most_cells (extent_cells dims))
      ∷ []

  resize_table : refusal_of tree next (Resize path dims) ≡ first_holding (dataset_rules tree path ++ asked_of (dataset_at tree path))
  unfolding refusal_of
  resize_table = simp or-false

  pub resize_refused : (e : EditFault) → first_holding (dataset_rules tree path) ≡ Some e → refusal_of tree next (Resize path dims) ≡ Some e
  resize_refused e h = resize_table ∙ first-found (dataset_rules tree path) (asked_of (dataset_at tree path)) e h

  -- ---- the sizes

  module _ (d : Dataset) (there : first_holding (dataset_rules tree path) ≡ None) (at : dataset_at tree path ≡ Some d) where
    by_sizes : (ranked chunked above many : Bool) → (length dims == length d.sizes) ≡ ranked → is_chunked d.storage ≡ chunked → some_above dims d.maxima ≡ above
        → nat_lt most_cells (extent_cells dims) ≡ many
        → refusal_of tree next (Resize path dims) ≡ (if not ranked then Some fault.RankMismatch else (if not chunked then Some fault.NotChunked
        else (if above then Some fault.AboveMaximum else (if many then Some fault.TooManyCells else None))))
    by_sizes ranked chunked above many p q r s =
        resize_table ∙ first-behind (dataset_rules tree path) (asked_of (dataset_at tree path)) there
        ∙ ap (λ (found : Option Dataset). first_holding (asked_of found)) at
        ∙ (λ i. first_holding ((fault.RankMismatch, not (p i)) ∷ (fault.NotChunked, not (q i)) ∷ (fault.AboveMaximum, r i) ∷ (fault.TooManyCells, s i) ∷ []))

    pub rank_refused : (n : ℕ) → n ≡ length d.sizes → length dims ≢ n → refusal_of tree next (Resize path dims) ≡ Some fault.RankMismatch
    rank_refused n same other =
        let apart : length dims ≢ length d.sizes = λ e. other (e ∙ sym same) in
        by_sizes false _ _ _ (grind (arith, nat_tests)) refl refl refl

    module _ (p : (length dims == length d.sizes) ≡ true) where
      pub store_refused : is_chunked d.storage ≡ false → refusal_of tree next (Resize path dims) ≡ Some fault.NotChunked
      store_refused q = by_sizes true false _ _ p q refl refl

      module _ (q : is_chunked d.storage ≡ true) where
        pub above_refused : some_above dims d.maxima ≡ true → refusal_of tree next (Resize path dims) ≡ Some fault.AboveMaximum
        above_refused r = by_sizes true true true _ p q r refl

        module _ (r : some_above dims d.maxima ≡ false) where
          pub many_refused : nat_lt most_cells (extent_cells dims) ≡ true → refusal_of tree next (Resize path dims) ≡ Some fault.TooManyCells
          many_refused s = by_sizes true true false true p q r s

          pub resize_allowed : nat_lt most_cells (extent_cells dims) ≡ false → refusal_of tree next (Resize path dims) ≡ None
          resize_allowed s = by_sizes true true false false p q r s

-- ---- what no rule refuses

-- such sizes can be given to the array
pub can_have : (f : FileState) (path dims : List ℕ) (a : Described) → refusal_of f.tree f.next (Resize path dims) ≡ None
    → dataset_at f.tree path ≡ Some (dataset_told f.image a) → CanHaveSizes a dims
unfolding refusal_of
can_have f path dims a accepted at =
    let rules = none_holds (rules_of f.tree f.next (Resize path dims)) accepted in
    let sized = rules.1.1.1.1.1.1.1.1.1.1.1 in
    let stored = sized.1.1.1.1 in
    let rank : (length dims == length a.sizes) ≡ true
    = not-false _ (sym (ap (λ o. option_map_or (λ (x : Dataset). not (length dims == length x.sizes)) o false) at) ∙ sized.0) in
    let chunked : is_chunked (storage_of a.sizes a.layout) ≡ true
    = not-false _ (sym (ap (λ o. option_map_or (λ (x : Dataset). not (is_chunked x.storage)) o false) at) ∙ stored.0) in
    let within : some_above dims a.maxima ≡ false
    = sym (ap (λ o. option_map_or (λ (x : Dataset). some_above dims x.maxima) o false) at) ∙ stored.1.0 in
    let many = stored.1.1.1.1.0 in
    record {
      chunked = chunked;
      ranked = grind (arith, nat_tests, rank);
      below = within;
      few = grind (arith, nat_tests, many);
    }
