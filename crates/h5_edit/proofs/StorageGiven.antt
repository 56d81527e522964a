-- What decides of a write that no rule refuses: the storage that is missing, whether its chunks find room in their tree, and how long the
-- image may get (File Format Specification 3.0, sections III.A.1 and IV.A.2.i).
use Rattle.std.proofs.Common.{◌≡◌, ℕ, ℤ, ◌+◌, ◌<◌, ◌≤◌, inl, inr, Bool, true, false, nat_lt, List, Option, Some, length, refl, sym, ap, ◌∙◌, subst, arith}
use Rattle.std.proofs.lemmas.Bool.Decides.{nat_tests}
use Rattle.std.specs.Prelude.{◌↔◌, ◌==◌, IsTrue, Result, Ok, Err, option_and_then}
use Rattle.std.specs.Option.{option_map_or}
use Rattle.h5_btree.specs.declared.insertion.InsertFault.{InsertFault}
use Rattle.h5_btree.specs.declared.insertion.InsertFault.TheVariants as insertion
use Rattle.h5_model.specs.Edits.Bounds.{bound_of, new_chunks, write_bound}
use Rattle.h5_model.specs.Edits.Facts.{Facts}
use Rattle.h5_model.specs.Edits.ImageAnswers.{AtTop, new_entries}
use Rattle.h5_model.specs.Format.Limits.{most_bytes}
use Rattle.h5_model.specs.Tree.Objects.{Dataset, dataset_of}
use Rattle.h5_model.specs.Tree.Paths.{dataset_at}
use Rattle.h5_model.specs.Views.Selection.{Slab, Within, axes_of}
use Rattle.h5_model.specs.declared.edits.Edit.{Edit}
use Rattle.h5_model.specs.declared.edits.Edit.TheVariants.{Write}
use Rattle.h5_model.specs.declared.edit_fault.EditFault.TheVariants as fault
use Rattle.h5_model.specs.declared.hyperslab.Hyper.{Hyper}
use Rattle.h5_model.specs.Format.Described.{Described}
use Rattle.h5_model.proofs.RefusalLaws.{Writes, accepted_write}
use Rattle.h5_model.proofs.WithinLaws.{from_is_within}
use Rattle.h5_query.specs.Data.{dataset_told}
use Rattle.h5_query.specs.Opened.Sound.{IsSound}
use Rattle.h5_query.specs.Opened.State.{FileState}
use Rattle.h5_space.specs.declared.image.SpaceFault.TheVariants as space
use Rattle.h5_edit.specs.Answers.{insert_fault}
use Rattle.h5_layout.specs.Storage.{IsDeepFor, storage_bytes}
use Rattle.h5_edit.specs.Carried.{AreFacts, IsAccepted, IsRefused}
use Rattle.h5_layout.specs.Lacking.{IsMissing}
use Rattle.h5_edit.specs.Edited.{IsGrowth}
use Rattle.h5_layout.specs.Lacking.{lacks_cells}
use Rattle.h5_edit.specs.Refusals.Allowed.{IsWriteAt}
use Rattle.h5_edit.specs.StorageFacts.{IsDeepInTurn}
use Rattle.h5_layout.specs.declared.lacking.Missing.{Missing}
use Rattle.h5_edit.proofs.AttributeFacts.{short_image}
use Rattle.h5_edit.proofs.FullDecided.{deep_first_decided}
use Rattle.h5_edit.proofs.Refusals.{short_of_memory}
use Rattle.h5_edit.proofs.StorageBound.{deep_below, deep_is, none_bound, none_deep, some_bound, storage_facts}
use Rattle.h5_edit.proofs.WrittenTrees.{sizes_are, told_is}

module _ {f : FileState} {path : List ℕ} {hyper : Hyper} {values : List ℤ} {number : ℕ} (is : IsWriteAt f path hyper values number) where
  abbrev edit : Edit
  edit = Write path hyper values

  abbrev slab : Slab
  slab = axes_of hyper

  abbrev a : Described
  a = is.array

  -- ---- the array

  abbrev accepted : (d : Dataset) × (dataset_at f.tree path ≡ Some d) × Writes d slab values
  accepted = accepted_write f.tree f.next path hyper values is.at.allowed

  pub written_array : dataset_of f.tree number ≡ Some accepted.0
  written_array = sym (ap (option_and_then (dataset_of f.tree)) is.at.object) ∙ accepted.1

  within : Within a.sizes slab
  within =
      let writes = (accepted.2) in
      subst (λ sizes. Within sizes slab) (sym (sizes_are f number a is.there accepted.0 written_array))
      (from_is_within (accepted.0).sizes slab (sym writes.ranked) writes.within)

  array_at : dataset_at f.tree path ≡ Some (dataset_told f.image a)
  array_at = accepted.1 ∙ ap (λ (d : Dataset). Some d) (sym (told_is f number a is.there accepted.0 written_array))

  -- ---- what the image says

  abbrev facts_of : (ℕ → Bool) → Facts
  facts_of top = storage_facts f.image a top

  abbrev IsDeep : (ℕ → Bool) → ℕ → Type 0
  IsDeep top n = IsDeepInTurn f.image a (facts_of top) edit n

  are_facts : (top : ℕ → Bool) → ((n : ℕ) → IsTrue (top n) → IsDeep top n) → (IsDeep top 0 → IsTrue (top 0)) → AreFacts f edit (facts_of top)
  are_facts top deep first = record {
    long = refl;
    k = refl;
    at = record { number = number; at = is.at.object; array = a; there = is.there; stored = λ offsets. refl; top = deep; first = first };
  }

  bound_is : (top : ℕ → Bool) → bound_of (facts_of top) f.tree edit ≡ write_bound (facts_of top) edit slab (dataset_told f.image a)
  unfolding bound_of
  bound_is top = ap (λ (found : Option Dataset). option_map_or (write_bound (facts_of top) edit slab) found 0) array_at

  entries_are : (top : ℕ → Bool) → new_entries (facts_of top) f.tree edit ≡ length (new_chunks (facts_of top) edit (dataset_told f.image a))
  entries_are top = ap (λ (found : Option Dataset). option_map_or (λ d. length (new_chunks (facts_of top) edit d)) found 0) array_at

  -- nothing refuses it, where no chunk is in the way
  module _ (never_deep : IsDeep (λ _. false) 0 → ⊥) where
    none_deep_facts : AreFacts f edit (facts_of (λ _. false))
    none_deep_facts = are_facts (λ _. false) (λ n never. absurd (let no : false ≡ true = never in cc)) (λ deep. absurd (never_deep deep))

    fits : length f.image + bound_of (facts_of (λ _. false)) f.tree edit ≤ most_bytes → IsAccepted f edit
    fits short = record {
      accepted = is.at.allowed;
      given = λ _. (facts_of (λ _. false), none_deep_facts, (refl, refl, grind (arith, nat_tests, short)));
    }

    grows : (bytes : ℕ) → bytes ≡ bound_of (facts_of (λ _. false)) f.tree edit → IsGrowth f edit bytes
    grows bytes same = (facts_of (λ _. false), none_deep_facts, same)

    too_long : most_bytes < length f.image + bound_of (facts_of (λ _. false)) f.tree edit → IsRefused f edit fault.ImageFull
    too_long long = record {
      given = Some fault.ImageFull;
      allowed = λ _. (facts_of (λ _. false), none_deep_facts, (refl, refl, grind (arith, nat_tests, long)));
      answer = rw is.at.allowed refl;
    }

  pub no_memory : IsRefused f edit fault.NoMemory
  no_memory = short_of_memory f edit is.at.allowed

  -- ---- nothing is missing

  module _ (none : lacks_cells f.image a slab ≡ false) where
    nothing_deep : IsDeep (λ _. false) 0 → ⊥
    nothing_deep deep = none_deep f.image is.there.messages a is.there.described path hyper values within (λ _. false) none 0 a.layout refl deep

    nothing_bound : bound_of (facts_of (λ _. false)) f.tree edit ≡ 0
    nothing_bound = bound_is (λ _. false) ∙ none_bound f.image is.there.messages a is.there.described path hyper values within (λ _. false) none a.layout refl

    pub nothing_accepted : IsSound f → IsAccepted f edit
    nothing_accepted sound = let short = short_image f sound in fits nothing_deep (omega (arith, short, nothing_bound))

    pub nothing_grows : IsGrowth f edit 0
    nothing_grows = grows nothing_deep 0 (sym nothing_bound)

  -- ---- so much is missing

  module _ (m : Missing) (lacks : lacks_cells f.image a slab ≡ true) (missed : IsMissing f.image a slab m) where
    some_bound_is : (top : ℕ → Bool) → bound_of (facts_of top) f.tree edit ≡ storage_bytes f.image a m
    some_bound_is top = bound_is top ∙ some_bound f.image is.there.messages a is.there.described path hyper values within top m lacks a.layout refl missed

    deep_as : (top : ℕ → Bool) (n : ℕ) → IsDeep top n ↔ IsDeepFor f.image a m n
    deep_as top n = deep_is f.image is.there.messages a is.there.described path hyper values within top m n a.layout refl missed

    too_deep : (top : ℕ → Bool) → AreFacts f edit (facts_of top) → (n : ℕ) → IsDeepFor f.image a m n → IsTrue (top n) → IsRefused f edit fault.TreeTooDeep
    too_deep top are n deep there =
        let low = deep_below f.image is.there.messages a is.there.described path hyper values within top n a.layout ((deep_as top n).1 deep) in
        let entries = entries_are top in
        let at_top : AtTop (facts_of top) f.tree edit = (n, omega (arith, low, entries), there) in
        record {
          given = Some fault.TreeTooDeep;
          allowed = λ _. (facts_of top, are, (refl, at_top));
          answer = rw is.at.allowed refl;
        }

    -- chunk n alone is said to find no room
    only : ℕ → ℕ → Bool
    only n k = k == n

    only_here : (n : ℕ) → only n n ≡ true
    unfolding only
    only_here n = grind (arith, nat_tests)

    only_one : (n k : ℕ) → IsTrue (only n k) → k ≡ n
    unfolding only
    only_one n k there = grind (arith, nat_tests, there)

    only_facts : (n : ℕ) → IsDeepFor f.image a m n → (IsDeepFor f.image a m 0 → IsTrue (only n 0)) → AreFacts f edit (facts_of (only n))
    only_facts n deep first = are_facts (only n) (λ k there. (deep_as (only n) k).1 (subst (IsDeepFor f.image a m) (sym (only_one n k there)) deep))
        (λ at. first ((deep_as (only n) 0).0 at))

    refused_deep : (n : ℕ) → IsDeepFor f.image a m n → IsRefused f edit fault.TreeTooDeep
    refused_deep n deep = elim (deep_first_decided f.image a (new_chunks (facts_of (λ _. false)) edit (dataset_told f.image a)) a.layout) [
      | inl first ↦ let at = (deep_as (λ _. false) 0).0 first in too_deep (only 0) (only_facts 0 at (λ _. only_here 0)) 0 at (only_here 0)
      | inr not ↦ too_deep (only n) (only_facts n deep (λ at. absurd (not ((deep_as (λ _. false) 0).1 at)))) n deep (only_here n)
    ]

    -- by the answer of the call that makes the storage
    module _ {T : Type 0} (r : Result T InsertFault) (deep : r ≡ Err insertion.TreeTooDeep → (n : ℕ) × IsDeepFor f.image a m n)
        (deep_first : IsDeepFor f.image a m 0 → r ≡ Err insertion.TreeTooDeep)
        (full : (r ≡ Err (insertion.Space space.ImageFull)) ↔ ((IsDeepFor f.image a m 0 → ⊥) × (most_bytes < length f.image + storage_bytes f.image a m))) where
      module _ (u : T) (ok : r ≡ Ok u) where
        made_first : IsDeepFor f.image a m 0 → ⊥
        made_first first = let never : Ok u ≡ Err insertion.TreeTooDeep = sym ok ∙ deep_first first in absurd (cc)

        made_deep : IsDeep (λ _. false) 0 → ⊥
        made_deep at = made_first ((deep_as (λ _. false) 0).0 at)

        made_short : (long : Bool) → nat_lt most_bytes (length f.image + storage_bytes f.image a m) ≡ long → length f.image + storage_bytes f.image a m ≤ most_bytes
        made_short true past =
            absurd (let never : Ok u ≡ Err (insertion.Space space.ImageFull) = sym ok ∙ full.1 (made_first, grind (arith, nat_tests, past)) in cc)
        made_short false within_it = grind (arith, nat_tests, within_it)

        pub made_accepted : IsAccepted f edit
        made_accepted =
            let short = made_short (nat_lt most_bytes (length f.image + storage_bytes f.image a m)) refl in
            let same = some_bound_is (λ _. false) in
            fits made_deep (omega (arith, short, same))

        pub made_grows : IsGrowth f edit (storage_bytes f.image a m)
        made_grows = grows made_deep (storage_bytes f.image a m) (sym (some_bound_is (λ _. false)))

      pub storage_refused : (why : InsertFault) → r ≡ Err why → IsRefused f edit (insert_fault why)
      storage_refused insertion.TreeTooDeep so = let at = deep so in refused_deep at.0 at.1
      storage_refused (insertion.Space space.ImageFull) so =
          let long = full.0 so in
          let same = some_bound_is (λ _. false) in
          too_long (λ at. long.0 ((deep_as (λ _. false) 0).0 at)) (let past = long.1 in omega (arith, past, same))
      storage_refused (insertion.Space space.NoMemory) so = no_memory
