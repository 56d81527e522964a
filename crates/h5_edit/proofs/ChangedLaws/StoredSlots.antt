-- The stored chunks of the objects of an opened image, in the slots of their numbers.
use Rattle.std.proofs.Common.{◌≡◌, inl, inr, ℕ, ◌+◌, ◌<◌, ◌≤◌, List, [], ◌∷◌, ◌++◌, length, Bool, true, false, cond, Option, Some, None, refl, sym, ap, ◌∙◌, subst, arith}
use Rattle.std.specs.Prelude.{◌==◌, IsSome, slice_get, option_and_then}
use Rattle.std.specs.Option.{option_flatten}
use Rattle.std.specs.FinMap.{get}
use Rattle.std.proofs.lemmas.Bool.{cases_lt}
use Rattle.std.proofs.lemmas.Bool.Decides.{nat_tests}
use Rattle.std.proofs.lemmas.List.{length-append}
use Rattle.std.proofs.lemmas.Option.{same_Some}
use Rattle.h5_header.specs.Listed.{messages_in}
use Rattle.h5_layout.specs.HeldChunks.{held_chunks}
use Rattle.h5_layout.specs.StoredAt.{HasStoredChunks}
use Rattle.h5_layout.proofs.KnownLaws.{known_in}
use Rattle.h5_model.specs.Format.Addresses.{SymbolTable}
use Rattle.h5_model.specs.Format.Messages.{Message}
use Rattle.h5_model.specs.Format.Reads.{HasDataset}
use Rattle.h5_model.specs.Tree.Objects.{Object, Content, Links, Group, Array, Dataset, dataset_in, dataset_of}
use Rattle.h5_model.proofs.DescribedLaws.{has_dataset}
use Rattle.h5_query.specs.Data.{data_blocks, stored_chunks}
use Rattle.h5_query.specs.Kept.{array_dataset}
use Rattle.h5_query.specs.Opened.Kept.{IsContentKept}
use Rattle.h5_query.specs.GroupTold.{links_told}
use Rattle.h5_query.specs.Opened.Objects.{content_in, links_by}
use Rattle.h5_query.specs.OpenedObjectType.{OpenedObject}
use Rattle.h5_query.specs.OpenedContentType.{OpenedContent}
use Rattle.h5_query.specs.OpenedContentType.TheVariants as content
use Rattle.h5_query.specs.Told.{array_told}
use Rattle.h5_query.proofs.DataLaws.{data_there, told_chunks}
use Rattle.h5_query.specs.Opened.Sound.{IsObjectOf}
use Rattle.h5_query.specs.Opened.State.{FileState}
use Rattle.h5_repack.specs.Objects.Objects.{content_chunks, slot_chunks, stored_in}
use Rattle.h5_repack.specs.declared.objects.object.NewContent.{NewContent}
use Rattle.h5_repack.specs.declared.objects.object.NewObject.{NewObject}
use Rattle.h5_edit.specs.Changed.Cells.{AreChunksKept}
use Rattle.h5_edit.specs.Repacked.{AreStoredAt}
use Rattle.h5_edit.proofs.ChangedLaws.NumberedLaws.{found_one_more}

-- the stored chunks of a slot more
stored_one_more : (slots : List (Option NewObject)) (slot : Option NewObject) (k : ℕ) (b : Bool) → (k == length slots) ≡ b
    → stored_in (slots ++ slot ∷ []) k ≡ cond b (slot_chunks slot) (stored_in slots k)
stored_one_more slots slot k b is = ap slot_chunks (found_one_more slots slot k ∙ ap (λ t. cond t slot (option_flatten (slice_get slots k))) is) ∙ by_case b where
  by_case : (t : Bool) → slot_chunks (cond t slot (option_flatten (slice_get slots k))) ≡ cond t (slot_chunks slot) (stored_in slots k)
  by_case true = refl
  by_case false = refl

-- a group is no array
group_array : (c : Content) (links : Links) (d : Dataset) → c ≡ Group links → c ≡ Array d → ⊥
group_array (Group ls) links d is array = cc
group_array (Array e) links d is array = cc

module _ (f : FileState) where
  -- where no object has the number
  pub none_at : (number : ℕ) (offsets : List (List ℕ)) → get f.tree number ≡ None → AreStoredAt f number offsets
  none_at number offsets none d array = absurd (let never : None ≡ Some d = sym (ap (option_and_then (λ (x : Object). dataset_in x.content)) none) ∙ array in cc)

  -- ---- of an object of the image

  module _ (number : ℕ) (o : OpenedObject) (of : IsObjectOf f number o) where
    abbrev ms : List Message
    ms = messages_in f.image o.messages.list

    abbrev told : OpenedContent → Content
    told = content_in f.image f.table ms

    array_in : (c : Content) (d : Dataset) → dataset_in c ≡ Some d → c ≡ Array d
    array_in (Group links) d is = absurd (cc)
    array_in (Array e) d is = ap Array (same_Some e d is)

    -- the array of its number is its content
    array_there : (d : Dataset) → dataset_of f.tree number ≡ Some d → told o.content ≡ Array d
    array_there d array = array_in (told o.content) d (sym (ap (option_and_then (λ (x : Object). dataset_in x.content)) of.there) ∙ array)

    -- a group has none
    pub group_stored : (g : SymbolTable) → o.content ≡ content.Group g → (offsets : List (List ℕ)) → AreStoredAt f number offsets
    group_stored g is offsets d array = absurd (group_array (told o.content) (links_by f.table (links_told f.image g)) d (ap told is) (array_there d array))

    -- those of an array that are handed over
    pub array_stored : o.content ≡ content.Array → (x : NewContent) → AreChunksKept f.image ms (array_dataset f.image ms) x
        → AreStoredAt f number (content_chunks x)
    array_stored is x kept d array chunk chunked =
        let a = array_told ms in
        let read = subst (IsContentKept f.image ms) is of.kept.content in
        let same : array_dataset f.image ms ≡ d
        = (let both : Array (array_dataset f.image ms) ≡ Array d = sym (ap told is) ∙ array_there d array in cc) in
        let has : HasDataset f.image ms (array_dataset f.image ms) (data_blocks f.image a.fixed a.layout)
        = has_dataset f.image ms a (stored_chunks f.image a.fixed a.layout) (data_blocks f.image a.fixed a.layout) read.0.array
        (known_in f.image o.messages.list of.kept.known (read.0.kinds).no_table) (data_there f.image a.fixed a.layout read.1) in
        let chunks : HasStoredChunks f.image o.messages.header (stored_chunks f.image a.fixed a.layout) = record {
          messages = ms;
          header_blocks = o.messages.blocks;
          listed = of.kept.header.has;
          dataset = array_dataset f.image ms;
          data_blocks = data_blocks f.image a.fixed a.layout;
          array = has;
          chunks_are = told_chunks f.image a.fixed has.layout has.chunks (data_blocks f.image a.fixed a.layout) has.stored
              ∙ ap (stored_chunks f.image a.fixed) (same_Some has.layout a.layout (sym has.array.laid_out ∙ read.0.array.laid_out));
        } in (
          o.messages.header,
          stored_chunks f.image a.fixed a.layout,
          of.header,
          chunks,
          subst (λ (e : Dataset). content_chunks x ≡ held_chunks e.sizes (stored_chunks f.image a.fixed a.layout)) same
              (kept chunk (ap (λ (e : Dataset). e.storage) same ∙ chunked)),
        )

  -- ---- of the slots

  -- of the first so many slots
  pub record AreStoredBelow (slots : List (Option NewObject)) (n : ℕ) : Type 0 where
    pub long : length slots ≡ n
    pub each : (k : ℕ) → k < n → AreStoredAt f k (stored_in slots k)

  pub stored_more : (slots more : List (Option NewObject)) (n : ℕ) (slot : Option NewObject) → AreStoredBelow slots n
      → AreStoredAt f n (slot_chunks slot) → more ≡ slots ++ slot ∷ [] → AreStoredBelow more (n + 1)
  stored_more slots more n slot so here longer = subst (λ list. AreStoredBelow list (n + 1)) (sym longer) (record {
    long = length-append slots (slot ∷ []) ∙ ap (λ m. m + 1) so.long;
    each = λ k low. by_test k low (k == length slots) refl;
  }) where
    by_test : (k : ℕ) → k < n + 1 → (b : Bool) → (k == length slots) ≡ b → AreStoredAt f k (stored_in (slots ++ slot ∷ []) k)
    by_test k low true last =
        let long = so.long in
        let same : n ≡ k = grind (arith, nat_tests, last, long) in
        subst (AreStoredAt f k) (sym (stored_one_more slots slot k true last)) (subst (λ m. AreStoredAt f m (slot_chunks slot)) same here)
    by_test k low false other =
        let long = so.long in
        subst (AreStoredAt f k) (sym (stored_one_more slots slot k false other)) (so.each k (grind (arith, nat_tests, other, low, long)))

  -- of all
  pub all_stored : (slots : List (Option NewObject)) → AreStoredBelow slots f.next → ((k : ℕ) → IsSome (get f.tree k) → k < f.next)
      → (k : ℕ) → AreStoredAt f k (stored_in slots k)
  all_stored slots so given k = elim (cases_lt k f.next) [
    | inl low ↦ so.each k low
    | inr past ↦ past_all (get f.tree k) refl past
  ] where
    past_all : (found : Option Object) → get f.tree k ≡ found → f.next ≤ k → AreStoredAt f k (stored_in slots k)
    past_all None is past = none_at k (stored_in slots k) is
    past_all (Some o) is past = absurd (omega (arith, past, given k (rw is refl)))
