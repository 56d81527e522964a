-- Storage made for an array of an opened image, as callers see the image: what is asked for, and what is given.
use Rattle.std.proofs.Common.{◌≡◌, ◌↔◌, ℕ, ◌+◌, ◌<◌, ◌≤◌, List, [], ◌∷◌, length, sym, subst, arith, Option, Some}
use Rattle.std.specs.Prelude.{slice_get}
use Rattle.std.specs.BTreeMap.{BTreeMap}
use Rattle.std.specs.List.{Contains}
use Rattle.h5_model.specs.Edits.Applied.{with_dataset}
use Rattle.h5_model.specs.Format.Limits.{most_bytes}
use Rattle.h5_model.specs.Format.Superblock.{end_of_file, end_field, superblock_length}
use Rattle.h5_model.specs.Format.Described.{Described}
use Rattle.h5_model.specs.Tree.Objects.{with_object}
use Rattle.h5_model.specs.Views.Selection.{Slab, selection_of}
use Rattle.h5_space.specs.Moves.{Moves}
use Rattle.h5_space.specs.Space.{Space}
use Rattle.h5_layout.specs.Data.{dataset_told}
use Rattle.h5_layout.specs.declared.lacking.Missing.{Missing}
use Rattle.h5_open.specs.declared.opened.object.OpenedObject.{OpenedObject}
use Rattle.h5_open.specs.declared.opened.object.OpenedContent.TheVariants as content
use Rattle.h5_layout.specs.ArrayEdits.{IsArrayApart, described_in}
use Rattle.h5_layout.specs.Lacking.{IsFound, IsMissing, stored_all}
use Rattle.h5_layout.specs.RunStorage.{IsMadeAt}
use Rattle.h5_layout.specs.Storage.{IsDeepFor, IsStorageMade, storage_bytes}
use Rattle.h5_open.specs.ChangedInPlace.{IsChangedInPlace}
use Rattle.h5_open.specs.Opened.Kept.{IsOpened}
use Rattle.h5_open.specs.Opened.State.{FileState, opened_state}
use Rattle.h5_open.specs.Written.{IsArrayThere, IsCellStored}
use Rattle.h5_open.proofs.ArrayEdited.{array_apart}
use Rattle.h5_open.proofs.ArrayOpened.{slot_there}
use Rattle.h5_open.proofs.StandingOpened.{array_is, is_array}
use Rattle.h5_open.proofs.StorageOpened.{storage_changed, storage_opened, storage_placed, storage_stored}

-- so much is missing of the array of this number
abbrev pub IsLacking : FileState → ℕ → Missing → Type 0
IsLacking f number missing = (a : Described) × IsArrayThere f number a × ((slab : Slab) × IsMissing f.image a slab missing)

module _ (image : Space) (slots : List (Option OpenedObject)) (numbers : BTreeMap ℕ ℕ) (opened : IsOpened image slots numbers)
    (f : FileState) (view : opened_state image slots ≡ f) (number : ℕ) (missing : Missing) (lacking : IsLacking f number missing) where
  here : IsLacking (opened_state image slots) number missing
  here = subst (λ (g : FileState). IsLacking g number missing) (sym view) lacking

  pub slot : (p : OpenedObject) × (slice_get slots number ≡ Some (Some p))
  slot = slot_there image.bytes slots number (dataset_told image.bytes here.0) (here.1).told

  module _ (p : OpenedObject) (at : slice_get slots number ≡ Some (Some p)) where
    kind : p.content ≡ content.Array
    kind = is_array image slots numbers opened number p at here.0 here.1

    there_is : (a : Described) → IsArrayThere f number a → a ≡ described_in image.bytes p.messages
    there_is a there = array_is image slots numbers opened number p at a (subst (λ (g : FileState). IsArrayThere g number a) (sym view) there)

    -- ---- what making it asks for

    pub apart_here : IsArrayApart image p.messages
    apart_here = array_apart image slots numbers opened number p at kind

    pub missing_here : (slab : Slab) × IsMissing image.bytes (described_in image.bytes p.messages) slab missing
    missing_here = (
      (here.2).0,
      subst (λ (a : Described). IsMissing image.bytes a (here.2).0 missing) (array_is image slots numbers opened number p at here.0 here.1) (here.2).1,
    )

    -- ---- what it gives

    -- what is said of the array that the messages tell is said of the one that is there
    said_of : (P : List ℕ → Described → Type 0) → P image.bytes (described_in image.bytes p.messages) → (a : Described) → IsArrayThere f number a → P f.image a
    said_of P holds a there = subst (λ (g : FileState). P g.image a) view (subst (P image.bytes) (sym (there_is a there)) holds)

    pub deep_said : (Deep : Type 0) → (Deep → (n : ℕ) × IsDeepFor image.bytes (described_in image.bytes p.messages) missing n)
        → (a : Described) → IsArrayThere f number a → Deep → (n : ℕ) × IsDeepFor f.image a missing n
    deep_said Deep = said_of (λ (bytes : List ℕ) (a : Described). Deep → (n : ℕ) × IsDeepFor bytes a missing n)

    pub deep_first_said : (Deep : Type 0) → (IsDeepFor image.bytes (described_in image.bytes p.messages) missing 0 → Deep)
        → (a : Described) → IsArrayThere f number a → IsDeepFor f.image a missing 0 → Deep
    deep_first_said Deep = said_of (λ (bytes : List ℕ) (a : Described). IsDeepFor bytes a missing 0 → Deep)

    pub full_said : (Full : Type 0) → Full ↔ ((IsDeepFor image.bytes (described_in image.bytes p.messages) missing 0 → ⊥)
        × (most_bytes < length image.bytes + storage_bytes image.bytes (described_in image.bytes p.messages) missing))
        → (a : Described) → IsArrayThere f number a → Full ↔ ((IsDeepFor f.image a missing 0 → ⊥) × (most_bytes < length f.image + storage_bytes f.image a missing))
    full_said Full = said_of (λ (bytes : List ℕ) (a : Described). Full ↔ ((IsDeepFor bytes a missing 0 → ⊥) × (most_bytes < length bytes + storage_bytes bytes a missing)))

    -- the superblock is there still
    pub superblock_there : (mid : Space)
        → ((slab : Slab) → IsMissing image.bytes (described_in image.bytes p.messages) slab missing → IsStorageMade image mid p.messages slab missing)
        → superblock_length mid.bytes ≤ length mid.bytes
    superblock_there mid made = (made missing_here.0 missing_here.1).moved.stand.long

    module _ (mid new : Space)
        (made : (slab : Slab) → IsMissing image.bytes (described_in image.bytes p.messages) slab missing → IsStorageMade image mid p.messages slab missing)
        (spends : length mid.bytes ≤ length image.bytes + storage_bytes image.bytes (described_in image.bytes p.messages) missing)
        (fits : length image.bytes + storage_bytes image.bytes (described_in image.bytes p.messages) missing ≤ most_bytes)
        (ended : Moves mid new (end_field mid.bytes ∷ []) (end_field new.bytes ∷ [])) (end : end_of_file new.bytes ≡ length new.bytes)
        (long : length new.bytes ≡ length mid.bytes) where
      small : length mid.bytes ≤ most_bytes
      small = omega (arith, spends, fits)

      abbrev slab_here : Slab
      slab_here = missing_here.0

      made_here : IsStorageMade image mid p.messages slab_here missing
      made_here = made slab_here missing_here.1

      pub made_opened : IsOpened new slots numbers
      made_opened = storage_opened image slots numbers opened number p at kind mid new slab_here missing made_here ended end long small

      pub made_changed : (a : Described) → IsArrayThere f number a
          → IsChangedInPlace f (opened_state new slots) (with_object f.tree number (with_dataset stored_all)) f.next (number ∷ []) (storage_bytes f.image a missing)
      made_changed a there =
          subst (λ (g : FileState). IsChangedInPlace g (opened_state new slots) (with_object g.tree number (with_dataset stored_all))
          g.next (number ∷ []) (storage_bytes g.image a missing)) view
          (subst (λ (b : Described). IsChangedInPlace (opened_state image slots) (opened_state new slots)
          (with_object (opened_state image slots).tree number (with_dataset stored_all)) (length slots) (number ∷ [])
          (storage_bytes image.bytes b missing)) (sym (there_is a there))
          (storage_changed image slots numbers opened number p at kind mid new slab_here missing made_here ended end long small
          (storage_bytes image.bytes (described_in image.bytes p.messages) missing) (omega (arith, long, spends))))

      pub made_stored : (a : Described) (slab : Slab) → IsArrayThere f number a → IsMissing f.image a slab missing
          → (place : ℕ) → Contains (selection_of a.sizes slab) place → IsCellStored (opened_state new slots) number place
      made_stored a slab there lacks place chosen =
          let is = there_is a there in
          let lacks_here : IsMissing image.bytes (described_in image.bytes p.messages) slab missing
          = subst (λ (b : Described). IsMissing image.bytes b slab missing) is (subst (λ (g : FileState). IsMissing g.image a slab missing) (sym view) lacks) in
          storage_stored image slots numbers opened number p at kind mid new slab missing (made slab lacks_here) ended end long small place
          (subst (λ (b : Described). Contains (selection_of b.sizes slab) place) is chosen)

      pub made_placed : (place : ℕ)
          → ((slab : Slab) → IsFound image.bytes (described_in image.bytes p.messages) slab (Some missing) → IsMadeAt mid.bytes (described_in mid.bytes p.messages) missing place)
          → (a : Described) (slab : Slab) → IsArrayThere f number a → IsFound f.image a slab (Some missing)
          → (b : Described) → IsArrayThere (opened_state new slots) number b → IsMadeAt new.bytes b missing place × (place ≤ length new.bytes)
      made_placed place placed a slab there found =
          let is = there_is a there in
          let found_here : IsFound image.bytes (described_in image.bytes p.messages) slab (Some missing)
          = subst (λ (b : Described). IsFound image.bytes b slab (Some missing)) is (subst (λ (g : FileState). IsFound g.image a slab (Some missing)) (sym view) found) in
          storage_placed image slots numbers opened number p at kind mid new slab_here missing made_here ended end long small place (placed slab found_here)
