-- Objects made in place with a link to them: what the call that adds one asks for, and what it then makes of an opened image (File Format
-- Specification 3.0, sections III.A.1, III.C and IV.A).
use Rattle.std.proofs.Common.{◌≡◌, ℕ, ◌+◌, ◌<◌, List, [], ◌∷◌, length, Some, refl, ap, ◌∙◌, arith}
use Rattle.std.specs.Prelude.{◌↔◌, MatchResult, OnErr, OnOk, Result, Err}
use Rattle.h5_btree.specs.declared.insertion.InsertFault.{InsertFault}
use Rattle.h5_btree.specs.declared.insertion.InsertFault.TheVariants as insertion
use Rattle.h5_laws.specs.Trees.Sound.{IsSoundTree}
use Rattle.h5_laws.proofs.Lists.{In}
use Rattle.h5_model.specs.Edits.Applied.{named_object}
use Rattle.h5_model.specs.Edits.Refusal.{new_path}
use Rattle.h5_model.specs.Format.Addresses.{SymbolTable}
use Rattle.h5_model.specs.Format.Limits.{most_bytes}
use Rattle.h5_model.specs.Format.Sizes.{text_span}
use Rattle.h5_model.specs.Tree.Objects.{Object}
use Rattle.h5_model.specs.declared.edits.Edit.{Edit}
use Rattle.h5_query.specs.ChangedInPlace.{IsChangedInPlace}
use Rattle.h5_query.specs.LinkAdded.{IsGroupOf}
use Rattle.h5_query.specs.LinkEdits.{IsFullFor, link_room}
use Rattle.h5_query.specs.ObjectAdded.{IsToBeMade, object_bytes, tree_with}
use Rattle.h5_query.specs.ObjectBytesType.{ObjectBytes}
use Rattle.h5_query.specs.Opened.Sound.{IsSound}
use Rattle.h5_query.specs.Opened.State.{FileState}
use Rattle.h5_space.specs.declared.image.SpaceFault.TheVariants as space
use Rattle.h5_edit.specs.Answers.{added_answer, insert_fault}
use Rattle.h5_edit.specs.Carried.{IsRefused}
use Rattle.h5_edit.specs.Edited.{IsEdited}
use Rattle.h5_edit.specs.Refusals.Allowed.{IsPlaceAllowed}
use Rattle.h5_edit.specs.declared.rules.place.NewPlace.{NewPlace}
use Rattle.h5_edit.proofs.LinkFacts.{IsLinkEdit, object_answered, object_full, sound_asked, table_there}

-- what the call that adds an object says
pub record IsObjectAdded (f : FileState) (place : NewPlace) (b : ObjectBytes) (now : FileState) (r : Result (Unit {0}) InsertFault) : Type 0 where
  pub changed : OnOk r ((table : SymbolTable) (x : Object) → IsGroupOf f place.parent table → IsToBeMade f b x → IsSoundTree (tree_with f.tree place.parent place.name.now f.next x)
      → IsChangedInPlace f now (tree_with f.tree place.parent place.name.now f.next x) (f.next + 1) (f.next ∷ place.parent ∷ [])
      (link_room f.image table (text_span place.name.now) + length (object_bytes b)))
  pub deep : (table : SymbolTable) → IsGroupOf f place.parent table → (r ≡ Err insertion.TreeTooDeep) ↔ IsFullFor f.image table place.name.now
  pub full : (table : SymbolTable) → IsGroupOf f place.parent table → (r ≡ Err (insertion.Space space.ImageFull)) ↔ ((IsFullFor f.image table place.name.now → ⊥)
      × (most_bytes < length f.image + (link_room f.image table (text_span place.name.now) + length (object_bytes b))))
  pub refused : OnErr r (now ≡ f)

module _ (f : FileState) (sound : IsSound f) {path : List ℕ} {edit : Edit} {place : NewPlace} (placed : IsPlaceAllowed f.tree f.next path edit place) (new : In path (new_path edit))
    (o : Object) (counted : ℕ) (named : Some f.next ≡ named_object f.tree edit f.next) (is : (table : SymbolTable) (bytes : ℕ) → bytes ≡ counted
    → IsLinkEdit f path place.parent place.name.now edit table (link_room f.image table (text_span place.name.now) + bytes) (tree_with f.tree place.parent place.name.now f.next o) (f.next + 1)
    (f.next ∷ place.parent ∷ [])) where
  abbrev group : (table : SymbolTable) × IsGroupOf f place.parent table
  group = table_there f sound placed new

  after_sound : IsSoundTree (tree_with f.tree place.parent place.name.now f.next o)
  after_sound = sound_asked f sound placed new (tree_with f.tree place.parent place.name.now f.next o) (is group.0 counted refl).tree

  -- its own bytes, with those of the image, are too many
  pub object_too_long : (bytes : ℕ) → bytes ≡ counted → most_bytes < length f.image + bytes → (fault : InsertFault)
      → ((table : SymbolTable) → IsGroupOf f place.parent table → (fault ≡ insertion.TreeTooDeep) ↔ IsFullFor f.image table place.name.now)
      → ((table : SymbolTable) → IsGroupOf f place.parent table → (fault ≡ insertion.Space space.ImageFull) ↔ (IsFullFor f.image table place.name.now → ⊥))
      → IsRefused f edit (insert_fault fault)
  object_too_long bytes long past fault deep full =
      object_full f path place.parent place.name.now edit group.0 _ _ _ _ (is group.0 bytes long) group.1 placed.allowed fault (deep group.0 group.1) (full group.0 group.1) (omega (arith, past))

  module _ (b : ObjectBytes) (long : length (object_bytes b) ≡ counted) (made : IsToBeMade f b o) where
    pub object_asked : (x : Object) × IsToBeMade f b x × IsSoundTree (tree_with f.tree place.parent place.name.now f.next x)
    object_asked = (o, made, after_sound)

    pub object_made : (number : ℕ) → number ≡ f.next → (now : FileState) (r : Result (Unit {0}) InsertFault) → IsObjectAdded f place b now r
        → MatchResult (added_answer r number) (IsEdited f edit now) (λ e. IsRefused f edit e × (now ≡ f))
    object_made number next now r added =
        object_answered f path place.parent place.name.now edit group.0 _ _ _ _ (is group.0 (length (object_bytes b)) long) group.1 placed.allowed number (ap (λ n. Some n) next ∙ named) now r
        (added.deep group.0 group.1) (added.full group.0 group.1) _ added.changed (λ so. so group.0 o group.1 made after_sound) added.refused
