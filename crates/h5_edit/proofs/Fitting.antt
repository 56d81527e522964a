-- Edits that no rule refuses, as what they make of the tree of an opened image.
use Rattle.std.proofs.Common.{◌≡◌, ℕ, List, refl, sym, ap, ◌∙◌, true, false, Option, Some, None}
use Rattle.std.proofs.lemmas.Option.{same_Some}
use Rattle.std.specs.Prelude.{IsSome}
use Rattle.std.specs.FinMap.{get, insert}
use Rattle.std.specs.Option.{option_map_or}
use Rattle.h5_model.specs.Edits.Applied.{with_link_at, with_links}
use Rattle.h5_model.specs.Tree.Paths.{object_at}
use Rattle.h5_model.specs.Edits.Refusal.{new_path}
use Rattle.h5_model.specs.Tree.Objects.{Tree, Object, Links, Link, links_of, with_object}
use Rattle.h5_model.specs.declared.edits.Edit.{Edit}
use Rattle.h5_laws.proofs.Lists.{In}
use Rattle.h5_edit.specs.Refusals.Allowed.{IsPlaceAllowed}
use Rattle.h5_edit.specs.declared.rules.place.NewPlace.{NewPlace}
use Rattle.h5_laws.proofs.SoundLaws.Applied.{object_stands}
use Rattle.h5_laws.proofs.SoundLaws.LinksThere.{links_are}
use Rattle.h5_laws.proofs.SoundLaws.NewPaths.{new_is_free}
use Rattle.h5_laws.proofs.SoundLaws.Read.{reads_sound}
use Rattle.h5_query.specs.LinkAdded.{with_link}
use Rattle.h5_query.specs.Opened.Sound.{IsSound}
use Rattle.h5_query.specs.Opened.State.{FileState}
use Rattle.h5_query.proofs.OpenedLaws.Indexed.{header_there}

module _ (f : FileState) where
  abbrev tree : Tree
  tree = f.tree

  abbrev next : ℕ
  next = f.next

  -- ---- new links

  module _ {path : List ℕ} {edit : Edit} {place : NewPlace} (placed : IsPlaceAllowed tree next path edit place) where
    pub linked_at : (link : Link) → with_link_at tree path link ≡ with_link tree place.parent place.name.now link
    linked_at link = ap (λ o. option_map_or (λ (p : ℕ × List ℕ). with_object tree p.0 (with_links (λ links. insert links p.1 link))) o tree) placed.parent

    -- the group has no such link yet
    pub link_free : In path (new_path edit) → (links : Links) × (links_of tree place.parent ≡ Some links) × (get links place.name.now ≡ None)
    link_free new =
        let f = new_is_free tree next edit path new placed.allowed in
        let same : (f.parent, f.name) ≡ (place.parent, place.name.now) = same_Some (f.parent, f.name) (place.parent, place.name.now) (sym f.found ∙ placed.parent) in
        let parent : f.parent ≡ place.parent = ap (λ (p : ℕ × List ℕ). p.0) same in
        let name : f.name ≡ place.name.now = ap (λ (p : ℕ × List ℕ). p.1) same in
        (f.group.links, ap (links_of tree) (sym parent) ∙ links_are tree f.parent f.group, ap (get f.group.links) (sym name) ∙ f.free)

  -- ---- objects at a path

  -- the object is there, and has a header
  module _ (sound : IsSound f) (path : List ℕ) (number : ℕ) (at : object_at tree path ≡ Some number) where
    pub stands : IsSome (get tree number)
    stands = object_stands tree path number (reads_sound f.image f.table tree (sound.placed, sound.reads)) at

    pub header_stands : IsSome (get f.table number)
    header_stands = go (get tree number) refl stands where
      go : (found : Option Object) → get tree number ≡ found → IsSome found → IsSome (get f.table number)
      go None is some = absurd (let never : false ≡ true = some in cc)
      go (Some o) is some = rw (header_there f sound number o is).1 refl
