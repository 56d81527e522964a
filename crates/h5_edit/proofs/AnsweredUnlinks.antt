-- What an unlink that no rule refuses makes of an opened image, by what was changed in place (File Format Specification 3.0, sections III.C
-- and IV.A.1.a).
use Rattle.std.proofs.Common.{◌≡◌, ℕ, ◌+◌, ◌≤◌, List, [], ◌∷◌, ◌++◌, length, refl, sym, ap, ◌∙◌, subst, false, None, arith}
use Rattle.std.proofs.lemmas.Bool.Decides.{nat_tests}
use Rattle.std.specs.List.{flat_map}
use Rattle.std.specs.Option.{option_map, option_map_or}
use Rattle.h5_laws.specs.Trees.Unlinked.{tree_left}
use Rattle.h5_laws.proofs.SoundLaws.Removed.{unlinked_gives, unlinked_is}
use Rattle.h5_model.specs.Format.Limits.{most_bytes, most_names}
use Rattle.h5_model.specs.Format.Superblock.{k_values}
use Rattle.h5_model.specs.Edits.Bounds.{bound_of}
use Rattle.h5_model.specs.Edits.Facts.{Facts}
use Rattle.h5_model.specs.Edits.Touched.{touched_by}
use Rattle.h5_model.specs.Tree.Objects.{Tree, Link, ToObject, Soft, object_of, within_names}
use Rattle.h5_model.specs.Tree.Paths.{Here, object_at, object_there}
use Rattle.h5_model.specs.declared.edits.Edit.{Edit}
use Rattle.h5_model.specs.declared.edits.Edit.TheVariants.{Unlink}
use Rattle.h5_model.specs.declared.edits.Edited.{Edited}
use Rattle.h5_model.specs.declared.object_no.ObjectNo.{ObjectNo}
use Rattle.h5_query.specs.ChangedInPlace.{IsChangedInPlace}
use Rattle.h5_query.specs.LinkTaken.{IsLinkTo, touched_below}
use Rattle.h5_query.specs.Opened.State.{FileState}
use Rattle.h5_edit.specs.Carried.{AreFacts, IsGivenInPlace, tree_after}
use Rattle.h5_edit.specs.Edited.{IsEdited, IsGrowth}
use Rattle.h5_edit.specs.Refusals.Removed.{IsRemoval}
use Rattle.h5_edit.specs.declared.rules.unlink.Removal.{Removal}
use Rattle.h5_edit.proofs.AttributeFacts.{short_image}

object_led : (link : Link) → object_there (Here link) ≡ object_of link
object_led (ToObject number) = refl
object_led (Soft text) = refl

module _ (f : FileState) (path : List ℕ) (r : Removal) (is : IsRemoval f.tree f.next path r) where
  abbrev edit : Edit
  edit = Unlink path

  abbrev after : Tree
  after = tree_left f.tree r.parent r.name.now

  abbrev touched : List ℕ
  touched = touched_below f.tree r.parent r.object

  pub link_found : IsLinkTo f.tree r.parent r.name.now r.object
  link_found = record {
    link = is.link;
    stands = unlinked_is f.tree path r.parent r.name.now is.parent is.link is.stands;
    leads = is.leads;
  }

  gives : tree_after f edit ≡ after
  gives = unlinked_gives f.tree path r.parent r.name.now is.parent f.next

  touched_is : touched_by f.tree edit ≡ touched
  unfolding touched_by
  touched_is =
      let object : object_at f.tree path ≡ r.object = ap object_there is.stands ∙ object_led is.link ∙ sym is.leads in
      λ i. option_map_or (λ (p : ℕ × List ℕ). p.0 ∷ []) (is.parent i) []
      ++ flat_map (within_names f.tree most_names) (option_map_or (λ (number : ℕ). number ∷ []) (object i) [])

  -- nothing is asked of the image, and nothing is added to it
  abbrev facts_of : Facts
  facts_of = record { length = length f.image; k = k_values f.image; total = 0; has_maxima = false; heap = 0; is_stored = λ _. false; splits_top = λ _. false }

  are_facts : AreFacts f edit facts_of
  are_facts = record { long = refl; k = refl; at = tt }

  unlink_given : length f.image ≤ most_bytes → IsGivenInPlace f edit None
  unfolding bound_of
  unlink_given short = (facts_of, are_facts, (refl, refl, grind (arith, nat_tests, short)))

  unlink_grows : IsGrowth f edit 0
  unfolding bound_of
  unlink_grows = (facts_of, are_facts, refl)

  pub unlink_made : (now : FileState) (e : Edited) → IsChangedInPlace f now after f.next touched 0
      → option_map (λ (o : ObjectNo). o.0) e.object ≡ None → e.refreshed ≡ 0 → IsEdited f edit now e
  unlink_made now e made named refreshed = record {
    accepted = record { accepted = is.allowed; given = λ _. unlink_given (omega (arith, short_image now made.sound, made.grown.0)) };
    state = (λ i. record { tree = made.state.0 i; next = made.state.1 i }) ∙ ap (λ (t : Tree). record { tree = t; next = f.next }) (sym gives);
    object = named;
    refreshed = refreshed;
    bytes = 0;
    growth = unlink_grows;
    trimmed = tt;
    changed = subst (λ (ns : List ℕ). IsChangedInPlace f now (tree_after f edit) f.next ns 0) (sym touched_is)
        (subst (λ (t : Tree). IsChangedInPlace f now t f.next touched 0) (sym gives) made);
  }
