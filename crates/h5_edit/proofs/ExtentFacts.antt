-- Other sizes given in place: what decides whether they are refused, and what they make of an opened image (File Format Specification 3.0,
-- sections IV.A.1.a and IV.A.2.b).
use Rattle.std.proofs.Common.{◌≡◌, ℕ, Bool, ◌+◌, ◌*◌, ◌<◌, ◌&&◌, List, [], ◌∷◌, length, refl, sym, ap, ◌∙◌, subst, true, false, Option, Some, nat_lt, arith}
use Rattle.std.proofs.Math.Bool.{not-not}
use Rattle.std.proofs.lemmas.Bool.Decides.{nat_tests}
use Rattle.std.specs.Option.{option_and_then, option_map, option_map_or}
use Rattle.std.specs.FinMap.{get}
use Rattle.std.specs.Prelude.{◌↔◌, IsTrue, IsFalse, None, Result, Ok, Err, if◌then◌else◌, not}
use Rattle.h5_header.specs.declared.add.AddFault.{AddFault}
use Rattle.h5_header.specs.declared.add.AddFault.TheVariants as add
use Rattle.h5_model.specs.Edits.Applied.{with_edit, with_sizes, with_dataset}
use Rattle.h5_model.specs.Edits.Bounds.{bound_of}
use Rattle.h5_model.specs.Edits.Facts.{Facts}
use Rattle.h5_model.specs.Edits.ImageAnswers.{is_header_full}
use Rattle.h5_model.specs.Edits.Touched.{touched_by}
use Rattle.h5_model.specs.Format.Limits.{most_bytes}
use Rattle.h5_model.specs.Format.Superblock.{k_values}
use Rattle.h5_model.specs.Tree.Objects.{Tree, with_object}
use Rattle.h5_model.specs.declared.edits.Edit.{Edit}
use Rattle.h5_model.specs.declared.edits.Edit.TheVariants.{Resize}
use Rattle.h5_model.specs.declared.edits.Edited.{Edited}
use Rattle.h5_model.specs.declared.edit_fault.EditFault.TheVariants as fault
use Rattle.h5_model.specs.declared.object_no.ObjectNo.{ObjectNo}
use Rattle.h5_query.specs.Attributed.{has_full_header}
use Rattle.h5_query.specs.ChangedInPlace.{IsChangedInPlace}
use Rattle.h5_query.specs.Opened.State.{FileState}
use Rattle.h5_query.specs.Resized.{IsArrayTrimmed, LacksMaxima, extent_bytes}
use Rattle.h5_edit.specs.Carried.{AreFacts, IsGivenInPlace, IsRefused, total_at, tree_after}
use Rattle.h5_edit.specs.Edited.{IsEdited}
use Rattle.h5_edit.specs.Refusals.Allowed.{IsAt}
use Rattle.h5_edit.proofs.AttributeFacts.{full_at}

module _ (f : FileState) (path dims : List ℕ) (number : ℕ) (at : IsAt f.tree f.next path (Resize path dims) number) (lacks : Bool)
    (told : LacksMaxima f.image (get f.table number) lacks) where
  abbrev edit : Edit
  edit = Resize path dims

  -- ---- what the image says

  abbrev facts_of : Facts
  facts_of = record {
    length = length f.image;
    k = k_values f.image;
    total = total_at f path;
    has_maxima = not lacks;
    heap = 0;
    is_stored = λ _. false;
    splits_top = λ _. false;
  }

  are_facts : AreFacts f edit facts_of
  are_facts = record {
    long = refl;
    k = refl;
    at = record {
      total = refl;
      maxima = subst (λ (found : Option ℕ). LacksMaxima f.image (option_and_then (get f.table) found) (not (not lacks))) (sym at.object)
          (subst (LacksMaxima f.image (get f.table number)) (sym (not-not lacks)) told);
    };
  }

  -- what they may add
  bound_is : bound_of facts_of f.tree edit ≡ extent_bytes lacks dims
  unfolding bound_of
  bound_is = by_maxima lacks where
    by_maxima : (b : Bool) → (if not b then 0 else (40 + 16 * length dims)) ≡ extent_bytes b dims
    by_maxima true = refl
    by_maxima false = refl

  header_is : is_header_full facts_of edit ≡ (lacks && has_full_header f number)
  header_is = λ i. not-not lacks i && sym (full_at f path number at.object) i

  -- ---- what the answer of the call says

  module _ (r : Result (Unit {0}) AddFault) (header_full : (r ≡ Err add.HeaderFull) ↔ IsTrue (lacks && has_full_header f number))
      (image_full : (r ≡ Err add.ImageFull) ↔ (IsFalse (lacks && has_full_header f number) × (most_bytes < length f.image + extent_bytes lacks dims))) where
    resize_given : (u : Unit {0}) → r ≡ Ok u → IsGivenInPlace f edit None
    resize_given u ok = by_header (lacks && has_full_header f number) refl where
      by_length : (b : Bool) → nat_lt most_bytes (length f.image + extent_bytes lacks dims) ≡ b → (lacks && has_full_header f number) ≡ false → IsGivenInPlace f edit None
      by_length true past roomy =
          absurd (let never : Ok u ≡ Err add.ImageFull = sym ok ∙ image_full.1 (roomy, grind (arith, nat_tests, past)) in cc)
      by_length false within roomy =
          (facts_of, are_facts, (header_is ∙ roomy, refl, ap (λ (n : ℕ). nat_lt most_bytes (length f.image + n)) bound_is ∙ within))

      by_header : (b : Bool) → (lacks && has_full_header f number) ≡ b → IsGivenInPlace f edit None
      by_header true full = absurd (let never : Ok u ≡ Err add.HeaderFull = sym ok ∙ header_full.1 full in cc)
      by_header false roomy = by_length (nat_lt most_bytes (length f.image + extent_bytes lacks dims)) refl roomy

    pub resize_refused_full : r ≡ Err add.HeaderFull → IsRefused f edit fault.HeaderFull
    resize_refused_full is = record {
      given = Some fault.HeaderFull;
      allowed = λ _. (facts_of, are_facts, header_is ∙ header_full.0 is);
      answer = rw at.allowed refl;
    }

    pub resize_refused_long : r ≡ Err add.ImageFull → IsRefused f edit fault.ImageFull
    resize_refused_long is =
        let past = image_full.0 is in
        let more = past.1 in
        let over : nat_lt most_bytes (length f.image + extent_bytes lacks dims) ≡ true = grind (arith, nat_tests, more) in
        record {
          given = Some fault.ImageFull;
          allowed = λ _. (facts_of, are_facts, (header_is ∙ past.0, refl, ap (λ (n : ℕ). nat_lt most_bytes (length f.image + n)) bound_is ∙ over));
          answer = rw at.allowed refl;
        }

    -- ---- what is made

    abbrev after : Tree
    after = with_object f.tree number (with_dataset (with_sizes dims))

    tree_resized : after ≡ tree_after f edit
    unfolding with_edit
    tree_resized = sym (ap (λ (found : Option ℕ). option_map_or (λ n. with_object f.tree n (with_dataset (with_sizes dims))) found f.tree) at.object)

    touched_resized : touched_by f.tree edit ≡ number ∷ []
    unfolding touched_by
    touched_resized = ap (λ (found : Option ℕ). option_map_or (λ n. n ∷ []) found []) at.object

    pub resize_made : (u : Unit {0}) → r ≡ Ok u → (now : FileState) (e : Edited) → option_map (λ (o : ObjectNo). o.0) e.object ≡ Some number → e.refreshed ≡ 0
        → IsChangedInPlace f now after f.next (number ∷ []) (extent_bytes lacks dims) → IsArrayTrimmed now number → IsEdited f edit now e
    resize_made u ok now e named refreshed is trimmed = record {
      accepted = record { accepted = at.allowed; given = λ _. resize_given u ok };
      state = (λ i. record { tree = is.state.0 i; next = is.state.1 i }) ∙ ap (λ (t : Tree). record { tree = t; next = f.next }) tree_resized;
      object = named ∙ sym at.object;
      refreshed = refreshed;
      bytes = extent_bytes lacks dims;
      growth = (facts_of, are_facts, sym bound_is);
      trimmed = λ other there. subst (IsArrayTrimmed now) (let same : Some number ≡ Some other = sym at.object ∙ there in cc) trimmed;
      changed = subst (λ (ns : List ℕ). IsChangedInPlace f now (tree_after f edit) f.next ns (extent_bytes lacks dims)) (sym touched_resized)
          (subst (λ (t : Tree). IsChangedInPlace f now t f.next (number ∷ []) (extent_bytes lacks dims)) tree_resized is);
    }
