-- A walk that comes to a header, and has read its object.
use Rattle.std.proofs.Common.{◌≡◌, ◌⊎◌, inl, ℕ, ◌+◌, ◌≤◌, List, [], ◌∷◌, ◌++◌, length, refl, sym, ◌∙◌, ap, subst, true, false, arith}
use Rattle.std.specs.List.{Contains, flat_map}
use Rattle.std.proofs.lemmas.Grind.{flat_map-append}
use Rattle.std.proofs.lemmas.List.Elements.{Contains-append_left, Contains-append_right}
use Rattle.std.proofs.lemmas.Bool.{false_from_ne_true}
use Rattle.h5_bytes.specs.Blocks.{cover, Separate, Inside}
use Rattle.h5_bytes.specs.declared.Block.{Block}
use Rattle.h5_bytes.proofs.BlockLaws.{all_append, all_so}
use Rattle.h5_model.specs.Format.Reached.{Named, naming_of, ObjectHeader}
use Rattle.h5_model.specs.Faults.Breaches.{is_header}
use Rattle.h5_laws.proofs.Lists.{contains_in, in_right}
use Rattle.h5_header.specs.Walk.Met.{IsHeaderMet}
use Rattle.h5_open.specs.declared.opened.object.OpenedObject.{OpenedObject}
use Rattle.h5_open.specs.Opened.Kept.{IsObjectKept}
use Rattle.h5_open.specs.Opened.Objects.{headers, object_blocks, opened_blocks}
use Rattle.h5_open.specs.Placed.Whole.{HasParent}
use Rattle.h5_open.specs.Read.{IsObjectRead, IsObjectFollowed}
use Rattle.h5_open.specs.Walk.{IsNamedBy, IsUnder, IsReady}
use Rattle.h5_open.proofs.FieldsMet.{more_fields}
use Rattle.h5_open.proofs.GrowLaws.{headers-append, cover-objects, cover-object, distinct_push, named_push}

-- a header that names none of the objects is new
pub header_met : (image : List ℕ) (held : List Block) (followed : List Named) (objects : List OpenedObject) (field header depth : ℕ) → IsReady image held followed objects field header depth
    → (Contains (headers objects) header → ⊥) → IsHeaderMet image held followed field header depth
header_met image held followed objects field header depth ready new = record {
  walked = (ready.under).walked;
  met = ready.met;
  alone = all_so (λ (y : Named). is_header y.role ≡ true → Contains (headers objects) y.at) (λ (y : Named). y.at ≡ header → is_header y.role ≡ false) followed
      (λ y known at. false_from_ne_true (is_header y.role) (λ is. new (subst (Contains (headers objects)) at (known is)))) (ready.under).known;
}

-- blocks grow with the objects
pub cover_grows : (image : List ℕ) (held now : List Block) (objects more objects' : List OpenedObject) → objects' ≡ objects ++ more
    → ((p : ℕ) → cover p held ≡ cover p (opened_blocks image objects)) → ((p : ℕ) → cover p now ≡ cover p (opened_blocks image objects')) → (p : ℕ) → cover p held ≤ cover p now
cover_grows image held now objects more objects' grown before after p =
    let same : cover p (flat_map (object_blocks image) objects') ≡ cover p (flat_map (object_blocks image) objects) + cover p (flat_map (object_blocks image) more)
    = ap (λ (xs : List OpenedObject). cover p (flat_map (object_blocks image) xs)) grown ∙ cover-objects image p objects more in
    omega (arith, before p, after p, same)

inside_push : (image : List ℕ) (objects : List OpenedObject) (o : OpenedObject) → Inside (length image) (flat_map (object_blocks image) objects) → Inside (length image) (object_blocks image o)
    → Inside (length image) (flat_map (object_blocks image) (objects ++ o ∷ []))
inside_push image objects o within inside =
    subst (Inside (length image)) (sym (flat_map-append (object_blocks image) objects (o ∷ [])))
    (all_append (λ (b : Block). b.at + b.len ≤ length image) (flat_map (object_blocks image) objects) (object_blocks image o ++ []) within
    (all_append (λ (b : Block). b.at + b.len ≤ length image) (object_blocks image o) [] inside tt))

module _ (image : List ℕ) (held now : List Block) (followed : List Named) (objects : List OpenedObject) (field header depth : ℕ) (ready : IsReady image held followed objects field header depth)
    (new : Contains (headers objects) header → ⊥) (o : OpenedObject) (read : IsObjectRead image held now header depth o) (separate : Separate now)
    (gone : IsObjectFollowed image held now followed field depth o) where
  abbrev under : IsUnder image held followed objects
  under = ready.under

  at_header : Contains (headers (objects ++ o ∷ [])) o.messages.header
  at_header = subst (λ (hs : List ℕ). Contains hs o.messages.header) (sym (headers-append objects (o ∷ [])))
      (contains_in o.messages.header (headers objects ++ o.messages.header ∷ []) (in_right o.messages.header (headers objects) (o.messages.header ∷ []) (inl refl)))

  still_known : (y : Named) → (is_header y.role ≡ true → Contains (headers objects) y.at) → is_header y.role ≡ true → Contains (headers (objects ++ o ∷ [])) y.at
  still_known y known is = subst (λ (hs : List ℕ). Contains hs y.at) (sym (headers-append objects (o ∷ []))) (Contains-append_left (headers objects) (o.messages.header ∷ []) y.at (known is))

  still_named : (x : OpenedObject) → IsNamedBy followed x → IsNamedBy (gone.new ++ followed) x
  still_named x by = (by.0, Contains-append_right gone.new followed by.0 by.1, by.2, by.3)

  pub object_under : IsUnder image now (gone.new ++ followed) (objects ++ o ∷ [])
  object_under = record {
    walked = gone.walked;
    separate = separate;
    covered = λ p. (let all = cover-objects image p objects (o ∷ []) in let one = cover-object image p o in omega (arith, all, one, read.claimed p, under.covered p));
    within = inside_push image objects o under.within read.inside;
    each = all_append (IsObjectKept image) objects (o ∷ []) under.each (read.kept, tt);
    distinct = distinct_push objects o under.distinct (λ at. new (subst (Contains (headers objects)) read.header_is at));
    parents = named_push image [] objects o under.parents (subst (λ (h : ℕ). (objects ≡ []) ⊎ HasParent image objects h) (sym read.header_is) ready.parent);
    known = all_append (λ (y : Named). is_header y.role ≡ true → Contains (headers (objects ++ o ∷ [])) y.at) gone.new followed
        (all_so (λ (y : Named). is_header y.role ≡ true → y.at ≡ o.messages.header) (λ (y : Named). is_header y.role ≡ true → Contains (headers (objects ++ o ∷ [])) y.at) gone.new
        (λ y only is. subst (Contains (headers (objects ++ o ∷ []))) (sym (only is)) at_header) gone.only)
        (all_so (λ (y : Named). is_header y.role ≡ true → Contains (headers objects) y.at) (λ (y : Named). is_header y.role ≡ true → Contains (headers (objects ++ o ∷ [])) y.at) followed still_known under.known);
    named = all_append (IsNamedBy (gone.new ++ followed)) objects (o ∷ []) (all_so (IsNamedBy followed) (IsNamedBy (gone.new ++ followed)) objects still_named under.named)
        ((naming_of field ObjectHeader o.messages.header depth, Contains-append_left gone.new followed (naming_of field ObjectHeader o.messages.header depth) gone.first, refl, refl), tt);
    fields = λ h. more_fields image held now (gone.new ++ followed) depth objects o gone.fields (λ p. omega (arith, read.claimed p)) gone.waiting h (under.fields h);
  }
