-- What calls answer that list names, and that tell the number of an object.
use Rattle.std.proofs.Common.{◌≡◌, ℕ, Ok, Err, List, refl, ap, ◌∙◌, subst}
use Rattle.h5_file.specs.Look.{HasLinksNamed, HasAttributeNames, IsListRefused, IsUnlisted}
use Rattle.h5_file.specs.Opened.State.{FileState}
use Rattle.h5_model.specs.Edits.EditFaults.{fault_number}
use Rattle.h5_model.specs.declared.edit_fault.EditFault.{EditFault}
use Rattle.h5_model.specs.declared.edit_fault.EditFault.TheVariants.{NoMemory}
use Rattle.h5_query.specs.Place.{IsNumber, IsNoObject}
use Rattle.h5_c.specs.Asked.{HasAttributesListed, HasListed, HasNumber, names_with_ends}
use Rattle.h5_c.specs.declared.held.Held.{Held}

module _ (before after : Held) (path : List ℕ) (kept : after.session ≡ before.session) where
  module _ (file : FileState) (same : file ≡ before.session.file) where
    -- the names are told
    pub links_listed : (names told : List (List ℕ)) → HasLinksNamed file.tree path names → told ≡ names → after.text.items ≡ names_with_ends told → HasListed before path after 0
    links_listed names told named are text = record {
      session = kept;
      listed = record { answer = Ok names; status_is = refl; says = (subst (λ (f : FileState). HasLinksNamed f.tree path names) same named, text ∙ ap names_with_ends are) };
    }

    pub attributes_listed : (names told : List (List ℕ)) → HasAttributeNames file.tree path names → told ≡ names → after.text.items ≡ names_with_ends told → HasAttributesListed before path after 0
    attributes_listed names told named are text = record {
      session = kept;
      listed = record { answer = Ok names; status_is = refl; says = (subst (λ (f : FileState). HasAttributeNames f.tree path names) same named, text ∙ ap names_with_ends are) };
    }

    -- memory was refused for the text of names that were found
    pub links_short : (names : List (List ℕ)) → HasLinksNamed file.tree path names → after.text ≡ before.text → HasListed before path after 31
    links_short names named text = record {
      session = kept;
      listed = record { answer = Err NoMemory; status_is = refl; says = (subst (λ (f : FileState). IsListRefused f.tree path NoMemory) same named.accepted, text) };
    }

    pub attributes_short : (names : List (List ℕ)) → HasAttributeNames file.tree path names → after.text ≡ before.text → HasAttributesListed before path after 31
    attributes_short names named text = record {
      session = kept;
      listed = record { answer = Err NoMemory; status_is = refl; says = (subst (λ (f : FileState). IsUnlisted f.tree path NoMemory) same named.accepted, text) };
    }

    -- it is refused
    pub links_refused : (e : EditFault) (status : ℕ) → IsListRefused file.tree path e → status ≡ fault_number e → after.text ≡ before.text → HasListed before path after status
    links_refused e status refused number text = record {
      session = kept;
      listed = record { answer = Err e; status_is = number; says = (subst (λ (f : FileState). IsListRefused f.tree path e) same refused, text) };
    }

    pub attributes_refused : (e : EditFault) (status : ℕ) → IsUnlisted file.tree path e → status ≡ fault_number e → after.text ≡ before.text → HasAttributesListed before path after status
    attributes_refused e status refused number text = record {
      session = kept;
      listed = record { answer = Err e; status_is = number; says = (subst (λ (f : FileState). IsUnlisted f.tree path e) same refused, text) };
    }

-- ---- numbers

module _ (file kept : FileState) (same : file ≡ kept) (path : List ℕ) where
  pub number_told : (n old : ℕ) → IsNumber file.tree path n → HasNumber kept.tree path old n 0
  number_told n old there = record { answer = Ok n; status_is = refl; says = (subst (λ (f : FileState). IsNumber f.tree path n) same there, refl) }

  pub number_refused : (e : EditFault) (old status : ℕ) → IsNoObject file.tree path e → status ≡ fault_number e → HasNumber kept.tree path old old status
  number_refused e old status none number = record { answer = Err e; status_is = number; says = (subst (λ (f : FileState). IsNoObject f.tree path e) same none, refl) }
