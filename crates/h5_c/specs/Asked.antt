-- What calls tell that ask.
use Rattle.std.specs.Prelude.{◌≡◌, ◌++◌, ◌⊎◌, ℕ, ℤ, true, Some, List, [], ◌∷◌, length, take, flat_map}
use Rattle.h5_file.specs.Look.{HasKind, HasLinksNamed, HasAttribute, HasAttributeNames, IsListRefused, IsUnlisted}
use Rattle.h5_query.specs.Place.{IsNumber, IsNoObject}
use Rattle.h5_model.specs.Edits.EditFaults.{fault_number}
use Rattle.h5_model.specs.Edits.Refusal.{first_holding}
use Rattle.h5_model.specs.Format.Fixed.{Fixed, bytes_of, fits}
use Rattle.h5_model.specs.Format.Plain.{cells_bytes}
use Rattle.h5_model.specs.Scripts.Reading.{attribute_rules, path_rules}
use Rattle.h5_model.specs.Tree.Objects.{Tree, Attribute}
use Rattle.h5_model.specs.declared.edit_fault.EditFault.{EditFault}
use Rattle.h5_query.specs.declared.kind.Kind.{Kind}
use Rattle.h5_query.specs.declared.kind.Kind.TheVariants as kind
use Rattle.h5_model.specs.declared.dataset.Store.{Store}
use Rattle.h5_model.specs.declared.dataset.Store.TheVariants as store
use Rattle.h5_c.specs.Status.{HasStatus}
use Rattle.h5_c.specs.Calls.{IsCopied}
use Rattle.h5_c.specs.declared.ask.About.{About}
use Rattle.h5_c.specs.declared.given.CType.{CType}
use Rattle.h5_c.specs.declared.held.Held.{Held}

-- each name, followed by a zero byte
abbrev pub names_with_ends : List (List ℕ) → List ℕ
names_with_ends = flat_map (λ (name : List ℕ). name ++ 0 ∷ [])

pub record IsType (t : Fixed) (of : CType) : Type 0 where
  pub size : of.size ≡ t.size
  pub signed : of.signed ≡ t.signed
  pub big : of.big ≡ t.big

-- 1 compact, 2 contiguous, 3 in chunks, of which the sizes are told too; all else stays
abbrev pub IsStorageTold : Store (List ℕ) → About → About → Type 0
IsStorageTold store.Compact old new = new ≡ record old { storage = 1 }
IsStorageTold store.Contiguous old new = new ≡ record old { storage = 2 }
IsStorageTold (store.Chunked sizes) old new = (new ≡ record old { storage = 3; chunks = new.chunks }) × (take (length sizes) new.chunks ≡ sizes)

-- the form of storage by its number
abbrev pub IsStorageNumber : Store (List ℕ) → About → Type 0
IsStorageNumber store.Compact about = about.storage ≡ 1
IsStorageNumber store.Contiguous about = about.storage ≡ 2
IsStorageNumber (store.Chunked sizes) about = (about.storage ≡ 3) × (take (length sizes) about.chunks ≡ sizes)

-- 1 a group, 2 an array of this type, these sizes and maxima, this storage and this fill, 3 a soft link
pub record IsArrayTold (t : Fixed) (dims maxima : List ℕ) (stored : Store (List ℕ)) (fill : ℤ) (about : About) : Type 0 where
  pub kind : about.kind ≡ 2
  pub of : IsType t about.of
  pub rank : about.rank ≡ length dims
  pub dims_are : take (length dims) about.dims ≡ dims
  pub maxima_are : take (length maxima) about.maxima ≡ maxima
  pub stored_is : IsStorageNumber stored about
  pub fill_is : fits t fill ≡ true → take t.size about.fill ≡ bytes_of t fill

abbrev pub IsAbout : Kind → About → Type 0
IsAbout kind.Group about = about.kind ≡ 1
IsAbout (kind.Soft text) about = about.kind ≡ 3
IsAbout (kind.Dataset t dims maxima stored fill) about = IsArrayTold t dims maxima stored fill about

abbrev pub HasTold : Tree → List ℕ → About → About → ℕ → Type 0
HasTold tree path old new = HasStatus fault_number (λ k. HasKind tree path k × IsAbout k new)
    (λ e. (first_holding (path_rules tree path) ≡ Some e) × (new ≡ old))

abbrev pub HasNumber : Tree → List ℕ → ℕ → ℕ → ℕ → Type 0
HasNumber tree path old new = HasStatus fault_number (λ (n : ℕ). IsNumber tree path n × (new ≡ n)) (λ e. IsNoObject tree path e × (new ≡ old))

-- the text is the names; a refusal leaves the session and its text as they were
pub record HasListed (before : Held) (path : List ℕ) (after : Held) (status : ℕ) : Type 0 where
  pub session : after.session ≡ before.session
  pub listed : HasStatus fault_number (λ (names : List (List ℕ)). HasLinksNamed before.session.file.tree path names × (after.text.items ≡ names_with_ends names))
      (λ e. IsListRefused before.session.file.tree path e × (after.text ≡ before.text)) status

pub record HasAttributesListed (before : Held) (path : List ℕ) (after : Held) (status : ℕ) : Type 0 where
  pub session : after.session ≡ before.session
  pub listed : HasStatus fault_number (λ (names : List (List ℕ)). HasAttributeNames before.session.file.tree path names × (after.text.items ≡ names_with_ends names))
      (λ e. IsUnlisted before.session.file.tree path e × (after.text ≡ before.text)) status

-- the text of a soft link is told, or memory was refused for it; anything else is none. A refusal leaves the text as it was
abbrev pub IsLinkText : Kind → Held → Held → ℕ → Type 0
IsLinkText (kind.Soft text) before after status = ((status ≡ 0) × (after.text.items ≡ text.now)) ⊎ ((status ≡ 31) × (after.text ≡ before.text))
IsLinkText _ before after status = (status ≡ 104) × (after.text ≡ before.text)

pub record HasLinkText (before : Held) (path : List ℕ) (after : Held) (status : ℕ) : Type 0 where
  pub session : after.session ≡ before.session
  pub told : ((k : Kind) × HasKind before.session.file.tree path k × IsLinkText k before after status)
      ⊎ ((e : EditFault) × (status ≡ fault_number e) × (first_holding (path_rules before.session.file.tree path) ≡ Some e) × (after.text ≡ before.text))

-- the type and the sizes of an attribute
pub record IsAttributeTold (a : Attribute) (about : About) : Type 0 where
  pub of : IsType a.fixed about.of
  pub rank : about.rank ≡ length a.sizes
  pub dims_are : take (length a.sizes) about.dims ≡ a.sizes

abbrev pub HasToldAttribute : Tree → List ℕ → List ℕ → About → About → ℕ → Type 0
HasToldAttribute tree path name old new = HasStatus fault_number (λ (a : List ℕ × Attribute). HasAttribute tree path name a × IsAttributeTold a.1 new)
    (λ e. (first_holding (attribute_rules tree path name) ≡ Some e) × (new ≡ old))

-- the bytes of the values are in the room, if it has just their length; or a rule refuses it, and the room stays as it was
abbrev pub HasAttributeBytes : Tree → List ℕ → List ℕ → List ℕ → List ℕ → ℕ → Type 0
HasAttributeBytes tree path name old new status =
    ((a : List ℕ × Attribute) × HasAttribute tree path name a × IsCopied (cells_bytes (a.1).fixed (a.1).values) old new status)
    ⊎ ((e : EditFault) × (status ≡ fault_number e) × (first_holding (attribute_rules tree path name) ≡ Some e) × (new ≡ old))
