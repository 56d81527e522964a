-- What a search in a symbol node finds.
use Rattle.std.proofs.Common.{◌≡◌, ℕ, zero, suc, ◌<◌, inl, inr, List, [], ◌∷◌, map, length, take, drop, slice_get, Some, None, option_map, sym, ap, subst, ◌∙◌, arith, append-nil}
use Rattle.std.specs.List.{Contains}
use Rattle.std.proofs.lemmas.List.{take-append-drop, length-map}
use Rattle.std.proofs.lemmas.Option.{slice_get_within, same_Some}
use Rattle.h5_bytes.specs.Texts.{text_at}
use Rattle.h5_model.specs.Format.Addresses.{SymbolTable}
use Rattle.h5_model.specs.Format.Superblock.{leaf_k}
use Rattle.h5_model.specs.Format.Heap.{segment_of}
use Rattle.h5_model.specs.Format.Symbols.{Entry, Target, symbols_at, link_of}
use Rattle.h5_model.specs.Format.Links.{Before, names_in}
use Rattle.h5_model.specs.Faults.TreeFaults.{all_entries}
use Rattle.h5_snod.specs.Names.{IsPlace, entry_names}
use Rattle.h5_laws.proofs.Lists.{In, in_all, in_either, in_map, in_flat, from_map, in_contains, contains_in}
use Rattle.h5_group.specs.Told.{symbol_nodes_told, links_told}
use Rattle.h5_model.specs.declared.link.Link.{Link}
use Rattle.h5_model.proofs.TextOrder.{before_itself}
use Rattle.h5_group.specs.Links.{lent_link, IsLinkNamed, HasNone}

-- ---- an entry of this name

-- the entry whose name was found is the link's
entry_found : (segment : List ℕ) (es : List Entry) (k : ℕ) (name : List ℕ) (l : List ℕ × Target) → slice_get (entry_names segment es) k ≡ Some name
    → option_map (link_of segment) (slice_get es k) ≡ Some l → In l (map (link_of segment) es) × (l.0 ≡ name)
entry_found segment [] k name l found read = let none : None ≡ Some l = read in cc
entry_found segment (e ∷ es) zero name l found read =
    let link : link_of segment e ≡ l = same_Some (link_of segment e) l read in
    let same : text_at segment e.name ≡ name = same_Some (text_at segment e.name) name found in
    (inl link, sym (ap (λ (x : List ℕ × Target). x.0) link) ∙ same)
entry_found segment (e ∷ es) (suc k) name l found read =
    let rest = entry_found segment es k name l found read in (inr rest.0, rest.1)

pub entry_there : (segment : List ℕ) (es : List Entry) (k : ℕ) (name : List ℕ) → slice_get (entry_names segment es) k ≡ Some name → k < length es
entry_there segment es k name found =
    let low = slice_get_within (entry_names segment es) k name found in
    let long : length (entry_names segment es) ≡ length es = length-map es (λ (e : Entry). text_at segment e.name) in
    omega (arith, low, long)

-- ---- a name that no entry has

pub no_place : (names : List (List ℕ)) (name : List ℕ) (k : ℕ) → IsPlace names name k → In name names → ⊥
no_place names name k place there =
    elim (in_either name (take k names) (drop k names) (subst (In name) (sym (take-append-drop k names)) there)) [
      | inl low ↦ before_itself name (in_all (λ other. Before other name) name (take k names) place.above low)
      | inr high ↦ before_itself name (in_all (λ other. Before name other) name (drop k names) place.below high)
    ]

-- ---- the group

module _ (image : List ℕ) (table : SymbolTable) where
  abbrev S : ℕ → List Entry
  S = symbols_at image (leaf_k image)

  abbrev segment : List ℕ
  segment = segment_of image table.heap

  -- the link of an entry of one of the symbol nodes is the group's
  entry_of_group : (at : ℕ) (l : List ℕ × Target) → In at (symbol_nodes_told image table) → In l (map (link_of segment) (S at)) → In l (links_told image table)
  entry_of_group at l there here =
      let by = from_map (link_of segment) l (S at) here in
      subst (λ (x : List ℕ × Target). In x (links_told image table)) by.2
      (in_map (link_of segment) by.0 (all_entries image (symbol_nodes_told image table)) (in_flat S at by.0 (symbol_nodes_told image table) there by.1))

  pub link_found : (at k : ℕ) (name : List ℕ) (l : Link ℕ) → Contains (symbol_nodes_told image table) at → slice_get (entry_names segment (S at)) k ≡ Some name
      → option_map (link_of segment) (slice_get (S at) k) ≡ Some (lent_link l) → IsLinkNamed image table name l
  link_found at k name l there found read =
      let here = entry_found segment (S at) k name (lent_link l) found read in
      (contains_in (lent_link l) (links_told image table) (entry_of_group at (lent_link l) (in_contains at (symbol_nodes_told image table) there) here.0), here.1)

  -- a link's name is one of the names
  pub link_named : (name : List ℕ) (t : Target) → Contains (links_told image table) (name, t) → Contains (names_in S segment (symbol_nodes_told image table)) name
  link_named name t has =
      let entries : List Entry = all_entries image (symbol_nodes_told image table) in
      let by = from_map (link_of segment) (name, t) entries (in_contains (name, t) (links_told image table) has) in
      let same : text_at segment (by.0).name ≡ name = ap (λ (x : List ℕ × Target). x.0) by.2 in
      contains_in name (names_in S segment (symbol_nodes_told image table))
      (subst (λ (x : List ℕ). In x (names_in S segment (symbol_nodes_told image table))) same
      (in_map (λ (e : Entry). text_at segment e.name) by.0 entries by.1))

  pub none_found : (at k : ℕ) (name : List ℕ) → IsPlace (entry_names segment (S at)) name k
      → (Contains (names_in S segment (symbol_nodes_told image table)) name → Contains (names_in S segment (at ∷ [])) name) → HasNone image table name
  none_found at k name place only t has =
      let here = only (link_named name t has) in
      let one : names_in S segment (at ∷ []) ≡ entry_names segment (S at) = ap (entry_names segment) (append-nil (S at)) in
      no_place (entry_names segment (S at)) name k place (subst (In name) one (in_contains name (names_in S segment (at ∷ [])) here))
