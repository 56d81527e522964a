-- The entries of the tables of objects and links that an image was read as, and what these look up.
use Rattle.std.proofs.Common.{◌≡◌, ℕ, ◌+◌, List, [], ◌∷◌, refl, sym, ap, ◌∙◌, subst, Option, Some, None}
use Rattle.std.specs.Prelude.{T, map, option_map, slice_get}
use Rattle.std.proofs.lemmas.Option.{same_Some, slice_get-map}
use Rattle.std.specs.Option.{option_flatten}
use Rattle.std.specs.Ordering.{nat_cmp}
use Rattle.std.specs.Cmp.Lexicographic.{slice_cmp, nat_list_cmp_total}
use Rattle.std.specs.FinMap.{FinMap, get, entries, from_entries, is_sorted, get-entries}
use Rattle.std.specs.FinMap.Entries.{below_all}
use Rattle.h5_model.specs.Format.Addresses.{SymbolTable}
use Rattle.h5_model.specs.Format.Symbols.{Target}
use Rattle.h5_model.specs.Format.Links.{Before, Ascend}
use Rattle.h5_model.specs.Tree.Objects.{Link, Object, Tree}
use Rattle.h5_model.proofs.TextOrder.{is_less}
use Rattle.h5_group.specs.Told.{links_told}
use Rattle.h5_group.specs.Links.{IsGroupRead}
use Rattle.h5_open.specs.declared.opened.object.OpenedObject.{OpenedObject}
use Rattle.h5_open.specs.Opened.Objects.{header_of, headers, numbered_from, slots_of, numbered_objects, link_to, links_by, object_in, table_of, tree_of}
use Rattle.h5_laws.proofs.Lists.{In, in_map, from_map}
use Rattle.h5_laws.proofs.Maps.{found_value, get_of_entry}
use Rattle.h5_laws.proofs.Ascending.{before_trans}
use Rattle.h5_laws.proofs.Numbered.{joined, less_holds}
use Rattle.h5_open.proofs.OpenedLaws.Made.{entries_made, entries_numbered, entries_standing, get_numbered, get_standing}

-- ---- slots

-- what is told of the object in a slot
told_at : {X : Type 0} (f : OpenedObject → X) (slots : List (Option OpenedObject)) (n : ℕ)
    → option_flatten (slice_get (map (option_map f) slots) n) ≡ option_map f (option_flatten (slice_get slots n))
told_at {X = X} f slots n = ap option_flatten (slice_get-map (option_map f) slots n) ∙ go (slice_get slots n) where
  go : (slot : Option (Option OpenedObject)) → option_flatten (option_map (option_map f) slot) ≡ option_map f (option_flatten slot)
  go None = refl
  go (Some o) = refl

pub table_entries : (slots : List (Option OpenedObject)) → entries (table_of slots) ≡ numbered_objects 0 (map (option_map header_of) slots)
table_entries slots = entries_standing (map (option_map header_of) slots)

pub get_table : (slots : List (Option OpenedObject)) (n : ℕ) → get (table_of slots) n ≡ option_map header_of (option_flatten (slice_get slots n))
get_table slots n = get_standing (map (option_map header_of) slots) n ∙ told_at header_of slots n

pub tree_entries : (image : List ℕ) (slots : List (Option OpenedObject)) → entries (tree_of image slots) ≡ numbered_objects 0 (map (option_map (object_in image (table_of slots))) slots)
tree_entries image slots = entries_standing (map (option_map (object_in image (table_of slots))) slots)

pub get_tree : (image : List ℕ) (slots : List (Option OpenedObject)) (n : ℕ)
    → get (tree_of image slots) n ≡ option_map (object_in image (table_of slots)) (option_flatten (slice_get slots n))
get_tree image slots n = get_standing (map (option_map (object_in image (table_of slots))) slots) n ∙ told_at (object_in image (table_of slots)) slots n

-- a header of the table is that of an object in a slot
pub slot_of : (slots : List (Option OpenedObject)) (n h : ℕ) → get (table_of slots) n ≡ Some h → (o : OpenedObject) × (slice_get slots n ≡ Some (Some o)) × (header_of o ≡ h)
slot_of slots n h at = go (slice_get slots n) refl (sym (get_table slots n) ∙ at) where
  go : (slot : Option (Option OpenedObject)) → slice_get slots n ≡ slot → option_map header_of (option_flatten slot) ≡ Some h
      → (o : OpenedObject) × (slice_get slots n ≡ Some (Some o)) × (header_of o ≡ h)
  go None is there = absurd (cc)
  go (Some None) is there = absurd (cc)
  go (Some (Some o)) is there = (o, is, same_Some (header_of o) h there)

-- ---- slots of which none is empty

module _ (objects : List OpenedObject) where
  dense_told : {X : Type 0} (f : OpenedObject → X) (n : ℕ) (os : List OpenedObject) → numbered_objects n (map (option_map f) (slots_of os)) ≡ numbered_from n (map f os)
  dense_told f n [] = refl
  dense_told {X = X} f n (o ∷ os) = ap (λ (es : List (ℕ × X)). (n, f o) ∷ es) (dense_told f (n + 1) os)

  pub table_dense : table_of (slots_of objects) ≡ from_entries (numbered_from 0 (headers objects))
  table_dense = ap (λ (es : List (ℕ × ℕ)). from_entries es) (dense_told header_of 0 objects)

  pub table_entries_dense : entries (table_of (slots_of objects)) ≡ numbered_from 0 (headers objects)
  table_entries_dense = ap entries table_dense ∙ entries_numbered (headers objects)

  pub get_table_dense : (n : ℕ) → get (table_of (slots_of objects)) n ≡ slice_get (headers objects) n
  get_table_dense n = ap (λ (table : FinMap nat_cmp ℕ). get table n) table_dense ∙ get_numbered (headers objects) n

  pub header_at_dense : (k : ℕ) (o : OpenedObject) → slice_get objects k ≡ Some o → slice_get (headers objects) k ≡ Some (header_of o)
  header_at_dense k o at = slice_get-map header_of objects k ∙ ap (option_map header_of) at

  module _ (image : List ℕ) where
    pub tree_dense : tree_of image (slots_of objects) ≡ from_entries (numbered_from 0 (map (object_in image (table_of (slots_of objects))) objects))
    tree_dense = ap (λ (es : List (ℕ × Object)). from_entries es) (dense_told (object_in image (table_of (slots_of objects))) 0 objects)

    pub tree_entries_dense : entries (tree_of image (slots_of objects)) ≡ numbered_from 0 (map (object_in image (table_of (slots_of objects))) objects)
    tree_entries_dense = ap entries tree_dense ∙ entries_numbered (map (object_in image (table_of (slots_of objects))) objects)

    pub get_tree_dense : (n : ℕ) → get (tree_of image (slots_of objects)) n ≡ slice_get (map (object_in image (table_of (slots_of objects))) objects) n
    get_tree_dense n = ap (λ (tree : Tree). get tree n) tree_dense ∙ get_numbered (map (object_in image (table_of (slots_of objects))) objects) n

-- ---- links, whose names ascend

abbrev pub named_links : FinMap nat_cmp ℕ → List (List ℕ × Target) → List (List ℕ × Link)
named_links table found = map (λ (l : List ℕ × Target). (l.0, link_to table l.1)) found

below_names : (table : FinMap nat_cmp ℕ) (x : List ℕ) (b : List ℕ × Target) (more : List (List ℕ × Target)) → Before x b.0 → Ascend (b ∷ more) → T (below_all (slice_cmp nat_cmp) x (named_links table (b ∷ more)))
below_names table x b [] h rise = joined _ _ (less_holds (slice_cmp nat_cmp x b.0) (is_less (slice_cmp nat_cmp x b.0) h)) tt
below_names table x b (c ∷ more) h rise =
    joined _ _ (less_holds (slice_cmp nat_cmp x b.0) (is_less (slice_cmp nat_cmp x b.0) h)) (below_names table x c more (before_trans x b.0 c.0 h rise.0) rise.1)

sorted_names : (table : FinMap nat_cmp ℕ) (found : List (List ℕ × Target)) → Ascend found → T (is_sorted (slice_cmp nat_cmp) (named_links table found))
sorted_names table [] rise = tt
sorted_names table (a ∷ []) rise = tt
sorted_names table (a ∷ b ∷ more) rise = joined _ _ (below_names table a.0 b more rise.0 rise.1) (sorted_names table (b ∷ more) rise.1)

pub link_entries : (table : FinMap nat_cmp ℕ) (found : List (List ℕ × Target)) → Ascend found → entries (links_by table found) ≡ map (λ (l : List ℕ × Target). (l.0, link_to table l.1)) found
link_entries table found rise = entries_made nat_list_cmp_total (named_links table found) (sorted_names table found rise)

-- a link stands under its name
pub get_link : (table : FinMap nat_cmp ℕ) (found : List (List ℕ × Target)) → Ascend found → (name : List ℕ) (t : Target) → In (name, t) found → get (links_by table found) name ≡ Some (link_to table t)
get_link table found rise name t there =
    get_of_entry nat_list_cmp_total (links_by table found) name (link_to table t)
    (subst (λ (es : List (List ℕ × Link)). In (name, link_to table t) es) (sym (link_entries table found rise)) (in_map (λ (l : List ℕ × Target). (l.0, link_to table l.1)) (name, t) found there))

-- and what stands under a name is a link
pub link_got : (table : FinMap nat_cmp ℕ) (found : List (List ℕ × Target)) → Ascend found → (name : List ℕ) (link : Link) → get (links_by table found) name ≡ Some link
    → (l : List ℕ × Target) × In l found × (link_to table l.1 ≡ link)
link_got table found rise name link is =
    let entry : (k : List ℕ) × In (k, link) (entries (links_by table found)) = found_value (slice_cmp nat_cmp) (entries (links_by table found)) name link (sym (get-entries (links_by table found) name) ∙ is) in
    let one = from_map (λ (l : List ℕ × Target). (l.0, link_to table l.1)) (entry.0, link) found (subst (λ (es : List (List ℕ × Link)). In (entry.0, link) es) (link_entries table found rise) entry.1) in
    (one.0, one.1, ap (λ (e : List ℕ × Link). e.1) one.2)

-- ---- groups that were read

pub names_ascend : (image : List ℕ) (t : SymbolTable) → IsGroupRead image t → Ascend (links_told image t)
names_ascend image t read = ((read.linked).listed).ascending

pub group_entries : (image : List ℕ) (table : FinMap nat_cmp ℕ) (t : SymbolTable) → IsGroupRead image t
    → entries (links_by table (links_told image t)) ≡ map (λ (l : List ℕ × Target). (l.0, link_to table l.1)) (links_told image t)
group_entries image table t read = link_entries table (links_told image t) (names_ascend image t read)
