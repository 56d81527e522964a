-- The objects of a plain image in the order of their numbers, and that their blocks hold each byte behind the superblock once.
use Rattle.std.proofs.Common.{◌≡◌, ℕ, ◌+◌, ◌-◌, ◌≤◌, List, [], ◌∷◌, map, refl, sym, ap, ap₂, ◌∙◌, subst, inl, inr, Bool, Some}
use Rattle.std.specs.Prelude.{T, ◌&&◌}
use Rattle.std.specs.Ordering.{nat_cmp, is_lt}
use Rattle.std.specs.Cmp.{nat_cmp_total}
use Rattle.std.specs.FinMap.{get, entries, is_sorted, entries_sorted}
use Rattle.std.specs.FinMap.Entries.{below_all}
use Rattle.std.specs.List.{flat_map, AllByRecursion}
use Rattle.h5_bytes.specs.Blocks.{Inside, cover, holds}
use Rattle.h5_bytes.specs.declared.Block.{Block}
use Rattle.h5_bytes.proofs.BlockLaws.{all_append, cover-append}
use Rattle.h5_model.specs.Format.Reads.{Placed, IsPlaced, IsCounted}
use Rattle.h5_model.specs.Tree.Objects.{Tree, Object}
use Rattle.h5_laws.proofs.Lists.{In}
use Rattle.h5_laws.proofs.Maps.{entry_of_get, get_of_entry}
use Rattle.h5_repack.specs.Image.Written.{IsOrder, object_length, header_in, table_of, image_end}
use Rattle.h5_repack.proofs.ImageLaws.GroupLinks.{header_is}
use Rattle.h5_repack.proofs.ImageLaws.ImageObjects.{Located}
use Rattle.h5_repack.proofs.ImageLaws.Orders.{got_in_order, order-total, order_apart}
use Rattle.h5_repack.proofs.ImageLaws.Places.{Objects, Along, IsFound, along_more, along_found, along_cover, table_find, table_object}
use Rattle.h5_repack.proofs.ImageLaws.Sorted.{same_sorted}
use Rattle.h5_repack.proofs.ImageLaws.Totals.{total}
use Rattle.h5_model.specs.declared.k_values.KValues.{KValues}
use Rattle.h5_model.specs.Format.Plain.{plain_superblock_length}
use Rattle.h5_model.proofs.Frames.{inside_longer}

module _ (image : List ℕ) (k : KValues) (counts : ℕ → ℕ) (tree : Tree) (order : Objects) where
  abbrev AreLocated : Objects → Type 0
  AreLocated es = AllByRecursion (Located image k counts tree order) es

  -- each object with its place and its blocks
  abbrev pub placed_of : (es : Objects) → AllByRecursion (Located image k counts tree order) es → List Placed
  placed_of [] all = []
  placed_of (e ∷ es) all = record { number = e.0; header = (all.0).place; object = e.1; blocks = ((all.0).stands).blocks } ∷ placed_of es all.1

  abbrev pub headers : (es : Objects) → AllByRecursion (Located image k counts tree order) es → List (ℕ × ℕ)
  headers es all = map (λ (x : Placed). (x.number, x.header)) (placed_of es all)

  pub objects_are : (es : Objects) (all : AreLocated es) → es ≡ map (λ (x : Placed). (x.number, x.object)) (placed_of es all)
  objects_are [] all = refl
  objects_are (e ∷ es) all = ap (λ (rest : Objects). e ∷ rest) (objects_are es all.1)

  pub all_placed : (es : Objects) (all : AreLocated es) → AllByRecursion (IsPlaced image (table_of k counts order)) (placed_of es all)
  all_placed [] all = tt
  all_placed (e ∷ es) all = (((all.0).stands).object, all_placed es all.1)

  pub all_counted : (es : Objects) (all : AreLocated es) → AllByRecursion (IsCounted image tree) (placed_of es all)
  all_counted [] all = tt
  all_counted (e ∷ es) all = (((all.0).stands).counted, all_counted es all.1)

  pub all_inside : (es : Objects) (all : AreLocated es) → Inside (image_end k counts order) (flat_map (λ (x : Placed). x.blocks) (placed_of es all))
  all_inside [] all = tt
  all_inside (e ∷ es) all =
      all_append (λ (b : Block). b.at + b.len ≤ image_end k counts order) ((all.0).stands).blocks (flat_map (λ (x : Placed). x.blocks) (placed_of es all.1))
      (inside_longer ((all.0).place + object_length k (counts e.0) e.1) (image_end k counts order) (all.0).low ((all.0).stands).blocks ((all.0).stands).within)
      (all_inside es all.1)

  -- ---- the table

  below_headers : (y : ℕ) (es : Objects) (all : AreLocated es) → below_all nat_cmp y (headers es all) ≡ below_all nat_cmp y es
  below_headers y [] all = refl
  below_headers y (e ∷ es) all = ap (λ (b : Bool). is_lt (nat_cmp y e.0) && b) (below_headers y es all.1)

  sorted_headers : (es : Objects) (all : AreLocated es) → is_sorted nat_cmp (headers es all) ≡ is_sorted nat_cmp es
  sorted_headers [] all = refl
  sorted_headers (e ∷ es) all = ap₂ (λ (a b : Bool). a && b) (below_headers e.0 es all.1) (sorted_headers es all.1)

  header_found : (es : Objects) (all : AreLocated es) (q h : ℕ) → In (q, h) (headers es all) → get (table_of k counts order) q ≡ Some h
  header_found [] all q h there = absurd there
  header_found (e ∷ es) all q h (inl same) =
      let number : e.0 ≡ q = ap (λ (x : ℕ × ℕ). x.0) same in
      let place : (all.0).place ≡ h = ap (λ (x : ℕ × ℕ). x.1) same in
      ap (get (table_of k counts order)) (sym number) ∙ (all.0).found ∙ ap (λ (y : ℕ). Some y) place
  header_found (e ∷ es) all q h (inr there) = header_found es all.1 q h there

  object_header : (es : Objects) (all : AreLocated es) (q : ℕ) (o : Object) → In (q, o) es → (h : ℕ) × In (q, h) (headers es all)
  object_header [] all q o there = absurd there
  object_header (e ∷ es) all q o (inl same) = ((all.0).place, inl (ap (λ (n : ℕ). (n, (all.0).place)) (ap (λ (x : ℕ × Object). x.0) same)))
  object_header (e ∷ es) all q o (inr there) = let rest = object_header es all.1 q o there in (rest.0, inr rest.1)

  -- ---- the bytes

  placed_cover : (p : ℕ) (es : Objects) (all : AreLocated es) → cover p (flat_map (λ (x : Placed). x.blocks) (placed_of es all))
      ≡ total (λ (e : ℕ × Object). holds p (header_in (table_of k counts order) e.0) (object_length k (counts e.0) e.1)) es
  placed_cover p [] all = refl
  placed_cover p (e ∷ es) all =
      cover-append p ((all.0).stands).blocks (flat_map (λ (x : Placed). x.blocks) (placed_of es all.1))
      ∙ ap₂ (λ (a b : ℕ). a + b)
      (((all.0).stands).covered p ∙ ap (λ y. holds p y (object_length k (counts e.0) e.1)) (sym (header_is (table_of k counts order) e.0 (all.0).place (all.0).found)))
      (placed_cover p es all.1)

  module _ (is : IsOrder tree order) (all : AreLocated (entries tree)) where
    sorted_here : T (is_sorted nat_cmp (headers (entries tree) all))
    sorted_here = subst T (sym (sorted_headers (entries tree) all)) (entries_sorted tree)

    into : (q h : ℕ) → In (q, h) (entries (table_of k counts order)) → In (q, h) (headers (entries tree) all)
    into q h there =
        let got : get (table_of k counts order) q ≡ Some h = got_entry q h there in
        let object = table_object k counts order q h got in
        let own = object_header (entries tree) all q object.0 (entry_of_get tree q object.0 (got_in_order tree order is q object.0 object.1)) in
        let same : own.0 ≡ h = sym (header_is (table_of k counts order) q own.0 (header_found (entries tree) all q own.0 own.1)) ∙ header_is (table_of k counts order) q h got in
        subst (λ (y : ℕ). In (q, y) (headers (entries tree) all)) same own.1 where
          got_entry : (q h : ℕ) → In (q, h) (entries (table_of k counts order)) → get (table_of k counts order) q ≡ Some h
          got_entry q h there = get_of_entry nat_cmp_total (table_of k counts order) q h there

    back : (q h : ℕ) → In (q, h) (headers (entries tree) all) → In (q, h) (entries (table_of k counts order))
    back q h there = entry_of_get (table_of k counts order) q h (header_found (entries tree) all q h there)

    -- the table has the places of the objects
    pub table_is : entries (table_of k counts order) ≡ map (λ (x : Placed). (x.number, x.header)) (placed_of (entries tree) all)
    table_is = same_sorted (entries (table_of k counts order)) (headers (entries tree) all) (entries_sorted (table_of k counts order)) sorted_here into back

    along_headers : Along k counts (λ place e. header_in (table_of k counts order) e.0 ≡ place) (plain_superblock_length k) order
    along_headers = along_more k counts (IsFound k counts (λ n. get (table_of k counts order) n)) (λ place e. header_in (table_of k counts order) e.0 ≡ place) (plain_superblock_length k) order
        (λ place e there found. header_is (table_of k counts order) e.0 place found)
        (along_found k counts (λ n. get (table_of k counts order) n) (plain_superblock_length k) order (order_apart tree order is) (λ n there. table_find k counts order n))

    -- the objects hold each byte behind the superblock once
    pub all_cover : (p : ℕ) → cover p (flat_map (λ (x : Placed). x.blocks) (placed_of (entries tree) all)) ≡ holds p (plain_superblock_length k) (image_end k counts order - (plain_superblock_length k))
    all_cover p =
        placed_cover p (entries tree) all
        ∙ sym (order-total tree order is (λ (e : ℕ × Object). holds p (header_in (table_of k counts order) e.0) (object_length k (counts e.0) e.1)))
        ∙ along_cover k counts p (header_in (table_of k counts order)) (plain_superblock_length k) order along_headers
