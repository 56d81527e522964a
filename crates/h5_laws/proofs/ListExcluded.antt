-- A rule on all messages of a header that is broken excludes that the header is read.
use Rattle.std.proofs.Common.{◌≡◌, ◌⊎◌, inl, inr, ℕ, ◌*◌, ◌<◌, ◌≤◌, List, [], ◌∷◌, map, refl, sym, ap, ◌∙◌, subst, arith, None, Some, true, false, Bool, Option, ℤ}
use Rattle.std.proofs.lemmas.Bool.Decides.{nat_tests}
use Rattle.std.specs.Prelude.{◌==◌, IsTrue, option_map, is_some}
use Rattle.std.specs.Option.{option_and_then}
use Rattle.std.specs.Ordering.{nat_cmp, eq_by_cmp}
use Rattle.std.specs.Cmp.Lexicographic.{slice_cmp}
use Rattle.std.specs.List.{AllByRecursion, AllZip, filter, filter_map, list_any, find, IsDistinct}
use Rattle.h5_bytes.specs.declared.Block.{Block}
use Rattle.h5_model.specs.Format.Limits.{most_cells, most_chunk_bytes}
use Rattle.h5_model.specs.Format.MessageTypes.{data_layout_kind, dataspace_kind, datatype_kind, symbol_table_kind, old_fill_value_kind, fill_value_kind, attribute_kind}
use Rattle.h5_model.specs.Format.Addresses.{symbol_table_of}
use Rattle.h5_model.specs.Format.Messages.{Message, count_of, first_body}
use Rattle.h5_model.specs.Format.Fixed.{Fixed}
use Rattle.h5_model.specs.Tree.Places.{cells, extent_cells}
use Rattle.h5_model.specs.Format.Extent.{Extent, extent_of}
use Rattle.h5_model.specs.Format.Datatype.{fixed_of}
use Rattle.h5_model.specs.Format.Fill.{fill_value, old_fill_value}
use Rattle.h5_model.specs.Format.Layout.{InChunks, layout_of}
use Rattle.h5_model.specs.Format.AttributeBody.{attribute_of}
use Rattle.h5_model.specs.Format.Symbols.{Target}
use Rattle.h5_model.specs.Tree.Objects.{Dataset, Attribute, Attributes}
use Rattle.h5_model.specs.Format.Reads.{HasGroup, HasDataset, HasAttributes, is_attribute_message}
use Rattle.h5_model.specs.Format.Described.{IsFill, IsChunkSmall}
use Rattle.h5_model.specs.Format.Reached.{extent_among, type_among, layout_among}
use Rattle.h5_model.specs.Faults.HeaderFaults.{SomeBody, HasNameTwice, IsBadFill, IsLarge, stands_twice, stands}
use Rattle.h5_model.proofs.Members.{in_filter}
use Rattle.h5_laws.proofs.Lists.{In, in_all, in_contains}
use Rattle.h5_laws.proofs.Maps.{tied_right}
use Rattle.h5_laws.proofs.Counts.{only_body, none_counted, counted}
use Rattle.h5_laws.proofs.Datasets.{find_in, extent_is, type_is, layout_is}
use Rattle.h5_laws.proofs.Objects.{of_group, of_group_kind, of_dataset_kind}

-- ---- bodies of a type that stands once

-- what the first body of a type says, the one of this message says
says_of : {X : Type 0} (f : List ℕ → Option X) (kind : ℕ) (ms : List Message) (m : Message) (o : Option X) → count_of kind ms ≤ 1 → In m ms → m.kind ≡ kind
    → option_and_then f (first_body kind ms) ≡ o → f m.body ≡ o
says_of f kind ms m o low at is says = sym (ap (option_and_then f) (only_body kind ms m low at is)) ∙ says

-- a body of this type that fails
fails_not : {X : Type 0} (f : List ℕ → Option X) (kind : ℕ) (ms : List Message) (v : X) → count_of kind ms ≤ 1 → option_and_then f (first_body kind ms) ≡ Some v
    → SomeBody kind ms (λ body. f body ≡ None) → ⊥
fails_not f kind ms v low says (m, at, is, fails) =
    let good : f m.body ≡ Some v = says_of f kind ms m (Some v) low (in_contains m ms at) is says in
    let never : None ≡ Some v = sym fails ∙ good in
    absurd (cc)

-- what is said of a type is said by a message of it
said_by : {X : Type 0} (f : List ℕ → Option X) (kind : ℕ) (ms : List Message) (v : X) → option_and_then f (first_body kind ms) ≡ Some v → (m : Message) × In m ms × (m.kind ≡ kind)
said_by f kind ms v says = go (find (λ m. m.kind == kind) ms) refl where
  go : (o : Option Message) → find (λ m. m.kind == kind) ms ≡ o → (m : Message) × In m ms × (m.kind ≡ kind)
  go None none = absurd (let never : None ≡ Some v = sym (ap (λ (o : Option Message). option_and_then f (option_map (λ m. m.body) o)) none) ∙ says in cc)
  go (Some m) found = let there = find_in kind ms m found in (m, there.0, there.1)

-- ---- tests of types

none_any : (f : ℕ → Bool) (xs : List ℕ) → AllByRecursion (λ k. f k ≡ false) xs → list_any f xs ≡ false
none_any f [] all = refl
none_any f (x ∷ xs) all = rw (all.0, none_any f xs all.1) refl

not_twice : (kind : ℕ) (ms : List Message) → count_of kind ms ≤ 1 → stands_twice ms kind ≡ false
not_twice kind ms low = grind (arith, nat_tests)

not_there : (kind : ℕ) (ms : List Message) → count_of kind ms ≡ 0 → stands ms kind ≡ false
not_there kind ms none = grind (arith, nat_tests)

never : (b : Bool) → b ≡ false → IsTrue b → ⊥
never b is h = let no_way : false ≡ true = sym is ∙ h in absurd (cc)

-- ---- attributes

mapped : {X Y : Type 0} (f : X → Option Y) (xs : List X) (ys : List Y) → AllZip (λ x y. f x ≡ Some y) xs ys → filter_map f xs ≡ ys
mapped f [] [] zip = refl
mapped f [] (y ∷ ys) zip = absurd zip
mapped f (x ∷ xs) [] zip = absurd zip
mapped {Y = Y} f (x ∷ xs) (y ∷ ys) zip = rw zip.0 (ap (λ (zs : List Y). y ∷ zs) (mapped f xs ys zip.1))

module _ (ms : List Message) (attributes : Attributes) (has : HasAttributes ms attributes) where
  pub names_excluded : HasNameTwice ms → ⊥
  names_excluded twice =
      twice (subst (λ (l : List (List ℕ × Attribute)). IsDistinct (eq_by_cmp (slice_cmp nat_cmp)) (map (λ a. a.0) l))
      (sym (mapped (λ (m : Message). attribute_of m.body) (filter is_attribute_message ms) has.listed has.each)) has.distinct)

  attribute_there : (m : Message) → In m ms → m.kind ≡ attribute_kind → (a : List ℕ × Attribute) × In a has.listed × (attribute_of m.body ≡ Some a)
  attribute_there m at is =
      let passes : (m.kind == attribute_kind) ≡ true = grind (arith, nat_tests) in
      tied_right (λ (x : Message) (a : List ℕ × Attribute). attribute_of x.body ≡ Some a) (filter is_attribute_message ms) has.listed m has.each
      (in_filter is_attribute_message m ms at passes)

  pub attributes_excluded : SomeBody attribute_kind ms (λ body. attribute_of body ≡ None) → ⊥
  attributes_excluded (m, at, is, fails) =
      let a = attribute_there m (in_contains m ms at) is in
      let no_way : None ≡ Some a.0 = sym fails ∙ a.2 in
      absurd (cc)

  pub attribute_size_excluded : SomeBody attribute_kind ms (λ body. (a : List ℕ × Attribute) × (attribute_of body ≡ Some a) × (most_cells < extent_cells (a.1).sizes)) → ⊥
  attribute_size_excluded (m, at, is, (a, says, large)) =
      let there = attribute_there m (in_contains m ms at) is in
      let both : Some a ≡ Some there.0 = sym says ∙ there.2 in
      let same : a ≡ there.0 = cc in
      let small : extent_cells (there.0.1).sizes ≤ most_cells = in_all (λ (b : List ℕ × Attribute). extent_cells (b.1).sizes ≤ most_cells) there.0 has.listed has.small there.1 in
      let cells_same : extent_cells (a.1).sizes ≡ extent_cells (there.0.1).sizes = ap (λ (b : List ℕ × Attribute). extent_cells (b.1).sizes) same in
      absurd (omega (arith, large, small, cells_same))

-- ---- groups

module _ (image : List ℕ) (ms : List Message) (found : List (List ℕ × Target)) (blocks : List Block) (has : HasGroup image ms found blocks) where
  -- a type that groups do not have
  no_message : (kind : ℕ) → of_group kind ≡ false → (m : Message) → In m ms → m.kind ≡ kind → ⊥
  no_message kind not_group m at is = let no_way : false ≡ true = sym not_group ∙ of_group_kind ms m kind has.known at is in absurd (cc)

  no_count : (kind : ℕ) → of_group kind ≡ false → count_of kind ms ≡ 0
  no_count kind not_group = none_counted kind ms (no_message kind not_group)

  no_body : (kind : ℕ) (Fails : List ℕ → Type 0) → of_group kind ≡ false → SomeBody kind ms Fails → ⊥
  no_body kind Fails not_group (m, at, is, fails) = no_message kind not_group m (in_contains m ms at) is

  pub group_missing : count_of symbol_table_kind ms ≡ 0 → ⊥
  group_missing none = absurd (omega (arith, none, has.once))

  pub group_twice : IsTrue (list_any (stands_twice ms) (dataspace_kind ∷ datatype_kind ∷ old_fill_value_kind ∷ fill_value_kind ∷ data_layout_kind ∷ symbol_table_kind ∷ [])) → ⊥
  group_twice h = never (list_any (stands_twice ms) (dataspace_kind ∷ datatype_kind ∷ old_fill_value_kind ∷ fill_value_kind ∷ data_layout_kind ∷ symbol_table_kind ∷ [])) (none_any (stands_twice ms) (dataspace_kind ∷ datatype_kind ∷ old_fill_value_kind ∷ fill_value_kind ∷ data_layout_kind ∷ symbol_table_kind ∷ []) (
    not_twice dataspace_kind ms (omega (arith, no_count dataspace_kind refl)),
    (
      not_twice datatype_kind ms (omega (arith, no_count datatype_kind refl)),
      (
        not_twice old_fill_value_kind ms (omega (arith, no_count old_fill_value_kind refl)),
        (
          not_twice fill_value_kind ms (omega (arith, no_count fill_value_kind refl)),
          (
            not_twice data_layout_kind ms (omega (arith, no_count data_layout_kind refl)),
            (not_twice symbol_table_kind ms (omega (arith, has.once)), tt),
          ),
        ),
      ),
    ),
  )) h

  pub group_mixed : IsTrue (list_any (stands ms) (dataspace_kind ∷ datatype_kind ∷ old_fill_value_kind ∷ fill_value_kind ∷ data_layout_kind ∷ [])) → ⊥
  group_mixed h = never (list_any (stands ms) (dataspace_kind ∷ datatype_kind ∷ old_fill_value_kind ∷ fill_value_kind ∷ data_layout_kind ∷ [])) (none_any (stands ms) (dataspace_kind ∷ datatype_kind ∷ old_fill_value_kind ∷ fill_value_kind ∷ data_layout_kind ∷ []) (
    not_there dataspace_kind ms (no_count dataspace_kind refl),
    (
      not_there datatype_kind ms (no_count datatype_kind refl),
      (
        not_there old_fill_value_kind ms (no_count old_fill_value_kind refl),
        (
          not_there fill_value_kind ms (no_count fill_value_kind refl),
          (not_there data_layout_kind ms (no_count data_layout_kind refl), tt),
        ),
      ),
    ),
  )) h

  pub group_no_space : SomeBody dataspace_kind ms (λ body. extent_of body ≡ None) → ⊥
  group_no_space h = no_body dataspace_kind (λ body. extent_of body ≡ None) refl h

  pub group_no_type : SomeBody datatype_kind ms (λ body. fixed_of body ≡ None) → ⊥
  group_no_type h = no_body datatype_kind (λ body. fixed_of body ≡ None) refl h

  pub group_no_fill : (t : Fixed) → IsBadFill ms t → ⊥
  group_no_fill t (inl h) = no_body old_fill_value_kind (λ body. old_fill_value t body ≡ None) refl h
  group_no_fill t (inr h) = no_body fill_value_kind (λ body. fill_value t body ≡ None) refl h

  pub group_no_layout : (e : Extent) (t : Fixed) → SomeBody data_layout_kind ms (λ body. layout_of e.sizes t.size body ≡ None) → ⊥
  group_no_layout e t h = no_body data_layout_kind (λ body. layout_of e.sizes t.size body ≡ None) refl h

  pub group_tables : SomeBody symbol_table_kind ms (λ body. symbol_table_of body ≡ None) → ⊥
  group_tables h = fails_not symbol_table_of symbol_table_kind ms has.symbol_table (omega (arith, has.once)) has.chosen h

  pub group_small : (attributes : Attributes) → HasAttributes ms attributes → IsLarge ms → ⊥
  group_small attributes are (inl h) = no_body dataspace_kind (λ body. (e : Extent) × (extent_of body ≡ Some e) × (most_cells < extent_cells e.sizes)) refl h
  group_small attributes are (inr (inl h)) = attribute_size_excluded ms attributes are h
  group_small attributes are (inr (inr (t, sizes, root, type, layout, large))) =
      let m = said_by fixed_of datatype_kind ms t type in no_message datatype_kind refl m.0 m.1 m.2

-- ---- datasets

module _ (image : List ℕ) (ms : List Message) (d : Dataset) (blocks : List Block) (has : HasDataset image ms d blocks) where
  no_tables : count_of symbol_table_kind ms ≡ 0
  no_tables = none_counted symbol_table_kind ms (λ m at is. let no_way : false ≡ true = of_dataset_kind ms m symbol_table_kind has.known at is in absurd (cc))

  pub dataset_missing : (count_of dataspace_kind ms ≡ 0) ⊎ ((count_of datatype_kind ms ≡ 0) ⊎ (count_of data_layout_kind ms ≡ 0)) → ⊥
  dataset_missing (inl none) = absurd (omega (arith, none, has.array.one_space))
  dataset_missing (inr (inl none)) = absurd (omega (arith, none, has.array.one_type))
  dataset_missing (inr (inr none)) = absurd (omega (arith, none, has.array.one_layout))

  pub dataset_twice : IsTrue (list_any (stands_twice ms) (dataspace_kind ∷ datatype_kind ∷ old_fill_value_kind ∷ fill_value_kind ∷ data_layout_kind ∷ symbol_table_kind ∷ [])) → ⊥
  dataset_twice h = never (list_any (stands_twice ms) (dataspace_kind ∷ datatype_kind ∷ old_fill_value_kind ∷ fill_value_kind ∷ data_layout_kind ∷ symbol_table_kind ∷ [])) (none_any (stands_twice ms) (dataspace_kind ∷ datatype_kind ∷ old_fill_value_kind ∷ fill_value_kind ∷ data_layout_kind ∷ symbol_table_kind ∷ []) (
    not_twice dataspace_kind ms (omega (arith, has.array.one_space)),
    (
      not_twice datatype_kind ms (omega (arith, has.array.one_type)),
      (
        not_twice old_fill_value_kind ms has.array.old_fills,
        (
          not_twice fill_value_kind ms has.array.fills,
          (
            not_twice data_layout_kind ms (omega (arith, has.array.one_layout)),
            (not_twice symbol_table_kind ms (omega (arith, no_tables)), tt),
          ),
        ),
      ),
    ),
  )) h

  pub dataset_mixed : IsTrue (stands ms symbol_table_kind) → ⊥
  dataset_mixed h = never (stands ms symbol_table_kind) (not_there symbol_table_kind ms no_tables) h

  pub dataset_space : SomeBody dataspace_kind ms (λ body. extent_of body ≡ None) → ⊥
  dataset_space h = fails_not extent_of dataspace_kind ms (record { sizes = d.sizes; maxima = d.maxima }) (omega (arith, has.array.one_space)) has.array.space h

  pub dataset_type : SomeBody datatype_kind ms (λ body. fixed_of body ≡ None) → ⊥
  dataset_type h = fails_not fixed_of datatype_kind ms d.fixed (omega (arith, has.array.one_type)) has.array.type h

  fill_fails : (kind : ℕ) (value : List ℕ → Option ℤ) (fill : Option ℤ) → count_of kind ms ≤ 1 → IsFill value (first_body kind ms) fill
      → SomeBody kind ms (λ body. value body ≡ None) → ⊥
  fill_fails kind value fill low filled (m, at, is, fails) =
      let there : IsFill value (Some m.body) fill = subst (λ (o : Option (List ℕ)). IsFill value o fill) (only_body kind ms m low (in_contains m ms at) is) filled in
      let none : None ≡ fill = sym fails ∙ there.0 in
      let no_way : false ≡ true = ap is_some none ∙ there.1 in
      absurd (cc)

  pub dataset_fill : (t : Fixed) → type_among ms ≡ Some t → IsBadFill ms t → ⊥
  dataset_fill t type bad = go (subst (IsBadFill ms) (type_is image ms d blocks has t type) bad) where
    go : IsBadFill ms d.fixed → ⊥
    go (inl h) = fill_fails old_fill_value_kind (old_fill_value d.fixed) (has.array.filled).old_fill has.array.old_fills (has.array.filled).old_filled h
    go (inr h) = fill_fails fill_value_kind (fill_value d.fixed) (has.array.filled).new_fill has.array.fills (has.array.filled).new_filled h

  pub dataset_layout : (e : Extent) (t : Fixed) → extent_among ms ≡ Some e → type_among ms ≡ Some t → SomeBody data_layout_kind ms (λ body. layout_of e.sizes t.size body ≡ None) → ⊥
  dataset_layout e t extent type bad =
      let sizes : e.sizes ≡ d.sizes = ap (λ (x : Extent). x.sizes) (extent_is image ms d blocks has e extent) in
      let size : t.size ≡ (d.fixed).size = ap (λ (x : Fixed). x.size) (type_is image ms d blocks has t type) in
      let here = subst (λ (ds : List ℕ). SomeBody data_layout_kind ms (λ body. layout_of ds t.size body ≡ None)) sizes bad in
      let there = subst (λ (n : ℕ). SomeBody data_layout_kind ms (λ body. layout_of d.sizes n body ≡ None)) size here in
      fails_not (layout_of d.sizes (d.fixed).size) data_layout_kind ms has.layout (omega (arith, has.array.one_layout)) has.array.laid_out there

  pub dataset_tables : SomeBody symbol_table_kind ms (λ body. symbol_table_of body ≡ None) → ⊥
  dataset_tables (m, at, is, fails) = absurd (omega (arith, no_tables, counted symbol_table_kind ms m (in_contains m ms at) is))

  chunk_small : (t : Fixed) (sizes : List ℕ) (root : Option ℕ) → type_among ms ≡ Some t → layout_among ms ≡ Some (InChunks sizes root) → cells sizes * t.size ≤ most_chunk_bytes
  chunk_small t sizes root type layout =
      let laid : InChunks sizes root ≡ has.layout = layout_is image ms d blocks has (InChunks sizes root) layout in
      let fixed : t ≡ d.fixed = type_is image ms d blocks has t type in
      let small : IsChunkSmall d.fixed (InChunks sizes root) = subst (IsChunkSmall d.fixed) (sym laid) has.array.chunk_small in
      subst (λ (f : Fixed). cells sizes * f.size ≤ most_chunk_bytes) (sym fixed) small

  pub dataset_small : (attributes : Attributes) → HasAttributes ms attributes → IsLarge ms → ⊥
  dataset_small attributes are (inl (m, at, is, (e, says, large))) =
      let good : extent_of m.body ≡ Some (record { sizes = d.sizes; maxima = d.maxima })
      = says_of extent_of dataspace_kind ms m (Some (record { sizes = d.sizes; maxima = d.maxima })) (omega (arith, has.array.one_space)) (in_contains m ms at) is has.array.space in
      let both : Some e ≡ Some (record { sizes = d.sizes; maxima = d.maxima }) = sym says ∙ good in
      let same : e ≡ record { sizes = d.sizes; maxima = d.maxima } = cc in
      let cells_same : extent_cells e.sizes ≡ extent_cells d.sizes = ap (λ (x : Extent). extent_cells x.sizes) same in
      absurd (omega (arith, large, has.array.small, cells_same))
  dataset_small attributes are (inr (inl h)) = attribute_size_excluded ms attributes are h
  dataset_small attributes are (inr (inr (t, sizes, root, type, layout, large))) = absurd (omega (arith, large, chunk_small t sizes root type layout))
