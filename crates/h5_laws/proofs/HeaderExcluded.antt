-- A header that is reached and breaks a rule excludes the reading.
use Rattle.std.proofs.Common.{◌≡◌, ◌⊎◌, inl, inr, ℕ, List, [], ◌∷◌, length, sym, ap, ◌∙◌, subst, arith, None, Some, true, false}
use Rattle.std.specs.Prelude.{◌==◌, not, is_some}
use Rattle.std.specs.Option.{option_and_then}
use Rattle.std.specs.Ordering.{nat_cmp}
use Rattle.std.specs.FinMap.{FinMap}
use Rattle.h5_bytes.specs.Blocks.{Inside}
use Rattle.h5_model.specs.Format.MessageTypes.{external_files_kind, filter_pipeline_kind, symbol_table_kind}
use Rattle.h5_model.specs.Format.Messages.{Message, count_of}
use Rattle.h5_model.specs.Format.Symbols.{Target}
use Rattle.h5_model.specs.Tree.Objects.{Tree, Object, Dataset, ToObject, follow, links_of, links_in}
use Rattle.h5_model.specs.Format.Reads.{Placed, HasGroup, HasDataset, InGroup, InDataset, Holds}
use Rattle.h5_model.specs.Format.Reached.{AllMessages}
use Rattle.h5_model.specs.Faults.HeaderFaults.{HeaderBreach, ListBreach, is_known, is_new_style}
use Rattle.h5_model.specs.declared.open_fault.Cause.{Cause}
use Rattle.h5_model.specs.declared.open_fault.Cause.TheVariants.{HeaderVersion, MessageSize, MessageCount, SharedMessage, UnknownMessage, Filtered, ExternalFiles, NewStyleGroup, MissingMessage, DuplicateMessage, DataspaceForm, DatatypeForm, FillForm, LayoutForm, AttributeForm, HeapForm, TooLarge}
use Rattle.h5_laws.proofs.Lists.{In, in_all}
use Rattle.h5_laws.proofs.Objects.{content_cases, one_of_two, in_tree, of_group, of_dataset}
use Rattle.h5_laws.proofs.Datasets.{all_messages}
use Rattle.h5_laws.proofs.Steps.{header_inside}
use Rattle.h5_laws.proofs.Located.{Known, KnownAt}
use Rattle.h5_laws.proofs.MetExcluded.{misfit_excluded, shared_excluded, kind_excluded, unknown_refused, filtered_refused, external_refused, new_refused}
use Rattle.h5_laws.proofs.ListExcluded.{names_excluded, attributes_excluded, group_missing, group_twice, group_mixed, group_no_space, group_no_type, group_no_fill, group_no_layout, group_tables, group_small, dataset_missing, dataset_twice, dataset_mixed, dataset_space, dataset_type, dataset_fill, dataset_layout, dataset_tables, dataset_small}

-- a path of no names leads to the root
root_number : (tree : Tree) (path : List (List ℕ)) (number : ℕ) → length path ≡ 0 → follow tree (ToObject 0) path ≡ Some (ToObject number) → number ≡ 0
root_number tree [] number short leads = cc
root_number tree (name ∷ path) number short leads = absurd (omega (arith, short))

module _ (image : List ℕ) (table : FinMap nat_cmp ℕ) (tree : Tree) (placed : List Placed) (reads : Holds image table tree placed) where
  module _ (depth : ℕ) (k : Known image table tree placed depth) where
    abbrev ms : List Message
    ms = k.has.messages

    inside : Inside (length image) k.has.header_blocks
    inside = header_inside image table tree placed reads depth k

    cases : ((found : List (List ℕ × Target)) × HasGroup image ms found k.has.content_blocks) ⊎ ((d : Dataset) × HasDataset image ms d k.has.content_blocks)
    cases = one_of_two image table ms k.o.object.content k.has.content_blocks k.has.content

    each_kind : (m : Message) → In m ms → (of_group m.kind ≡ true) ⊎ (of_dataset m.kind ≡ true)
    each_kind m at = elim cases [ inl g ↦ inl (in_all InGroup m ms (g.1).known at) | inr d ↦ inr (in_all InDataset m ms (d.1).known at) ]

    list_breach : (cause : Cause) → ListBreach image k.o.header ms cause → ⊥
    list_breach MessageCount h = h k.has.listed.total
    list_breach MissingMessage h = elim cases [
      | inl g ↦ group_missing image ms g.0 k.has.content_blocks g.1 h.0
      | inr d ↦ dataset_missing image ms d.0 k.has.content_blocks d.1 h.1
    ]
    list_breach DuplicateMessage (inl h) = elim cases [
      | inl g ↦ group_twice image ms g.0 k.has.content_blocks g.1 h
      | inr d ↦ dataset_twice image ms d.0 k.has.content_blocks d.1 h
    ]
    list_breach DuplicateMessage (inr (inl h)) = elim cases [
      | inl g ↦ group_mixed image ms g.0 k.has.content_blocks g.1 h.1
      | inr d ↦ dataset_mixed image ms d.0 k.has.content_blocks d.1 h.0
    ]
    list_breach DuplicateMessage (inr (inr h)) = names_excluded ms k.o.object.attributes k.has.attributes h
    list_breach DataspaceForm h = elim cases [
      | inl g ↦ group_no_space image ms g.0 k.has.content_blocks g.1 h
      | inr d ↦ dataset_space image ms d.0 k.has.content_blocks d.1 h
    ]
    list_breach DatatypeForm h = elim cases [
      | inl g ↦ group_no_type image ms g.0 k.has.content_blocks g.1 h
      | inr d ↦ dataset_type image ms d.0 k.has.content_blocks d.1 h
    ]
    list_breach FillForm h = elim cases [
      | inl g ↦ group_no_fill image ms g.0 k.has.content_blocks g.1 h.0 h.2
      | inr d ↦ dataset_fill image ms d.0 k.has.content_blocks d.1 h.0 h.1 h.2
    ]
    list_breach LayoutForm h = elim cases [
      | inl g ↦ group_no_layout image ms g.0 k.has.content_blocks g.1 h.0 h.1 h.4
      | inr d ↦ dataset_layout image ms d.0 k.has.content_blocks d.1 h.0 h.1 h.2 h.3 h.4
    ]
    list_breach AttributeForm h = attributes_excluded ms k.o.object.attributes k.has.attributes h
    list_breach HeapForm h = elim cases [
      | inl g ↦ group_tables image ms g.0 k.has.content_blocks g.1 h
      | inr d ↦ dataset_tables image ms d.0 k.has.content_blocks d.1 h
    ]
    list_breach TooLarge h = elim cases [
      | inl g ↦ group_small image ms g.0 k.has.content_blocks g.1 k.o.object.attributes k.has.attributes h
      | inr d ↦ dataset_small image ms d.0 k.has.content_blocks d.1 k.o.object.attributes k.has.attributes h
    ]
    list_breach _ h = absurd h

    listed : (cause : Cause) (messages : List Message) → AllMessages image k.o.header messages → ListBreach image k.o.header messages cause → ⊥
    listed cause messages all h =
        list_breach cause (subst (λ (x : List Message). ListBreach image k.o.header x cause)
        (all_messages image k.o.header messages ms k.has.header_blocks all k.has.listed) h)

    breach : (cause : Cause) → HeaderBreach image k.o.header cause → ⊥
    breach HeaderVersion h = h k.has.listed.version
    breach MessageSize (at, end, met, misfit) = misfit_excluded image k.o.header ms k.has.header_blocks k.has.listed inside at end met misfit
    breach SharedMessage (at, m, shared) = shared_excluded image k.o.header ms k.has.header_blocks k.has.listed inside at m shared
    breach UnknownMessage h = kind_excluded image k.o.header ms k.has.header_blocks k.has.listed inside (λ kind. not (is_known kind)) unknown_refused each_kind h
    breach Filtered h = kind_excluded image k.o.header ms k.has.header_blocks k.has.listed inside (λ kind. kind == filter_pipeline_kind) filtered_refused each_kind h
    breach ExternalFiles h = kind_excluded image k.o.header ms k.has.header_blocks k.has.listed inside (λ kind. kind == external_files_kind) external_refused each_kind h
    breach NewStyleGroup h = kind_excluded image k.o.header ms k.has.header_blocks k.has.listed inside is_new_style new_refused each_kind h
    breach cause h = listed cause h.0 h.1 h.2

    -- the root is a group
    root_table : depth ≡ 0 → count_of symbol_table_kind ms ≡ 0 → ⊥
    root_table top none =
        let number : k.o.number ≡ 0 = root_number tree k.path k.o.number (k.long ∙ top) k.leads in
        let links : links_of tree 0 ≡ links_in k.o.object.content
        = subst (λ (n : ℕ). links_of tree n ≡ links_in k.o.object.content) number
        (ap (option_and_then (λ (ob : Object). links_in ob.content)) (in_tree image table tree placed reads k.o k.member)) in
        elim (content_cases image table ms k.o.object.content k.has.content_blocks k.has.content) [
          | inl g ↦ absurd (omega (arith, none, (g.3).once))
          | inr d ↦
              let no_links : links_of tree 0 ≡ None = links ∙ ap links_in d.1 in
              let never : false ≡ true = sym (ap is_some no_links) ∙ reads.root_group in
              absurd (cc)
        ]

  pub header_excluded : (depth header : ℕ) → KnownAt image table tree placed depth header → (cause : Cause) → HeaderBreach image header cause → ⊥
  header_excluded depth header k cause h = breach depth k.0 cause (subst (λ (a : ℕ). HeaderBreach image a cause) (sym k.1) h)

  -- the root's header has its Symbol Table message
  pub no_root_excluded : (depth header : ℕ) → KnownAt image table tree placed depth header → depth ≡ 0
      → (messages : List Message) → AllMessages image header messages → count_of symbol_table_kind messages ≡ 0 → ⊥
  no_root_excluded depth header k top messages all none =
      let here : AllMessages image k.0.o.header messages = subst (λ (a : ℕ). AllMessages image a messages) (sym k.1) all in
      let same = all_messages image k.0.o.header messages k.0.has.messages k.0.has.header_blocks here k.0.has.listed in
      root_table depth k.0 top (subst (λ (x : List Message). count_of symbol_table_kind x ≡ 0) same none)
