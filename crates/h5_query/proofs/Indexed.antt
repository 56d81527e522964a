-- The objects of an opened image by their numbers.
use Rattle.std.proofs.Common.{◌≡◌, ℕ, refl, sym, ap, ◌∙◌, subst, Option, Some, None, Bor}
use Rattle.std.specs.Prelude.{option_and_then, IsSome, MatchOption}
use Rattle.std.specs.FinMap.{get}
use Rattle.h5_model.specs.Tree.Objects.{Object, Dataset, links_of, dataset_of, links_in, dataset_in as dataset_by}
use Rattle.h5_model.specs.Format.Addresses.{SymbolTable}
use Rattle.h5_header.specs.Listed.{header_told, messages_in}
use Rattle.h5_open.specs.GroupTold.{links_told}
use Rattle.h5_open.specs.Links.{IsGroupRead}
use Rattle.h5_open.specs.declared.opened.object.OpenedObject.{OpenedObject}
use Rattle.h5_open.specs.declared.opened.object.OpenedContent.{OpenedContent}
use Rattle.h5_open.specs.declared.opened.object.OpenedContent.TheVariants as content
use Rattle.h5_open.specs.Opened.Kept.{IsContentKept}
use Rattle.h5_open.specs.Opened.Objects.{links_by, content_in}
use Rattle.h5_open.specs.Opened.Sound.{IsSound, IsObjectOf}
use Rattle.h5_open.specs.Opened.State.{FileState}
use Rattle.h5_open.proofs.OpenedLaws.Indexed.{none_there}
use Rattle.h5_query.specs.Kept.{array_dataset, IsArrayKept}

module _ (f : FileState) (sound : IsSound f) where
  -- no object has the number
  pub no_group_there : (k : ℕ) → get f.table k ≡ None → links_of f.tree k ≡ None
  no_group_there k none = ap (option_and_then (λ (o : Object). links_in o.content)) (none_there f sound k none)

  pub no_array_there : (k : ℕ) → get f.table k ≡ None → dataset_of f.tree k ≡ None
  no_array_there k none = ap (option_and_then (λ (o : Object). dataset_by o.content)) (none_there f sound k none)

  pub root_there : IsSome (get f.table 0)
  root_there = rw sound.reads.holds.root refl

  -- of an array's number an object is found
  pub object_found : (k : ℕ) (d : Dataset) → dataset_of f.tree k ≡ Some d → (found : Option (Bor OpenedObject)) → MatchOption found (get f.table k ≡ None) (λ o. IsObjectOf f k o.now) → IsSome found
  object_found k d array None none = absurd (let never : None ≡ Some d = sym (no_array_there k none) ∙ array in cc)
  object_found k d array (Some o) there = refl

module _ (f : FileState) (k : ℕ) (o : OpenedObject) (of : IsObjectOf f k o) where
  -- a group has it
  module _ (g : SymbolTable) (is : o.content ≡ content.Group g) where
    pub group_links : links_of f.tree k ≡ Some (links_by f.table (links_told f.image g))
    group_links =
        ap (option_and_then (λ (x : Object). links_in x.content)) of.there
        ∙ ap (λ (c : OpenedContent). links_in (content_in f.image f.table (messages_in f.image o.messages.list) c)) is

    pub group_no_array : dataset_of f.tree k ≡ None
    group_no_array =
        ap (option_and_then (λ (x : Object). dataset_by x.content)) of.there
        ∙ ap (λ (c : OpenedContent). dataset_by (content_in f.image f.table (messages_in f.image o.messages.list) c)) is

    -- which was read where it stands
    pub group_read : IsGroupRead f.image g
    group_read = (subst (IsContentKept f.image (messages_in f.image o.messages.list)) is of.kept.content).2

  -- an array has it
  module _ (is : o.content ≡ content.Array) where
    pub array_no_group : links_of f.tree k ≡ None
    array_no_group =
        ap (option_and_then (λ (x : Object). links_in x.content)) of.there
        ∙ ap (λ (c : OpenedContent). links_in (content_in f.image f.table (messages_in f.image o.messages.list) c)) is

    pub array_there : dataset_of f.tree k ≡ Some (array_dataset f.image (messages_in f.image o.messages.list))
    array_there =
        ap (option_and_then (λ (x : Object). dataset_by x.content)) of.there
        ∙ ap (λ (c : OpenedContent). dataset_by (content_in f.image f.table (messages_in f.image o.messages.list) c)) is

    -- the messages describe it, and its data stand in the image
    pub array_kept : IsArrayKept (header_told f.image o.messages)
    array_kept =
        let array = subst (IsContentKept f.image (messages_in f.image o.messages.list)) is of.kept.content in
        record { list = array.0; stored = array.1 }
