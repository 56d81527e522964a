-- The links of the tree at the number of an object are those of its group.
use Rattle.std.proofs.Common.{◌≡◌, ℕ, List, refl, sym, ap, ◌∙◌, subst, Option, Some, None, IsSome}
use Rattle.std.specs.Prelude.{slice_get, option_map, option_and_then}
use Rattle.std.specs.Ordering.{nat_cmp}
use Rattle.std.specs.FinMap.{FinMap, get}
use Rattle.std.proofs.lemmas.Option.{slice_get-map}
use Rattle.h5_model.specs.Format.Symbols.{Target}
use Rattle.h5_model.specs.Format.Messages.{Message}
use Rattle.h5_model.specs.Tree.Objects.{Object, Link, link_in, links_in}
use Rattle.h5_header.specs.Listed.{messages_in}
use Rattle.h5_group.specs.Told.{links_told}
use Rattle.h5_open.specs.declared.opened.object.OpenedObject.{OpenedObject}
use Rattle.h5_open.specs.declared.opened.object.OpenedContent.{OpenedContent}
use Rattle.h5_open.specs.declared.opened.object.OpenedContent.TheVariants as content
use Rattle.h5_open.specs.Opened.Kept.{IsContentKept}
use Rattle.h5_open.specs.Opened.Objects.{content_links, link_to, content_in, object_in, table_of, tree_of, slots_of}
use Rattle.h5_laws.proofs.Lists.{In}
use Rattle.h5_open.proofs.OpenedLaws.Entries.{get_tree_dense, get_link, link_got, names_ascend}

module _ (image : List ℕ) (objects : List OpenedObject) where
  abbrev table : FinMap nat_cmp ℕ
  table = table_of (slots_of objects)

  pub object_got : (n : ℕ) (o : OpenedObject) → slice_get objects n ≡ Some o → get (tree_of image (slots_of objects)) n ≡ Some (object_in image table o)
  object_got n o is = get_tree_dense objects image n ∙ slice_get-map (object_in image table) objects n ∙ ap (option_map (object_in image table)) is

  -- the tree has no other numbers
  pub number_within : (n : ℕ) → IsSome (get (tree_of image (slots_of objects)) n) → (o : OpenedObject) × (slice_get objects n ≡ Some o)
  number_within n some = go (slice_get objects n) refl (subst (λ (x : Option Object). IsSome x) (get_tree_dense objects image n ∙ slice_get-map (object_in image table) objects n) some) where
    go : (x : Option OpenedObject) → slice_get objects n ≡ x → IsSome (option_map (object_in image table) x) → (o : OpenedObject) × (slice_get objects n ≡ Some o)
    go None is there = absurd (cc)
    go (Some o) is there = (o, is)

  module _ (ms : List Message) (name : List ℕ) where
    in_content : (c : OpenedContent) (t : Target) → IsContentKept image ms c → In (name, t) (content_links image c)
        → option_and_then (λ links. get links name) (links_in (content_in image table ms c)) ≡ Some (link_to table t)
    in_content (content.Group group) t (kinds, chosen, read) there = get_link table (links_told image group) (names_ascend image group read) name t there
    in_content content.Array t kept there = absurd there

    from_content : (c : OpenedContent) (link : Link) → IsContentKept image ms c → option_and_then (λ links. get links name) (links_in (content_in image table ms c)) ≡ Some link
        → (l : List ℕ × Target) × In l (content_links image c) × (link_to table l.1 ≡ link)
    from_content (content.Group group) link (kinds, chosen, read) is = link_got table (links_told image group) (names_ascend image group read) name link is
    from_content content.Array link kept is = absurd (cc)

  links_at : (n : ℕ) (o : OpenedObject) (name : List ℕ) → slice_get objects n ≡ Some o
      → link_in (tree_of image (slots_of objects)) n name ≡ option_and_then (λ links. get links name) (links_in (content_in image table (messages_in image o.messages.list) o.content))
  links_at n o name is = ap (λ (x : Option Object). option_and_then (λ links. get links name) (option_and_then (λ (y : Object). links_in y.content) x)) (object_got n o is)

  pub link_there : (n : ℕ) (o : OpenedObject) → slice_get objects n ≡ Some o → IsContentKept image (messages_in image o.messages.list) o.content → (name : List ℕ) (t : Target)
      → In (name, t) (content_links image o.content) → link_in (tree_of image (slots_of objects)) n name ≡ Some (link_to table t)
  link_there n o is kept name t there = links_at n o name is ∙ in_content (messages_in image o.messages.list) name o.content t kept there

  pub link_leads : (n : ℕ) (o : OpenedObject) → slice_get objects n ≡ Some o → IsContentKept image (messages_in image o.messages.list) o.content → (name : List ℕ) (link : Link)
      → link_in (tree_of image (slots_of objects)) n name ≡ Some link → (l : List ℕ × Target) × In l (content_links image o.content) × (link_to table l.1 ≡ link)
  link_leads n o is kept name link found = from_content (messages_in image o.messages.list) name o.content link kept (sym (links_at n o name is) ∙ found)
