-- Where a name leads from an object of an opened image.
use Rattle.std.proofs.Common.{◌≡◌, ℕ, List, ◌∷◌, sym, ap, ◌∙◌, subst, Some, Bor}
use Rattle.std.specs.List.{Contains}
use Rattle.std.specs.Option.{option_and_then}
use Rattle.std.specs.FinMap.{get}
use Rattle.h5_model.specs.Tree.Objects.{Link, Links, ToObject, Soft, link_in}
use Rattle.h5_model.specs.Tree.Paths.{NoGroup, locate, missing_before}
use Rattle.h5_laws.proofs.Lists.{In, in_contains}
use Rattle.h5_open.specs.GroupTold.{links_told}
use Rattle.h5_open.specs.Links.{IsGroupRead, IsLinkNamed, HasNone, lent_target, lent_link}
use Rattle.h5_model.specs.Format.Addresses.{SymbolTable}
use Rattle.h5_model.specs.declared.link.Link.{Link as LinkOf}
use Rattle.h5_model.specs.declared.link.LinkTo.{LinkTo}
use Rattle.h5_model.specs.declared.link.LinkTo.TheVariants as target
use Rattle.h5_open.specs.declared.opened.object.OpenedObject.{OpenedObject}
use Rattle.h5_open.specs.declared.opened.object.OpenedContent.TheVariants as content
use Rattle.h5_open.specs.Opened.Objects.{link_to, links_by}
use Rattle.h5_open.specs.Opened.Sound.{IsSound, IsObjectOf, IsHeaderIn}
use Rattle.h5_open.specs.Opened.State.{FileState}
use Rattle.h5_open.proofs.OpenedLaws.Indexed.{number_at_header}
use Rattle.h5_open.proofs.OpenedLaws.LinkedHeaders.{linked_header}
use Rattle.h5_query.specs.declared.place.Place.{Place}
use Rattle.h5_query.specs.declared.place.Place.TheVariants as place
use Rattle.h5_query.specs.Place.{IsOfNumber, link_at}
use Rattle.h5_query.proofs.Indexed.{group_links, array_no_group, group_read}
use Rattle.h5_query.proofs.GroupLaws.{link_named, none_named}
use Rattle.h5_query.proofs.PathLaws.{locate-no_group, locate-missing}

module _ (f : FileState) where
  -- a header that a link names is an object's
  pub header_there : IsSound f → (k : ℕ) (o : OpenedObject) → IsObjectOf f k o → (g : SymbolTable) → o.content ≡ content.Group g → (l : LinkOf ℕ) (header : ℕ)
      → Contains (links_told f.image g) (lent_link l) → l.to ≡ target.Object header → IsHeaderIn f.table header
  header_there sound k o of g is l header listed names =
      linked_header f sound k o of g is l.name.now header
      (subst (λ (t : LinkTo ℕ). In (l.name.now, lent_target t) (links_told f.image g)) names (in_contains (lent_link l) (links_told f.image g) listed))

  module _ (from : Place) (number : ℕ) (object : Bor OpenedObject) (is : from ≡ place.Object number object) (kept : IsOfNumber f from) where
    pub of : IsObjectOf f number object.now
    of = subst (IsOfNumber f) is kept

    pub begins_at : link_at from ≡ ToObject number
    begins_at = ap link_at is

    pub begins : (names : List (List ℕ)) → locate f.tree (link_at from) names ≡ locate f.tree (ToObject number) names
    begins names = ap (λ (l : Link). locate f.tree l names) begins_at

    pub no_group : object.now.content ≡ content.Array → (name : List ℕ) (names : List (List ℕ)) → locate f.tree (link_at from) (name ∷ names) ≡ NoGroup
    no_group array name names = begins (name ∷ names) ∙ locate-no_group f.tree number name names (array_no_group f number object.now of array)

    module _ (g : SymbolTable) (grouped : object.now.content ≡ content.Group g) where
      pub read : IsGroupRead f.image g
      read = group_read f number object.now of g grouped

      abbrev links : Links
      links = links_by f.table (links_told f.image g)

      pub no_name : (name : List ℕ) → HasNone f.image g name → (names : List (List ℕ)) → locate f.tree (link_at from) (name ∷ names) ≡ missing_before names
      no_name name none names =
          begins (name ∷ names)
          ∙ locate-missing f.tree number name names links (group_links f number object.now of g grouped) (none_named f.image f.table g read name none)

      module _ (name : List ℕ) (l : LinkOf ℕ) (named : IsLinkNamed f.image g name l) where
        -- the link of the name
        in_group : (link : Link) → link_to f.table (lent_target l.to) ≡ link → link_in f.tree number name ≡ Some link
        in_group link leads =
            ap (option_and_then (λ (ls : Links). get ls name)) (group_links f number object.now of g grouped)
            ∙ link_named f.image f.table g read name l named ∙ ap Some leads

        pub to_text : (text : Bor (List ℕ)) → l.to ≡ target.Soft text → link_in f.tree number name ≡ Some (Soft text.now)
        to_text text is_text = in_group (Soft text.now) (ap (λ (t : LinkTo ℕ). link_to f.table (lent_target t)) is_text)

        module _ (header : ℕ) (names_header : l.to ≡ target.Object header) where
          pub header_known : IsSound f → IsHeaderIn f.table header
          header_known sound = header_there sound number object.now of g grouped l header named.0 names_header

          pub to_object : IsSound f → (n : ℕ) → get f.table n ≡ Some header → (next : Place) → link_at next ≡ ToObject n → link_in f.tree number name ≡ Some (link_at next)
          to_object sound n there next linked =
              in_group (link_at next)
              (ap (λ (t : LinkTo ℕ). link_to f.table (lent_target t)) names_header
              ∙ ap ToObject (number_at_header f sound n header there) ∙ sym linked)
