-- The links of a group as they are listed, and those of the tree.
use Rattle.std.proofs.Common.{◌≡◌, ℕ, List, [], ◌∷◌, ◌++◌, map, append_assoc, sym, ap, ◌∙◌}
use Rattle.std.proofs.lemmas.List.{map-append}
use Rattle.std.specs.List.{AllByRecursion}
use Rattle.h5_model.specs.Format.Symbols.{Target, Header, Text}
use Rattle.h5_laws.proofs.Lists.{In, all_in}
use Rattle.h5_open.specs.GroupTold.{links_told}
use Rattle.h5_model.specs.Format.Addresses.{SymbolTable}
use Rattle.h5_model.specs.declared.link.Link.{Link}
use Rattle.h5_model.specs.declared.object_no.ObjectNo.{ObjectNo}
use Rattle.h5_open.specs.declared.opened.object.OpenedObject.{OpenedObject}
use Rattle.h5_open.specs.declared.opened.object.OpenedContent.TheVariants as content
use Rattle.h5_open.specs.Opened.Objects.{links_by}
use Rattle.h5_open.specs.Opened.Sound.{IsSound, IsObjectOf}
use Rattle.h5_open.specs.Opened.State.{FileState}
use Rattle.h5_open.proofs.OpenedLaws.Entries.{group_entries}
use Rattle.h5_open.proofs.OpenedLaws.LinkedHeaders.{linked_header}
use Rattle.h5_model.specs.Tree.Links.{tree_link}
use Rattle.h5_query.specs.Listed.{AreGroupLinks, IsLinkLed, in_tree}
use Rattle.h5_query.proofs.Indexed.{group_links, group_read}

-- an item is taken from the front of what is left, and put behind those that were made before
pub one_moved : {X Y Z : Type 0} (f : X → Z) (g : Y → Z) (made : List X) (x : X) (y : Y) (left : List Y) (all : List Z) → f x ≡ g y
    → map f made ++ map g (y ∷ left) ≡ all → map f (made ++ x ∷ []) ++ map g left ≡ all
one_moved {Z = Z} f g made x y left all same is =
    ap (λ (zs : List Z). zs ++ map g left) (map-append f made (x ∷ [])) ∙ append_assoc (map f made) (f x ∷ []) (map g left)
    ∙ ap (λ (z : Z). map f made ++ z ∷ map g left) same ∙ is

module _ (f : FileState) (sound : IsSound f) (k : ℕ) (o : OpenedObject) (of : IsObjectOf f k o) (g : SymbolTable) (is : o.content ≡ content.Group g) where
  led_by : (l : List ℕ × Target) → In l (links_told f.image g) → IsLinkLed f.table l
  led_by (name, Header header) listed = linked_header f sound k o of g is name header listed
  led_by (name, Text text) listed = tt

  -- each link leads to an object's header
  pub found_led : AllByRecursion (IsLinkLed f.table) (links_told f.image g)
  found_led = all_in (IsLinkLed f.table) (links_told f.image g) led_by

  pub are_links : (links : List (Link ObjectNo)) → map tree_link links ≡ map (in_tree f.table) (links_told f.image g) → AreGroupLinks f.tree k links
  are_links links same = (
    links_by f.table (links_told f.image g),
    group_links f k o of g is,
    same ∙ sym (group_entries f.image f.table g (group_read f k o of g is)),
  )
