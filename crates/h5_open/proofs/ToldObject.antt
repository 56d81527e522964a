-- An object that is kept stands in the image as what is kept of it tells, where its hard links name headers of the table.
use Rattle.std.proofs.Common.{inl, inr, ℕ, List, [], ◌∷◌, refl, sym, subst, map}
use Rattle.std.specs.Ordering.{nat_cmp}
use Rattle.std.specs.FinMap.{FinMap}
use Rattle.std.specs.List.{AllZip, Contains}
use Rattle.h5_model.specs.Format.Messages.{Message}
use Rattle.h5_model.specs.Format.Reads.{HasContent, HasObject, IsSame}
use Rattle.h5_model.specs.Format.Symbols.{Target, Header, Text}
use Rattle.h5_model.specs.Tree.Objects.{Link}
use Rattle.h5_model.proofs.DescribedLaws.{has_dataset}
use Rattle.h5_header.specs.Listed.{messages_in}
use Rattle.h5_group.specs.Told.{links_told}
use Rattle.h5_layout.specs.Data.{data_blocks, stored_chunks}
use Rattle.h5_layout.specs.Told.{array_told, layout_told, type_told}
use Rattle.h5_layout.proofs.KnownLaws.{known_in}
use Rattle.h5_laws.proofs.Lists.{In, contains_in}
use Rattle.h5_open.specs.declared.opened.object.OpenedObject.{OpenedObject}
use Rattle.h5_open.specs.declared.opened.object.OpenedContent.{OpenedContent}
use Rattle.h5_open.specs.declared.opened.object.OpenedContent.TheVariants as content
use Rattle.h5_open.specs.Opened.Kept.{IsObjectKept, IsContentKept}
use Rattle.h5_open.specs.Opened.Objects.{content_blocks, content_in, content_links, link_to, object_blocks, object_in}
use Rattle.h5_open.specs.Opened.Sound.{IsHeaderIn}
use Rattle.h5_open.proofs.DataLaws.{data_there}
use Rattle.h5_open.proofs.OpenedLaws.Entries.{group_entries}
use Rattle.h5_open.proofs.OpenedLaws.HeaderNumbers.{number_has}
use Rattle.h5_open.proofs.PlacedLaws.GroupMessages.{group_known}

module _ (image : List ℕ) (table : FinMap nat_cmp ℕ) where
  -- links by the numbers of their headers
  same_links : (found : List (List ℕ × Target)) → ((name : List ℕ) (h : ℕ) → In (name, Header h) found → IsHeaderIn table h)
      → AllZip (IsSame table) (map (λ (l : List ℕ × Target). (l.0, link_to table l.1)) found) found
  same_links [] led = tt
  same_links ((name, Header h) ∷ found) led =
      let here = led name h (inl refl) in
      ((refl, number_has table here.0 h here.1), same_links found (λ n g at. led n g (inr at)))
  same_links ((name, Text text) ∷ found) led = ((refl, refl), same_links found (λ n g at. led n g (inr at)))

  module _ (o : OpenedObject) (kept : IsObjectKept image o) (led : (name : List ℕ) (h : ℕ) → Contains (content_links image o.content) (name, Header h) → IsHeaderIn table h) where
    abbrev ms : List Message
    ms = messages_in image o.messages.list

    told_content : (c : OpenedContent) → IsContentKept image ms c → ((name : List ℕ) (h : ℕ) → In (name, Header h) (content_links image c) → IsHeaderIn table h)
        → HasContent image table ms (content_in image table ms c) (content_blocks image ms c)
    told_content (content.Group t) (kinds, chosen, read) lead = (
      links_told image t,
      record {
        known = group_known image o.messages.list kept.known kinds.alone;
        once = kinds.table;
        symbol_table = t;
        chosen = chosen;
        linked = read.linked;
      },
      subst (λ (es : List (List ℕ × Link)). AllZip (IsSame table) es (links_told image t)) (sym (group_entries image table t read)) (same_links (links_told image t) lead),
    )
    told_content content.Array (array, read) lead =
        has_dataset image ms (array_told ms) (stored_chunks image (type_told ms) (layout_told ms)) (data_blocks image (type_told ms) (layout_told ms)) array.array
        (known_in image o.messages.list kept.known (array.kinds).no_table) (data_there image (type_told ms) (layout_told ms) read)

    pub told_object : HasObject image table o.messages.header (object_in image table o) (object_blocks image o)
    told_object = record {
      messages = ms;
      header_blocks = o.messages.blocks;
      listed = (kept.header).has;
      content_blocks = content_blocks image ms o.content;
      content = told_content o.content kept.content (λ name h at. led name h (contains_in (name, Header h) (content_links image o.content) at));
      attributes = (kept.header).attributes;
      kept = refl;
      laid = refl;
    }
