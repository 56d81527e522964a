-- Links of a group as they are to be written (File Format Specification 3.0, section III.C).
use Rattle.std.specs.Prelude.{ℕ, List, [], ◌∷◌}
use Rattle.h5_model.specs.Format.Symbols.{Target, Header, Text}
use Rattle.h5_heap.specs.declared.write.link.ObjectPlace.{ObjectPlace}
use Rattle.h5_model.specs.declared.link.Link.{Link}
use Rattle.h5_heap.specs.declared.write.link.ObjectPlace.{ObjectPlace}
use Rattle.h5_heap.specs.declared.write.link.ObjectPlace.TheVariants as place
use Rattle.h5_model.specs.declared.link.LinkTo.{LinkTo}
use Rattle.h5_model.specs.declared.link.LinkTo.TheVariants as to

-- where a link leads: to a group, by the addresses of its header, its tree and its heap; to an array's header; or to a text
pub data Leads : Type 0 where
  ToGroup : ℕ → ℕ → ℕ → Leads
  ToArray : ℕ → Leads
  ToText : List ℕ → Leads

abbrev pub object_leads : ObjectPlace → Leads
object_leads (place.Group header tree heap) = ToGroup header tree heap
object_leads (place.Array header) = ToArray header

abbrev pub leads_of : LinkTo ObjectPlace → Leads
leads_of (to.Object place) = object_leads place
leads_of (to.Soft text) = ToText text.now

abbrev pub name_and_leads : Link ObjectPlace → List ℕ × Leads
name_and_leads l = (l.name.now, leads_of l.to)

-- what a reader is told of it
abbrev pub target_of_leads : Leads → Target
target_of_leads (ToGroup header tree heap) = Header header
target_of_leads (ToArray header) = Header header
target_of_leads (ToText text) = Text text

abbrev pub target_link : List ℕ × Leads → List ℕ × Target
target_link l = (l.0, target_of_leads l.1)

-- the texts that stand in the heap: each name, and behind it the text of a soft link
abbrev pub heap_texts : List (List ℕ × Leads) → List (List ℕ)
heap_texts [] = []
heap_texts ((name, ToText text) ∷ links) = name ∷ text ∷ heap_texts links
heap_texts ((name, ToGroup header tree heap) ∷ links) = name ∷ heap_texts links
heap_texts ((name, ToArray header) ∷ links) = name ∷ heap_texts links
