-- Where the names of links stand in the heap's segment, in the plain layout: the first behind the empty name, and each behind the texts
-- of the link before it; and the entries that name them (File Format Specification 3.0, sections III.C and III.D).
use Rattle.std.specs.Prelude.{ℕ, ◌+◌, List, [], ◌∷◌, ◌++◌, map, length}
use Rattle.h5_bytes.specs.Bytes.{undefined_address}
use Rattle.h5_model.specs.Format.Plain.{heap_header_bytes, segment_bytes, free_head_of}
use Rattle.h5_model.specs.Format.Sizes.{text_span}
use Rattle.h5_model.specs.Format.Symbols.{Entry}
use Rattle.h5_heap.specs.Writing.Links.{Leads, ToGroup, ToArray, ToText, heap_texts}

-- what a link's texts occupy
abbrev pub texts_span : List ℕ × Leads → ℕ
texts_span (name, ToText text) = text_span name + text_span text
texts_span (name, ToGroup header tree heap) = text_span name
texts_span (name, ToArray header) = text_span name

-- each link with the offset of its name, from this one on
abbrev pub links_with_offsets : ℕ → List (List ℕ × Leads) → List (ℕ × (List ℕ × Leads))
links_with_offsets at [] = []
links_with_offsets at (l ∷ links) = (at, l) ∷ links_with_offsets (at + texts_span l) links

-- the entry of a link: its cache type is 1 for a group, 0 for an array and 2 for a soft link, whose text stands behind its name
abbrev pub written_entry : ℕ × (List ℕ × Leads) → Entry
written_entry (at, (name, ToGroup header tree heap)) = record { name = at; header = header; cache = 1; text = tree }
written_entry (at, (name, ToArray header)) = record { name = at; header = header; cache = 0; text = 0 }
written_entry (at, (name, ToText text)) = record { name = at; header = undefined_address; cache = 2; text = at + text_span name }

-- the links of a group with the offsets of their names, and their entries
abbrev pub placed_links : List (List ℕ × Leads) → List (ℕ × (List ℕ × Leads))
placed_links links = links_with_offsets 8 links

abbrev pub written_entries : List (List ℕ × Leads) → List Entry
written_entries links = map written_entry (placed_links links)

-- the segment, and the heap with its segment behind its header, at this place
abbrev pub written_segment : List (List ℕ × Leads) → List ℕ
written_segment links = segment_bytes (heap_texts links)

unfoldable pub heap_bytes : ℕ → List (List ℕ × Leads) → List ℕ
heap_bytes at links = heap_header_bytes (length (written_segment links)) (free_head_of (heap_texts links)) (at + 32) ++ written_segment links
