-- Symbol nodes one after another, as the code goes over the links.
use Rattle.std.proofs.Common.{◌≡◌, ℕ, suc, ◌+◌, ◌-◌, ◌*◌, ◌<◌, ◌≤◌, List, [], ◌∷◌, ◌++◌, length, take, drop, get_or, map, refl, sym, ap, ◌∙◌, arith}
use Rattle.std.specs.Prelude.{min}
use Rattle.std.specs.List.{flat_map, sum_by}
use Rattle.std.proofs.lemmas.List.{append_assoc, map-append, length-map, length-take, length-drop, take-append-drop, drop-drop, drop_more}
use Rattle.std.proofs.lemmas.List.Sums.{sum_by-cons}
use Rattle.h5_model.specs.Format.PlainLength.{rows_of}
use Rattle.h5_model.specs.Format.Sizes.{symbol_node}
use Rattle.h5_btree.specs.declared.write.child.Child.{Child}
use Rattle.h5_heap.specs.Writing.Links.{Leads, name_and_leads}
use Rattle.h5_heap.specs.declared.write.link.ObjectPlace.{ObjectPlace}
use Rattle.h5_model.specs.declared.link.Link.{Link}
use Rattle.h5_heap.specs.Writing.Written.{links_with_offsets, placed_links, texts_span}
use Rattle.h5_group.specs.Writing.Written.{runs_of, entry_bytes, written_symbol_node, symbol_nodes, last_name_offset, children_of}
use Rattle.h5_group.proofs.WriteLaws.SymbolNodes.{Placed}
use Rattle.h5_group.proofs.WriteLaws.Runs.{length-runs, runs_step}
use Rattle.h5_group.proofs.WriteLaws.SymbolPlaces.{one_more}

-- ---- links with their offsets

pub length-placed : (at : ℕ) (links : List (List ℕ × Leads)) → length (links_with_offsets at links) ≡ length links
length-placed at [] = refl
length-placed at (l ∷ links) = ap suc (length-placed (at + texts_span l) links)

abbrev spans : List (List ℕ × Leads) → ℕ
spans links = sum_by texts_span links

placed-append : (at : ℕ) (run more : List (List ℕ × Leads)) → links_with_offsets at (run ++ more) ≡ links_with_offsets at run ++ links_with_offsets (at + spans run) more
placed-append at [] more = let none : at ≡ at + 0 = omega arith in ap (λ n. links_with_offsets n more) none
placed-append at (l ∷ run) more =
    let along : at + texts_span l + spans run ≡ at + spans (l ∷ run) = omega (arith, sum_by-cons texts_span l run) in
    ap (λ ls. (at, l) ∷ ls) (placed-append (at + texts_span l) run more ∙ ap (λ n. links_with_offsets (at + texts_span l) run ++ links_with_offsets n more) along)

spans-append : (run more : List (List ℕ × Leads)) → spans (run ++ more) ≡ spans run + spans more
spans-append [] more = omega arith
spans-append (l ∷ run) more =
    omega (arith, sum_by-cons texts_span l (run ++ more), sum_by-cons texts_span l run, spans-append run more)

along : (node n size : ℕ) → node + suc n * size ≡ node + size + n * size
along node n size = omega (arith, one_more n size)

-- the run from one link on, of as many as a node has room for, and the links behind it
module _ (leaf at from end : ℕ) (links : List (Link ObjectPlace)) (low : 1 ≤ leaf) (some : from < length links)
    (end_is : end ≡ from + min (2 * leaf) (length links - from)) where
  abbrev run : List (Link ObjectPlace)
  run = take (end - from) (drop from links)

  apart : drop from links ≡ run ++ drop end links
  apart =
      let along : from + (end - from) ≡ end = omega arith in
      sym (take-append-drop (end - from) (drop from links))
      ∙ ap (λ ls. run ++ ls) (drop-drop (end - from) from links ∙ ap (λ n. drop n links) along)

  pub run_there : runs_of leaf (links_with_offsets at (map name_and_leads (drop from links)))
      ≡ links_with_offsets at (map name_and_leads run) ∷ runs_of leaf (links_with_offsets (at + spans (map name_and_leads run)) (map name_and_leads (drop end links)))
  run_there =
      let long : length run ≡ end - from = omega (arith, length-take (end - from) (drop from links), length-drop from links) in
      let behind : length (drop end links) ≡ length links - end = length-drop end links in
      let here : length (links_with_offsets at (map name_and_leads run)) ≡ length run = length-placed at (map name_and_leads run) ∙ length-map run name_and_leads in
      let there : length (links_with_offsets (at + spans (map name_and_leads run)) (map name_and_leads (drop end links))) ≡ length (drop end links)
      = length-placed (at + spans (map name_and_leads run)) (map name_and_leads (drop end links)) ∙ length-map (drop end links) name_and_leads in
      ap (λ ls. runs_of leaf (links_with_offsets at (map name_and_leads ls))) apart
      ∙ ap (λ ls. runs_of leaf (links_with_offsets at ls)) (map-append name_and_leads run (drop end links))
      ∙ ap (λ ls. runs_of leaf ls) (placed-append at (map name_and_leads run) (map name_and_leads (drop end links)))
      ∙ runs_step leaf low (links_with_offsets at (map name_and_leads run)) (links_with_offsets (at + spans (map name_and_leads run)) (map name_and_leads (drop end links))) (omega arith) (omega arith)

  pub spans_there : spans (map name_and_leads (drop from links)) ≡ spans (map name_and_leads run) + spans (map name_and_leads (drop end links))
  spans_there = ap (λ ls. spans (map name_and_leads ls)) apart ∙ ap spans (map-append name_and_leads run (drop end links)) ∙ spans-append (map name_and_leads run) (map name_and_leads (drop end links))

  abbrev behind : List (List ℕ × Leads)
  behind = map name_and_leads (drop end links)

  abbrev to_come : List (List Placed)
  to_come = runs_of leaf (links_with_offsets at (map name_and_leads (drop from links)))

  pub spans_more : (name total : ℕ) → name ≡ at + spans (map name_and_leads run) → at + spans (map name_and_leads (drop from links)) ≡ total
      → name + spans behind ≡ total
  spans_more name total next whole = omega (arith, spans_there)

  -- one more symbol node is appended
  pub nodes_more : (name : ℕ) (out new all : List ℕ) → name ≡ at + spans (map name_and_leads run)
      → new ≡ out ++ written_symbol_node leaf (links_with_offsets at (map name_and_leads run)) → out ++ flat_map (written_symbol_node leaf) to_come ≡ all
      → new ++ flat_map (written_symbol_node leaf) (runs_of leaf (links_with_offsets name behind)) ≡ all
  nodes_more name out new all next appended whole =
      (λ i. appended i ++ flat_map (written_symbol_node leaf) (runs_of leaf (links_with_offsets (next i) behind)))
      ∙ append_assoc out (written_symbol_node leaf (links_with_offsets at (map name_and_leads run))) (flat_map (written_symbol_node leaf) (runs_of leaf (links_with_offsets (at + spans (map name_and_leads run)) behind)))
      ∙ ap (λ rs. out ++ flat_map (written_symbol_node leaf) rs) (sym run_there) ∙ whole

  -- one more child is pushed
  pub children_more : (name node beyond last : ℕ) (children new all : List (Child ℕ)) → name ≡ at + spans (map name_and_leads run)
      → beyond ≡ node + symbol_node leaf → last ≡ last_name_offset 0 (links_with_offsets at (map name_and_leads run))
      → new ≡ children ++ record { at = node; key = last } ∷ [] → children ++ children_of leaf node to_come ≡ all
      → new ++ children_of leaf beyond (runs_of leaf (links_with_offsets name behind)) ≡ all
  children_more name node beyond last children new all next end_of last_is pushed whole =
      (λ i. pushed i ++ children_of leaf (end_of i) (runs_of leaf (links_with_offsets (next i) behind)))
      ∙ append_assoc children (record { at = node; key = last } ∷ []) (children_of leaf (node + symbol_node leaf) (runs_of leaf (links_with_offsets (at + spans (map name_and_leads run)) behind)))
      ∙ (λ i. children ++ record { at = node; key = last_is i } ∷ children_of leaf (node + symbol_node leaf) (runs_of leaf (links_with_offsets (at + spans (map name_and_leads run)) behind)))
      ∙ ap (λ rs. children ++ children_of leaf node rs) (sym run_there) ∙ whole

  -- the nodes behind it end where they did
  pub room_more : (name node beyond : ℕ) → name ≡ at + spans (map name_and_leads run) → beyond ≡ node + symbol_node leaf
      → node + length to_come * symbol_node leaf ≡ beyond + length (runs_of leaf (links_with_offsets name behind)) * symbol_node leaf
  room_more name node beyond next end_of =
      ap (λ (rs : List (List Placed)). node + length rs * symbol_node leaf) run_there
      ∙ along node (length (runs_of leaf (links_with_offsets (at + spans (map name_and_leads run)) behind))) (symbol_node leaf)
      ∙ (λ i. sym end_of i + length (runs_of leaf (links_with_offsets (sym next i) behind)) * symbol_node leaf)

-- the nodes of all links end where they were to end
pub nodes_end : (leaf : ℕ) (links : List (List ℕ × Leads)) → 1 ≤ leaf → length (runs_of leaf (placed_links links)) ≡ symbol_nodes leaf links
nodes_end leaf links low = length-runs leaf low (placed_links links) ∙ ap (λ n. rows_of (2 * leaf) n) (length-placed 8 links)

-- ---- entries one behind another

module _ (links : List (Link ObjectPlace)) (i at next : ℕ) (d : Link ObjectPlace) (low : i < length links) (step : next ≡ at + texts_span (name_and_leads (get_or links i d))) where
  abbrev here : List ℕ × Leads
  here = name_and_leads (get_or links i d)

  abbrev later : List (List ℕ × Leads)
  later = map name_and_leads (drop (i + 1) links)

  split : map name_and_leads (drop i links) ≡ here ∷ later
  split = ap (map name_and_leads) (drop_more links i d low)

  -- one more entry is appended
  pub entries_more : (out new all : List ℕ) → new ≡ out ++ entry_bytes (at, here) → out ++ flat_map entry_bytes (links_with_offsets at (map name_and_leads (drop i links))) ≡ all
      → new ++ flat_map entry_bytes (links_with_offsets next later) ≡ all
  entries_more out new all appended whole =
      (λ k. appended k ++ flat_map entry_bytes (links_with_offsets (step k) later))
      ∙ append_assoc out (entry_bytes (at, here)) (flat_map entry_bytes (links_with_offsets (at + texts_span here) later))
      ∙ ap (λ ls. out ++ flat_map entry_bytes (links_with_offsets at ls)) (sym split) ∙ whole

  pub spans_less : (total : ℕ) → at + spans (map name_and_leads (drop i links)) ≡ total → next + spans later ≡ total
  spans_less total whole = omega (arith, step, whole, ap spans split, sum_by-cons texts_span here later)
