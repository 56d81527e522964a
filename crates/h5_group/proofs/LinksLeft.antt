-- The links of a group that are left, entry by entry and symbol node by symbol node.
use Rattle.std.proofs.Common.{◌≡◌, ℕ, ◌+◌, ◌<◌, ◌≤◌, List, [], ◌∷◌, ◌++◌, map, length, drop, slice_get, Option, Some, None, option_map, refl, ap, ◌∙◌, arith}
use Rattle.std.specs.Prelude.{unwrap_or}
use Rattle.std.proofs.lemmas.List.{drop_more, length-append, length-map}
use Rattle.std.proofs.lemmas.Option.{get_or_from_slice_get}
use Rattle.std.specs.List.{AllByRecursion, flat_map}
use Rattle.h5_bytes.specs.Blocks.{Separate, Inside}
use Rattle.h5_bytes.specs.declared.Block.{Block}
use Rattle.h5_bytes.proofs.BlockLaws.{cover-append}
use Rattle.h5_model.specs.Format.Addresses.{SymbolTable}
use Rattle.h5_model.specs.Format.Superblock.{leaf_k}
use Rattle.h5_model.specs.Format.Heap.{segment_of, span_of}
use Rattle.h5_model.specs.Format.Symbols.{Entry, Target, link_of, symbols_of, texts_of}
use Rattle.h5_space.proofs.Unheld.{unheld, unheld-le, unheld-claim}
use Rattle.h5_laws.proofs.Lists.{all_in, contains_in}
use Rattle.h5_group.specs.Links.{IsGroupRead}
use Rattle.h5_group.specs.LinksLeft.{AreSymbolsThere}
use Rattle.h5_group.specs.Nodes.Stands.{IsSymbolsAt}
use Rattle.h5_group.specs.Told.{links_told, symbol_nodes_told}
use Rattle.h5_group.proofs.Standing.{heap_there, node_formed, node_there}

-- the entry whose link was read
read_entry : (f : Entry → List ℕ × Target) (o : Option Entry) (x : List ℕ × Target) → option_map f o ≡ Some x → (e : Entry) × (o ≡ Some e) × (f e ≡ x)
read_entry f None x read = let none : None ≡ Some x = read in cc
read_entry f (Some e) x read = (e, refl, ap (λ o. unwrap_or o x) read)

-- the link that was read is the first of those from its place on
pub first_link : (f : Entry → List ℕ × Target) (es : List Entry) (i : ℕ) (x : List ℕ × Target) → i < length es → option_map f (slice_get es i) ≡ Some x
    → map f (drop i es) ≡ x ∷ map f (drop (i + 1) es)
first_link f es i x low read =
    let e = read_entry f (slice_get es i) x read in
    ap (map f) (drop_more es i e.0 low ∙ ap (λ (y : Entry). y ∷ drop (i + 1) es) (get_or_from_slice_get es i e.0 e.0 e.1))
    ∙ ap (λ (l : List ℕ × Target). l ∷ map f (drop (i + 1) es)) e.2

-- ---- a group that was read

-- separate blocks that have bytes are no more than the bytes in which they lie
no_more_blocks : (bs : List Block) (n : ℕ) → Separate bs → Inside n bs → AllByRecursion (λ (b : Block). 1 ≤ b.len) bs → length bs + unheld bs n ≤ n
no_more_blocks [] n separate inside each = omega (arith, unheld-le [] n)
no_more_blocks (b ∷ bs) n separate inside each =
    let more : unheld (b ∷ bs) n + b.len ≡ unheld bs n = unheld-claim bs (b ∷ bs) b.at b.len n (λ p. omega arith) separate inside.0 in
    let rest : length bs + unheld bs n ≤ n = no_more_blocks bs n (λ p. omega (arith, separate p)) inside.1 each.1 in
    omega (arith, more, rest, each.0)

-- the span of a text has bytes
spans_long : (segment offsets : List ℕ) → AllByRecursion (λ (b : Block). 1 ≤ b.len) (map (span_of segment) offsets)
spans_long segment [] = tt
spans_long segment (offset ∷ offsets) = (grind arith, spans_long segment offsets)

module _ (image : List ℕ) (table : SymbolTable) (read : IsGroupRead image table) where
  -- each link has a name of its own in the segment
  pub links_few : length (links_told image table) ≤ length (segment_of image table.heap)
  links_few =
      let segment : List ℕ = segment_of image table.heap in
      let listed = (read.linked).listed in
      let spans = listed.spans in
      let entries : List Entry = flat_map (symbols_of image (leaf_k image) (read.linked).symbol_nodes) (read.linked).symbol_nodes in
      let names : List ℕ = map (λ (e : Entry). e.name) entries in
      let linked : List ℕ = (names ++ texts_of entries) ++ listed.loose in
      let separate : Separate (map (span_of segment) linked) = λ p. omega (arith, spans.apart p, cover-append p (map (span_of segment) linked) listed.free) in
      let few = no_more_blocks (map (span_of segment) linked) (length segment) separate spans.within (spans_long segment linked) in
      let all = ap length listed.all ∙ length-map entries (link_of segment) in
      omega (arith, few, all, length-map linked (span_of segment), length-append (names ++ texts_of entries) listed.loose, length-append names (texts_of entries), length-map entries (λ (e : Entry). e.name))

  -- each of its symbol nodes stands in the image
  pub symbols_there : AreSymbolsThere image (symbol_nodes_told image table)
  symbols_there = all_in (λ (at : ℕ). (26 ≤ length image) × IsSymbolsAt image at) (symbol_nodes_told image table) (λ at there.
      let is = contains_in at (symbol_nodes_told image table) there in
      (omega (arith, (heap_there image table read).0), record { formed = node_formed image table read at is; inside = node_there image table read at is }))
