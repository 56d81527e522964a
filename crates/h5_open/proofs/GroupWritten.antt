-- A group of an opened image whose links were changed where it stands, with blocks taken beside: what is kept of it stands in the image,
-- and its object is as it was but for its links.
use Rattle.std.proofs.Common.{◌≡◌, ℕ, ◌+◌, ◌≤◌, List, [], ◌∷◌, ◌++◌, length, sym, ap, ◌∙◌, subst, arith, Option, Some}
use Rattle.std.specs.Prelude.{slice_get}
use Rattle.std.specs.Ordering.{nat_cmp}
use Rattle.std.specs.BTreeMap.{BTreeMap}
use Rattle.std.specs.FinMap.{FinMap}
use Rattle.std.specs.List.{Contains, flat_map}
use Rattle.h5_bytes.specs.Blocks.{block, cover, Inside, Keeps}
use Rattle.h5_bytes.specs.declared.Block.{Block}
use Rattle.h5_bytes.proofs.BlockLaws.{all_so, cover-append}
use Rattle.h5_model.specs.Edits.Applied.{with_links}
use Rattle.h5_model.specs.Format.Addresses.{SymbolTable}
use Rattle.h5_model.specs.Format.Messages.{Message, first_size, prefix_at, reference_count}
use Rattle.h5_model.specs.Format.Superblock.{leaf_k, internal_k, k_values, end_field}
use Rattle.h5_model.specs.Format.Symbols.{Target, Header}
use Rattle.h5_model.specs.Tree.Objects.{Group, Links}
use Rattle.h5_model.proofs.Frames.{front-same}
use Rattle.h5_model.proofs.KLaws.{k_values_stay, same_end_field, same_internal, same_leaf}
use Rattle.h5_space.specs.Moves.{Moves}
use Rattle.h5_space.specs.Space.{Space}
use Rattle.h5_space.specs.Whole.{IsApart}
use Rattle.h5_space.proofs.MovesLaws.{moves_apart, moves_beside, moves_kept, moves_same, moves_then}
use Rattle.h5_header.specs.Listed.{messages_in}
use Rattle.h5_header.proofs.KeptLaws.{header-same, listed-same}
use Rattle.h5_group.specs.Exact.{HasExactKeys}
use Rattle.h5_group.specs.Links.{IsGroupRead}
use Rattle.h5_group.specs.Told.{blocks_told, links_told}
use Rattle.h5_group.proofs.ExactTrees.{exact-same}
use Rattle.h5_group.proofs.ToldLaws.{blocks_told-same, links_told-same, told-same}
use Rattle.h5_open.specs.declared.opened.object.OpenedObject.{OpenedObject}
use Rattle.h5_open.specs.declared.opened.object.OpenedContent.{OpenedContent}
use Rattle.h5_open.specs.declared.opened.object.OpenedContent.TheVariants as content
use Rattle.h5_open.specs.Opened.Kept.{IsContentKept, IsObjectKept, IsOpened, IsContentTidy}
use Rattle.h5_open.specs.Opened.Objects.{content_blocks, content_in, content_links, header_of, links_by, object_blocks, object_in, objects_of}
use Rattle.h5_open.specs.Opened.Headers.{object_with}
use Rattle.h5_open.specs.Opened.Sound.{IsHeaderIn}
use Rattle.h5_open.proofs.OpenedLaws.Sounds.{object_of}
use Rattle.h5_open.proofs.SuperblockKept.{end_split}
use Rattle.h5_open.proofs.TouchedBlocks.{group_blocks}

-- The links of a group were changed, and these blocks taken beside; then the bytes of other blocks were written, and the end of file address.
pub record IsGroupWritten (old mid new : Space) (slots : List (Option OpenedObject)) (parent : ℕ) (p : OpenedObject) (t : SymbolTable) (taken written : List Block) : Type 0 where
  pub group : slice_get slots parent ≡ Some (Some p)
  pub kind : p.content ≡ content.Group t
  pub read : IsGroupRead mid.bytes t
  pub exact : HasExactKeys old.bytes t → HasExactKeys mid.bytes t
  pub k : k_values mid.bytes ≡ k_values old.bytes
  pub moves : Moves old mid (blocks_told old.bytes t) (taken ++ blocks_told mid.bytes t)
  pub later : Moves mid new (end_field mid.bytes ∷ written) (end_field new.bytes ∷ written)
  pub beside : (q : ℕ) → cover q written + cover q (object_blocks old.bytes p) ≤ cover q (flat_map (object_blocks old.bytes) (objects_of slots))

module _ (old mid new : Space) (slots : List (Option OpenedObject)) (numbers : BTreeMap ℕ ℕ) (opened : IsOpened old slots numbers) (parent : ℕ) (p : OpenedObject) (t : SymbolTable)
    (taken written : List Block) (is : IsGroupWritten old mid new slots parent p t taken written) where
  abbrev ms : List Message
  ms = messages_in old.bytes p.messages.list

  abbrev ms' : List Message
  ms' = messages_in new.bytes p.messages.list

  abbrev own : List Block
  own = p.messages.blocks

  kept : IsObjectKept old.bytes p
  kept = (object_of old slots numbers opened parent p is.group).kept

  kept_group : IsContentKept old.bytes ms (content.Group t)
  kept_group = subst (IsContentKept old.bytes ms) is.kind kept.content

  blocks_before : object_blocks old.bytes p ≡ own ++ blocks_told old.bytes t
  blocks_before = group_blocks old.bytes p t is.kind

  -- ---- what moves, and what stays beside it

  abbrev rest : List Block
  rest = end_field old.bytes ∷ written

  -- what is in use after the links were changed
  abbrev told : List Block
  told = taken ++ blocks_told mid.bytes t

  -- what is written then, and the field as it stands in the end
  abbrev rest' : List Block
  rest' = end_field new.bytes ∷ written

  later : Moves mid new rest rest'
  later = subst (λ (b : Block). Moves mid new (b ∷ written) rest') (same_end_field mid.bytes old.bytes is.k) is.later

  first : Moves old mid (blocks_told old.bytes t ++ rest) (told ++ rest)
  first = moves_beside old mid (blocks_told old.bytes t) told rest is.moves

  turned : (others : List Block) (q : ℕ) → cover q (told ++ others) ≡ cover q (others ++ told)
  turned others q = omega (arith, cover-append q told others, cover-append q others told)

  second : Moves mid new (told ++ rest) (told ++ rest')
  second = moves_same mid new (rest ++ told) (rest' ++ told) (told ++ rest) (told ++ rest') (turned rest) (turned rest') (moves_beside mid new rest rest' told later)

  pub written_both : Moves old new (blocks_told old.bytes t ++ rest) (told ++ rest')
  written_both = moves_then old mid new (blocks_told old.bytes t ++ rest) (told ++ rest) (told ++ rest') first second

  pub written_grown : length old.bytes ≤ length new.bytes
  written_grown = written_both.grown

  covers : (q : ℕ) → cover q (object_blocks old.bytes p) ≡ cover q own + cover q (blocks_told old.bytes t)
  covers q = let same = ap (cover q) blocks_before in omega (arith, same, cover-append q own (blocks_told old.bytes t))

  -- the superblock before the field
  abbrev front : Block
  front = block 0 (end_field old.bytes).at

  apart : IsApart ((blocks_told old.bytes t ++ rest) ++ (front ∷ own)) old.free (length old.bytes)
  apart q = omega (
    arith,
    opened.apart q,
    is.beside q,
    covers q,
    cover-append q (blocks_told old.bytes t ++ rest) (front ∷ own),
    cover-append q (blocks_told old.bytes t) rest,
    end_split old.bytes q,
  )

  stays : Keeps old.bytes new.bytes (front ∷ own)
  stays = moves_kept old new (blocks_told old.bytes t ++ rest) (told ++ rest') (front ∷ own) written_both apart (omega (arith, opened.reads.1.holds.superblock.whole), kept.header.inside)

  pub written_k : k_values new.bytes ≡ k_values old.bytes
  written_k = k_values_stay old.bytes new.bytes (end_field old.bytes).at (omega arith) stays.0

  apart_mid : IsApart (rest ++ told) mid.free (length mid.bytes)
  apart_mid q =
      let was : IsApart (blocks_told old.bytes t ++ rest) old.free (length old.bytes)
      = λ r. omega (arith, apart r, cover-append r (blocks_told old.bytes t ++ rest) (front ∷ own)) in
      omega (arith, moves_apart old mid (blocks_told old.bytes t) told rest is.moves was q, turned rest q)

  tree_stays : Keeps mid.bytes new.bytes (blocks_told mid.bytes t)
  tree_stays = moves_kept mid new rest rest' (blocks_told mid.bytes t) later
      (λ q. omega (arith, apart_mid q, cover-append q rest told, cover-append q taken (blocks_told mid.bytes t), cover-append q rest (blocks_told mid.bytes t))) is.read.inside

  -- and so do the blocks that were taken
  pub taken_stay : Inside (length mid.bytes) taken → Keeps mid.bytes new.bytes taken
  taken_stay inside = moves_kept mid new rest rest' taken later
      (λ q. omega (arith, apart_mid q, cover-append q rest told, cover-append q taken (blocks_told mid.bytes t), cover-append q rest taken)) inside

  -- ---- the group

  k_later : k_values new.bytes ≡ k_values mid.bytes
  k_later = written_k ∙ sym is.k

  leaf_later : leaf_k new.bytes ≡ leaf_k mid.bytes
  leaf_later = same_leaf new.bytes mid.bytes k_later

  internal_later : internal_k new.bytes ≡ internal_k mid.bytes
  internal_later = same_internal new.bytes mid.bytes k_later

  blocks_later : blocks_told new.bytes t ≡ blocks_told mid.bytes t
  blocks_later = blocks_told-same mid.bytes new.bytes leaf_later internal_later t is.read.linked tree_stays

  pub links_later : links_told new.bytes t ≡ links_told mid.bytes t
  links_later = links_told-same mid.bytes new.bytes leaf_later internal_later t is.read.linked tree_stays

  read_later : IsGroupRead new.bytes t
  read_later = record {
    linked = told-same mid.bytes new.bytes leaf_later internal_later t is.read.linked tree_stays;
    inside = subst (Inside (length new.bytes)) (sym blocks_later)
        (all_so (λ (b : Block). b.at + b.len ≤ length mid.bytes) (λ (b : Block). b.at + b.len ≤ length new.bytes) (blocks_told mid.bytes t) (λ b low. omega (arith, low, second.grown)) is.read.inside);
    few = rw internal_later is.read.few;
  }

  -- its keys are exact still
  exact_later : HasExactKeys old.bytes t → HasExactKeys new.bytes t
  exact_later was = exact-same mid.bytes new.bytes leaf_later internal_later t is.read.linked tree_stays (is.exact was)

  -- ---- the header

  list_stays : ms' ≡ ms
  list_stays = listed-same old.bytes new.bytes p.messages kept.header.has kept.header.within stays.1

  pub written_count : reference_count (prefix_at new.bytes (header_of p)) ≡ reference_count (prefix_at old.bytes (header_of p))
  written_count =
      let laid : Keeps old.bytes new.bytes (block (header_of p) (16 + first_size (prefix_at old.bytes (header_of p))) ∷ []) = (
        (subst (Keeps old.bytes new.bytes) kept.header.has.laid stays.1).0,
        tt,
      ) in
      ap reference_count (front-same old.bytes new.bytes (header_of p) (16 + first_size (prefix_at old.bytes (header_of p))) 16 (omega arith) laid.0)

  -- ---- the object

  kept_content : IsContentKept new.bytes ms' p.content
  kept_content = subst (IsContentKept new.bytes ms') (sym is.kind)
      (subst (λ (l : List Message). IsContentKept new.bytes l (content.Group t)) (sym list_stays) (kept_group.0, kept_group.1, read_later))

  pub written_kept : IsObjectKept new.bytes p
  written_kept = record {
    header = record {
      has = header-same old.bytes new.bytes p.messages kept.header.has kept.header.within stays.1;
      inside = all_so (λ (b : Block). b.at + b.len ≤ length old.bytes) (λ (b : Block). b.at + b.len ≤ length new.bytes) own (λ b low. omega (arith, low, written_grown)) kept.header.inside;
      within = all_so (λ m. m.at + m.size ≤ length old.bytes) (λ m. m.at + m.size ≤ length new.bytes) p.messages.list (λ m low. omega (arith, low, written_grown)) kept.header.within;
      names = rw list_stays kept.header.names;
      attributes = rw list_stays kept.header.attributes;
    };
    known = kept.known;
    content = kept_content;
    tidy = λ known. subst (IsContentTidy new.bytes ms') (sym is.kind) (exact_later (subst (IsContentTidy old.bytes ms) is.kind (kept.tidy known)));
  }

  blocks_now : object_blocks new.bytes p ≡ own ++ blocks_told mid.bytes t
  blocks_now = ap (λ (c : OpenedContent). own ++ content_blocks new.bytes ms' c) is.kind ∙ ap (λ (bs : List Block). own ++ bs) blocks_later

  -- with the blocks beside it
  pub written_moves : Moves old new (end_field old.bytes ∷ (object_blocks old.bytes p ++ written)) (end_field new.bytes ∷ (taken ++ (object_blocks new.bytes p ++ written)))
  written_moves = moves_same old new ((blocks_told old.bytes t ++ rest) ++ own) ((told ++ rest') ++ own)
      (end_field old.bytes ∷ (object_blocks old.bytes p ++ written)) (end_field new.bytes ∷ (taken ++ (object_blocks new.bytes p ++ written)))
      (λ q. omega (arith, covers q, cover-append q (object_blocks old.bytes p) written, cover-append q (blocks_told old.bytes t ++ rest) own, cover-append q (blocks_told old.bytes t) rest))
      (λ q. let are = ap (cover q) blocks_now in omega (
        arith,
        are,
        cover-append q own (blocks_told mid.bytes t),
        cover-append q taken (object_blocks new.bytes p ++ written),
        cover-append q (object_blocks new.bytes p) written,
        cover-append q (told ++ rest') own,
        cover-append q told rest',
        cover-append q taken (blocks_told mid.bytes t),
      ))
      (moves_beside old new (blocks_told old.bytes t ++ rest) (told ++ rest') own written_both)

  -- ---- its links, by the headers of a table

  module _ (table : FinMap nat_cmp ℕ) (led : (name : List ℕ) (h : ℕ) → Contains (links_told mid.bytes t) (name, Header h) → IsHeaderIn table h) where
    -- each leads to a header of it, or to a text
    pub written_led : (name : List ℕ) (h : ℕ) → Contains (content_links new.bytes p.content) (name, Header h) → IsHeaderIn table h
    written_led name h at =
        led name h (subst (λ (ls : List (List ℕ × Target)). Contains ls (name, Header h)) (ap (content_links new.bytes) is.kind ∙ links_later) at)

  module _ (table table' : FinMap nat_cmp ℕ) (change : Links → Links) (links : links_by table' (links_told mid.bytes t) ≡ change (links_by table (links_told old.bytes t))) where
    links_now : links_by table' (links_told new.bytes t) ≡ change (links_by table (links_told old.bytes t))
    links_now = ap (links_by table') links_later ∙ links

    pub written_object : object_in new.bytes table' p ≡ with_links change (object_in old.bytes table p)
    written_object = go p.content is.kind where
      go : (c : OpenedContent) → c ≡ content.Group t → object_in new.bytes table' (record p { content = c }) ≡ with_links change (object_in old.bytes table (record p { content = c }))
      go c kind =
          let here : object_in new.bytes table' (record p { content = content.Group t }) ≡ with_links change (object_in old.bytes table (record p { content = content.Group t }))
          = ap (λ (l : List Message). object_with (content_in new.bytes table' l (content.Group t)) l) list_stays ∙ ap (λ (ls : Links). object_with (Group ls) ms) links_now in
          subst (λ (d : OpenedContent). object_in new.bytes table' (record p { content = d }) ≡ with_links change (object_in old.bytes table (record p { content = d }))) (sym kind) here
