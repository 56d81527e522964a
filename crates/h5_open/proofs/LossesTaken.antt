-- What goes with a link that is taken out of a group of an opened image: the objects that go, and those to which links are left, before the
-- edit and after the link was taken.
use Rattle.std.proofs.Common.{◌≡◌, inl, inr, ℕ, ◌+◌, ◌≤◌, List, [], ◌∷◌, ◌++◌, length, map, refl, ap, ◌∙◌, subst, arith, Option, Some, None}
use Rattle.std.specs.Prelude.{is_some, slice_get}
use Rattle.std.specs.Option.{option_flatten, option_map_or}
use Rattle.std.specs.BTreeMap.{BTreeMap}
use Rattle.std.specs.FinMap.{get}
use Rattle.std.specs.List.{Contains, flat_map}
use Rattle.h5_bytes.specs.Blocks.{cover}
use Rattle.h5_bytes.specs.declared.Block.{Block}
use Rattle.h5_bytes.proofs.BlockLaws.{cover-append, holds-le}
use Rattle.h5_model.specs.Format.Addresses.{SymbolTable}
use Rattle.h5_model.specs.Format.Superblock.{end_field}
use Rattle.h5_model.specs.Tree.Objects.{Tree, Link, Links, hard_links}
use Rattle.h5_space.specs.Space.{Space}
use Rattle.h5_space.specs.Whole.{IsApart}
use Rattle.h5_space.proofs.MovesLaws.{moves_apart}
use Rattle.h5_header.specs.Listed.{messages_in}
use Rattle.h5_group.specs.Told.{blocks_told}
use Rattle.h5_laws.specs.Trees.Unlinked.{IsTreeLeft, lost_links}
use Rattle.h5_laws.proofs.Lists.{In, contains_in, from_map, in_either}
use Rattle.h5_laws.proofs.SoundLaws.LinksThere.{links_are}
use Rattle.h5_laws.proofs.Maps.{value_of}
use Rattle.h5_open.specs.declared.opened.object.OpenedObject.{OpenedObject}
use Rattle.h5_open.specs.declared.opened.object.OpenedContent.{OpenedContent}
use Rattle.h5_open.specs.declared.opened.object.OpenedContent.TheVariants as content
use Rattle.h5_open.specs.ChangedInPlace.{is_among}
use Rattle.h5_open.specs.LinkTaken.{AreCountsLowered, AreHeadersStanding, IsLinkTaken, header_blocks_at, lowered_blocks}
use Rattle.h5_open.specs.Losses.{AreLosses}
use Rattle.h5_open.specs.Opened.Kept.{IsOpened}
use Rattle.h5_open.specs.Opened.Objects.{content_blocks, object_blocks, objects_of, tree_of}
use Rattle.h5_open.specs.SlotsInPlace.{AreOnce, blocks_at}
use Rattle.h5_open.proofs.Among.{not_among, once_append, once_distinct}
use Rattle.h5_open.proofs.HeaderInPlace.{slot_in_tree}
use Rattle.h5_open.proofs.ListCovers.{covers_append, covers_split, covers_through}
use Rattle.h5_open.proofs.RelinkedTree.{group_there}
use Rattle.h5_open.proofs.SuperblockKept.{end_inside}
use Rattle.h5_open.proofs.TargetCounted.{chosen_cover}
use Rattle.h5_open.proofs.TargetStands.{still_standing}
use Rattle.h5_open.proofs.TouchedBlocks.{blocks_of_slot, group_blocks, touched_cover}

-- the blocks of an object beside those of its header
abbrev pub cells_at : List ℕ → List (Option OpenedObject) → ℕ → List Block
cells_at image slots n =
    option_map_or (λ (o : OpenedObject). content_blocks image (messages_in image o.messages.list) o.content) (option_flatten (slice_get slots n)) []

parts_at : (image : List ℕ) (slots : List (Option OpenedObject)) (q n : ℕ) → cover q (blocks_at image slots n) ≡ cover q (header_blocks_at slots n) + cover q (cells_at image slots n)
parts_at image slots q n = go (option_flatten (slice_get slots n)) where
  go : (o : Option OpenedObject) → cover q (option_map_or (object_blocks image) o [])
      ≡ cover q (option_map_or (λ (x : OpenedObject). x.messages.blocks) o [])
      + cover q (option_map_or (λ (x : OpenedObject). content_blocks image (messages_in image x.messages.list) x.content) o [])
  go None = refl
  go (Some o) = cover-append q o.messages.blocks (content_blocks image (messages_in image o.messages.list) o.content)

-- the numbers of the objects to which links are left
abbrev pub numbers_less : List (ℕ × ℕ) → List ℕ
numbers_less less = map (λ (l : ℕ × ℕ). l.0) less

-- the numbers that are touched
abbrev pub touched_numbers : ℕ → List ℕ → List (ℕ × ℕ) → List ℕ
touched_numbers parent gone less = parent ∷ (gone ++ numbers_less less)

module _ (old : Space) (slots : List (Option OpenedObject)) (numbers : BTreeMap ℕ ℕ) (opened : IsOpened old slots numbers) (parent : ℕ) (p : OpenedObject) (t : SymbolTable)
    (at : slice_get slots parent ≡ Some (Some p)) (kind : p.content ≡ content.Group t) (name : List ℕ) (link : Link)
    (gone : List ℕ) (less : List (ℕ × ℕ)) (held : List Block) (losses : AreLosses old.bytes slots link gone less held)
    (left : IsTreeLeft (tree_of old.bytes slots) parent name link losses.numbers) where
  abbrev tree : Tree
  tree = tree_of old.bytes slots

  -- ---- which objects

  slot_of : (n : ℕ) → Contains losses.numbers n → (o : OpenedObject) × (slice_get slots n ≡ Some (Some o))
  slot_of n among =
      let some = value_of (get tree n) (left.there n among) in
      slot_in_tree old.bytes slots n some.0 some.1

  pub gone_slot : (n : ℕ) → Contains gone n → (o : OpenedObject) × (slice_get slots n ≡ Some (Some o))
  gone_slot n mine = slot_of n (losses.goes n mine).0

  -- a group loses all its links
  pub less_array : (n rest : ℕ) (o : OpenedObject) → Contains less (n, rest) → slice_get slots n ≡ Some (Some o) → o.content ≡ content.Array
  less_array n rest o mine there = go o.content refl where
    its : Contains losses.numbers n × (1 ≤ rest) × (rest + lost_links tree link losses.numbers n ≡ hard_links tree n)
    its = losses.stays n rest mine

    go : (c : OpenedContent) → o.content ≡ c → c ≡ content.Array
    go content.Array is = refl
    go (content.Group u) is =
        let group = group_there old slots numbers opened n o u there is in
        let all = left.groups n its.0 (ap (λ (ls : Option Links). is_some ls) (links_are tree n group)) in
        let some = its.1 in
        let sum = its.2 in
        absurd (omega (arith, all, some, sum))

  pub less_slot : (n rest : ℕ) → Contains less (n, rest) → (o : OpenedObject) × (slice_get slots n ≡ Some (Some o)) × (o.content ≡ content.Array)
  less_slot n rest mine =
      let there = slot_of n (losses.stays n rest mine).0 in
      (there.0, there.1, less_array n rest there.0 mine there.1)

  -- the links that are left to one of them
  pub less_left : (n : ℕ) → In n (numbers_less less) → (rest : ℕ) × Contains less (n, rest)
  less_left n mine =
      let one = from_map (λ (l : ℕ × ℕ). l.0) n less mine in
      (one.0.1, subst (λ (k : ℕ). Contains less (k, one.0.1)) one.2 (contains_in one.0 less one.1))

  pub not_both : (n : ℕ) → In n gone → In n (numbers_less less) → ⊥
  not_both n here there =
      let all = (losses.goes n (contains_in n gone here)).1 in
      let one = less_left n there in
      let its = losses.stays n one.0 one.1 in
      let some = its.1 in
      let sum = its.2 in
      absurd (omega (arith, all, some, sum))

  pub not_group : (n : ℕ) → In n (gone ++ numbers_less less) → n ≡ parent → ⊥
  not_group n among same = elim (in_either n gone (numbers_less less) among) [
    | inl goes ↦ left.not_parent (subst (Contains losses.numbers) same (losses.goes n (contains_in n gone goes)).0)
    | inr stays ↦
        let one = less_left n stays in
        left.not_parent (subst (Contains losses.numbers) same (losses.stays n one.0 one.1).0)
  ]

  pub once : AreOnce (touched_numbers parent gone less)
  once = (
    not_among (gone ++ numbers_less less) parent (λ among. not_group parent among refl),
    once_append gone (numbers_less less) (once_distinct gone losses.gone_once) (once_distinct (numbers_less less) losses.less_once) not_both,
  )

  -- ---- their blocks

  abbrev pub headers_less : List Block
  headers_less = lowered_blocks slots less

  abbrev pub cells_less : List Block
  cells_less = flat_map (λ (l : ℕ × ℕ). cells_at old.bytes slots l.0) less

  abbrev pub blocks_gone : List Block
  blocks_gone = flat_map (blocks_at old.bytes slots) gone

  abbrev links : List Block
  links = blocks_told old.bytes t

  pub less_cover : (q : ℕ) → cover q (flat_map (blocks_at old.bytes slots) (numbers_less less)) ≡ cover q headers_less + cover q cells_less
  less_cover q =
      covers_through (blocks_at old.bytes slots) (λ (l : ℕ × ℕ). l.0) q less
      ∙ covers_split (λ (l : ℕ × ℕ). blocks_at old.bytes slots l.0) q (λ (l : ℕ × ℕ). header_blocks_at slots l.0) (λ (l : ℕ × ℕ). cells_at old.bytes slots l.0)
      (λ l. parts_at old.bytes slots q l.0) less

  pub touched_old : (q : ℕ) → cover q (flat_map (blocks_at old.bytes slots) (touched_numbers parent gone less))
      ≡ cover q (object_blocks old.bytes p) + (cover q blocks_gone + (cover q headers_less + cover q cells_less))
  touched_old q =
      let group = ap (cover q) (blocks_of_slot old.bytes slots parent p at) in
      omega (
        arith,
        group,
        less_cover q,
        covers_append (blocks_at old.bytes slots) q gone (numbers_less less),
        cover-append q (blocks_at old.bytes slots parent) (flat_map (blocks_at old.bytes slots) (gone ++ numbers_less less)),
      )

  -- they share no byte
  pub all_beside : (q : ℕ) → cover q (object_blocks old.bytes p) + (cover q blocks_gone + (cover q headers_less + cover q cells_less))
      ≤ cover q (flat_map (object_blocks old.bytes) (objects_of slots))
  all_beside q = omega (
    arith,
    touched_old q,
    touched_cover old.bytes q (touched_numbers parent gone less) slots once,
    chosen_cover old.bytes q (is_among (touched_numbers parent gone less)) 0 slots,
  )

  pub group_cover : (q : ℕ) → cover q (object_blocks old.bytes p) ≡ cover q p.messages.blocks + cover q links
  group_cover q =
      let same = ap (cover q) (group_blocks old.bytes p t kind) in
      omega (arith, same, cover-append q p.messages.blocks links)

  -- the links of the group, and all that goes or is counted anew
  pub losses_apart : IsApart (links ++ (headers_less ++ (cells_less ++ (blocks_gone ++ end_field old.bytes ∷ [])))) old.free (length old.bytes)
  losses_apart q = omega (
    arith,
    opened.apart q,
    all_beside q,
    group_cover q,
    cover-append q links (headers_less ++ (cells_less ++ (blocks_gone ++ end_field old.bytes ∷ []))),
    cover-append q headers_less (cells_less ++ (blocks_gone ++ end_field old.bytes ∷ [])),
    cover-append q cells_less (blocks_gone ++ end_field old.bytes ∷ []),
    cover-append q blocks_gone (end_field old.bytes ∷ []),
    end_inside old.bytes q,
  )

  -- ---- after the link was taken

  module _ (mid : Space) (taken : IsLinkTaken old mid t name) where
    abbrev links_mid : List Block
    links_mid = blocks_told mid.bytes t

    apart_mid : IsApart (links_mid ++ (headers_less ++ blocks_gone)) mid.free (length mid.bytes)
    apart_mid = moves_apart old mid links links_mid (headers_less ++ blocks_gone) taken.moves
        (λ q. omega (
          arith,
          losses_apart q,
          cover-append q links (headers_less ++ (cells_less ++ (blocks_gone ++ end_field old.bytes ∷ []))),
          cover-append q headers_less (cells_less ++ (blocks_gone ++ end_field old.bytes ∷ [])),
          cover-append q cells_less (blocks_gone ++ end_field old.bytes ∷ []),
          cover-append q blocks_gone (end_field old.bytes ∷ []),
          cover-append q links (headers_less ++ blocks_gone),
          cover-append q headers_less blocks_gone,
        ))

    -- the counts can be lowered
    pub lower_apart : IsApart headers_less mid.free (length mid.bytes)
    lower_apart q = omega (arith, apart_mid q, cover-append q links_mid (headers_less ++ blocks_gone), cover-append q headers_less blocks_gone)

    pub lower_standing : AreHeadersStanding mid.bytes slots less
    lower_standing n rest mine =
        let there = less_slot n rest mine in
        (there.0, there.1, still_standing old slots numbers opened parent p t at kind mid taken.moves n there.0 there.1 there.2)

    -- and then the blocks of what goes be given back
    pub not_free : (low : Space) → AreCountsLowered mid low slots less → (q : ℕ) → cover q low.free + cover q held ≤ 1
    not_free low lowered q =
        let was : IsApart (headers_less ++ blocks_gone) mid.free (length mid.bytes)
        = λ r. omega (arith, apart_mid r, cover-append r links_mid (headers_less ++ blocks_gone)) in
        omega (
          arith,
          moves_apart mid low headers_less headers_less blocks_gone lowered.moves was q,
          cover-append q headers_less blocks_gone,
          losses.blocks q,
          holds-le q 0 (length low.bytes),
        )
