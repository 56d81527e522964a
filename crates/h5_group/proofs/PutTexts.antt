-- The texts of a link that come into a group's heap, one after another.
use Rattle.std.proofs.Common.{◌≡◌, ℕ, ◌^◌, ◌<◌, ◌≤◌, ◌==◌, ◌||◌, ◌&&◌, not, Bool, true, false, List, [], ◌∷◌, ◌++◌, length, slice_index, refl, sym, ap, ap₂, ◌∙◌, subst, arith}
use Rattle.std.specs.List.{AllByRecursion, list_any}
use Rattle.h5_bytes.specs.Bytes.{number_at}
use Rattle.h5_bytes.specs.Numbers.{zeros}
use Rattle.h5_bytes.specs.Texts.{text_at}
use Rattle.h5_bytes.specs.declared.Block.{Block}
use Rattle.h5_bytes.proofs.BlockLaws.{all_so}
use Rattle.h5_model.specs.Edits.Refusal.{has_zero}
use Rattle.h5_model.specs.Format.Addresses.{SymbolTable}
use Rattle.h5_model.specs.Format.Superblock.{k_values}
use Rattle.h5_model.specs.Format.Links.{offset_in}
use Rattle.h5_model.specs.Format.Nodes.{Kind, group_kind, node_at}
use Rattle.h5_model.specs.Format.Rows.{Node, Reading, leaves, nodes}
use Rattle.h5_model.specs.Format.Symbols.{Target, Text, link_of}
use Rattle.h5_model.specs.Tree.Paths.{is_name}
use Rattle.h5_model.proofs.NumberLaws.{reads_back}
use Rattle.h5_model.proofs.OneTree.{level_is, owned_is}
use Rattle.h5_model.proofs.RowLaws.{leaves-same, nodes-same}
use Rattle.h5_model.proofs.KLaws.{same_internal}
use Rattle.h5_model.proofs.Members.{all_both}
use Rattle.h5_space.specs.Space.{Space}
use Rattle.h5_heap.proofs.EditedLaws.{segment_long}
use Rattle.h5_heap.specs.declared.write.link.ObjectPlace.{ObjectPlace}
use Rattle.h5_heap.specs.declared.write.link.ObjectPlace.TheVariants as place
use Rattle.h5_snod.specs.Written.{entry_from, scratch_to}
use Rattle.h5_snod.specs.declared.write.NewTarget.TheVariants as target
use Rattle.h5_snod.specs.declared.write.NewTarget.{NewTarget}
use Rattle.h5_group.specs.Edited.{HasGroupMoved, IsGroupIn, heap_text, offsets_of}
use Rattle.h5_group.specs.KeptNodes.{AreNodesKept}
use Rattle.h5_group.specs.LinkEdits.{place_target}
use Rattle.h5_group.specs.Nodes.Trees.{kind_in}
use Rattle.h5_group.specs.Told.{symbol_nodes_told}
use Rattle.h5_group.proofs.TextEdits.{spare_span}
use Rattle.h5_group.proofs.Ways.{heap_inside}
use Rattle.h5_group.proofs.ExactTrees.{root_of}
use Rattle.h5_group.proofs.PutWays.{same_kind}

-- ---- a name has no zero byte

neither : (a b c : Bool) → ((a || b) || c) ≡ false → (a ≡ false) × (c ≡ false)
neither true b c h = absurd (cc)
neither false true c h = absurd (cc)
neither false false c h = (refl, h)

no_zero_in : (name : List ℕ) → list_any (λ c. c == 0 || c == 47) name ≡ false → has_zero name ≡ false
no_zero_in [] h = refl
no_zero_in (c ∷ name) h = let parts = neither (c == 0) (c == 47) (list_any (λ d. d == 0 || d == 47) name) h in rw (parts.0) (no_zero_in name parts.1)

third_false : (a b c : Bool) → (a && b && not c) ≡ true → c ≡ false
third_false true true false h = refl
third_false true true true h = absurd (cc)
third_false true false c h = absurd (cc)
third_false false b c h = absurd (cc)

pub no_zero : (name : List ℕ) → is_name name ≡ true → has_zero name ≡ false
no_zero name h = no_zero_in name (third_false (not (length name == 0)) (not (length name == 1 && slice_index name 0 == 46)) (list_any (λ c. c == 0 || c == 47) name) h)

-- ---- where a spare text stands

pub spare_low : (s : Space) (table : SymbolTable) (offset : ℕ) (links : List (List ℕ × Target)) (spare : List ℕ) (blocks : List Block)
    → IsGroupIn s table links (offset ∷ spare) blocks → offset ≤ length s.bytes
spare_low s table offset links spare blocks g =
    let inside = heap_inside s table links (offset ∷ spare) blocks g in
    let long = segment_long s.bytes table.heap inside in
    let span = spare_span s table offset links spare blocks g in
    let within = span.within in
    let ends = inside.1.0 in
    omega (arith, within, long, ends)

-- the offset of a text is read back
pub text_back : (offset : ℕ) → offset < 2 ^ 32 → number_at (scratch_to (target.Text offset)) 0 4 ≡ offset
text_back offset low = reads_back 4 offset (zeros 12) low

-- the link of a text
pub text_link : (segment name text : List ℕ) (at offset : ℕ) → offset < 2 ^ 32 → text_at segment at ≡ name → text_at segment offset ≡ text
    → link_of segment (entry_from (record { name = at; target = target.Text offset })) ≡ (name, Text text)
text_link segment name text at offset low named reads =
    ap₂ (λ (n : List ℕ) (x : List ℕ). (n, Text x)) named (ap (text_at segment) (text_back offset low) ∙ reads)

-- an object's entry names one text alone
pub object_moved : (s t : Space) (table : SymbolTable) (blocks : List Block) (links : List (List ℕ × Target)) (spare : List ℕ) (name : ℕ) (at : ObjectPlace) (to : NewTarget)
    → to ≡ place_target at → HasGroupMoved s t table blocks links (name ∷ spare)
    → HasGroupMoved s t table blocks links (offsets_of (entry_from (record { name = name; target = to })) ++ spare)
object_moved s t table blocks links spare name (place.Group header tree heap) to is m =
    subst (λ (x : NewTarget). HasGroupMoved s t table blocks links (offsets_of (entry_from (record { name = name; target = x })) ++ spare)) (sym is) m
object_moved s t table blocks links spare name (place.Array header) to is m =
    subst (λ (x : NewTarget). HasGroupMoved s t table blocks links (offsets_of (entry_from (record { name = name; target = x })) ++ spare)) (sym is) m

-- ---- nodes that are kept twice

module _ (s t : Space) (table : SymbolTable) (links : List (List ℕ × Target)) (spare : List ℕ) (blocks : List Block) (g : IsGroupIn s table links spare blocks)
    (links' : List (List ℕ × Target)) (spare' : List ℕ) (blocks' : List Block) (h : IsGroupIn t table links' spare' blocks')
    (k_same : k_values t.bytes ≡ k_values s.bytes) (kept : AreNodesKept s t table (g.linked).owned) where
  abbrev V : Reading
  V = node_at s.bytes (kind_in s.bytes)

  abbrev W : Reading
  W = node_at t.bytes (kind_in t.bytes)

  abbrev IsKeptNode : ℕ → Type 0
  IsKeptNode n = (node_at t.bytes (kind_in s.bytes) n ≡ V n) × AllByRecursion (λ key. heap_text t table (offset_in key) ≡ heap_text s table (offset_in key)) (V n).keys

  abbrev IsSameNode : ℕ → Type 0
  IsSameNode n = W n ≡ V n

  same_nodes : AllByRecursion IsSameNode (nodes V (g.linked).level (table.tree ∷ []))
  same_nodes =
      let has = g.linked in
      subst (AllByRecursion IsSameNode) (owned_is s.bytes (kind_in s.bytes) table.tree has.level has.owned has.symbol_nodes has.tree)
      (all_so IsKeptNode IsSameNode has.owned (λ n is. same_kind s.bytes t.bytes k_same n ∙ is.0) kept)

  -- the tree has the same nodes
  pub owned_stays : (h.linked).owned ≡ (g.linked).owned
  owned_stays =
      let old = g.linked in
      let new = h.linked in
      let level : new.level ≡ old.level
      = sym (level_is t.bytes (kind_in t.bytes) table.tree new.level new.owned new.symbol_nodes new.tree)
      ∙ ap (λ (n : Node). n.level) (root_of IsSameNode V old.level table.tree same_nodes)
      ∙ level_is s.bytes (kind_in s.bytes) table.tree old.level old.owned old.symbol_nodes old.tree in
      owned_is t.bytes (kind_in t.bytes) table.tree new.level new.owned new.symbol_nodes new.tree
      ∙ ap (λ (l : ℕ). nodes W l (table.tree ∷ [])) level ∙ nodes-same V W old.level (table.tree ∷ []) same_nodes
      ∙ sym (owned_is s.bytes (kind_in s.bytes) table.tree old.level old.owned old.symbol_nodes old.tree)

  -- and the same symbol nodes below them
  pub symbols_told : symbol_nodes_told t.bytes table ≡ symbol_nodes_told s.bytes table
  symbols_told =
      let old = g.linked in
      let root : (W table.tree).level ≡ (V table.tree).level = ap (λ (n : Node). n.level) (root_of IsSameNode V old.level table.tree same_nodes) in
      let level = level_is s.bytes (kind_in s.bytes) table.tree old.level old.owned old.symbol_nodes old.tree in
      ap (λ (l : ℕ). leaves W l (table.tree ∷ [])) (root ∙ level) ∙ leaves-same V W old.level (table.tree ∷ []) same_nodes
      ∙ ap (λ (l : ℕ). leaves V l (table.tree ∷ [])) (sym level)

  module _ (u : Space) (then : AreNodesKept t u table (h.linked).owned) where
    abbrev IsKeptBy : Kind → ℕ → Type 0
    IsKeptBy kind n =
        (node_at u.bytes kind n ≡ node_at t.bytes kind n)
        × AllByRecursion (λ key. heap_text u table (offset_in key) ≡ heap_text t table (offset_in key)) (node_at t.bytes kind n).keys

    abbrev AreBoth : ℕ → Type 0
    AreBoth n = IsKeptNode n × IsKeptBy (kind_in s.bytes) n

    abbrev IsKeptSince : ℕ → Type 0
    IsKeptSince n = (node_at u.bytes (kind_in s.bytes) n ≡ V n) × AllByRecursion (λ key. heap_text u table (offset_in key) ≡ heap_text s table (offset_in key)) (V n).keys

    abbrev IsFirst : List ℕ → Type 0
    IsFirst key = heap_text t table (offset_in key) ≡ heap_text s table (offset_in key)

    abbrev IsSecond : List ℕ → Type 0
    IsSecond key = heap_text u table (offset_in key) ≡ heap_text t table (offset_in key)

    since : (n : ℕ) → AreBoth n → IsKeptSince n
    since n both = (
      both.1.0 ∙ both.0.0,
      all_so (λ key. IsFirst key × IsSecond key) (λ key. heap_text u table (offset_in key) ≡ heap_text s table (offset_in key)) (V n).keys (λ key two. two.1 ∙ two.0)
          (all_both IsFirst IsSecond (V n).keys both.0.1 (subst (λ (m : Node). AllByRecursion IsSecond m.keys) both.0.0 both.1.1)),
    )

    -- the nodes that were kept twice are those of before
    pub nodes_then : AreNodesKept s u table (g.linked).owned
    nodes_then =
        let owned = (g.linked).owned in
        let later : AllByRecursion (IsKeptBy (kind_in s.bytes)) owned
        = subst (λ (k : ℕ). AllByRecursion (IsKeptBy (group_kind k)) owned) (same_internal t.bytes s.bytes k_same) (subst (AllByRecursion (IsKeptBy (kind_in t.bytes))) owned_stays then) in
        all_so AreBoth IsKeptSince owned since (all_both IsKeptNode (IsKeptBy (kind_in s.bytes)) owned kept later)
