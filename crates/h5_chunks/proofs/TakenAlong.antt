-- The chunk to which a way leads, read and taken out.
use Rattle.std.proofs.Common.{◌≡◌, ◌+◌, ◌<◌, ◌≤◌, ◌^◌, ℕ, List, length, map, get_or, sym, ap, ◌∙◌, subst, IsSome}
use Rattle.std.specs.Prelude.{Some, slice_get, slice_index_or}
use Rattle.std.specs.FinMap.{get, remove, values}
use Rattle.std.specs.List.{remove as without}
use Rattle.std.proofs.lemmas.Option.{get_or_from_slice_get}
use Rattle.h5_bytes.specs.Blocks.{Keeps, block, cover, holds}
use Rattle.h5_model.specs.Format.Nodes.{Kind, node_at}
use Rattle.h5_model.specs.Format.Reached.{Shape, level_at, shape_kind}
use Rattle.h5_model.specs.Format.Rows.{Node, Reading}
use Rattle.h5_space.specs.Space.{Space}
use Rattle.h5_btree.specs.Descent.{IsWayTo}
use Rattle.h5_btree.specs.Removal.{EndsInTree, EndsSomewhere, IsTakenAlong}
use Rattle.h5_btree.specs.Walk.Forms.{OfChunks}
use Rattle.h5_btree.specs.Walk.Stands.{IsNodeAt}
use Rattle.h5_btree.specs.declared.way.Step.{Step}
use Rattle.h5_btree.proofs.WayEnds.{end_listed}
use Rattle.h5_chunks.specs.Edited.{AreChunksApart, HasChunksNow}
use Rattle.h5_chunks.specs.Told.{chunks_told}
use Rattle.h5_chunks.specs.Way.{chunk_behind}
use Rattle.h5_chunks.proofs.ChunkWays.{ChunkWay, end_stands, key_has, way_leads}
use Rattle.h5_chunks.proofs.TakenChunks.{chunks_kept, chunk_held, chunk_inside, chunk_taken}

-- what is read past the end of a way
abbrev pub no_step : Step
no_step = record { node = 0; place = 0 }

module _ (s : Space) (shape : Shape) (root : ℕ) (chunks : AreChunksApart s shape root) (short : length s.bytes < 2 ^ 64) (offsets : List ℕ) (way : List Step)
    (to : IsWayTo (node_at s.bytes (shape_kind s.bytes shape)) (chunk_behind offsets) (level_at s.bytes (shape_kind s.bytes shape) root) root way)
    (steps : List Step) (are : steps ≡ way) where
  abbrev kind : Kind
  kind = shape_kind s.bytes shape

  abbrev V : Reading
  V = node_at s.bytes kind

  abbrev list : List ℕ
  list = values (chunks_told s.bytes shape root)

  abbrev owned : List ℕ
  owned = ((chunks.read).stored).owned

  abbrev level : ℕ
  level = ((chunks.read).stored).level

  abbrev first : Step
  first = slice_index_or steps 0 no_step

  abbrev leads : (k : ℕ) × ChunkWay s shape root chunks way k
  leads = way_leads s shape root chunks short offsets way to

  abbrev step : Step
  step = (leads.1).step

  first_is : first ≡ step
  first_is = ap (λ (ws : List Step). slice_index_or ws 0 no_step) (are ∙ (leads.1).way_is)

  pub somewhere : (any : Kind) → any ≡ kind → EndsSomewhere s any way
  somewhere any is = subst (λ (k : Kind). EndsSomewhere s k way) (sym is) (root, level, owned, list, leads.0, leads.1)

  pub node_there : IsNodeAt s.bytes (OfChunks shape) first.node
  node_there =
      let stands = end_stands s kind root level way owned list leads.0 leads.1 in
      subst (λ (st : Step). IsNodeAt s.bytes (OfChunks shape) st.node) (sym first_is) (record { formed = stands.1; inside = stands.0 })

  module _ (node : Node) (node_is : node ≡ V first.node) where
    pub place_there : first.place < length node.children
    place_there =
        let stands = end_stands s kind root level way owned list leads.0 leads.1 in
        subst (λ (o : Node). first.place < length o.children) (sym node_is) (subst (λ (st : Step). st.place < length (V st.node).children) (sym first_is) stands.2)

    module _ (child : ℕ) (child_is : slice_get node.children first.place ≡ Some child) (u : Space) (any : Kind) (any_is : any ≡ kind)
        (takes : (root level k : ℕ) (owned list : List ℕ) → EndsInTree s any root level way owned list k → IsTakenAlong s u any root way (without list k) owned)
        (len : ℕ) (len_is : len ≡ shape.bytes) where
      abbrev Takes : Kind → Type 0
      Takes k = (root level n : ℕ) (owned list : List ℕ) → EndsInTree s k root level way owned list n → IsTakenAlong s u k root way (without list n) owned

      taken : IsTakenAlong s u kind root way (without list leads.0) owned
      taken = subst Takes any_is takes root level leads.0 owned list leads.1

      same : get_or list leads.0 0 ≡ child
      same =
          let found : slice_get (V step.node).children step.place ≡ Some child
          = subst (λ (st : Step). slice_get (V st.node).children st.place ≡ Some child) first_is
          (subst (λ (o : Node). slice_get o.children first.place ≡ Some child) node_is child_is) in
          (end_listed s kind root level way owned list leads.0 leads.1).1 ∙ get_or_from_slice_get (V step.node).children step.place child 0 found

      pub given_inside : child + len ≤ length u.bytes
      given_inside = subst (λ (n : ℕ). child + n ≤ length u.bytes) (sym len_is)
          (subst (λ (n : ℕ). n + shape.bytes ≤ length u.bytes) same (chunk_inside s u shape root chunks way leads.0 leads.1 taken))

      pub given_held : (p : ℕ) → cover p u.free + holds p child len ≤ 1
      given_held = subst (λ (n : ℕ). (p : ℕ) → cover p u.free + holds p child n ≤ 1) (sym len_is)
          (subst (λ (n : ℕ). (p : ℕ) → cover p u.free + holds p n shape.bytes ≤ 1) same (chunk_held s u shape root chunks way leads.0 leads.1 taken))

      -- no chunk's byte changes
      pub given_kept : (t : Space) → t.bytes ≡ u.bytes → Keeps s.bytes t.bytes (map (λ at. block at shape.bytes) list)
      given_kept t bytes = subst (λ (b : List ℕ). Keeps s.bytes b (map (λ at. block at shape.bytes) list)) (sym bytes)
          (chunks_kept s u shape root chunks way leads.0 leads.1 taken)

      -- and the others stay, where it is stored
      pub given_taken : length offsets ≡ length shape.sizes → IsSome (get (chunks_told s.bytes shape root) offsets) → (t : Space) → t.bytes ≡ u.bytes
          → ((p : ℕ) → cover p t.free ≡ cover p u.free + holds p child len) → length u.bytes ≤ length s.bytes
          → HasChunksNow s t shape root (remove (chunks_told s.bytes shape root) offsets)
      given_taken rank there t bytes given size =
          let own = subst (λ (n : ℕ). (p : ℕ) → cover p t.free ≡ cover p u.free + holds p n shape.bytes) (sym same)
          (subst (λ (n : ℕ). (p : ℕ) → cover p t.free ≡ cover p u.free + holds p child n) len_is given) in
          chunk_taken s u shape root chunks way leads.0 leads.1 taken t bytes own size short offsets
          (key_has s shape root chunks short offsets way to rank there step (leads.1).above (leads.1).way_is)
