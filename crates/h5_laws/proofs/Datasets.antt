-- What the messages of a dataset say, and the data that they name.
use Rattle.std.proofs.Common.{◌≡◌, inl, inr, ℕ, ◌+◌, ◌*◌, List, [], ◌∷◌, refl, sym, ap, ◌∙◌, subst, arith, Some, None, true, false, Option, Bool}
use Rattle.std.proofs.lemmas.Bool.Decides.{nat_tests}
use Rattle.std.specs.Prelude.{◌==◌, option_map}
use Rattle.std.specs.Option.{option_and_then}
use Rattle.std.specs.Ordering.{nat_cmp}
use Rattle.std.specs.FinMap.{FinMap}
use Rattle.std.specs.List.{find, flat_map}
use Rattle.h5_bytes.specs.declared.Block.{Block}
use Rattle.h5_model.specs.Format.MessageTypes.{data_layout_kind}
use Rattle.h5_model.specs.Format.Messages.{Message, HasMessages, first_block, first_body}
use Rattle.h5_model.specs.Format.Fixed.{Fixed}
use Rattle.h5_model.specs.Tree.Places.{cells}
use Rattle.h5_model.specs.Format.Extent.{Extent}
use Rattle.h5_model.specs.Format.Layout.{Layout, InBlock, InChunks}
use Rattle.h5_model.specs.Format.Chunks.{HasChunks}
use Rattle.h5_model.specs.Format.Superblock.{chunk_k}
use Rattle.h5_model.specs.Tree.Objects.{Tree, Dataset}
use Rattle.h5_model.specs.Format.Reads.{Placed, HasDataset, HasData}
use Rattle.h5_model.specs.Format.Reached.{AllMessages, extent_among, type_among, layout_among, layout_by}
use Rattle.h5_model.proofs.OneReading.{one_parts, some_same}
use Rattle.h5_laws.proofs.Lists.{In}
use Rattle.h5_laws.proofs.Objects.{content_cases, of_group_kind}
use Rattle.h5_laws.proofs.Located.{Known, KnownDataset, KnownBytes, KnownChunks}

-- all messages of a header are those that it is read with
pub all_messages : (image : List ℕ) (header : ℕ) (ms ns : List Message) (blocks : List Block) → AllMessages image header ms → HasMessages image header ns blocks → ms ≡ ns
all_messages image header ms ns blocks all has =
    all.2 ∙ ap (flat_map (λ (part : List Message). part)) (one_parts image (first_block image header ∷ []) all.0 has.parts all.1 has.filled) ∙ sym has.all

-- what is found is there
find_step : (kind : ℕ) (x m : Message) (ms : List Message) → find (λ y. y.kind == kind) (x ∷ ms) ≡ Some m
    → (find (λ y. y.kind == kind) ms ≡ Some m → In m ms × (m.kind ≡ kind)) → In m (x ∷ ms) × (m.kind ≡ kind)
find_step kind x m ms h rest = go (x.kind == kind) refl where
  go : (b : Bool) → (x.kind == kind) ≡ b → In m (x ∷ ms) × (m.kind ≡ kind)
  go true same =
      let here : Some x ≡ Some m = rw same at h in
      let e : x ≡ m = cc in
      let kind_is : x.kind ≡ kind = grind (arith, nat_tests) in
      (inl e, subst (λ (y : Message). y.kind ≡ kind) e kind_is)
  go false same = let later = rest (rw same at h) in (inr later.0, later.1)

pub find_in : (kind : ℕ) (ms : List Message) (m : Message) → find (λ x. x.kind == kind) ms ≡ Some m → In m ms × (m.kind ≡ kind)
find_in kind [] m h = absurd (cc)
find_in kind (x ∷ ms) m h = find_step kind x m ms h (find_in kind ms m)

-- what no message is, is not found
pub find_none : (kind : ℕ) (ms : List Message) → ((m : Message) → In m ms → m.kind ≡ kind → ⊥) → find (λ x. x.kind == kind) ms ≡ None
find_none kind ms other = go (find (λ x. x.kind == kind) ms) refl where
  go : (o : Option Message) → find (λ x. x.kind == kind) ms ≡ o → o ≡ None
  go None e = refl
  go (Some m) e = let there = find_in kind ms m e in absurd (other m there.0 there.1)

-- what the first body of a type says, its first message says
pub said_first : {X : Type 0} (f : List ℕ → Option X) (kind : ℕ) (ms : List Message) (v : X) → option_and_then f (first_body kind ms) ≡ Some v
    → (m : Message) × (find (λ x. x.kind == kind) ms ≡ Some m) × (f m.body ≡ Some v)
said_first f kind ms v says = go (find (λ x. x.kind == kind) ms) refl says where
  go : (o : Option Message) → find (λ x. x.kind == kind) ms ≡ o → option_and_then f (option_map (λ m. m.body) o) ≡ Some v
      → (m : Message) × (find (λ x. x.kind == kind) ms ≡ Some m) × (f m.body ≡ Some v)
  go None e said = absurd (let never : None ≡ Some v = said in cc)
  go (Some m) e said = (m, e, said)

-- ---- what the messages say of a dataset

module _ (image : List ℕ) (messages : List Message) (d : Dataset) (blocks : List Block) (has : HasDataset image messages d blocks) where
  pub extent_is : (e : Extent) → extent_among messages ≡ Some e → e ≡ record { sizes = d.sizes; maxima = d.maxima }
  extent_is e h = some_same _ _ _ h has.array.space

  pub type_is : (t : Fixed) → type_among messages ≡ Some t → t ≡ d.fixed
  type_is t h = some_same _ _ _ h has.array.type

  pub layout_there : layout_among messages ≡ Some has.layout
  layout_there =
      ap (option_and_then (λ (e : Extent). option_and_then (layout_by messages e) (type_among messages))) has.array.space
      ∙ ap (option_and_then (layout_by messages (record { sizes = d.sizes; maxima = d.maxima }))) has.array.type ∙ has.array.laid_out

  pub layout_is : (layout : Layout) → layout_among messages ≡ Some layout → layout ≡ has.layout
  layout_is layout h = some_same _ _ _ h layout_there

  -- the tree of chunks of its layout
  pub chunks_there : (t : Fixed) (sizes : List ℕ) (root : ℕ) → t ≡ d.fixed → has.layout ≡ InChunks sizes (Some root)
      → HasChunks image (chunk_k image) sizes (cells sizes * t.size) root has.chunks blocks
  chunks_there t sizes root same laid =
      let stored : HasData image d.fixed (InChunks sizes (Some root)) has.chunks blocks = subst (λ (l : Layout). HasData image d.fixed l has.chunks blocks) laid has.stored in
      subst (λ (f : Fixed). HasChunks image (chunk_k image) sizes (cells sizes * f.size) root has.chunks blocks) (sym same) stored

module _ (image : List ℕ) (table : FinMap nat_cmp ℕ) (tree : Tree) (placed : List Placed) (depth : ℕ) (k : Known image table tree placed depth) where
  -- an object with a Data Layout message is a dataset
  pub dataset_known : (m : Message) → In m k.has.messages → m.kind ≡ data_layout_kind → (d : KnownDataset image table tree placed depth) × (d.k ≡ k)
  dataset_known m at is = elim (content_cases image table k.has.messages k.o.object.content k.has.content_blocks k.has.content) [
    | inl group ↦ absurd (let none : false ≡ true = of_group_kind k.has.messages m data_layout_kind (group.3).known at is in cc)
    | inr array ↦ (record { k = k; d = array.0; is = array.1; stored = array.2 }, refl)
  ]

  module _ (messages : List Message) (same : messages ≡ k.has.messages) (m : Message) (t : Fixed) (first : find (λ x. x.kind == data_layout_kind) messages ≡ Some m)
      (type : type_among messages ≡ Some t) where
    there : In m k.has.messages × (m.kind ≡ data_layout_kind)
    there = find_in data_layout_kind k.has.messages m (subst (λ (ms : List Message). find (λ x. x.kind == data_layout_kind) ms ≡ Some m) same first)

    d : (d : KnownDataset image table tree placed depth) × (d.k ≡ k)
    d = dataset_known m there.0 there.1

    same_there : messages ≡ d.0.k.has.messages
    same_there = same ∙ sym (ap (λ (x : Known image table tree placed depth). x.has.messages) d.1)

    first_there : find (λ x. x.kind == data_layout_kind) d.0.k.has.messages ≡ Some m
    first_there = subst (λ (ms : List Message). find (λ x. x.kind == data_layout_kind) ms ≡ Some m) same_there first

    pub bytes_known : (b : Block) → layout_among messages ≡ Some (InBlock (Some b)) → KnownBytes image table tree placed depth (m.at + 2) b.at
    bytes_known b among = record {
      d = d.0;
      m = m;
      first = first_there;
      b = b;
      laid = sym (layout_is image d.0.k.has.messages d.0.d d.0.k.has.content_blocks d.0.stored (InBlock (Some b))
          (subst (λ (ms : List Message). layout_among ms ≡ Some (InBlock (Some b))) same_there among));
      here = refl;
      place = refl;
    }

    pub chunks_known : (sizes : List ℕ) (root : ℕ) → layout_among messages ≡ Some (InChunks sizes (Some root))
        → (c : KnownChunks image table tree placed depth (record { sizes = sizes; bytes = cells sizes * t.size }) root) × (c.m ≡ m)
    chunks_known sizes root among =
        let laid : d.0.stored.layout ≡ InChunks sizes (Some root)
        = sym (layout_is image d.0.k.has.messages d.0.d d.0.k.has.content_blocks d.0.stored (InChunks sizes (Some root))
        (subst (λ (ms : List Message). layout_among ms ≡ Some (InChunks sizes (Some root))) same_there among)) in
        let fixed : t ≡ d.0.d.fixed = type_is image d.0.k.has.messages d.0.d d.0.k.has.content_blocks d.0.stored t (subst (λ (ms : List Message). type_among ms ≡ Some t) same_there type) in (
          record {
            d = d.0;
            m = m;
            first = first_there;
            laid = laid;
            size = ap (λ (f : Fixed). cells sizes * f.size) fixed;
            chunks = chunks_there image d.0.k.has.messages d.0.d d.0.k.has.content_blocks d.0.stored t sizes root fixed laid;
          },
          refl,
        )
