-- Why the bodies of messages, or the data of an array, are refused; and the field of the data.
use Rattle.std.proofs.Common.{◌≡◌, ℕ, ◌+◌, ◌<◌, ◌≤◌, List, length, refl, sym, ◌∙◌, ap, subst, Some, None, arith}
use Rattle.std.specs.Prelude.{◌==◌}
use Rattle.std.specs.List.{find}
use Rattle.h5_bytes.specs.Blocks.{cover, Separate, Inside}
use Rattle.h5_bytes.specs.declared.Block.{Block}
use Rattle.h5_model.specs.Format.MessageTypes.{data_layout_kind}
use Rattle.h5_model.specs.Format.Messages.{Message, HasMessages}
use Rattle.h5_model.specs.Format.Extent.{Extent}
use Rattle.h5_model.specs.Format.Layout.{Layout, InMessage, InBlock, InChunks}
use Rattle.h5_model.specs.Format.Reached.{Named, naming_of, Data, length_of, layout_among}
use Rattle.h5_model.specs.Format.Described.{Described, HasArray}
use Rattle.h5_model.specs.Faults.HeaderFaults.{ListBreach}
use Rattle.h5_model.specs.declared.open_fault.Cause.{Cause}
use Rattle.h5_model.specs.declared.open_fault.Cause.TheVariants.{NoMemory, Truncated, Overlap}
use Rattle.h5_header.specs.Progress.{ClaimBreach}
use Rattle.h5_header.specs.Listed.{Listed, messages_in}
use Rattle.h5_chunks.specs.Walk.Followed.{IsTreeMet}
use Rattle.h5_chunks.specs.Walk.Forms.{OfChunks}
use Rattle.h5_layout.specs.Data.{chunk_shape}
use Rattle.h5_layout.specs.Told.{array_told, layout_told, type_told}
use Rattle.h5_layout.proofs.ToldLaws.{laid_out}
use Rattle.h5_header.specs.Walk.Met.{IsMet, IsHeaderMet, with_header}
use Rattle.h5_header.proofs.WalkLaws.ListLaws.{list_refused}
use Rattle.h5_header.proofs.WalkLaws.DataLaws.{data_length, data_reached, data_inside}
use Rattle.h5_header.proofs.WalkLaws.MetFields.{met_truncated, met_overlaps}
use Rattle.h5_header.proofs.WalkLaws.MetHeader.{met_walked, message_met}
use Rattle.h5_open.specs.Followed.{IsDataFault}
use Rattle.h5_open.specs.Opened.Refused.{IsOpenRefusedAt}
use Rattle.h5_open.specs.Opened.Judged.{IsBodiesBreach, IsArrayList}
use Rattle.h5_open.proofs.ChunkRoot.{root_inside, root_reached}
use Rattle.h5_open.proofs.FoundLaws.{counted_found}
use Rattle.h5_open.proofs.RefusedLaws.{as_refused}

module _ (image : List ℕ) (header : ℕ) (ms : List Message) (blocks : List Block) (has : HasMessages image header ms blocks) (inside : Inside (length image) blocks) where
  module _ (held : List Block) (followed : List Named) (field depth : ℕ) (met : IsHeaderMet image held followed field header depth) where
    pub list_breach : (cause : Cause) → ListBreach image header ms cause → IsOpenRefusedAt image cause header
    list_breach cause h = as_refused image cause header (λ some. list_refused image header ms blocks has inside field depth (met.met).reached cause h)

    by_cause : (cause c : Cause) → cause ≡ c → IsBodiesBreach image header ms c → IsOpenRefusedAt image c header
    by_cause cause NoMemory e h = tt
    by_cause cause _ e h = subst (λ (c : Cause). IsOpenRefusedAt image c header) e (list_breach cause (subst (λ (c : Cause). ListBreach image header ms c) (sym e) h))

    pub bodies_refused : (cause : Cause) → IsBodiesBreach image header ms cause → IsOpenRefusedAt image cause header
    bodies_refused cause h = by_cause cause cause refl h

    -- ---- the data of an array are claimed behind its header

    module _ (now : List Block) (claimed : (p : ℕ) → cover p now ≡ cover p held + cover p blocks) (separate : Separate now) (a : Described) (array : HasArray ms a) where
      pub first : (m : Message) × (find (λ (x : Message). x.kind == data_layout_kind) ms ≡ Some m)
      first = let one = array.one_layout in counted_found 8 ms (omega (arith, one))

      abbrev pub extent : Extent
      extent = record { sizes = a.sizes; maxima = a.maxima }

      layout : (l : Layout) → a.layout ≡ l → layout_among ms ≡ Some l
      layout l is = laid_out ms a array ∙ ap (λ (x : Layout). Some x) is

      -- the block of the cells cannot be claimed
      module _ (b : Block) (stored : a.layout ≡ InBlock (Some b)) where
        abbrev pub y : Named
        y = naming_of (first.0.at + 2) Data b.at depth

        there : (first.0.at ≤ first.0.at + 2) × (first.0.at + 2 < first.0.at + 8 + length first.0.body) × (8 ≤ first.0.at)
        there = data_inside image header ms blocks has inside first.0 first.1 a.fixed extent b array.space array.type (layout (InBlock (Some b)) stored)

        pub y_met : IsMet image now (with_header field header depth ms followed) y
        y_met =
            message_met image held followed field header depth met ms blocks has now claimed separate 8 first.0 refl first.1 (first.0.at + 2) there.0 there.1 y refl
            (data_reached image header ms blocks has inside first.0 first.1 a.fixed extent b array.space array.type (layout (InBlock (Some b)) stored) field depth (met.met).reached)

        pub y_inside : first.0.at + 2 < first.0.at + 8 + length first.0.body
        y_inside = there.1

        pub y_length : length_of image y ≡ b.len
        y_length = data_length image header ms blocks has inside first.0 first.1 a.fixed extent b array.space array.type (layout (InBlock (Some b)) stored) depth

        pub block_refused : (cause : Cause) (address : ℕ) → ClaimBreach (length image) now b cause address → IsOpenRefusedAt image cause address
        block_refused NoMemory address h = tt
        block_refused Truncated address h = met_truncated image now (with_header field header depth ms followed) (met_walked image held followed field header depth met ms blocks has now claimed) y y_met refl address h.0 (rw y_length h.1)
        block_refused Overlap address h = met_overlaps image now (with_header field header depth ms followed) (met_walked image held followed field header depth met ms blocks has now claimed) y y_met refl address h.0 (rw y_length h.1)
        block_refused _ address h = absurd h

      -- or the tree of the chunks is refused
      module _ (sizes : List ℕ) (root : ℕ) (stored : a.layout ≡ InChunks sizes (Some root)) where
        pub root_there : first.0.at + 3 < first.0.at + 8 + length first.0.body
        root_there = root_inside image header ms blocks has inside first.0 first.1 a.fixed extent sizes root array.space array.type (layout (InChunks sizes (Some root)) stored)

        pub chunks_met : IsTreeMet image (OfChunks (chunk_shape a.fixed sizes)) now (with_header field header depth ms followed) (first.0.at + 3) root 0 depth
        chunks_met = record {
          walked = met_walked image held followed field header depth met ms blocks has now claimed;
          met = message_met image held followed field header depth met ms blocks has now claimed separate 8 first.0 refl first.1 (first.0.at + 3) (omega arith) root_there _ refl
              (root_reached image header ms blocks has inside first.0 first.1 a.fixed extent sizes root array.space array.type (layout (InChunks sizes (Some root)) stored) field depth
              (met.met).reached);
        }

      pub data_refused : (l : Layout) → a.layout ≡ l → (cause : Cause) (address : ℕ) → IsDataFault image now a.fixed l cause address → IsOpenRefusedAt image cause address
      data_refused (InMessage bytes) is cause address h = absurd h
      data_refused (InBlock None) is cause address h = absurd h
      data_refused (InBlock (Some b)) is cause address h = block_refused b is cause address h
      data_refused (InChunks sizes None) is cause address h = absurd h
      data_refused (InChunks sizes (Some root)) is cause address h = h (with_header field header depth ms followed) (first.0.at + 3) 0 depth (chunks_met sizes root is)

-- the same, of a fault at the messages' own header
module _ (image : List ℕ) (m : Listed) (has : HasMessages image m.header (messages_in image m.list) m.blocks) (inside : Inside (length image) m.blocks)
    (held : List Block) (followed : List Named) (field depth : ℕ) (met : IsHeaderMet image held followed field m.header depth) where
  pub bodies_fault : (cause : Cause) (address : ℕ) → address ≡ m.header → IsBodiesBreach image m.header (messages_in image m.list) cause → IsOpenRefusedAt image cause address
  bodies_fault cause address at h = subst (IsOpenRefusedAt image cause) (sym at) (bodies_refused image m.header (messages_in image m.list) m.blocks has inside held followed field depth met cause h)

  pub data_fault : (now : List Block) → ((p : ℕ) → cover p now ≡ cover p held + cover p m.blocks) → Separate now → IsArrayList (messages_in image m.list)
      → (cause : Cause) (address : ℕ) → IsDataFault image now (type_told (messages_in image m.list)) (layout_told (messages_in image m.list)) cause address
      → IsOpenRefusedAt image cause address
  data_fault now claimed separate list cause address h =
      data_refused image m.header (messages_in image m.list) m.blocks has inside held followed field depth met now claimed separate (array_told (messages_in image m.list)) list.array
      (layout_told (messages_in image m.list)) refl cause address h
