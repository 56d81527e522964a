-- The plain layout can hold each object of an opened image (File Format Specification 3.0, sections III and IV.A).
use Rattle.std.proofs.Common.{◌≡◌, inl, inr, ℕ, ◌+◌, ◌≤◌, List, length, Some, sym, ap, ◌∙◌, subst, arith}
use Rattle.std.specs.Ordering.{nat_cmp}
use Rattle.std.specs.FinMap.{FinMap, get}
use Rattle.h5_bytes.specs.declared.Block.{Block}
use Rattle.h5_model.specs.Format.Messages.{most_messages}
use Rattle.h5_model.specs.Format.Reads.{HasObject}
use Rattle.h5_model.specs.Tree.Objects.{Object}
use Rattle.h5_laws.proofs.Objects.{content_cases, has_object, in_table}
use Rattle.h5_laws.proofs.SoundLaws.Read.{placed_at}
use Rattle.h5_query.specs.Opened.Sound.{IsSound}
use Rattle.h5_query.specs.Opened.State.{FileState}
use Rattle.h5_repack.specs.Image.Plain.{IsPlain, IsPlainContent}
use Rattle.h5_repack.specs.Bodies.Bodies.{others_of}
use Rattle.h5_edit.specs.Fits.Laws.{AreBytes, OpenedPlain}
use Rattle.h5_edit.proofs.FitLaws.PlainArrays.{plain_array}
use Rattle.h5_edit.proofs.FitLaws.PlainObjects.{plain_object, others_few, read_bodies, total_few}

-- ---- one object

module _ (image : List ℕ) (low : AreBytes image) (table : FinMap nat_cmp ℕ) (header : ℕ) (o : Object) (blocks : List Block) (has : HasObject image table header o blocks) where
  -- with so few others, beside the messages of its content that are there, the header has 65535 messages at most
  pub plain_content : (n : ℕ) → n + length has.messages ≤ length (others_of o) + most_messages → IsPlainContent n o.content
  plain_content n room =
      let few = others_few image low table header o blocks has in
      elim (content_cases image table has.messages o.content has.content_blocks has.content) [
        | inl (links, e, found, group, zip) ↦
            let once = group.once in
            subst (IsPlainContent n) (sym e) (omega (arith, room, few, once))
        | inr (d, e, array) ↦
            let one_space = array.array.one_space in
            let one_type = array.array.one_type in
            let one_layout = array.array.one_layout in
            subst (IsPlainContent n) (sym e) (
              plain_array image low has.messages (read_bodies image low table header o blocks has) d has.content_blocks array n (omega (arith, room, few)),
              omega (arith, room, few, one_space, one_type, one_layout),
            )
      ]

  -- an object as it was read
  pub plain_read : IsPlain o
  plain_read = record {
    others = plain_object image low table header o blocks has;
    content = plain_content (length (others_of o)) (omega (arith, total_few image low table header o blocks has));
  }

-- ---- all objects

module _ (f : FileState) (sound : IsSound f) (number : ℕ) (o : Object) (there : get f.tree number ≡ Some o) where
  -- where its header stands, and its blocks
  pub record IsRead : Type 0 where
    pub header : ℕ
    pub blocks : List Block
    pub listed : get f.table number ≡ Some header
    pub has : HasObject f.image f.table header o blocks

  pub object_read : IsRead
  object_read =
      let x = placed_at f.image f.table f.tree sound.placed sound.reads number o there in
      record {
        header = x.0.header;
        blocks = x.0.blocks;
        listed = ap (get f.table) (sym x.2) ∙ in_table f.image f.table f.tree sound.placed sound.reads.holds x.0 x.1;
        has = subst (λ (p : Object). HasObject f.image f.table x.0.header p x.0.blocks) x.3 (has_object f.image f.table f.tree sound.placed sound.reads.holds x.0 x.1);
      }

pub opened_plain : OpenedPlain
opened_plain f low sound number o there =
    let r = object_read f sound number o there in
    plain_read f.image low f.table r.header o r.blocks r.has
