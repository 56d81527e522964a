-- The arrays of an opened image, as the messages of their headers describe them.
use Rattle.std.proofs.Common.{◌≡◌, ℕ, List, Option, Some, None, sym, ap, ◌∙◌, subst, refl}
use Rattle.std.proofs.lemmas.Option.{same_Some}
use Rattle.std.specs.FinMap.{get}
use Rattle.std.specs.Option.{option_and_then}
use Rattle.h5_model.specs.Format.Messages.{Message, HasMessages}
use Rattle.h5_model.specs.Format.Reads.{HasContent}
use Rattle.h5_model.specs.Format.Described.{Described, HasArray, described_dataset}
use Rattle.h5_model.specs.Tree.Objects.{Object, Content, Group, Array, Dataset, dataset_in, dataset_of}
use Rattle.h5_model.proofs.OneReading.{one_messages}
use Rattle.h5_model.proofs.DescribedLaws.{dataset_in-in_header, in_header, one_array}
use Rattle.h5_query.specs.Opened.Sound.{IsSound}
use Rattle.h5_query.specs.Opened.State.{FileState}
use Rattle.h5_query.specs.Written.{IsArrayThere}
use Rattle.h5_query.proofs.DataLaws.{told_chunks}
use Rattle.h5_edit.proofs.FitLaws.OpenedTrees.{IsRead, object_read}

-- an array is described in one way
pub one_there : (f : FileState) (number : ℕ) (a b : Described) → IsArrayThere f number a → IsArrayThere f number b → a ≡ b
one_there f number a b one other =
    let here : one.header ≡ other.header = same_Some one.header other.header (sym one.at ∙ other.at) in
    let same : one.messages ≡ other.messages
    = one_messages f.image other.header one.messages other.messages one.blocks other.blocks
    (subst (λ (h : ℕ). HasMessages f.image h one.messages one.blocks) here one.listed) other.listed in
    one_array other.messages a b (subst (λ (ms : List Message). HasArray ms a) same one.described) other.described

-- and each array of a sound image is described
module _ (f : FileState) (sound : IsSound f) (number : ℕ) (d : Dataset) where
  by_content : (o : Object) (there : get f.tree number ≡ Some o) (r : IsRead f sound number o there) (c : Content) → dataset_in c ≡ Some d → dataset_of f.tree number ≡ Some d
      → HasContent f.image f.table r.has.messages c r.has.content_blocks → (a : Described) × IsArrayThere f number a
  by_content o there r (Group links) is array has = absurd (let never : None ≡ Some d = is in cc)
  by_content o there r (Array e) is array has =
      let a = in_header f.image r.has.messages e r.has.content_blocks has in
      let chunks = told_chunks f.image a.fixed a.layout has.chunks r.has.content_blocks has.stored in
      let told = sym (dataset_in-in_header f.image r.has.messages e r.has.content_blocks has) ∙ ap (described_dataset f.image a) chunks in (
        a,
        record {
          header = r.header;
          at = r.listed;
          messages = r.has.messages;
          blocks = r.has.header_blocks;
          listed = r.has.listed;
          described = has.array;
          told = array ∙ sym is ∙ ap (λ (x : Dataset). Some x) told;
        },
      )

  pub array_there : dataset_of f.tree number ≡ Some d → (a : Described) × IsArrayThere f number a
  array_there array = go (get f.tree number) refl where
    go : (found : Option Object) → get f.tree number ≡ found → (a : Described) × IsArrayThere f number a
    go None none = absurd (let never : None ≡ Some d = sym (ap (option_and_then (λ (x : Object). dataset_in x.content)) none) ∙ array in cc)
    go (Some o) there =
        let r = object_read f sound number o there in
        by_content o there r o.content (sym (ap (option_and_then (λ (x : Object). dataset_in x.content)) there) ∙ array) array r.has.content
