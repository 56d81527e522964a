-- What was appended is what stands behind an object's content.
use Rattle.std.proofs.Common.{◌≡◌, ◌+◌, ◌≤◌, List, [], ◌++◌, length, sym, ap, ◌∙◌, subst, arith, length-append}
use Rattle.std.proofs.lemmas.List.{length-map}
use Rattle.std.specs.FinMap.{empty, entries}
use Rattle.h5_model.specs.Format.Messages.{Message, most_messages}
use Rattle.h5_model.specs.Tree.Objects.{Content, Group}
use Rattle.h5_query.specs.Attributes.{attributes_of}
use Rattle.h5_query.specs.Opened.Headers.{object_with}
use Rattle.h5_repack.specs.Bodies.Bodies.{attribute_message, others_of}
use Rattle.h5_repack.specs.Blocks.Others.{OthersBytes}
use Rattle.h5_repack.specs.Blocks.Written.{AreOthers}
use Rattle.h5_edit.specs.Changed.Appended.{Appends, HasPlaces, NamedAttributes, attribute_messages, kept_messages}

module _ (o after : OthersBytes) (ms : List Message) (list : NamedAttributes) (none : AreOthers [] o) (kept : Appends o after (kept_messages ms))
    (sorted : list ≡ entries (attributes_of ms)) where
  -- there are places for the attributes
  pub places_for : length (others_of (object_with (Group empty) ms)) ≤ most_messages → HasPlaces after (length list)
  places_for few =
      let split : length (others_of (object_with (Group empty) ms)) ≡ length (kept_messages ms) + length (attribute_messages (entries (attributes_of ms)))
      = length-append (kept_messages ms) (attribute_messages (entries (attributes_of ms))) in
      let long : length (attribute_messages (entries (attributes_of ms))) ≡ length list
      = length-map (entries (attributes_of ms)) attribute_message ∙ ap length (sym sorted) in
      record { begun = kept_messages ms; are = kept [] none; few = omega (arith, few, split, long) }

  -- what stands behind the content is what was appended
  pub others_are : (done : OthersBytes) (content : Content) → Appends after done (attribute_messages list) → AreOthers (others_of (object_with content ms)) done
  others_are done content appended = subst (λ es. AreOthers (kept_messages ms ++ attribute_messages es) done) sorted (appended (kept_messages ms) (kept [] none))
