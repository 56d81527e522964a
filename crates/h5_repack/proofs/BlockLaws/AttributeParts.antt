-- An attribute's message, as it is written into its room.
use Rattle.std.proofs.Common.{◌≡◌, ℕ, ◌≤◌, List, length, arith}
use Rattle.h5_bytes.specs.Texts.{pad8}
use Rattle.h5_model.specs.Format.Bodies.{attribute_bytes}
use Rattle.h5_model.specs.Format.Plain.{message_bytes}
use Rattle.h5_model.specs.Format.Sizes.{attribute_size}
use Rattle.h5_model.specs.Tree.Objects.{Attribute}
use Rattle.h5_repack.specs.Bodies.Bodies.{attribute_message}
use Rattle.h5_repack.specs.Bodies.Sound.{IsPlainAttribute}
use Rattle.h5_repack.proofs.BodyLaws.HeaderAttributes.{attribute_plain, length-attribute_bytes}

module _ (name : List ℕ) (a : Attribute) (is : IsPlainAttribute (name, a)) where
  abbrev size : ℕ
  size = attribute_size (length name) a.sizes (a.fixed).size

  pub length-body : length (attribute_bytes name a.fixed a.sizes a.values (pad8 size)) ≡ pad8 size
  length-body = length-attribute_bytes name a.sizes a.fixed a.values (pad8 size) is.counted (omega arith)

  -- a message has at most 65544 bytes
  pub length-message : length (message_bytes (attribute_message (name, a))) ≤ 65544
  length-message = omega (arith, (attribute_plain (name, a) is).low)
