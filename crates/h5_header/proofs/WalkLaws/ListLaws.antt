-- A rule that the messages of a header break is a breach at the header.
use Rattle.std.proofs.Common.{◌≡◌, ℕ, ◌+◌, ◌≤◌, inl, inr, List, ◌∷◌, length, refl, subst, arith}
use Rattle.h5_bytes.specs.Blocks.{block, Inside}
use Rattle.h5_bytes.specs.declared.Block.{Block}
use Rattle.h5_model.specs.Format.MessageTypes.{symbol_table_kind}
use Rattle.h5_model.specs.Format.Messages.{Message, HasMessages, count_of, continuations, prefix_at, first_size}
use Rattle.h5_model.specs.Format.Reached.{Named, naming_of, ObjectHeader, Reached, AllMessages}
use Rattle.h5_model.specs.Faults.HeaderFaults.{ListBreach}
use Rattle.h5_model.specs.declared.open_fault.Cause.{Cause}
use Rattle.h5_model.specs.declared.open_fault.Cause.TheVariants.{MessageCount, MissingMessage, DuplicateMessage, DataspaceForm, DatatypeForm, FillForm, LayoutForm, AttributeForm, HeapForm, TooLarge}
use Rattle.h5_header.specs.Walk.Walked.{Breaches}

module _ (image : List ℕ) (header : ℕ) (ms : List Message) (blocks : List Block) (has : HasMessages image header ms blocks) (inside : Inside (length image) blocks) where
  laid : Inside (length image) (block header (16 + first_size (prefix_at image header)) ∷ continuations ms)
  laid = subst (Inside (length image)) has.laid inside

  pub prefix_there : header + 16 ≤ length image
  prefix_there = omega (arith, laid.0)

  pub all_messages : AllMessages image header ms
  all_messages = (has.parts, has.filled, has.all, (omega (arith, laid.0), laid.1))

  module _ (field depth : ℕ) (reached : Reached image (naming_of field ObjectHeader header depth)) where
    abbrev x : Named
    x = naming_of field ObjectHeader header depth

    pub list_refused : (cause : Cause) → ListBreach image header ms cause → Breaches image cause header
    list_refused MessageCount h = (x, reached, refl, (prefix_there, (ms, all_messages, h)))
    list_refused MissingMessage h = (x, reached, refl, (prefix_there, inr (ms, all_messages, h)))
    list_refused DuplicateMessage h = (x, reached, refl, (prefix_there, (ms, all_messages, h)))
    list_refused DataspaceForm h = (x, reached, refl, (prefix_there, (ms, all_messages, h)))
    list_refused DatatypeForm h = (x, reached, refl, (prefix_there, (ms, all_messages, h)))
    list_refused FillForm h = (x, reached, refl, (prefix_there, (ms, all_messages, h)))
    list_refused LayoutForm h = (x, reached, refl, (prefix_there, (ms, all_messages, h)))
    list_refused AttributeForm h = (x, reached, refl, (prefix_there, (ms, all_messages, h)))
    list_refused HeapForm h = (x, reached, refl, (prefix_there, (ms, all_messages, h)))
    list_refused TooLarge h = (x, reached, refl, (prefix_there, inr (ms, all_messages, h)))
    list_refused _ h = absurd h

  -- the root's header has no Symbol Table
  pub no_root_refused : (field : ℕ) → Reached image (naming_of field ObjectHeader header 0) → count_of symbol_table_kind ms ≡ 0 → Breaches image MissingMessage header
  no_root_refused field reached none = (naming_of field ObjectHeader header 0, reached, refl, (prefix_there, inl (refl, refl, (ms, all_messages, none))))
