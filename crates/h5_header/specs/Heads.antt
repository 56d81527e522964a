-- The head of one message, and the rules that it breaks (File Format Specification 3.0, section IV.A.1.a).
use Rattle.std.specs.Prelude.{◌≡◌, ◌≢◌, ℕ, ◌+◌, ◌%◌, ◌≤◌, ◌==◌, Bool, IsTrue, not, bit_and, List, [], ◌∷◌}
use Rattle.std.specs.List.{list_any}
use Rattle.h5_bytes.specs.Bytes.{byte_at}
use Rattle.h5_model.specs.Format.MessageTypes.{nil_kind, dataspace_kind, datatype_kind, old_fill_value_kind, fill_value_kind, external_files_kind, data_layout_kind, filter_pipeline_kind, attribute_kind, comment_kind, old_modification_time_kind, continuation_kind, symbol_table_kind, modification_time_kind}
use Rattle.h5_model.specs.Format.Reached.{kind_at, size_at}
use Rattle.h5_model.specs.Faults.HeaderFaults.{IsMisfit, is_known, is_new_style}
use Rattle.h5_model.specs.declared.open_fault.Cause.{Cause}
use Rattle.h5_model.specs.declared.open_fault.Cause.TheVariants.{MessageSize, SharedMessage, UnknownMessage, Filtered, ExternalFiles, NewStyleGroup}
use Rattle.h5_header.specs.declared.message.Message.{Message}

-- message types that a group, a dataset or either may have
abbrev pub is_read : ℕ → Bool
is_read kind = list_any (λ k. k == kind) (nil_kind ∷ dataspace_kind ∷ datatype_kind ∷ old_fill_value_kind ∷ fill_value_kind ∷ data_layout_kind
    ∷ attribute_kind ∷ comment_kind ∷ old_modification_time_kind ∷ continuation_kind ∷ symbol_table_kind ∷ modification_time_kind ∷ [])

-- the message whose head begins at this place of the image, in a block that ends at `end`
pub record IsHead (image : List ℕ) (at end : ℕ) (m : Message) : Type 0 where
  pub kind : m.kind ≡ kind_at image at
  pub place : m.at ≡ at + 8
  pub size : m.size ≡ size_at image at
  pub whole : at + 8 + m.size ≤ end
  pub padded : m.size % 8 ≡ 0
  pub own : bit_and (byte_at image (at + 4)) 2 ≡ 0
  pub continued : m.kind ≡ continuation_kind → 16 ≤ m.size
  pub read : IsTrue (is_read m.kind)

-- messages of this type are refused, by this name
abbrev pub KindBreach : ℕ → Cause → Type 0
KindBreach kind UnknownMessage = IsTrue (not (is_known kind))
KindBreach kind Filtered = IsTrue (kind == filter_pipeline_kind)
KindBreach kind ExternalFiles = IsTrue (kind == external_files_kind)
KindBreach kind NewStyleGroup = IsTrue (is_new_style kind)
KindBreach kind _ = ⊥

-- the message whose head begins before the end of its block breaks a rule
abbrev pub HeadBreach : List ℕ → ℕ → ℕ → Cause → Type 0
HeadBreach image at end MessageSize = IsMisfit image at end
HeadBreach image at end SharedMessage = (at + 8 ≤ end) × (bit_and (byte_at image (at + 4)) 2 ≢ 0)
HeadBreach image at end UnknownMessage = (at + 8 ≤ end) × KindBreach (kind_at image at) UnknownMessage
HeadBreach image at end Filtered = (at + 8 ≤ end) × KindBreach (kind_at image at) Filtered
HeadBreach image at end ExternalFiles = (at + 8 ≤ end) × KindBreach (kind_at image at) ExternalFiles
HeadBreach image at end NewStyleGroup = (at + 8 ≤ end) × KindBreach (kind_at image at) NewStyleGroup
HeadBreach image at end _ = ⊥
