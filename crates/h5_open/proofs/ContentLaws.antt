-- An object in a walk, when its header and what it is were read: the fields that were followed.
use Rattle.std.proofs.Common.{◌≡◌, inl, ℕ, ◌+◌, ◌-◌, ◌<◌, ◌≤◌, List, ◌++◌, length, refl, sym, subst, append_assoc, Some, arith, Bool}
use Rattle.std.specs.Prelude.{◌==◌, true}
use Rattle.std.specs.List.{AllByRecursion, find}
use Rattle.h5_bytes.specs.Blocks.{holds, cover, Separate}
use Rattle.h5_bytes.specs.declared.Block.{Block}
use Rattle.h5_bytes.proofs.BlockLaws.{all_append, holds_in}
use Rattle.h5_model.specs.Faults.Breaches.{is_header}
use Rattle.h5_model.specs.Format.Messages.{Message, HasMessages}
use Rattle.h5_model.specs.Format.Reached.{Named, naming_of, ObjectHeader}
use Rattle.h5_laws.proofs.Lists.{contains_in, in_right}
use Rattle.h5_header.specs.Listed.{Listed, messages_in}
use Rattle.h5_header.specs.Walk.Met.{with_header}
use Rattle.h5_header.specs.Walk.Walked.{IsWalked}
use Rattle.h5_header.proofs.WalkLaws.MessagePlaces.{messages_placed}
use Rattle.h5_header.proofs.WalkLaws.SpanLaws.{header_spans, all_low, found_covers}
use Rattle.h5_header.proofs.WalkLaws.DataLaws.{found_all}
use Rattle.h5_open.specs.declared.opened.object.OpenedContent.{OpenedContent}
use Rattle.h5_open.specs.Opened.Objects.{content_links}
use Rattle.h5_open.specs.Read.{IsHeaderDone, IsObjectFollowed, IsOwn, AreWaiting}
use Rattle.h5_open.proofs.HeaderFields.{header_fields, fields_only, fields_stand}

-- a place inside the first message of a type was not claimed before
pub message_free : (image : List ℕ) (header : ℕ) (ms : List Message) (blocks : List Block) → HasMessages image header ms blocks → (held now : List Block)
    → ((p : ℕ) → cover p now ≡ cover p held + cover p blocks) → Separate now → (k : ℕ) (m : Message) → find (λ (x : Message). x.kind == k) ms ≡ Some m
    → (f : ℕ) → m.at ≤ f → f < m.at + 8 + length m.body → cover (f - 8) held ≡ 0
message_free image header ms blocks has held now claimed separate k m first f from to =
    let least : 8 ≤ m.at = found_all (λ (x : Message). 8 ≤ x.at) k ms m (all_low image header ms (messages_placed image header ms blocks has)) first in
    let hit : holds (f - 8) (m.at - 8) (8 + length m.body) ≡ 1 = holds_in (f - 8) (m.at - 8) (8 + length m.body) (omega (arith, from, least)) (omega (arith, from, to, least)) in
    omega (arith, hit, found_covers header 0 f k (f - 8) ms m first, header_spans image header ms blocks has (f - 8), claimed (f - 8), separate (f - 8))

module _ (image : List ℕ) (held now : List Block) (followed : List Named) (field depth : ℕ) (m : Listed) (done : IsHeaderDone image held now followed field depth m) (separate : Separate now) where
  abbrev ms : List Message
  ms = messages_in image m.list

  abbrev behind : List Named
  behind = header_fields field m.header depth ms

  abbrev own_header : Named
  own_header = naming_of field ObjectHeader m.header depth

  -- fields were followed behind those of the header, and the links wait
  pub content_followed : (after : List Block) (c : OpenedContent) (tidy : Bool) (new : List Named) → IsWalked image after (new ++ with_header field m.header depth ms followed)
      → AllByRecursion (IsOwn held field) new → AllByRecursion (λ (y : Named). is_header y.role ≡ true → y.at ≡ m.header) new
      → (fields : List ℕ) → AreWaiting image held after (new ++ with_header field m.header depth ms followed) depth (content_links image c) fields
      → IsObjectFollowed image held after followed field depth (record { messages = m; content = c; tidy = tidy })
  content_followed after c tidy new walked stands only fields waiting =
      let seam : (new ++ behind) ++ followed ≡ new ++ with_header field m.header depth ms followed = append_assoc new behind followed in
      record {
        new = new ++ behind;
        walked = subst (IsWalked image after) (sym seam) walked;
        stands = all_append (IsOwn held field) new behind stands (fields_stand image m.header ms m.blocks (done.read).has held now done.claimed separate field depth);
        only = all_append (λ (y : Named). is_header y.role ≡ true → y.at ≡ m.header) new behind only (fields_only field m.header depth ms);
        first = contains_in own_header (new ++ behind) (in_right own_header new behind (inl refl));
        fields = fields;
        waiting = subst (λ (ys : List Named). AreWaiting image held after ys depth (content_links image c) fields) (sym seam) waiting;
      }
