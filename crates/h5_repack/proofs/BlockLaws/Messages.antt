-- Messages of a header, as they are appended one behind another.
use Rattle.std.proofs.Common.{◌≡◌, ℕ, ◌+◌, ◌*◌, ◌≤◌, List, [], ◌∷◌, ◌++◌, length, ap, ◌∙◌, sym, arith, append-nil, length-append}
use Rattle.std.proofs.lemmas.Grind.{flat_map-append}
use Rattle.h5_model.specs.Format.Plain.{message_bytes, messages_bytes}
use Rattle.h5_repack.specs.Blocks.Others.{OthersBytes}
use Rattle.h5_repack.specs.Blocks.Written.{AreOthers}

pub messages_bytes-append : (ms ns : List (ℕ × List ℕ)) → messages_bytes (ms ++ ns) ≡ messages_bytes ms ++ messages_bytes ns
messages_bytes-append ms ns = flat_map-append message_bytes ms ns

-- one more message
pub one_more : (ms : List (ℕ × List ℕ)) (m : ℕ × List ℕ) (old new : OthersBytes) → new.bytes ≡ old.bytes ++ message_bytes m → new.count ≡ old.count + 1
    → AreOthers ms old → AreOthers (ms ++ m ∷ []) new
one_more ms m old new longer counted are = record {
  bytes_are = longer ∙ (λ i. are.bytes_are i ++ sym (append-nil (message_bytes m)) i) ∙ sym (messages_bytes-append ms (m ∷ []));
  count_is = omega (arith, counted, are.count_is, length-append ms (m ∷ []));
}

-- there is room for it
pub room_more : (bytes new message : List ℕ) (count : ℕ) → length bytes ≤ count * 65544 → new ≡ bytes ++ message → length message ≤ 65544
    → length new ≤ (count + 1) * 65544
room_more bytes new message count few longer low = omega (arith, few, low, ap length longer ∙ length-append bytes message)
