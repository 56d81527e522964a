-- What is still to be appended, one message less.
use Rattle.std.proofs.Common.{◌≡◌, ℕ, ◌+◌, ◌<◌, ◌==◌, ◌||◌, List, ◌∷◌, length, drop, get_or, map, refl, sym, ap, ◌∙◌, subst, Bool, true, false, cond}
use Rattle.std.proofs.lemmas.List.{drop_more}
use Rattle.std.specs.List.{AllByRecursion, filter}
use Rattle.h5_model.specs.Format.MessageTypes.{comment_kind, old_modification_time_kind, modification_time_kind}
use Rattle.h5_bytes.specs.Bytes.{part}
use Rattle.h5_header.specs.Listed.{message_in, messages_in}
use Rattle.h5_header.specs.declared.message.Message.{Message as Placed}
use Rattle.h5_model.specs.Format.Reads.{is_kept, kept_of}
use Rattle.h5_repack.specs.Bodies.Sound.{IsPlainKept}
use Rattle.h5_edit.specs.Changed.Appended.{kept_in, kept_messages}

-- ---- kept messages

module _ (image : List ℕ) (list : List Placed) (i : ℕ) (d : Placed) (low : i < length list) where
  abbrev m : Placed
  m = get_or list i d

  here : kept_messages (messages_in image (drop i list)) ≡ kept_messages (messages_in image (m ∷ drop (i + 1) list))
  here = ap (λ ms. kept_messages (messages_in image ms)) (drop_more list i d low)

  pub kept_taken : (body : List ℕ) → body ≡ part m.at m.size image → ((m.kind == comment_kind || m.kind == old_modification_time_kind) || m.kind == modification_time_kind) ≡ true
      → kept_messages (messages_in image (drop i list)) ≡ (m.kind, body) ∷ kept_messages (messages_in image (drop (i + 1) list))
  kept_taken body is kept = here ∙ rw kept (ap (λ b. (m.kind, b) ∷ kept_messages (messages_in image (drop (i + 1) list))) (sym is))

  pub kept_passed : ((m.kind == comment_kind || m.kind == old_modification_time_kind) || m.kind == modification_time_kind) ≡ false
      → kept_messages (messages_in image (drop i list)) ≡ kept_messages (messages_in image (drop (i + 1) list))
  kept_passed other = here ∙ rw other refl

  pub kept_plain : AllByRecursion IsPlainKept (kept_in (messages_in image (drop i list))) → AllByRecursion IsPlainKept (kept_in (messages_in image (drop (i + 1) list)))
  kept_plain all = by_kind ((m.kind == comment_kind || m.kind == old_modification_time_kind) || m.kind == modification_time_kind)
      (subst (λ ms. AllByRecursion IsPlainKept (kept_in (messages_in image ms))) (drop_more list i d low) all) where
        by_kind : (b : Bool) → AllByRecursion IsPlainKept (map kept_of (cond b (message_in image m ∷ filter is_kept (messages_in image (drop (i + 1) list)))
            (filter is_kept (messages_in image (drop (i + 1) list)))))
            → AllByRecursion IsPlainKept (kept_in (messages_in image (drop (i + 1) list)))
        by_kind true h = h.1
        by_kind false h = h
