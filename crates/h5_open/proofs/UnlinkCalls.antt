-- A link that is to be taken out of a group of an opened image: what is known of the group and of what goes with it before, and what is opened
-- after.
use Rattle.std.proofs.Common.{◌≡◌, inl, inr, ℕ, ◌+◌, ◌≤◌, Bool, true, List, [], ◌∷◌, length, refl, sym, ap, ◌∙◌, subst, arith, Option, Some}
use Rattle.std.specs.Prelude.{slice_get}
use Rattle.std.specs.BTreeMap.{BTreeMap}
use Rattle.std.specs.List.{Contains}
use Rattle.h5_bytes.specs.Blocks.{cover}
use Rattle.h5_bytes.specs.declared.Block.{Block}
use Rattle.h5_model.specs.Format.Limits.{most_names}
use Rattle.h5_model.specs.Format.Addresses.{SymbolTable}
use Rattle.h5_model.specs.Format.Symbols.{Target}
use Rattle.h5_model.specs.Tree.Objects.{Tree, Link, Soft, ToObject, follow, object_of, within_names}
use Rattle.h5_space.specs.Space.{Space}
use Rattle.h5_space.specs.Whole.{IsApart}
use Rattle.h5_header.specs.Listed.{messages_in}
use Rattle.h5_group.specs.Exact.{HasExactKeys}
use Rattle.h5_group.specs.Told.{links_told}
use Rattle.h5_laws.specs.Trees.Unlinked.{IsTreeLeft, tree_left}
use Rattle.h5_laws.proofs.Lists.{In, contains_in, in_contains, in_either, in_flat}
use Rattle.h5_laws.proofs.SoundLaws.Left.{left_is}
use Rattle.h5_laws.proofs.SoundLaws.LinksThere.{holds_links}
use Rattle.h5_open.specs.declared.opened.object.OpenedObject.{OpenedObject}
use Rattle.h5_open.specs.ChangedInPlace.{IsChangedInPlace, is_among}
use Rattle.h5_open.specs.LinkAdded.{IsGroupSlot}
use Rattle.h5_open.specs.LinkTaken.{AreCountsLowered, AreHeadersStanding, IsLinkTaken, IsLinkTo, lowered_blocks, touched_below}
use Rattle.h5_open.specs.Losses.{AreLosses}
use Rattle.h5_open.specs.Opened.Kept.{IsContentTidy, IsOpened}
use Rattle.h5_open.specs.Opened.Objects.{tree_of}
use Rattle.h5_open.specs.Opened.State.{FileState, opened_state}
use Rattle.h5_open.proofs.Among.{among_in, in_among}
use Rattle.h5_open.proofs.ChangedThen.{changed_wider}
use Rattle.h5_open.proofs.GroupUnlinked.{told_link}
use Rattle.h5_open.proofs.LinkSlots.{group_slot}
use Rattle.h5_open.proofs.LossesTaken as taking
use Rattle.h5_open.proofs.LossesTaken.{numbers_less, touched_numbers}
use Rattle.h5_open.proofs.OpenedLaws.Sounds.{object_of as kept_of, sound_tree}
use Rattle.h5_open.proofs.UnlinkInPlace.{IsUnlinkDone, unlinked_changed, unlinked_opened}

module _ (image : Space) (slots : List (Option OpenedObject)) (numbers : BTreeMap ℕ ℕ) (opened : IsOpened image slots numbers) (f : FileState) (view : opened_state image slots ≡ f)
    (parent : ℕ) (name : List ℕ) (object : Option ℕ) (may : IsLinkTo f.tree parent name object) where
  abbrev tree : Tree
  tree = tree_of image.bytes slots

  pub here : IsLinkTo tree parent name object
  here = subst (λ (g : FileState). IsLinkTo g.tree parent name object) (sym view) may

  -- the group
  pub parent_slot : (t : SymbolTable) × IsGroupSlot slots parent t
  parent_slot = group_slot image.bytes slots parent (holds_links tree parent name here.link here.stands)

  -- What the call ensures, where this is opened then.
  abbrev pub IsUnlinked : Space → List (Option OpenedObject) → Type 0
  IsUnlinked new slots' = IsChangedInPlace f (opened_state new slots') (tree_left f.tree parent name) f.next (touched_below f.tree parent object) 0

  module _ (t : SymbolTable) (slot : IsGroupSlot slots parent t) where
    -- the group has the link
    pub unlink_there : (target : Target) × Contains (links_told image.bytes t) (name, target)
    unlink_there = let told = told_link image slots numbers opened parent slot.0 t slot.1 slot.2 name here.link here.stands in (told.0, told.1)

    -- its keys are exact, where that is known
    pub unlink_exact : (lent : List (Option OpenedObject)) (tidy : Bool) → lent ≡ slots
        → ((p : OpenedObject) → slice_get lent parent ≡ Some (Some p) → tidy ≡ p.tidy) → tidy ≡ true → HasExactKeys image.bytes t
    unlink_exact lent tidy same told known =
        let p : OpenedObject = slot.0 in
        let kept = (kept_of image slots numbers opened parent p slot.1).kept in
        subst (IsContentTidy image.bytes (messages_in image.bytes p.messages.list)) slot.2
        (kept.tidy (sym (told p (subst (λ (ss : List (Option OpenedObject)). slice_get ss parent ≡ Some (Some p)) (sym same) slot.1)) ∙ known))

    -- ---- what goes with it

    module _ (gone : List ℕ) (less : List (ℕ × ℕ)) (held : List Block) (lost : (link : Link) → object ≡ object_of link → AreLosses image.bytes slots link gone less held) where
      losses : AreLosses image.bytes slots here.link gone less held
      losses = lost here.link here.leads

      left : IsTreeLeft tree parent name here.link losses.numbers
      left = left_is tree parent name here.link losses.numbers (sound_tree image slots numbers opened) here.stands losses.reached

      pub goes_there : (n : ℕ) → Contains gone n → (o : OpenedObject) × (slice_get slots n ≡ Some (Some o))
      goes_there = taking.gone_slot image slots numbers opened parent slot.0 t slot.1 slot.2 name here.link gone less held losses left

      -- the number of each object to which paths lead from the link is below where it leads
      below : (l : Link) → here.link ≡ l → (q : ℕ) → Contains losses.numbers q → In q (touched_below tree parent (object_of l))
      below (ToObject m) is q among = inr (in_flat (within_names tree most_names) m q (m ∷ []) (inl refl) (in_contains q (within_names tree most_names m) (left.within m q is among)))
      below (Soft text) is q among =
          let led = losses.reached.led q among in
          absurd (nowhere led.0 (ap (λ (l : Link). follow tree l led.0) (sym is) ∙ led.1)) where
            nowhere : (path : List (List ℕ)) → follow tree (Soft text) path ≡ Some (ToObject q) → ⊥
            nowhere [] never = cc
            nowhere (x ∷ path) never = cc

      wider : (q : ℕ) → is_among (touched_numbers parent gone less) q ≡ true → is_among (touched_below tree parent object) q ≡ true
      wider q mine = in_among (touched_below tree parent object) q (elim (among_in (touched_numbers parent gone less) q mine) [
        | inl is ↦ inl is
        | inr among ↦ elim (in_either q gone (numbers_less less) among) [
          | inl goes ↦ lies q (losses.goes q (contains_in q gone goes)).0
          | inr stays ↦
              let one = taking.less_left image slots numbers opened parent slot.0 t slot.1 slot.2 name here.link gone less held losses left q stays in
              lies q (losses.stays q one.0 one.1).0
        ]
      ]) where
        lies : (k : ℕ) → Contains losses.numbers k → In k (touched_below tree parent object)
        lies k among = subst (λ (o : Option ℕ). In k (touched_below tree parent o)) (sym here.leads) (below here.link refl k among)

      module _ (mid : Space) (taken : IsLinkTaken image mid t name) where
        pub lower_apart : IsApart (lowered_blocks slots less) mid.free (length mid.bytes)
        lower_apart = taking.lower_apart image slots numbers opened parent slot.0 t slot.1 slot.2 name here.link gone less held losses left mid taken

        pub lower_standing : AreHeadersStanding mid.bytes slots less
        lower_standing = taking.lower_standing image slots numbers opened parent slot.0 t slot.1 slot.2 name here.link gone less held losses left mid taken

        module _ (low : Space) where
          pub not_free : AreCountsLowered mid low slots less → (q : ℕ) → cover q low.free + cover q held ≤ 1
          not_free = taking.not_free image slots numbers opened parent slot.0 t slot.1 slot.2 name here.link gone less held losses left mid taken low

          module _ (new : Space) (slots' : List (Option OpenedObject)) (numbers' : BTreeMap ℕ ℕ) (done : IsUnlinkDone mid low new slots slots' numbers' gone less held) where
            pub gone_opened : IsOpened new slots' numbers'
            gone_opened = unlinked_opened image slots numbers opened parent slot.0 t slot.1 slot.2 name here.link here.stands gone less held losses left mid taken low new slots' numbers' done

            pub gone_changed : IsUnlinked new slots'
            gone_changed =
                subst (λ (g : FileState). IsChangedInPlace g (opened_state new slots') (tree_left g.tree parent name) g.next (touched_below g.tree parent object) 0) view
                (changed_wider (opened_state image slots) (opened_state new slots') (tree_left tree parent name) (length slots) (touched_numbers parent gone less)
                (touched_below tree parent object) 0 0 wider (omega arith)
                (unlinked_changed image slots numbers opened parent slot.0 t slot.1 slot.2 name here.link here.stands gone less held losses left mid taken low new slots' numbers' done))
