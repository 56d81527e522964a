-- The hard links that lead to an array are those that its header counts.
use Rattle.std.proofs.Common.{◌≡◌, ◌≢◌, ℕ, ◌+◌, ◌≤◌, ◌<◌, List, length, refl, sym, ap, ◌∙◌, subst, true, false, Some, None, arith}
use Rattle.std.specs.Prelude.{◌==◌, nat_le, if◌then◌else◌}
use Rattle.std.specs.FinMap.{entries}
use Rattle.std.proofs.lemmas.Bool.Decides.{nat_tests}
use Rattle.h5_model.specs.Format.Limits.{most_hard_links}
use Rattle.h5_model.specs.Format.Messages.{prefix_at, reference_count}
use Rattle.h5_model.specs.Format.Reads.{Placed, IsCounted}
use Rattle.h5_model.specs.Edits.Refusal.{first_holding}
use Rattle.h5_model.specs.Tree.Objects.{Tree, links_of, hard_links}
use Rattle.h5_model.specs.declared.edit_fault.EditFault.TheVariants as fault
use Rattle.h5_laws.proofs.Lists.{In, in_all, from_map}
use Rattle.h5_laws.proofs.Maps.{entry_of_get}
use Rattle.h5_header.specs.Listed.{messages_in}
use Rattle.h5_header.proofs.WalkLaws.ListLaws.{prefix_there}
use Rattle.h5_model.specs.Format.Addresses.{SymbolTable}
use Rattle.h5_laws.proofs.SoundLaws.Linked.{none_some}
use Rattle.h5_query.specs.OpenedObjectType.{OpenedObject}
use Rattle.h5_query.specs.OpenedContentType.TheVariants as content
use Rattle.h5_query.specs.Opened.Sound.{IsSound, IsObjectOf}
use Rattle.h5_query.specs.Opened.State.{FileState}
use Rattle.h5_query.proofs.Indexed.{array_no_group, group_links}
use Rattle.h5_edit.specs.Refusals.Rules.{target_rules}

-- links are counted at each object but the root
counted_at : (image : List ℕ) (tree : Tree) (header number : ℕ) (x : Placed) → x.number ≡ number → x.header ≡ header → IsCounted image tree x → number ≢ 0
    → reference_count (prefix_at image header) ≡ hard_links tree number
counted_at image tree header number x numbered placed counted other =
    let below : (x.number == 0) ≡ false = (let there : x.number ≢ 0 = subst (λ (n : ℕ). n ≢ 0) (sym numbered) other in grind (arith, nat_tests)) in
    let count : reference_count (prefix_at image x.header) ≡ hard_links tree x.number + 0 = counted.counted ∙ ap (λ b. hard_links tree x.number + (if b then 1 else 0)) below in
    let whole : reference_count (prefix_at image x.header) ≡ hard_links tree x.number = omega (arith, count) in
    ap (λ h. reference_count (prefix_at image h)) (sym placed) ∙ whole ∙ ap (hard_links tree) numbered

module _ (f : FileState) (number : ℕ) (o : OpenedObject) (of : IsObjectOf f number o) where
  abbrev T : Tree
  T = f.tree

  -- its prefix stands in the image
  pub prefix_inside : o.messages.header + 16 ≤ length f.image
  prefix_inside =
      let header = (of.kept).header in
      prefix_there f.image o.messages.header (messages_in f.image o.messages.list) o.messages.blocks header.has header.inside

  -- a group is no target
  pub group_target : (g : SymbolTable) → o.content ≡ content.Group g → first_holding (target_rules T number) ≡ Some fault.GroupLink
  group_target g is = rw (group_links f number o of g is) refl

  module _ (sound : IsSound f) (is : o.content ≡ content.Array) where
    below_root : number ≢ 0
    below_root zero_number =
        let none : links_of T 0 ≡ None = subst (λ (n : ℕ). links_of T n ≡ None) zero_number (array_no_group f number o of is) in
        none_some (links_of T 0) none sound.reads.holds.root_group

    pub links_counted : reference_count (prefix_at f.image o.messages.header) ≡ hard_links T number
    links_counted =
        let reads = sound.reads in
        let entry : In (number, o.messages.header) (entries f.table) = entry_of_get f.table number o.messages.header of.header in
        let placed = from_map (λ (x : Placed). (x.number, x.header)) (number, o.messages.header) sound.placed
        (subst (λ (es : List (ℕ × ℕ)). In (number, o.messages.header) es) reads.holds.numbered entry) in
        counted_at f.image T o.messages.header number placed.0 (ap (λ (p : ℕ × ℕ). p.0) placed.2) (ap (λ (p : ℕ × ℕ). p.1) placed.2)
        (in_all (IsCounted f.image T) placed.0 sound.placed reads.counted placed.1) below_root

    module _ (count : ℕ) (counts : count ≡ reference_count (prefix_at f.image o.messages.header)) where
      pub full_target : most_hard_links ≤ count → first_holding (target_rules T number) ≡ Some fault.TooManyLinks
      full_target many =
          let all = links_counted in
          let test : nat_le most_hard_links (hard_links T number) ≡ true = grind (arith, nat_tests) in
          rw (array_no_group f number o of is, test) refl

      pub free_target : count < most_hard_links → first_holding (target_rules T number) ≡ None
      free_target few =
          let all = links_counted in
          let test : nat_le most_hard_links (hard_links T number) ≡ false = grind (arith, nat_tests) in
          rw (array_no_group f number o of is, test) refl
