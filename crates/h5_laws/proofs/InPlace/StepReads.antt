-- An image after an edit reads as the tree that the edit gives, where each object is untouched or stands there as the tree has it.
use Rattle.std.proofs.Common.{◌≡◌, ℕ, ◌+◌, ◌≤◌, List, [], ◌∷◌, ◌++◌, refl, sym, ap, ◌∙◌, subst, Option, Some, inl, inr, arith, ◌⊎◌}
use Rattle.std.specs.Prelude.{◌==◌, if◌then◌else◌, IsSome, is_some}
use Rattle.std.specs.Option.{option_and_then}
use Rattle.std.specs.Ordering.{nat_cmp}
use Rattle.std.specs.Cmp.{nat_cmp_total}
use Rattle.std.specs.FinMap.{FinMap, get}
use Rattle.std.specs.List.{AllByRecursion}
use Rattle.h5_bytes.specs.Blocks.{cover, Keeps, IsKept}
use Rattle.h5_bytes.proofs.BlockLaws.{all_left}
use Rattle.h5_model.specs.Format.Messages.{prefix_at, reference_count}
use Rattle.h5_model.specs.Format.Reads.{Placed, IsPlaced, IsCounted, IsGroup, ReadsAs}
use Rattle.h5_model.specs.Tree.Objects.{Tree, Object, Content, Group, Array, links_in}
use Rattle.h5_model.proofs.Frames.{object-same, prefix-same}
use Rattle.h5_model.proofs.KLaws.{same_leaf, same_internal, same_chunk}
use Rattle.h5_laws.proofs.Lists.{In, in_all, all_in, from_map, in_map, in_contains}
use Rattle.h5_laws.proofs.Maps.{entry_of_get, get_of_entry}
use Rattle.h5_laws.specs.Trees.Sound.{IsSoundTree}
use Rattle.h5_laws.specs.InPlace.{IsUntouched, IsMade, IsStep}
use Rattle.h5_laws.proofs.InPlace.StillThere.{object-there}
use Rattle.h5_laws.proofs.InPlace.HeadersApart.{header_covered, one_covers}

module _ (old new : List ℕ) (table table' : FinMap nat_cmp ℕ) (tree tree' : Tree) (placed placed' : List Placed)
    (reads : ReadsAs old table tree placed) (step : IsStep old new table table' tree tree' placed placed') (sound : IsSoundTree tree') where
  made_of : (x : Placed) → IsUntouched old new table table' tree tree' placed x ⊎ IsMade new table' tree' x → IsMade new table' tree' x
  made_of x (inr made) = made
  made_of x (inl same) =
      let was : IsPlaced old table x = in_all (IsPlaced old table) x placed reads.holds.each (in_contains x placed same.before) in
      let count = in_all (IsCounted old tree) x placed reads.counted (in_contains x placed same.before) in
      let laid : Keeps old new (was.header_blocks ++ was.content_blocks) = subst (Keeps old new) was.laid same.kept in
      let prefix : prefix_at new x.header ≡ prefix_at old x.header
      = prefix-same old new x.header was.messages was.header_blocks was.listed (all_left (IsKept old new) was.header_blocks was.content_blocks laid) in
      record {
        there = object-there table table' new x.header x.object x.blocks same.linked
            (object-same old new (same_leaf new old step.k) (same_internal new old step.k) (same_chunk new old step.k) table x.header x.object x.blocks same.kept was);
        counted = ap reference_count prefix ∙ count.counted ∙ ap (λ n. n + (if x.number == 0 then 1 else 0)) (sym same.counts);
      }

  all_made : (xs : List Placed) → AllByRecursion (λ x. IsUntouched old new table table' tree tree' placed x ⊎ IsMade new table' tree' x) xs → AllByRecursion (IsMade new table' tree') xs
  all_made [] each = tt
  all_made (x ∷ xs) each = (made_of x each.0, all_made xs each.1)

  made : AllByRecursion (IsMade new table' tree') placed'
  made = all_made placed' step.each

  own_header : (a b header : ℕ) → get table' a ≡ Some header → get table' b ≡ Some header → a ≡ b
  own_header a b header l r =
      let x = from_map (λ (z : Placed). (z.number, z.header)) (a, header) placed' (subst (In (a, header)) step.numbered (entry_of_get table' a header l)) in
      let y = from_map (λ (z : Placed). (z.number, z.header)) (b, header) placed' (subst (In (b, header)) step.numbered (entry_of_get table' b header r)) in
      let hx : x.0.header ≡ header = ap (λ (e : ℕ × ℕ). e.1) x.2 in
      let hy : y.0.header ≡ header = ap (λ (e : ℕ × ℕ). e.1) y.2 in
      let cx : 1 ≤ cover header x.0.blocks = subst (λ (h : ℕ). 1 ≤ cover h x.0.blocks) hx (header_covered new table' x.0 (in_all (IsMade new table' tree') x.0 placed' made x.1).there) in
      let cy : 1 ≤ cover header y.0.blocks = subst (λ (h : ℕ). 1 ≤ cover h y.0.blocks) hy (header_covered new table' y.0 (in_all (IsMade new table' tree') y.0 placed' made y.1).there) in
      let same : x.0 ≡ y.0 = one_covers header placed' x.0 y.0 (omega (arith, step.apart header)) x.1 y.1 cx cy in
      sym (ap (λ (e : ℕ × ℕ). e.0) x.2) ∙ ap (λ (z : Placed). z.number) same ∙ ap (λ (e : ℕ × ℕ). e.0) y.2

  pub step_reads : ReadsAs new table' tree' placed'
  step_reads = record {
    holds = record {
      superblock = step.superblock;
      whole = step.whole;
      numbered = step.numbered;
      objects = step.objects;
      each = all_in (IsPlaced new table') placed' (λ x at. (in_all (IsMade new table' tree') x placed' made at).there);
      own = own_header;
      root = step.root;
      root_group = sound.rooted;
      reached = sound.reached;
      shallow = sound.shallow;
      apart = step.apart;
      within = step.within;
    };
    counted = all_in (IsCounted new tree') placed' (λ x at. counted x at);
  } where
    in_tree : (x : Placed) → In x placed' → get tree' x.number ≡ Some x.object
    in_tree x at =
        get_of_entry nat_cmp_total tree' x.number x.object
        (subst (In (x.number, x.object)) (sym step.objects) (in_map (λ (z : Placed). (z.number, z.object)) x placed' at))

    group : (c : Content) → IsGroup c → IsSome (links_in c)
    group (Group links) is = refl
    group (Array d) is = absurd is

    counted : (x : Placed) → In x placed' → IsCounted new tree' x
    counted x at =
        let here = (in_all (IsMade new table' tree') x placed' made at).counted in
        record {
          counted = here;
          once = λ is. here ∙ sound.once x.number (subst (λ (o : Option Object). IsSome (option_and_then (λ (p : Object). links_in p.content) o)) (sym (in_tree x at)) (group x.object.content is));
          limit = sound.few x.number (ap (λ (o : Option Object). is_some o) (in_tree x at));
        }
