-- A tree with the same links is as sound.
use Rattle.std.proofs.Common.{◌≡◌, ℕ, ◌+◌, ◌≤◌, List, [], ◌∷◌, refl, sym, ap, ◌∙◌, subst, Option, Some, None, arith}
use Rattle.std.specs.Prelude.{is_some, ◌==◌, if◌then◌else◌}
use Rattle.std.specs.Option.{option_and_then, option_map_or}
use Rattle.std.specs.FinMap.{get, insert}
use Rattle.h5_model.specs.Format.Limits.{most_hard_links}
use Rattle.h5_model.specs.Edits.Applied.{with_object_at}
use Rattle.h5_model.specs.Tree.Paths.{object_at}
use Rattle.h5_model.specs.Tree.Objects.{Tree, Object, Links, Link, ToObject, Soft, links_in, links_of, link_in, links_to, hard_links, follow, with_object}
use Rattle.h5_laws.specs.Trees.Sound.{IsSoundTree}
use Rattle.h5_laws.proofs.SoundLaws.Counts.{object_put}
use Rattle.h5_laws.proofs.SoundLaws.Inserted.{put_cases}
use Rattle.h5_laws.proofs.SoundLaws.Sums.{weight}

-- the same objects, the same links, the same counts
pub record IsAlike (tree other : Tree) : Type 0 where
  pub objects : (n : ℕ) → is_some (get other n) ≡ is_some (get tree n)
  pub links : (n : ℕ) → links_of other n ≡ links_of tree n
  pub counts : (n : ℕ) → hard_links other n ≡ hard_links tree n

module _ (tree other : Tree) (alike : IsAlike tree other) where
  same_link : (n : ℕ) (name : List ℕ) → link_in other n name ≡ link_in tree n name
  same_link n name = ap (option_and_then (λ (ls : Links). get ls name)) (alike.links n)

  same_paths : (path : List (List ℕ)) (from : Link) → follow other from path ≡ follow tree from path
  same_paths [] from = refl
  same_paths (x ∷ path) (Soft text) = refl
  same_paths (x ∷ path) (ToObject n) = ap (option_and_then (λ (l : Link). follow other l path)) (same_link n x)
      ∙ elim (link_in tree n x) as (λ o. option_and_then (λ l. follow other l path) o ≡ option_and_then (λ l. follow tree l path) o) [
        | None ↦ refl
        | Some l ↦ same_paths path l
      ]

  pub sound_alike : IsSoundTree tree → IsSoundTree other
  sound_alike sound = record {
    rooted = ap (λ (o : Option Links). is_some o) (alike.links 0) ∙ sound.rooted;
    named = λ n name some. sound.named n name (sym (ap (λ (o : Option Link). is_some o) (same_link n name)) ∙ some);
    linked = λ n m name is. alike.objects m ∙ sound.linked n m name (sym (same_link n name) ∙ is);
    spelled = λ n name text is. sound.spelled n name text (sym (same_link n name) ∙ is);
    reached = λ n some. let path = sound.reached n (sym (alike.objects n) ∙ some) in (path.0, same_paths path.0 (ToObject 0) ∙ path.1);
    shallow = λ path some. sound.shallow path (sym (ap (λ (o : Option Link). is_some o) (same_paths path (ToObject 0))) ∙ some);
    once = λ n some. ap (λ (k : ℕ). k + (if n == 0 then 1 else 0)) (alike.counts n) ∙ sound.once n (sym (ap (λ (o : Option Links). is_some o) (alike.links n)) ∙ some);
    few = λ n some. subst (λ (k : ℕ). k ≤ most_hard_links) (sym (alike.counts n)) (sound.few n (sym (alike.objects n) ∙ some));
  }

abbrev pub links_at : Option Object → Option Links
links_at = option_and_then (λ (p : Object). links_in p.content)

-- an object whose links stay
pub alike_links : (tree : Tree) (number : ℕ) (o new : Object) → get tree number ≡ Some o → links_in new.content ≡ links_in o.content
    → ((n : ℕ) → links_to n new.content ≡ links_to n o.content) → IsAlike tree (insert tree number new)
alike_links tree number o new stands same counts = record {
  objects = put_cases tree number o new stands (λ x y. is_some x ≡ is_some y) refl (λ x. refl);
  links = put_cases tree number o new stands (λ x y. links_at x ≡ links_at y) same (λ x. refl);
  counts = λ n.
      let put = object_put n tree number new in
      let before = ap (weight (λ (p : Object). links_to n p.content)) stands in
      omega (arith, put, before, counts n);
}

-- a change of an object that leaves its content
pub sound_changed : (tree : Tree) (path : List ℕ) (change : Object → Object) → ((o : Object) → (change o).content ≡ o.content) → IsSoundTree tree
    → IsSoundTree (with_object_at tree path change)
sound_changed tree path change same sound = at_path (object_at tree path) where
  at_number : (number : ℕ) (found : Option Object) → get tree number ≡ found → IsSoundTree (option_map_or (λ o. insert tree number (change o)) found tree)
  at_number number None is = sound
  at_number number (Some o) is = sound_alike tree (insert tree number (change o)) (alike_links tree number o (change o) is (ap links_in (same o)) (λ n. ap (links_to n) (same o))) sound

  at_path : (found : Option ℕ) → IsSoundTree (option_map_or (λ number. with_object tree number change) found tree)
  at_path None = sound
  at_path (Some number) = at_number number (get tree number) refl
