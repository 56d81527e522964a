-- A tree differs from itself in no number.
use Rattle.std.proofs.Common.{◌≡◌, ℕ, List, [], ◌∷◌, map, refl, sym}
use Rattle.std.specs.FinMap.{entries}
use Rattle.h5_model.specs.Tree.Objects.{Tree, Link, ToObject, Soft, Content, Group, Array}
use Rattle.h5_model.specs.Tree.Renumbered.{renumbered_link, IsRenumbered, DifferInNumbers}

same_link : (link : Link) → renumbered_link (λ n. n) link ≡ link
same_link (ToObject number) = refl
same_link (Soft text) = refl

same_links : (es : List (List ℕ × Link)) → es ≡ map (λ e. (e.0, renumbered_link (λ n. n) e.1)) es
same_links [] = refl
same_links (e ∷ es) = λ i. (e.0, sym (same_link e.1) i) ∷ same_links es i

same_content : (content : Content) → IsRenumbered (λ n. n) content content
same_content (Group links) = same_links (entries links)
same_content (Array d) = refl

pub DifferInNumbers-itself : (tree : Tree) → DifferInNumbers tree tree
DifferInNumbers-itself tree = record {
  there = λ n. n;
  back = λ n. n;
  root = refl;
  forth_back = λ number h. refl;
  back_forth = λ number h. (refl, h);
  each = λ number x h. (x, h, same_content x.content, refl, refl);
}
