-- Keys that stand for texts, beside the keys of items: what exact keys of groups ask of the order.
use Rattle.std.proofs.Common.{◌≡◌, List, ℕ, [], refl}
use Rattle.h5_model.specs.Format.Links.{Before}
use Rattle.h5_model.proofs.TextOrder.{not_after_itself, before_le}
use Rattle.h5_laws.specs.Ladders.{IsOrderly}
use Rattle.h5_laws.specs.KeyEdits.{LetIn}
use Rattle.h5_laws.specs.NameLadders.{key_sides}
use Rattle.h5_laws.proofs.KeyInstances.{name_let_in, name_parts, name_through}
use Rattle.h5_laws.proofs.NameLadders.{name_order}
use Rattle.h5_laws.proofs.ExactKeysPut.{HasOwnKeys}

module _ {K : Type 0} (text : K → List ℕ) where
  pub key_order : IsOrderly (key_sides text)
  key_order = record {
    itself = λ k. (name_order text).itself k;
    rises = λ k l m a b. (name_order text).rises k l m a b;
    right = λ k l y a b. (name_order text).right k l (text y) a b;
    left = λ y k l a b. (name_order text).left (text y) k l a b;
    apart = λ k y a b. (name_order text).apart k (text y) a b;
  }

  pub key_through : (l h y : K) → (key_sides text).Right l y → (key_sides text).Left y h → (key_sides text).Rise l h
  key_through l h y right left = name_through text l h (text y) right left

  pub key_parts : (y z k : K) → (key_sides text).Left y k → (key_sides text).Right k z → Before (text y) (text z)
  key_parts y z k left right = name_parts text (text y) (text z) k left right

  -- an item is its own key
  pub key_own : HasOwnKeys (key_sides text) (λ y z. Before (text y) (text z)) (λ y. y)
  key_own = record {
    own = λ y. not_after_itself (text y);
    under = λ y z below. before_le (text y) (text z) below;
    over = λ y z below. below;
    up_to = λ y k left. left;
  }

  -- the key of the empty text, and the item's own
  pub key_let_in : (x lowest : K) → text lowest ≡ [] → Before [] (text x) → LetIn (key_sides text) x lowest x
  key_let_in x lowest empty some =
      let is = name_let_in text (text x) lowest x empty refl some in
      record { right = is.right; left = is.left; lower = is.lower; higher = is.higher }
