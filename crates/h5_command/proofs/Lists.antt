-- The items of a list, item by item.
use Rattle.std.proofs.Common.{◌≡◌, List, [], ◌∷◌, ◌++◌, Option, Some, None, option_map, refl, ap, append_assoc}

-- items behind items
abbrev pub behind : {Y : Type 0} → List Y → Option (List Y) → Option (List Y)
behind items rest = option_map (λ xs. items ++ xs) rest

pub behind_one : {Y : Type 0} (items : List Y) (value : Y) (rest : Option (List Y)) → behind (items ++ value ∷ []) rest ≡ behind items (option_map (λ xs. value ∷ xs) rest)
behind_one items value None = refl
behind_one items value (Some xs) = ap (λ ys. Some ys) (append_assoc items (value ∷ []) xs)
