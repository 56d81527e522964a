-- A row of children that is cut into nodes: each of them is a ladder, and so are they as children of the row above.
use Rattle.std.proofs.Common.{List, [], ◌∷◌, ◌++◌}
use Rattle.std.specs.Prelude.{map}
use Rattle.std.specs.List.{flat_map}
use Rattle.h5_bytes.proofs.BlockLaws.{all_append}
use Rattle.h5_laws.specs.Ladders.{IsLadder, LieBetween, Sides, last_key, IsOrderly}
use Rattle.h5_laws.proofs.Ladders.{wider}

-- these children, with the key before them and the one behind each
abbrev pub IsRowLadder : {C K X : Type 0} → Sides K X → (C → K) → (C → List X) → K → List C → Type 0
IsRowLadder sides key list before cs = IsLadder sides (before ∷ map key cs) (map list cs)

module _ {C K X : Type 0} (sides : Sides K X) (orderly : IsOrderly sides) (key : C → K) (list : C → List X) where
  -- what the first of them have in common, and the others
  pub record IsGathered (before : K) (c more : List C) : Type 0 where
    pub lie : LieBetween sides before (last_key key before c) (flat_map list c)
    pub rise : sides.Rise before (last_key key before c)
    pub here : IsRowLadder sides key list before c
    pub behind : IsRowLadder sides key list (last_key key before c) more

  pub gathered : (before : K) (c more : List C) → IsRowLadder sides key list before (c ++ more) → IsGathered before c more
  gathered before [] more is = record { lie = tt; rise = orderly.itself before; here = tt; behind = is }
  gathered before (x ∷ c) more is =
      let rest = gathered (key x) c more is.2 in
      let high = last_key key (key x) c in
      record {
        lie = all_append (λ y. sides.Right before y × sides.Left y high) (list x) (flat_map list c)
            (wider sides orderly before before (key x) high (list x) (orderly.itself before) rest.rise is.0)
            (wider sides orderly before (key x) high high (flat_map list c) is.1 (orderly.itself high) rest.lie);
        rise = orderly.rises before (key x) high is.1 rest.rise;
        here = (is.0, is.1, rest.here);
        behind = rest.behind;
      }
