-- Parts of a node, as they are appended one after another (File Format Specification 3.0, section III.A.1).
use Rattle.std.specs.Prelude.{ℕ, List, ◌∷◌, ◌++◌}
use Rattle.h5_bytes.specs.Numbers.{short, word}
use Rattle.h5_model.specs.Format.Nodes.{Kind, node_signature}
use Rattle.h5_btree.specs.declared.write.child.Child.{Child}

-- a node before its keys: its level, how many children it has, and its neighbours
abbrev pub node_head : Kind → ℕ → ℕ → ℕ → ℕ → List ℕ
node_head kind level children left right =
    node_signature ++ (kind.type_byte ∷ level ∷ (short children ++ (word left ++ word right)))

-- a child, and the key behind it
abbrev pub child_bytes : {K : Type 0} → (K → List ℕ) → Child K → List ℕ
child_bytes bytes c = word c.at ++ bytes c.key
