-- Nodes as they are appended: a head, the first key, the children with the keys behind them, and zeros.
use Rattle.std.proofs.Common.{◌≡◌, ℕ, ◌+◌, ◌-◌, ◌*◌, ◌≤◌, List, [], ◌∷◌, ◌++◌, length, sym, ap, ◌∙◌, arith, append-nil, append_assoc}
use Rattle.std.specs.List.{flat_map}
use Rattle.std.proofs.lemmas.List.{length-map}
use Rattle.h5_bytes.specs.Numbers.{word, zeros}
use Rattle.h5_model.specs.Format.Nodes.{Kind, node_length}
use Rattle.h5_model.specs.Format.Plain.{keys_and_children, node_bytes_of}
use Rattle.h5_btree.specs.declared.write.child.Child.{Child}
use Rattle.h5_btree.specs.Writing.Parts.{child_bytes, node_head}
use Rattle.h5_btree.specs.Writing.Written.{FitsKind, AllFit, keys_of, places_of}
use Rattle.h5_btree.proofs.WriteLaws.NodeReads.{are_keys, length-rows, one_more, spread}

module _ {K : Type 0} (kind : Kind) (bytes : K → List ℕ) where
  pub pairs_are : (before : K) (c : List (Child K)) → keys_and_children (keys_of bytes before c) (places_of c) ≡ bytes before ++ flat_map (child_bytes bytes) c
  pairs_are before [] = sym (append-nil (bytes before))
  pairs_are before (x ∷ c) =
      ap (λ (bs : List ℕ). bytes before ++ (word x.at ++ bs)) (pairs_are x.key c)
      ∙ ap (λ (bs : List ℕ). bytes before ++ bs) (sym (append_assoc (word x.at) (bytes x.key) (flat_map (child_bytes bytes) c)))

  pub node_parts : (level left right : ℕ) (before : K) (c : List (Child K)) → length c ≤ 2 * kind.k → FitsKind kind bytes before → AllFit kind bytes c
      → node_bytes_of kind level left right (keys_of bytes before c) (places_of c)
      ≡ node_head kind level (length c) left right
      ++ (bytes before ++ (flat_map (child_bytes bytes) c ++ zeros ((2 * kind.k - length c) * (kind.key_length + 8))))
  node_parts level left right before c room first fit =
      let many : length (places_of c) ≡ length c = length-map c (λ (x : Child K). x.at) in
      let pairs : List ℕ = keys_and_children (keys_of bytes before c) (places_of c) in
      let long : length pairs ≡ kind.key_length + (kind.key_length + 8) * length (places_of c)
      = length-rows kind (keys_of bytes before c) (places_of c) (are_keys kind bytes before c first fit) (one_more bytes before c) in
      let parts = spread (2 * kind.k) (length c) (kind.key_length + 8) room in
      let rest : node_length kind - length (node_head kind level (length (places_of c)) left right ++ pairs) ≡ (2 * kind.k - length c) * (kind.key_length + 8)
      = omega (arith, long, parts, ap (λ n. (kind.key_length + 8) * n) many) in
      (λ i. node_head kind level (many i) left right ++ (pairs ++ zeros (rest i)))
      ∙ ap (λ (bs : List ℕ). node_head kind level (length c) left right ++ (bs ++ zeros ((2 * kind.k - length c) * (kind.key_length + 8)))) (pairs_are before c)
      ∙ ap (λ (bs : List ℕ). node_head kind level (length c) left right ++ bs)
      (append_assoc (bytes before) (flat_map (child_bytes bytes) c) (zeros ((2 * kind.k - length c) * (kind.key_length + 8))))
