-- What a file is to its callers: its bytes, its free blocks, where the header of each object stands, the next object number, and the
-- tree that its bytes read as (File Format Specification 3.0, sections II.A, III and IV.A).
use Rattle.std.specs.Prelude.{ℕ, Option, List, length, refl}
use Rattle.std.specs.Ordering.{nat_cmp}
use Rattle.std.specs.FinMap.{FinMap, code}
use Rattle.std.specs.Coded.{Coded, code_by, coded×, coded_ℕ, coded_list}
use Rattle.h5_bytes.specs.declared.Block.{Block}
use Rattle.h5_model.specs.Tree.Objects.{Tree}
use Rattle.h5_model.specs.Tree.Codes.{coded_bytes, coded_tree}
use Rattle.h5_model.specs.Edits.Applied.{State}
use Rattle.h5_space.specs.Space.{Space}
use Rattle.h5_open.specs.declared.opened.object.OpenedObject.{OpenedObject}
use Rattle.h5_open.specs.Opened.Objects.{table_of, tree_of}

pub record FileState : Type 0 where
  pub image : List ℕ
  pub free : List Block
  pub table : FinMap nat_cmp ℕ
  pub next : ℕ
  pub tree : Tree

-- the tree and the next number alone
abbrev pub state_of : FileState → State
state_of f = record { tree = f.tree; next = f.next }

-- an image by what is kept of it
abbrev pub opened_state : Space → List (Option OpenedObject) → FileState
opened_state image slots = record {
  image = image.bytes;
  free = image.free;
  table = table_of slots;
  next = length slots;
  tree = tree_of image.bytes slots;
}

abbrev coded_free : Coded (List Block)
coded_free = coded_list (code_by (ℕ × ℕ) (coded× coded_ℕ coded_ℕ) (λ b. (b.at, b.len)) (λ p. record { at = p.0; len = p.1 }) (λ _. refl))

abbrev pub coded_state : Coded FileState
coded_state =
    code_by (List ℕ × (List Block × (FinMap nat_cmp ℕ × (ℕ × Tree))))
    (coded× coded_bytes (coded× coded_free (coded× (code coded_ℕ coded_ℕ) (coded× coded_ℕ coded_tree))))
    (λ s. (s.image, (s.free, (s.table, (s.next, s.tree)))))
    (λ p. record { image = p.0; free = p.1.0; table = p.1.1.0; next = p.1.1.1.0; tree = p.1.1.1.1 }) (λ _. refl)
