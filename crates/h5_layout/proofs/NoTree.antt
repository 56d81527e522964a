-- An array in chunks without a tree stores nothing, outside an extent or inside.
use Rattle.std.proofs.Common.{◌≡◌, ℕ, Bool, true, false, cond, List, Option, None, Some, refl, sym, ap, ◌∙◌, subst}
use Rattle.std.specs.Prelude.{◌==◌, is_none}
use Rattle.std.specs.Ordering.{nat_cmp}
use Rattle.std.specs.Cmp.Lexicographic.{slice_cmp}
use Rattle.std.specs.FinMap.{get, get-empty}
use Rattle.h5_bytes.specs.Bytes.{undefined_address}
use Rattle.h5_model.specs.Edits.Refusal.{is_chunked}
use Rattle.h5_model.specs.Format.Cells.{cell_of}
use Rattle.h5_model.specs.Format.Layout.{InChunks, Layout, address_from}
use Rattle.h5_model.specs.Format.Described.{storage_of, Described}
use Rattle.h5_layout.specs.ArrayChunks.{IsChunked}
use Rattle.h5_layout.specs.Data.{stored_chunks}
use Rattle.h5_layout.specs.Trimmed.{IsTrimmed}
use Rattle.h5_layout.proofs.OutsideChunks.{chunked_is}

-- an address is none where it is undefined
pub none_where : (n : ℕ) (root : Option ℕ) → address_from n ≡ root → (n == undefined_address) ≡ is_none root
none_where n root is = by_test (n == undefined_address) ∙ ap is_none is where
  by_test : (b : Bool) → b ≡ is_none (cond b None (Some n))
  by_test true = refl
  by_test false = refl

module _ (image : List ℕ) (a : Described) (chunk : List ℕ) (laid : a.layout ≡ InChunks chunk None) where
  nothing_at : (offsets : List ℕ) → get (stored_chunks image a.fixed a.layout) offsets ≡ None
  nothing_at offsets = ap (λ (l : Layout). get (stored_chunks image a.fixed l) offsets) laid ∙ get-empty (slice_cmp nat_cmp) offsets

  pub treeless : (sizes : List ℕ) → IsTrimmed image a sizes
  treeless sizes = record {
    held = λ offsets at found. absurd (let never : None ≡ Some at = sym (nothing_at offsets) ∙ found in cc);
    filled = λ index long out.
        sym (subst (λ (l : Layout). a.fill ≡ cell_of image a.fixed a.fill a.sizes l (stored_chunks image a.fixed l) index) (sym laid) (rw (get-empty (slice_cmp nat_cmp)) refl));
  }

-- where it is known that there is none
pub treeless_there : (image : List ℕ) (a : Described) (lacks : Bool) → is_chunked (storage_of a.sizes a.layout) ≡ true
    → ((chunk : List ℕ) (root : Option ℕ) → a.layout ≡ InChunks chunk root → lacks ≡ is_none root) → lacks ≡ true → (sizes : List ℕ) → IsTrimmed image a sizes
treeless_there image a lacks chunked exact none =
    let is : IsChunked a.layout = chunked_is a.sizes a.layout chunked in
    by_root is.1 (sym none ∙ exact is.0 is.1 is.2) is.2 where
      by_root : (root : Option ℕ) {chunk : List ℕ} → true ≡ is_none root → a.layout ≡ InChunks chunk root → (sizes : List ℕ) → IsTrimmed image a sizes
      by_root None {chunk} same laid = treeless image a chunk laid
      by_root (Some at) {chunk} same laid = absurd (cc)
