-- Cells that are printed one part behind the other.
use Rattle.std.proofs.Common.{◌≡◌, ℕ, ◌+◌, ◌%◌, ◌<◌, ℤ, List, [], ◌++◌, length, sym, ap, ◌∙◌, subst, append_assoc, append-nil, length-append, arith}
use Rattle.std.proofs.Math.Nat.{mod-add-mod}
use Rattle.h5_text.specs.Printed.{IsPrinted, WritesSome}
use Rattle.h5_text.specs.Rows.{cells_from}
use Rattle.h5_text.proofs.Printing.{Known, cut_here, cut_longer, cut_more, printed_kept, printed_more}
use Rattle.h5_text.proofs.RowLaws.{cells_append}

-- cells were printed from a column on, and others follow in the column behind them
module _ (width column : ℕ) (inside : column < width) (old mid : Known) (held left : List ℕ) (values : List ℤ)
    (so_far : IsPrinted old mid held left (cells_from width column values)) where
  -- the column behind the cells
  module _ (wide here : ℕ) (same : wide ≡ width) (at : here ≡ (column + length values) % width) where
    cells_behind : (part : List ℤ) → cells_from width column values ++ cells_from wide here part ≡ cells_from width column (values ++ part)
    cells_behind part =
        ap (λ w. cells_from width column values ++ cells_from w here part) same ∙ ap (λ k. cells_from width column values ++ cells_from width k part) at
        ∙ sym (cells_append width column values part inside)

    -- the next cells were printed
    pub cells_more : (part : List ℤ) (new : Known) (kept : List ℕ) → IsPrinted mid new left kept (cells_from wide here part) → IsPrinted old new held kept (cells_from width column (values ++ part))
    cells_more part new kept next =
        subst (λ (text : List ℕ). IsPrinted old new held kept text) (cells_behind part)
        (printed_more old mid new held left (cells_from width column values) so_far kept (cells_from wide here part) next)

    -- they were put into the buffer, and so much of it was written
    pub cells_printed : (part : List ℤ) (put : List ℕ) (new : Known) (kept : List ℕ) → put ≡ left ++ cells_from wide here part → IsPrinted mid new put kept []
        → IsPrinted old new held kept (cells_from width column (values ++ part))
    cells_printed part put new kept is written =
        cells_more part new kept
        (subst (λ (text : List ℕ). IsPrinted mid new left kept text) (append-nil (cells_from wide here part))
        (printed_more mid mid new left put (cells_from wide here part) (printed_kept mid left put (cells_from wide here part) is) kept [] written))

    -- a beginning of them was written
    pub cells_begun : (part rest all : List ℤ) (new : Known) → all ≡ values ++ (part ++ rest) → WritesSome mid new (left ++ cells_from wide here part)
        → WritesSome old new (held ++ cells_from width column all)
    cells_begun part rest all new are cut =
        let more : List ℕ = cells_from width ((column + length (values ++ part)) % width) rest in
        let longer : WritesSome mid new (left ++ (cells_from wide here part ++ more)) =
        subst (λ (text : List ℕ). WritesSome mid new text) (append_assoc left (cells_from wide here part) more) (cut_longer mid new (left ++ cells_from wide here part) more cut) in
        subst (λ (text : List ℕ). WritesSome old new (held ++ text))
        (sym (append_assoc (cells_from width column values) (cells_from wide here part) more) ∙ ap (λ t. t ++ more) (cells_behind part)
        ∙ sym (cells_append width column (values ++ part) rest inside)
        ∙ ap (cells_from width column) (append_assoc values part rest ∙ sym are))
        (cut_more old mid new held left (cells_from width column values) so_far (cells_from wide here part ++ more) longer)

    -- the same of the buffer that they were put into
    pub cells_cut : (part rest all : List ℤ) (put : List ℕ) (new : Known) → all ≡ values ++ (part ++ rest) → put ≡ left ++ cells_from wide here part → WritesSome mid new (put ++ [])
        → WritesSome old new (held ++ cells_from width column all)
    cells_cut part rest all put new are is some =
        cells_begun part rest all new are (subst (λ (text : List ℕ). WritesSome mid new text) (append-nil put ∙ is) some)

    -- the next column
    pub column_behind : (part : List ℤ) (count next : ℕ) → count ≡ length part → next ≡ (here + count) % wide → next ≡ (column + length (values ++ part)) % width
    column_behind part count next counted is =
        let sum : column + length values + count ≡ column + length (values ++ part) = omega (arith, counted, length-append values part) in
        is ∙ ap (λ w. (here + count) % w) same ∙ ap (λ k. (k + count) % width) at ∙ mod-add-mod (column + length values) width count ∙ ap (λ k. k % width) sum

  -- nothing of what follows was written
  pub cells_cut_here : (rest all : List ℤ) → all ≡ values ++ rest → WritesSome old mid (held ++ cells_from width column all)
  cells_cut_here rest all are =
      subst (λ (text : List ℕ). WritesSome old mid (held ++ text)) (sym (cells_append width column values rest inside) ∙ ap (cells_from width column) (sym are))
      (cut_here old mid held left (cells_from width column values) (cells_from width ((column + length values) % width) rest) so_far)
