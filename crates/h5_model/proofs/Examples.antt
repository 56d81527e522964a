-- Worked examples, by computation.
use Rattle.std.proofs.Common.{◌≡◌, ℕ, List, [], ◌∷◌, refl, Bool, true, false, Some, None, pos, negsuc, length, replicate}
use Rattle.h5_model.specs.Format.Fixed.{Fixed, value_at, value_of, raw_at, bytes_of, fits}
use Rattle.h5_model.specs.Tree.Places.{place_of, is_inside}
use Rattle.h5_model.specs.Views.Selection.{Slab, selection_of, selected_cells, is_within, is_one_run, is_selected}
use Rattle.h5_model.specs.Tree.Grid.{corner_of, inner_of}
use Rattle.h5_model.specs.Views.Shown.{met_boxes, is_lent}
use Rattle.h5_model.specs.Tree.Objects.{Dataset, Storage, Compact, Contiguous, Chunked}
use Rattle.h5_model.specs.Format.Extent.{extent_of, maximum_fits}
use Rattle.h5_model.specs.Format.Datatype.{fixed_of}
use Rattle.h5_model.specs.Format.Fill.{fill_value}
use Rattle.h5_model.specs.Format.Layout.{layout_of, InBlock}
use Rattle.h5_model.specs.Format.AttributeBody.{attribute_of}
use Rattle.h5_bytes.specs.Blocks.{block}
use Rattle.h5_bytes.specs.Bytes.{number_at}
use Rattle.std.specs.List.{flat_map}
use Rattle.std.specs.Prelude.{not, ◌&&◌}

abbrev i32le : Fixed
i32le = record { size = 4; signed = true; big = false }

abbrev u16be : Fixed
u16be = record { size = 2; signed = false; big = true }

abbrev i8 : Fixed
i8 = record { size = 1; signed = true; big = false }

abbrev u8 : Fixed
u8 = record { size = 1; signed = false; big = false }

-- both ends of a type
stored_ends : flat_map (bytes_of i32le) (pos 1 ∷ negsuc 0 ∷ pos 2147483647 ∷ []) ≡ 1 ∷ 0 ∷ 0 ∷ 0 ∷ 255 ∷ 255 ∷ 255 ∷ 255 ∷ 255 ∷ 255 ∷ 255 ∷ 127 ∷ []
unfolding bytes_of
stored_ends = refl

read_ends : value_at i32le (1 ∷ 0 ∷ 0 ∷ 0 ∷ 255 ∷ 255 ∷ 255 ∷ 255 ∷ 255 ∷ 255 ∷ 255 ∷ 127 ∷ []) 4 ≡ negsuc 0
unfolding value_at raw_at
read_ends = refl

high_first : flat_map (bytes_of u16be) (pos 65535 ∷ pos 258 ∷ []) ≡ 255 ∷ 255 ∷ 1 ∷ 2 ∷ []
unfolding bytes_of
high_first = refl

read_high_first : value_of u16be (1 ∷ 2 ∷ []) ≡ pos 258
unfolding value_at raw_at
read_high_first = refl

lowest : fits i8 (negsuc 127) ≡ true
lowest = refl

too_high : fits i8 (pos 128) ≡ false
too_high = refl

too_low : fits i8 (negsuc 128) ≡ false
too_low = refl

least_of_eight : flat_map (bytes_of (record { size = 8; signed = true; big = true })) (negsuc 9223372036854775807 ∷ []) ≡ 128 ∷ 0 ∷ 0 ∷ 0 ∷ 0 ∷ 0 ∷ 0 ∷ 0 ∷ []
unfolding bytes_of
least_of_eight = refl

-- two blocks of two cells, three apart
abbrev pairs : Slab
pairs = record { start = 1; stride = 3; count = 2; block = 2 } ∷ []

selected_pairs : selection_of (8 ∷ []) pairs ≡ 1 ∷ 2 ∷ 4 ∷ 5 ∷ []
unfolding selection_of
selected_pairs = refl

-- as many as the axes say
counted_pairs : length (selection_of (8 ∷ []) pairs) ≡ selected_cells pairs
unfolding selection_of
counted_pairs = refl

not_one_run : is_one_run (8 ∷ []) pairs ≡ false
unfolding selection_of
not_one_run = refl

one_run : is_one_run (8 ∷ []) (record { start = 0; stride = 1; count = 1; block = 2 } ∷ []) ≡ true
unfolding selection_of
one_run = refl

-- an array without dimensions has one cell, which is selected
scalar : selection_of [] [] ≡ 0 ∷ []
unfolding selection_of
scalar = refl

-- no cell is selected, and that is within any sizes
empty_selection : is_within (0 ∷ []) (record { start = 9; stride = 1; count = 0; block = 1 } ∷ []) ≡ true
empty_selection = refl

outside : is_within (5 ∷ 4 ∷ []) (record { start = 4; stride = 1; count = 1; block = 1 } ∷ record { start = 4; stride = 1; count = 1; block = 1 } ∷ []) ≡ false
outside = refl

-- in chunks of 2 by 3 the cell at 3,2 is the last of the chunk at 2,0
corner : corner_of (2 ∷ 3 ∷ []) (3 ∷ 2 ∷ []) ≡ 2 ∷ 0 ∷ []
corner = refl

inner : place_of (2 ∷ 3 ∷ []) (inner_of (2 ∷ 3 ∷ []) (3 ∷ 2 ∷ [])) ≡ 5
inner = refl

-- ---- chunks that an edit and a view both meet

abbrev all_cells : Slab
all_cells = record { start = 0; stride = 1; count = 5; block = 1 } ∷ record { start = 0; stride = 1; count = 4; block = 1 } ∷ []

abbrev every_other : Slab
every_other = record { start = 0; stride = 2; count = 3; block = 1 } ∷ record { start = 0; stride = 2; count = 2; block = 1 } ∷ []

abbrev row_two : Slab
row_two = record { start = 2; stride = 1; count = 1; block = 1 } ∷ record { start = 0; stride = 1; count = 4; block = 1 } ∷ []

first_write_all : length (met_boxes (5 ∷ 4 ∷ []) (2 ∷ 3 ∷ []) (is_selected row_two) all_cells) ≡ 2
unfolding met_boxes
first_write_all = refl

first_write_other : length (met_boxes (5 ∷ 4 ∷ []) (2 ∷ 3 ∷ []) (is_selected row_two) every_other) ≡ 1
unfolding met_boxes
first_write_other = refl

abbrev lost : List ℕ → Bool
lost index = is_inside (5 ∷ 4 ∷ []) index && not (is_inside (5 ∷ 3 ∷ []) index)

shrunk_all : length (met_boxes (5 ∷ 4 ∷ []) (2 ∷ 3 ∷ []) lost all_cells) ≡ 3
unfolding met_boxes
shrunk_all = refl

shrunk_other : length (met_boxes (5 ∷ 4 ∷ []) (2 ∷ 3 ∷ []) lost every_other) ≡ 0
unfolding met_boxes
shrunk_other = refl

-- ---- views

abbrev three_bytes : Storage → Dataset
three_bytes storage = record { fixed = u8; sizes = 3 ∷ []; maxima = Some 3 ∷ []; storage = storage; fill = pos 0; cells = pos 7 ∷ pos 8 ∷ pos 9 ∷ [] }

lent_run : is_lent (three_bytes (Contiguous true)) (record { start = 1; stride = 1; count = 2; block = 1 } ∷ []) ≡ true
unfolding selection_of
lent_run = refl

-- cells that are not stored are not lent, nor are chunks, nor cells of which one lies outside
not_stored : is_lent (three_bytes (Contiguous false)) (record { start = 1; stride = 1; count = 2; block = 1 } ∷ []) ≡ false
unfolding selection_of
not_stored = refl

in_chunks : is_lent (three_bytes (Chunked (3 ∷ []))) (record { start = 1; stride = 1; count = 2; block = 1 } ∷ []) ≡ false
unfolding selection_of
in_chunks = refl

lent_outside : is_lent (three_bytes Compact) (record { start = 2; stride = 1; count = 2; block = 1 } ∷ []) ≡ false
unfolding selection_of
lent_outside = refl

-- ---- message bodies

-- one size of 3, without maxima
space : extent_of (1 ∷ 1 ∷ 0 ∷ 0 ∷ 0 ∷ 0 ∷ 0 ∷ 0 ∷ 3 ∷ 0 ∷ 0 ∷ 0 ∷ 0 ∷ 0 ∷ 0 ∷ 0 ∷ []) ≡ Some (record { sizes = 3 ∷ []; maxima = Some 3 ∷ [] })
unfolding extent_of number_at
space = refl

-- a size alone is its own maximum, all ones too; only a maximum of all ones is unlimited
largest_size : extent_of (1 ∷ 1 ∷ 0 ∷ 0 ∷ 0 ∷ 0 ∷ 0 ∷ 0 ∷ replicate 8 255) ≡ Some (record { sizes = 18446744073709551615 ∷ []; maxima = Some 18446744073709551615 ∷ [] })
unfolding extent_of number_at
largest_size = refl

unlimited : extent_of (1 ∷ 1 ∷ 1 ∷ 0 ∷ 0 ∷ 0 ∷ 0 ∷ 0 ∷ 3 ∷ 0 ∷ 0 ∷ 0 ∷ 0 ∷ 0 ∷ 0 ∷ 0 ∷ replicate 8 255) ≡ Some (record { sizes = 3 ∷ []; maxima = None ∷ [] })
unfolding extent_of maximum_fits number_at
unlimited = refl

-- rank 33
too_many_dimensions : extent_of (1 ∷ 33 ∷ 0 ∷ 0 ∷ 0 ∷ 0 ∷ 0 ∷ 0 ∷ replicate 264 0) ≡ None
unfolding extent_of number_at
too_many_dimensions = refl

signed_word : fixed_of (16 ∷ 8 ∷ 0 ∷ 0 ∷ 4 ∷ 0 ∷ 0 ∷ 0 ∷ 0 ∷ 0 ∷ 32 ∷ 0 ∷ 0 ∷ 0 ∷ 0 ∷ 0 ∷ []) ≡ Some i32le
unfolding fixed_of number_at
signed_word = refl

-- late, if set, defined, size 0
usual_fill : fill_value i32le (2 ∷ 2 ∷ 2 ∷ 1 ∷ 0 ∷ 0 ∷ 0 ∷ 0 ∷ []) ≡ Some (pos 0)
unfolding fill_value number_at
usual_fill = refl

-- version 3: defined, a byte of 7; not defined; and both at once
flagged_fill : fill_value u8 (3 ∷ 42 ∷ 1 ∷ 0 ∷ 0 ∷ 0 ∷ 7 ∷ 0 ∷ []) ≡ Some (pos 7)
unfolding fill_value number_at value_at raw_at
flagged_fill = refl

unset_fill : fill_value u8 (3 ∷ 26 ∷ 0 ∷ 0 ∷ 0 ∷ 0 ∷ 0 ∷ 0 ∷ []) ≡ Some (pos 0)
unfolding fill_value number_at
unset_fill = refl

both_flags : fill_value u8 (3 ∷ 58 ∷ 1 ∷ 0 ∷ 0 ∷ 0 ∷ 7 ∷ 0 ∷ []) ≡ None
unfolding fill_value number_at
both_flags = refl

contiguous : layout_of (3 ∷ []) 4 (3 ∷ 1 ∷ 224 ∷ 4 ∷ 0 ∷ 0 ∷ 0 ∷ 0 ∷ 0 ∷ 0 ∷ 12 ∷ 0 ∷ 0 ∷ 0 ∷ 0 ∷ 0 ∷ 0 ∷ 0 ∷ 0 ∷ 0 ∷ 0 ∷ 0 ∷ 0 ∷ 0 ∷ []) ≡ Some (InBlock (Some (block 1248 12)))
unfolding layout_of number_at
contiguous = refl

-- an attribute `note` of two bytes, 7 and 8
note_body : List ℕ
note_body = 1 ∷ 0 ∷ 5 ∷ 0 ∷ 12 ∷ 0 ∷ 16 ∷ 0 ∷ 110 ∷ 111 ∷ 116 ∷ 101 ∷ 0 ∷ 0 ∷ 0 ∷ 0
    ∷ 16 ∷ 0 ∷ 0 ∷ 0 ∷ 1 ∷ 0 ∷ 0 ∷ 0 ∷ 0 ∷ 0 ∷ 8 ∷ 0 ∷ 0 ∷ 0 ∷ 0 ∷ 0
    ∷ 1 ∷ 1 ∷ 0 ∷ 0 ∷ 0 ∷ 0 ∷ 0 ∷ 0 ∷ 2 ∷ 0 ∷ 0 ∷ 0 ∷ 0 ∷ 0 ∷ 0 ∷ 0 ∷ 7 ∷ 8 ∷ []

note : attribute_of note_body ≡ Some (110 ∷ 111 ∷ 116 ∷ 101 ∷ [], record { fixed = u8; sizes = 2 ∷ []; values = pos 7 ∷ pos 8 ∷ []; body = None })
unfolding attribute_of number_at note_body fixed_of extent_of value_at raw_at
note = refl

-- version 3 is not padded and has a character set; an attribute `n` of no dimensions, 5
short_body : ℕ → List ℕ
short_body flags = 3 ∷ flags ∷ 2 ∷ 0 ∷ 12 ∷ 0 ∷ 8 ∷ 0 ∷ 0 ∷ 110 ∷ 0
    ∷ 16 ∷ 0 ∷ 0 ∷ 0 ∷ 1 ∷ 0 ∷ 0 ∷ 0 ∷ 0 ∷ 0 ∷ 8 ∷ 0
    ∷ 1 ∷ 0 ∷ 0 ∷ 0 ∷ 0 ∷ 0 ∷ 0 ∷ 0 ∷ 5 ∷ []

short_note : attribute_of (short_body 0) ≡ Some (110 ∷ [], record { fixed = u8; sizes = []; values = pos 5 ∷ []; body = Some (short_body 0) })
unfolding attribute_of number_at short_body fixed_of extent_of value_at raw_at
short_note = refl

shared_note : attribute_of (short_body 1) ≡ None
unfolding attribute_of number_at short_body
shared_note = refl
