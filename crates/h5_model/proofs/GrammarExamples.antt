-- How lines of a script are read, by computation.
use Rattle.std.proofs.Common.{◌≡◌, [], ◌∷◌, refl, true, false, Some, None, pos, negsuc, codes}
use Rattle.std.specs.Fmt.{digits}
use Rattle.h5_model.specs.Scripts.Lines.{Change, OpenView, Show, Close, ListAll, Dump, Repack, Unread, u64_from, u32_from, value_from, list_from, size_from, store_from, unescaped_text, type_from, line_asks, commands_of, finished_lines}
use Rattle.h5_model.specs.declared.dataset.Store.TheVariants as store
use Rattle.h5_model.specs.declared.edits.Edit.TheVariants.{CreateGroup, SoftLink, Resize}

-- leading zeros are allowed
zeros : u64_from (codes "007") ≡ Some 7
zeros = refl

largest : u64_from (codes "18446744073709551615") ≡ Some 18446744073709551615
largest = refl

past_largest : u64_from (codes "18446744073709551616") ≡ None
past_largest = refl

no_digit : u64_from [] ≡ None
no_digit = refl

past_short : u32_from (codes "4294967296") ≡ None
past_short = refl

least : value_from (codes "-170141183460469231731687303715884105728") ≡ Some (negsuc 170141183460469231731687303715884105727)
least = refl

below_least : value_from (codes "-170141183460469231731687303715884105729") ≡ None
below_least = refl

minus_zero : value_from (codes "-0") ≡ Some (pos 0)
minus_zero = refl

no_plus : value_from (codes "+1") ≡ None
no_plus = refl

-- `-` is the empty list; an empty item is none
empty_list : list_from u64_from (codes "-") ≡ Some []
empty_list = refl

two_items : list_from u64_from (codes "1,02") ≡ Some (1 ∷ 2 ∷ [])
two_items = refl

empty_item : list_from u64_from (codes "1,") ≡ None
empty_item = refl

-- a size alone is its own maximum
own_maximum : list_from size_from (codes "5,5/9,5/inf") ≡ Some ((5, Some 5) ∷ (5, Some 9) ∷ (5, None) ∷ [])
own_maximum = refl

chunk_sizes : store_from (codes "chunked:2,3") ≡ Some (store.Chunked (2 ∷ 3 ∷ []))
chunk_sizes = refl

no_chunk_sizes : store_from (codes "chunked:-") ≡ Some (store.Chunked [])
no_chunk_sizes = refl

-- an escape of any byte is read; its digits are lower-case, and such a raw byte or a wrong escape is refused
escaped_slash : unescaped_text (codes "a\\x2fb") ≡ Some (codes "a/b")
unfolding unescaped_text
escaped_slash = refl

upper_case : unescaped_text (codes "\\x2F") ≡ None
unfolding unescaped_text
upper_case = refl

cut_short : unescaped_text (codes "\\x2") ≡ None
unfolding unescaped_text
cut_short = refl

raw_byte : unescaped_text (97 ∷ 255 ∷ []) ≡ None
unfolding unescaped_text
raw_byte = refl

high_first : type_from (codes "u16be") ≡ Some (record { size = 2; signed = false; big = true })
unfolding type_from digits
high_first = refl

-- one byte has no order
no_order : type_from (codes "u8le") ≡ None
unfolding type_from digits
no_order = refl

comment : line_asks (codes "# group /g") ≡ None
unfolding line_asks
comment = refl

empty_line : line_asks [] ≡ None
unfolding line_asks
empty_line = refl

two_spaces : line_asks (codes "group  /a") ≡ Some Unread
unfolding line_asks unescaped_text
two_spaces = refl

upper_word : line_asks (codes "Group /a") ≡ Some Unread
unfolding line_asks unescaped_text
upper_word = refl

one_word_more : line_asks (codes "ls /") ≡ Some Unread
unfolding line_asks unescaped_text
one_word_more = refl

-- the words of a line in their order
soft : line_asks (codes "soft to /s") ≡ Some (Change (SoftLink (codes "to") (codes "/s")))
unfolding line_asks unescaped_text
soft = refl

resize : line_asks (codes "resize /c 5,4") ≡ Some (Change (Resize (codes "/c") (5 ∷ 4 ∷ [])))
unfolding line_asks unescaped_text
resize = refl

view : line_asks (codes "view /c 1 2 3 4") ≡ Some (OpenView (codes "/c") (record { start = 1 ∷ []; stride = 2 ∷ []; count = 3 ∷ []; block = 4 ∷ [] }))
unfolding line_asks unescaped_text
view = refl

-- a script's lines; the last may lack its end
whole : commands_of (codes "group /g\n\n# more\nshow 0\nclose 1\nls\ndump /\nrepack") ≡ Change (CreateGroup (codes "/g")) ∷ Show 0 ∷ Close 1 ∷ ListAll ∷ Dump (codes "/") ∷ Repack ∷ []
unfolding commands_of line_asks unescaped_text
whole = refl

-- what is left of a script that is cut: the lines that end
cut : finished_lines (codes "ls\nrep") ≡ codes "ls\n"
cut = refl

cut_at_end : finished_lines (codes "ls\nls\n") ≡ codes "ls\nls\n"
cut_at_end = refl
