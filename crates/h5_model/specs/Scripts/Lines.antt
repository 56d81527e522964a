-- How a script's bytes are read: lines, words, numbers and lists, and what each line asks for. Lines end with a line feed, which the
-- last may lack; words are separated by one space, so none is empty. What is of no form is a bad line.
use Rattle.std.specs.Prelude.{ℕ, zero, suc, ◌+◌, ◌-◌, ◌*◌, ◌^◌, ◌==◌, ◌&&◌, ◌||◌, Bool, true, false, not, nat_le, nat_lt, if◌then◌else◌, ℤ, pos, neg_ℤ, Option, Some, None, List, [], ◌∷◌, ◌++◌, map, filter_map, length, drop, take, slice_index, codes, find, option_map, option_and_then, unwrap_or}
use Rattle.std.specs.Str.{bytes_eq}
use Rattle.std.specs.List.{list_any, list_all, slice_split, suffix_len}
use Rattle.h5_model.specs.Format.Limits.{most_line_bytes, most_script_bytes}
use Rattle.h5_model.specs.Format.Fixed.{Fixed}
use Rattle.h5_model.specs.Scripts.Text.{is_plain, type_text}
use Rattle.h5_model.specs.declared.hyperslab.Hyper.{Hyper}
use Rattle.h5_model.specs.declared.dataset.Store.{Store}
use Rattle.h5_model.specs.declared.dataset.Store.TheVariants as store
use Rattle.h5_model.specs.declared.edits.Edit.{Edit}
use Rattle.h5_model.specs.declared.edits.Edit.TheVariants.{CreateGroup, CreateDataset, HardLink, SoftLink, Unlink, SetAttr, RemoveAttr, Write, Resize}

-- what a line asks for
pub data Command : Type 0 where
  Change : Edit → Command
  OpenView : List ℕ → Hyper → Command
  Show : ℕ → Command
  Close : ℕ → Command
  ListAll : Command
  Dump : List ℕ → Command
  Repack : Command
  Unread : Command

-- ---- numbers

abbrev pub is_digit : ℕ → Bool
is_digit c = nat_le 48 c && nat_le c 57

-- the number that digits stand for, behind digits that stand for n
abbrev pub number_on : ℕ → List ℕ → ℕ
number_on n [] = n
number_on n (c ∷ cs) = number_on (10 * n + (c - 48)) cs

-- one digit or more, leading zeros allowed, and a number of at most so much
abbrev pub number_upto : ℕ → List ℕ → Option ℕ
number_upto most word =
    if (not (length word == 0) && list_all is_digit word) && nat_le (number_on 0 word) most then Some (number_on 0 word) else None

abbrev pub u32_from : List ℕ → Option ℕ
u32_from word = number_upto (2 ^ 32 - 1) word

abbrev pub u64_from : List ℕ → Option ℕ
u64_from word = number_upto (2 ^ 64 - 1) word

-- a number of `i128`; `-` may stand before the digits
abbrev pub value_from : List ℕ → Option ℤ
value_from word =
    if slice_index word 0 == 45 then option_map (λ n. neg_ℤ (pos n)) (number_upto (2 ^ 127) (drop 1 word))
    else option_map (λ n. pos n) (number_upto (2 ^ 127 - 1) word)

-- ---- lists

abbrev pub all_read : {Y : Type 0} → (List ℕ → Option Y) → List (List ℕ) → Option (List Y)
all_read read [] = Some []
all_read read (w ∷ ws) = option_and_then (λ x. option_map (λ xs. x ∷ xs) (all_read read ws)) (read w)

-- `-`, or items joined by commas
abbrev pub list_from : {Y : Type 0} → (List ℕ → Option Y) → List ℕ → Option (List Y)
list_from read word = if bytes_eq word (codes "-") then Some [] else all_read read (slice_split (λ c. c == 44) word)

-- a maximum: `inf`, or a number
abbrev pub maximum_read : List ℕ → Option (Option ℕ)
maximum_read word = if bytes_eq word (codes "inf") then Some None else option_map (λ n. Some n) (u64_from word)

-- a size, which is its own maximum, or a size and its maximum
abbrev pub size_from : List ℕ → Option (ℕ × Option ℕ)
size_from item = parts (slice_split (λ c. c == 47) item) where
  parts : List (List ℕ) → Option (ℕ × Option ℕ)
  parts (size ∷ []) = option_map (λ d. (d, Some d)) (u64_from size)
  parts (size ∷ most ∷ []) = option_and_then (λ d. option_map (λ m. (d, m)) (maximum_read most)) (u64_from size)
  parts _ = None

-- ---- names, types, stores

-- a hexadecimal digit, lower-case
abbrev pub hex_from : ℕ → Option ℕ
hex_from c = if is_digit c then Some (c - 48) else (if nat_le 97 c && nat_le c 102 then Some (c - 87) else None)

-- the byte of the escape behind a backslash: `x` and two digits
abbrev pub escape_from : List ℕ → Option ℕ
escape_from cs =
    if slice_index cs 0 == 120
    then option_and_then (λ h. option_map (λ l. 16 * h + l) (hex_from (slice_index cs 2))) (hex_from (slice_index cs 1))
    else None

-- the bytes that a word stands for, its first n bytes being read already
abbrev pub unescaped_past : ℕ → List ℕ → Option (List ℕ)
unescaped_past n [] = Some []
unescaped_past (suc n) (c ∷ cs) = unescaped_past n cs
unescaped_past zero (c ∷ cs) =
    if c == 92 then option_and_then (λ b. option_map (λ bs. b ∷ bs) (unescaped_past 3 cs)) (escape_from cs)
    else (if is_plain c then option_map (λ bs. c ∷ bs) (unescaped_past 0 cs) else None)

unfoldable pub unescaped_text : List ℕ → Option (List ℕ)
unescaped_text word = unescaped_past 0 word

-- the 14 types
abbrev pub types_of_size : ℕ → List Fixed
types_of_size n =
    record { size = n; signed = true; big = false } ∷ record { size = n; signed = false; big = false }
    ∷ record { size = n; signed = true; big = not (n == 1) } ∷ record { size = n; signed = false; big = not (n == 1) } ∷ []

-- the type of this text
unfoldable pub type_from : List ℕ → Option Fixed
type_from word = find (λ t. bytes_eq (type_text t) word) (types_of_size 1 ++ (types_of_size 2 ++ (types_of_size 4 ++ types_of_size 8)))

abbrev pub store_from : List ℕ → Option (Store (List ℕ))
store_from word =
    if bytes_eq word (codes "compact") then Some store.Compact
    else (if bytes_eq word (codes "contiguous") then Some store.Contiguous
    else (if bytes_eq (take 8 word) (codes "chunked:") then option_map (λ sizes. store.Chunked sizes) (list_from u32_from (drop 8 word)) else None))

abbrev pub fill_from : List ℕ → Option ℤ
fill_from word = if bytes_eq (take 5 word) (codes "fill=") then value_from (drop 5 word) else None

-- ---- lines

abbrev pub hyper_from : List ℕ → List ℕ → List ℕ → List ℕ → Option Hyper
hyper_from a b c d =
    option_and_then (λ start. option_and_then (λ stride. option_and_then (λ count. option_map
    (λ block. record { start = start; stride = stride; count = count; block = block })
    (list_from u64_from d)) (list_from u64_from c)) (list_from u64_from b)) (list_from u64_from a)

abbrev pub dataset_from : List ℕ → List ℕ → List ℕ → List ℕ → Option ℤ → Option Command
dataset_from path type sizes kept fill =
    option_and_then (λ p. option_and_then (λ t. option_and_then (λ ds. option_and_then (λ s. option_map
    (λ v. Change (CreateDataset p (record { fixed = t; dims = map (λ d. d.0) ds; maxima = map (λ d. d.1) ds; store = s; fill = v })))
    fill) (store_from kept)) (list_from size_from sizes)) (type_from type)) (unescaped_text path)

abbrev pub on_path : (List ℕ → Command) → List ℕ → Option Command
on_path command path = option_map command (unescaped_text path)

abbrev pub on_paths : (List ℕ → List ℕ → Command) → List ℕ → List ℕ → Option Command
on_paths command a b = option_and_then (λ x. option_map (command x) (unescaped_text b)) (unescaped_text a)

-- what a line of these words asks for, where it is of one of the forms
abbrev pub words_ask : List (List ℕ) → Option Command
words_ask (w ∷ []) =
    if bytes_eq w (codes "ls") then Some ListAll else (if bytes_eq w (codes "repack") then Some Repack else None)
words_ask (w ∷ a ∷ []) =
    if bytes_eq w (codes "group") then on_path (λ p. Change (CreateGroup p)) a
    else (if bytes_eq w (codes "unlink") then on_path (λ p. Change (Unlink p)) a
    else (if bytes_eq w (codes "dump") then on_path Dump a
    else (if bytes_eq w (codes "show") then option_map Show (u32_from a)
    else (if bytes_eq w (codes "close") then option_map Close (u32_from a) else None))))
words_ask (w ∷ a ∷ b ∷ []) =
    if bytes_eq w (codes "link") then on_paths (λ target path. Change (HardLink target path)) a b
    else (if bytes_eq w (codes "soft") then on_paths (λ text path. Change (SoftLink text path)) a b
    else (if bytes_eq w (codes "unattr") then on_paths (λ path name. Change (RemoveAttr path name)) a b
    else (if bytes_eq w (codes "resize") then option_and_then (λ p. option_map (λ ds. Change (Resize p ds)) (list_from u64_from b)) (unescaped_text a) else None)))
words_ask (w ∷ a ∷ b ∷ c ∷ d ∷ []) = if bytes_eq w (codes "dataset") then dataset_from a b c d (Some (pos 0)) else None
words_ask (w ∷ a ∷ b ∷ c ∷ d ∷ e ∷ []) =
    if bytes_eq w (codes "dataset") then dataset_from a b c d (fill_from e)
    else (if bytes_eq w (codes "attr") then attr
    else (if bytes_eq w (codes "view") then option_and_then (λ p. option_map (OpenView p) (hyper_from b c d e)) (unescaped_text a) else None)) where
      attr : Option Command
      attr = option_and_then (λ p. option_and_then (λ n. option_and_then (λ t. option_and_then (λ ds. option_map
          (λ vs. Change (SetAttr p (record { name = n; fixed = t; dims = ds; values = vs })))
          (list_from value_from e)) (list_from u64_from d)) (type_from c)) (unescaped_text b)) (unescaped_text a)
words_ask (w ∷ a ∷ b ∷ c ∷ d ∷ e ∷ v ∷ []) =
    if bytes_eq w (codes "write")
    then option_and_then (λ p. option_and_then (λ h. option_map (λ vs. Change (Write p h vs)) (list_from value_from v)) (hyper_from b c d e)) (unescaped_text a)
    else None
words_ask _ = None

abbrev pub is_empty_word : List ℕ → Bool
is_empty_word word = length word == 0

-- words are separated by one space, so none is empty
abbrev pub command_in : List (List ℕ) → Command
command_in words = if list_any is_empty_word words then Unread else unwrap_or (words_ask words) Unread

-- what a line asks for; None of a line that is passed over
unfoldable pub line_asks : List ℕ → Option Command
line_asks line =
    if nat_lt most_line_bytes (length line) then Some Unread
    else (if length line == 0 || slice_index line 0 == 35 then None else Some (command_in (slice_split (λ c. c == 32) line)))

-- what the lines of a script ask for; behind the last LF an empty line is passed over
unfoldable pub commands_of : List ℕ → List Command
commands_of script = filter_map line_asks (slice_split (λ c. c == 10) script)

-- the bytes up to the last LF and that LF; an unfinished line is not run
abbrev pub finished_lines : List ℕ → List ℕ
finished_lines script = take (length script - suffix_len (λ c. not (c == 10)) script) script

-- the longest part of a script that is run
abbrev pub within_limit : List ℕ → List ℕ
within_limit script = if nat_lt most_script_bytes (length script) then finished_lines (take most_script_bytes script) else script
