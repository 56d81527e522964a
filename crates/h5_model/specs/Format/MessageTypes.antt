-- The types of header messages, each with its letter in section IV.A.2 of the File Format Specification 3.0.
use Rattle.std.specs.Prelude.{ℕ}

-- IV.A.2.a: NIL: padding that says nothing
abbrev pub nil_kind : ℕ
nil_kind = 0

-- IV.A.2.b: the sizes of an array or attribute
abbrev pub dataspace_kind : ℕ
dataspace_kind = 1

-- IV.A.2.c: links of a group that has no symbol table
abbrev pub link_info_kind : ℕ
link_info_kind = 2

-- IV.A.2.d: the type of cells
abbrev pub datatype_kind : ℕ
datatype_kind = 3

-- IV.A.2.e: the fill value, in its old form
abbrev pub old_fill_value_kind : ℕ
old_fill_value_kind = 4

-- IV.A.2.f: the fill value
abbrev pub fill_value_kind : ℕ
fill_value_kind = 5

-- IV.A.2.g: one link of a group that has no symbol table
abbrev pub link_kind : ℕ
link_kind = 6

-- IV.A.2.h: files outside that have an array's data
abbrev pub external_files_kind : ℕ
external_files_kind = 7

-- IV.A.2.i: how an array's data are laid out
abbrev pub data_layout_kind : ℕ
data_layout_kind = 8

-- IV.A.2.k: how a group without symbol table is stored
abbrev pub group_info_kind : ℕ
group_info_kind = 10

-- IV.A.2.l: the filters of an array's data
abbrev pub filter_pipeline_kind : ℕ
filter_pipeline_kind = 11

-- IV.A.2.m: an attribute
abbrev pub attribute_kind : ℕ
attribute_kind = 12

-- IV.A.2.n: a comment on the object
abbrev pub comment_kind : ℕ
comment_kind = 13

-- IV.A.2.o: when the object was changed, in its old form
abbrev pub old_modification_time_kind : ℕ
old_modification_time_kind = 14

-- IV.A.2.q: the place of a block of further messages
abbrev pub continuation_kind : ℕ
continuation_kind = 16

-- IV.A.2.r: the tree and the heap of a group
abbrev pub symbol_table_kind : ℕ
symbol_table_kind = 17

-- IV.A.2.s: when the object was changed
abbrev pub modification_time_kind : ℕ
modification_time_kind = 18
