-- FRAMES (Scribunto, Frame object): the tables by which an invoked function sees its arguments.
use Rattle.std.specs.Prelude.{ℕ, ◌+◌, pos, Bool, false, ◌&&◌, not, List, [], ◌∷◌, length, Option, Some, None, option_map, if◌then◌else◌, nat_le, nat_lt, slice_get, slice_index, ◌==◌, bytes_eq, codes}
use Rattle.std.specs.Char.{is_ascii_digit}
use Rattle.std.specs.List.{list_all}
use Rattle.std.specs.Str.Parse.{digits_value}
use Rattle.lua_walk.specs.LuaHeapValue.{Value, Nil, Truth, Number, Text, Table, Builtin}
use Rattle.mw_html.specs.LuaHeapTable.{Entries, get, set}
use Rattle.lua_walk.specs.LuaHeapHeap.{Heap, TableObj, add, table_at}
use Rattle.lua_walk.specs.LuaHeapDeclaredLibraryLibrary.{Library}
use Rattle.lua_walk.specs.LuaHeapDeclaredLibraryLibraryTheVariants.{ArgsIndex, FrameGetParent, FrameExpandTemplate, FramePreprocess, FrameGetArgument, FrameArgumentPairs, FrameNewChild, FrameGetTitle, FrameExtensionTag}
use Rattle.lua_meaning.specs.Charges.{argument_charge}
use Rattle.lua_meaning.specs.Scope.{Bytes}
use Rattle.mw_frame.specs.declared.scene.Arg.{Arg}
use Rattle.mw_frame.specs.declared.scene.Scene.{Scene}
use Rattle.lua_meaning.specs.Values.{second}
use Rattle.lua_meaning.specs.Acts.{Frame, Parent}
use Rattle.lua_meaning.specs.Arguments.{Plain, gives, with_argument, a_table}

-- ARGUMENTS: of two with one name the last counts, at the place of the first
abbrev pub put_arg : Arg → List Arg → List Arg
put_arg a [] = a ∷ []
put_arg a (b ∷ more) = if bytes_eq a.name b.name then a ∷ more else b ∷ put_arg a more

abbrev pub merge_args : List Arg → List Arg → List Arg
merge_args before [] = before
merge_args before (a ∷ more) = merge_args (put_arg a before) more

-- the value of the argument of that name
abbrev pub arg_named : Bytes → List Arg → Option Bytes
arg_named name [] = None
arg_named name (a ∷ more) = if bytes_eq name a.name then Some a.value else arg_named name more

-- the bytes of their names and values; and their charge where they stand in a frame
abbrev pub bytes_of : List Arg → ℕ
bytes_of [] = 0
bytes_of (a ∷ more) = length a.name + length a.value + bytes_of more

abbrev pub args_charge : List Arg → ℕ
args_charge [] = 0
args_charge (a ∷ more) = argument_charge + length a.name + length a.value + args_charge more

-- THE KEY of an argument's name in `args`: a decimal from 1 on without a leading zero, of at most 18 digits, is a number
abbrev pub is_place : Bytes → Bool
is_place name = nat_lt 0 (length name) && nat_le (length name) 18 && list_all is_ascii_digit name && not (slice_index name 0 == 48)

abbrev pub arg_key : Bytes → Value
arg_key name = if is_place name then Number (pos (digits_value 10 name)) else Text name

abbrev pub arg_entries : List Arg → Entries → Entries
arg_entries [] es = es
arg_entries (a ∷ more) es = arg_entries more (set es (arg_key a.name) (Text a.value))

-- `args[k]` where k is absent: a text that names a place gives the entry of that number
abbrev pub by_key : {X : Type 0} → Heap X → ℕ → Value → Plain X
by_key h t (Text name) = if is_place name then gives h (get (table_at h t).entries (arg_key name) ∷ []) else gives h (Nil ∷ [])
by_key h t v = gives h (Nil ∷ [])

abbrev pub args_index : {X : Type 0} → List Value → Heap X → Plain X
args_index args h = with_argument h (a_table 1 (codes "args") args) (λ t. by_key h t (second args))

-- `expand` of what `getArgument` gives: the entry `value` of its first argument
abbrev pub argument_expand : {X : Type 0} → List Value → Heap X → Plain X
argument_expand args h = with_argument h (a_table 1 (codes "expand") args) (λ t. gives h (get (table_at h t).entries (Text (codes "value")) ∷ []))

-- THE FOUR TABLES OF A FRAME, where so many tables are there already: its arguments and their metatable, the frame and its metatable,
-- which has the frame's number
abbrev pub function_entry : Bytes → Library → Value × Value
function_entry name f = (Text name, Builtin f)

abbrev pub args_meta : Entries
args_meta = (Text (codes "__metatable"), Truth false) ∷ function_entry (codes "__index") ArgsIndex ∷ []

abbrev pub frame_meta : ℕ → Entries
frame_meta number = (Number (pos 1), Number (pos number)) ∷ (Text (codes "__metatable"), Truth false) ∷ []

abbrev pub frame_entries : ℕ → Entries
frame_entries args =
    (Text (codes "args"), Table args)
    ∷ function_entry (codes "getParent") FrameGetParent
    ∷ function_entry (codes "expandTemplate") FrameExpandTemplate
    ∷ function_entry (codes "preprocess") FramePreprocess
    ∷ function_entry (codes "getArgument") FrameGetArgument
    ∷ function_entry (codes "argumentPairs") FrameArgumentPairs
    ∷ function_entry (codes "newChild") FrameNewChild
    ∷ function_entry (codes "getTitle") FrameGetTitle
    ∷ function_entry (codes "extensionTag") FrameExtensionTag
    ∷ []

-- a heap with one more table
abbrev pub with_table : {X : Type 0} → Heap X → Entries → Value → Heap X
with_table h es meta = add h (TableObj (record { entries = es; meta = meta; frozen = false }))

abbrev pub make_frame_at : {X : Type 0} → ℕ → Scene → ℕ → Heap X → Heap X
make_frame_at n scene number h =
    with_table (with_table (with_table (with_table h
    (arg_entries scene.args []) (Table (n + 1)))
    args_meta Nil)
    (frame_entries n) (Table (n + 3)))
    (frame_meta number) Nil

-- the heap with the frame of a scene, which has this number in its run
abbrev pub make_frame : {X : Type 0} → Scene → ℕ → Heap X → Heap X
make_frame scene number h = make_frame_at (length h.tables) scene number h

-- the frame's table in it, and the frame
abbrev pub frame_table : {X : Type 0} → Heap X → Value
frame_table h = Table (length h.tables + 2)

abbrev pub new_frame : {X : Type 0} → Heap X → Scene → Parent → Frame
new_frame h scene parent = record { scene = scene; table = frame_table h; parent = parent }

-- THE FRAMES OF A RUN, by number: the table of a frame, and the frame of which a value is the table or a copy
abbrev pub table_or_nil : Option Frame → Value
table_or_nil None = Nil
table_or_nil (Some f) = f.table

abbrev pub table_of_frame : List Frame → ℕ → Value
table_of_frame frames n = table_or_nil (slice_get frames n)

pub record Numbered : Type 0 where
  pub number : ℕ
  pub frame : Frame

abbrev pub frame_numbered : List Frame → Value → Option Numbered
frame_numbered frames (Number (pos n)) = option_map (λ f. record { number = n; frame = f }) (slice_get frames n)
frame_numbered frames v = None

abbrev pub number_in_metatable : {X : Type 0} → Heap X → Value → Value
number_in_metatable h (Table m) = get (table_at h m).entries (Number (pos 1))
number_in_metatable h v = Nil
