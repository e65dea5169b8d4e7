-- METHODS OF FRAMES (Scribunto, Frame object). Each finds its frame by the number in the metatable of its first argument, so a copy
-- of a frame is that frame. They read the tables that they are given without metamethods.
use Rattle.std.specs.Prelude.{ℕ, ◌+◌, pos, List, [], ◌∷◌, ◌++◌, length, Result, Ok, Err, Option, Some, None, if◌then◌else◌, slice_set, codes}
use Rattle.lua_syntax.specs.WkBaseDeclaredTitleTitle.{Title}
use Rattle.lua_syntax.specs.WkBaseDeclaredTitleNamespace.{Namespace}
use Rattle.mw_frame.specs.WkBaseDeclaredTitleNamespaceTheVariants.{Main, Template as TemplateSpace}
use Rattle.page_run.specs.WkBaseDeclaredTitleReadTitleFault.{TitleFault}
use Rattle.lua_syntax.specs.WkBaseTitles.{title_text, title_of}
use Rattle.lua_walk.specs.LuaHeapValue.{Value, Nil, Truth, Text, Table, is_nil}
use Rattle.mw_html.specs.LuaHeapTable.{Entries}
use Rattle.lua_walk.specs.LuaHeapHeap.{Heap, table_at}
use Rattle.lua_walk.specs.LuaHeapDeclaredLibraryLibraryTheVariants.{ArgumentExpand}
use Rattle.lua_meaning.specs.Charges.{filled_table_charge, frame_charge}
use Rattle.lua_meaning.specs.Scope.{Bytes}
use Rattle.mw_frame.specs.declared.scene.Arg.{Arg}
use Rattle.mw_frame.specs.declared.scene.Scene.{Scene}
use Rattle.mw_frame.specs.declared.question.Ask.{Ask}
use Rattle.mw_frame.specs.declared.question.Ask.TheVariants.{Template, Preprocess}
use Rattle.lua_meaning.specs.Questions.{Asked, TemplateAsked, TextAsked}
use Rattle.lua_meaning.specs.Values.{first, rest, text_in}
use Rattle.lua_meaning.specs.Acts.{Frame, Parent, Nobody, Unmade, Made}
use Rattle.lua_meaning.specs.Messages.{bad_argument, expected, bad_template_arguments, invalid_title}
use Rattle.lua_meaning.specs.Metatables.{field, metatable}
use Rattle.lua_meaning.specs.Arguments.{Plain, PlainEnd, Gives, Fails, Argument, some_value, a_text, passed}
use Rattle.lua_meaning.specs.Frames.{merge_args, arg_named, bytes_of, args_charge, function_entry, with_table, make_frame, frame_table, new_frame, table_of_frame, Numbered, frame_numbered, number_in_metatable}
use Rattle.lua_meaning.specs.Tag.{extension_tag}

-- A TITLE WITH ARGUMENTS, as `expandTemplate` and `newChild` are given them: a table with the fields `title` and `args`
abbrev pub a_request : List Value → Argument ℕ
a_request (Table t ∷ more) = Ok t
a_request given = Err bad_template_arguments

abbrev pub a_title_text : Value → Argument Bytes
a_title_text v = some_value bad_template_arguments (text_in v)

-- a title that may be left out: nil, or a text
abbrev pub option_argument : Option Bytes → Argument (Option Bytes)
option_argument (Some text) = Ok (Some text)
option_argument None = Err bad_template_arguments

abbrev pub an_optional_text : Value → Argument (Option Bytes)
an_optional_text v = if is_nil v then Ok None else option_argument (text_in v)

abbrev pub entries_of : {X : Type 0} → Heap X → Value → Argument Entries
entries_of h Nil = Ok []
entries_of h (Table t) = Ok (table_at h t).entries
entries_of h v = Err bad_template_arguments

-- a title, or the message that quotes the text that is none
abbrev pub title_or_message : Bytes → Result Title TitleFault → Argument Title
title_or_message text (Ok title) = Ok title
title_or_message text (Err fault) = Err (invalid_title text)

abbrev pub read_title : Bytes → Namespace → Argument Title
read_title text default = title_or_message text (title_of text default)

abbrev pub child_title : Option Bytes → Title → Argument Title
child_title None own = Ok own
child_title (Some text) own = read_title text Main

-- an entry as an argument: numbers give their digits, true gives `1`, and false the empty text
abbrev pub arg_value : Value → Option Bytes
arg_value (Truth b) = Some (if b then codes "1" else [])
arg_value v = text_in v

abbrev pub arg_of : Option Bytes → Option Bytes → Argument Arg
arg_of (Some name) (Some value) = Ok (record { name = name; value = value })
arg_of name value = Err bad_template_arguments

abbrev pub in_front : Argument Arg → Argument (List Arg) → Argument (List Arg)
in_front (Ok a) (Ok more) = Ok (a ∷ more)
in_front (Ok a) (Err message) = Err message
in_front (Err message) more = Err message

abbrev pub entry_arg : Value × Value → Argument Arg
entry_arg e = arg_of (text_in e.0) (arg_value e.1)

-- all entries that are not cleared, in order of `next`
abbrev pub read_args : Entries → Argument (List Arg)
read_args [] = Ok []
read_args (e ∷ more) = if is_nil e.1 then read_args more else in_front (entry_arg e) (read_args more)

-- THE ANSWER OF A METHOD: its charge in steps, the heap and the frames after it, and its end
pub data FramedEnd : Type 0 where
  -- values or an error, as of a function that calls back nobody
  FrameEnds : (end : PlainEnd) → FramedEnd
  -- an error, whose message quotes what the call was given
  FrameQuotes : (message : Bytes) → FramedEnd
  -- a question, and what waits for its answer
  FrameAsks : (question : Ask) (asked : Asked) → FramedEnd
  -- it goes on as `pairs` of this value
  FrameWalks : (value : Value) → FramedEnd

pub record Framed (X : Type 0) : Type 0 where
  pub charge : ℕ
  pub heap : Heap X
  pub frames : List Frame
  pub end : FramedEnd

-- the answer of a method that has taken so many steps before it
abbrev pub behind_charge : {X : Type 0} → ℕ → Framed X → Framed X
behind_charge n f = record f { charge = n + f.charge }

module _ {X : Type 0} (h : Heap X) (frames : List Frame) where
  -- an end, for nothing, where heap and frames stay as they are
  abbrev pub comes_to : FramedEnd → Framed X
  comes_to end = record { charge = 0; heap = h; frames = frames; end = end }

  abbrev pub answers : Value → Framed X
  answers v = comes_to (FrameEnds (Gives (v ∷ [])))

  abbrev pub refuses : Bytes → Framed X
  refuses message = comes_to (FrameEnds (Fails (Text message) (pos 1)))

  -- a question that costs so much
  abbrev pub asks : ℕ → Ask → Asked → Framed X
  asks charge question asked = record (comes_to (FrameAsks question asked)) { charge = charge }

  abbrev pub as_framed : Plain X → Framed X
  as_framed p = record { charge = p.charge; heap = p.heap; frames = frames; end = FrameEnds p.end }

  abbrev pub if_argument : {Y : Type 0} → Argument Y → (Y → Framed X) → Framed X
  if_argument (Ok y) f = f y
  if_argument (Err message) f = refuses message

  -- a title, or the text that is none
  abbrev pub if_title : Argument Title → (Title → Framed X) → Framed X
  if_title (Ok title) f = f title
  if_title (Err message) f = comes_to (FrameQuotes message)

  -- the entries of a table as arguments: each cleared one that is passed costs a step
  abbrev pub if_entries : Entries → (List Arg → Framed X) → Framed X
  if_entries es f = behind_charge (passed entry_arg es) (if_argument (read_args es) f)

  -- THE FRAME of a method
  abbrev pub a_frame : Bytes → List Value → Argument Numbered
  a_frame function args =
      some_value (bad_argument 1 function (expected (codes "frame") args)) (frame_numbered frames (number_in_metatable h (metatable h (first args))))

  abbrev pub in_frame : Bytes → List Value → (Numbered → Framed X) → Framed X
  in_frame function args f = if_argument (a_frame function args) f

  -- `mw.getCurrentFrame()`: the frame of the invocation, or nil where there is none
  abbrev pub get_current_frame : Framed X
  get_current_frame = answers (table_of_frame frames 0)

  -- `frame:getTitle()`
  abbrev pub get_title : List Value → Framed X
  get_title args = in_frame (codes "getTitle") args (λ self. answers (Text (title_text self.frame.scene.title)))

  -- `frame:getParent()`: the parent is made once, when it is asked for first; that costs a frame with its arguments
  abbrev pub made_parent : Numbered → Scene → Framed X
  made_parent self scene = record {
    charge = frame_charge + args_charge scene.args;
    heap = make_frame scene (length frames) h;
    frames = slice_set frames self.number (record self.frame { parent = Made (length frames) }) ++ new_frame h scene Nobody ∷ [];
    end = FrameEnds (Gives (frame_table h ∷ []));
  }

  abbrev pub parent_of : Numbered → Parent → Framed X
  parent_of self Nobody = answers Nil
  parent_of self (Made number) = answers (table_of_frame frames number)
  parent_of self (Unmade scene) = made_parent self scene

  abbrev pub get_parent : List Value → Framed X
  get_parent args = in_frame (codes "getParent") args (λ self. parent_of self self.frame.parent)

  -- `frame:argumentPairs()`
  abbrev pub argument_pairs : List Value → Framed X
  argument_pairs args = in_frame (codes "argumentPairs") args (λ self. comes_to (FrameWalks (field h (first args) (codes "args"))))

  -- A TEXT that is given alone, or as a field of a table
  abbrev pub text_or_field : Bytes → List Value → List Value
  text_or_field name (Table t ∷ more) = field h (Table t) name ∷ []
  text_or_field name given = given

  -- `frame:getArgument(name)`: nil, or a table with the argument's value, of which `expand` gives the entry `value`. It costs a table
  -- with two entries.
  abbrev pub argument_entries : Bytes → Entries
  argument_entries text = function_entry (codes "expand") ArgumentExpand ∷ (Text (codes "value"), Text text) ∷ []

  abbrev pub argument_table : Option Bytes → Framed X
  argument_table None = answers Nil
  argument_table (Some text) = record {
    charge = filled_table_charge 2;
    heap = with_table h (argument_entries text) Nil;
    frames = frames;
    end = FrameEnds (Gives (Table (length h.tables) ∷ []));
  }

  abbrev pub get_argument : List Value → Framed X
  get_argument args =
      in_frame (codes "getArgument") args (λ self.
      if_argument (a_text 2 (codes "getArgument") (text_or_field (codes "name") (rest args))) (λ name.
      argument_table (arg_named name self.frame.scene.args)))

  -- `frame:preprocess(text)`: the question costs the bytes of the text
  abbrev pub preprocess : List Value → Framed X
  preprocess args =
      in_frame (codes "preprocess") args (λ self.
      if_argument (a_text 2 (codes "preprocess") (text_or_field (codes "text") (rest args))) (λ text.
      asks (length text) (Preprocess self.frame.scene text) TextAsked))

  -- `frame:extensionTag(name, content, attrs)`
  abbrev pub frame_extension_tag : List Value → Framed X
  frame_extension_tag args = in_frame (codes "extensionTag") args (λ self. as_framed (extension_tag (rest args) h))

  -- `frame:expandTemplate{title=, args=}`: the kinds are tested, then the title, then the entries; the question costs the bytes of the
  -- title and of all entries that are read, also of one whose name comes again
  abbrev pub expand_template : List Value → Framed X
  expand_template args =
      in_frame (codes "expandTemplate") args (λ self.
      if_argument (a_request (rest args)) (λ t.
      if_argument (a_title_text (field h (Table t) (codes "title"))) (λ text.
      if_argument (entries_of h (field h (Table t) (codes "args"))) (λ entries.
      if_title (read_title text TemplateSpace) (λ title.
      if_entries entries (λ read.
      asks (length (title_text title) + bytes_of read) (Template self.frame.scene title (merge_args [] read)) (TemplateAsked text)))))))

  -- `frame:newChild{title=, args=}`: a frame of its own, with this frame as parent and its chain. Without a title it has this frame's.
  -- It costs a frame with all entries that are read.
  abbrev pub child : Numbered → Title → List Arg → Framed X
  child self title read = let scene : Scene = record { title = title; args = merge_args [] read; chain = self.frame.scene.chain } in record {
    charge = frame_charge + args_charge read;
    heap = make_frame scene (length frames) h;
    frames = frames ++ new_frame h scene (Made self.number) ∷ [];
    end = FrameEnds (Gives (frame_table h ∷ []));
  }

  abbrev pub new_child : List Value → Framed X
  new_child args =
      in_frame (codes "newChild") args (λ self.
      if_argument (a_request (rest args)) (λ t.
      if_argument (an_optional_text (field h (Table t) (codes "title"))) (λ text.
      if_argument (entries_of h (field h (Table t) (codes "args"))) (λ entries.
      if_title (child_title text self.frame.scene.title) (λ title.
      if_entries entries (λ read.
      child self title read))))))
