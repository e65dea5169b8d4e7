-- No method of a frame asks for data.
use Rattle.std.specs.Prelude.{ℕ, ◌+◌, List, [], length, Option, Some, None, Ok, Err, codes}
use Rattle.lua_slots.specs.WkBaseDeclaredTitleTitle.{Title}
use Rattle.lua_slots.specs.WkBaseDeclaredTitleNamespaceTheVariants.{Template as TemplateSpace}
use Rattle.lua_slots.specs.WkBaseTitles.{title_text}
use Rattle.lua_slots.specs.MwFrameDeclaredSceneArg.{Arg}
use Rattle.lua_slots.specs.MwFrameDeclaredQuestionAskTheVariants.{Template, Preprocess}
use Rattle.lua_slots.specs.LuaHeapDeclaredLibraryLibrary.{Library}
use Rattle.lua_slots.specs.LuaHeapDeclaredLibraryLibraryTheVariants.{FrameGetParent, FrameExpandTemplate, FramePreprocess, FrameGetArgument, FrameArgumentPairs, FrameNewChild, FrameGetTitle, FrameExtensionTag, MwGetCurrentFrame}
use Rattle.lua_slots.specs.LuaHeapValue.{Value, Text, Table}
use Rattle.lua_slots.specs.LuaHeapTable.{Entries}
use Rattle.lua_slots.specs.LuaHeapHeap.{Heap}
use Rattle.lua_slots.specs.LuaMeaningScope.{Bytes}
use Rattle.lua_slots.specs.LuaMeaningWorld.{World}
use Rattle.lua_slots.specs.LuaMeaningActs.{Frame, Parent, Nobody, Unmade, Made}
use Rattle.lua_slots.specs.LuaMeaningArguments.{Argument, a_text}
use Rattle.lua_slots.specs.LuaMeaningValues.{first, rest}
use Rattle.lua_slots.specs.LuaMeaningMetatables.{field}
use Rattle.lua_slots.specs.LuaMeaningQuestions.{TemplateAsked, TextAsked}
use Rattle.lua_slots.specs.LuaMeaningTag.{extension_tag}
use Rattle.lua_slots.specs.LuaMeaningFrames.{Numbered, merge_args, arg_named, bytes_of}
use Rattle.lua_slots.specs.LuaMeaningFrameMethods as methods
use Rattle.lua_slots.specs.LuaMeaningFrameMethods.{FramedEnd, FrameQuotes, FrameAsks, FrameWalks, Framed}
use Rattle.lua_slots.specs.LuaMeaningLibraries.{Form, InFrames, form}
use Rattle.lua_asks.proofs.CalmValues.{IsOther}

abbrev pub AsksNoData : FramedEnd → Type 0
AsksNoData (FrameAsks question asked) = IsOther question
AsksNoData end = Unit {0}

abbrev pub NeedsNoData : {X : Type 0} → Form X → Type 0
NeedsNoData (InFrames f) = AsksNoData f.end
NeedsNoData other = Unit {0}

pub record AsksNone {X : Type 0} (f : Framed X) : Type 0 where
  pub asks : AsksNoData f.end

none : {X : Type 0} {f : Framed X} → AsksNoData f.end → AsksNone f
none a = record { asks = a }

module _ {X : Type 0} (h : Heap X) (frames : List Frame) where
  if_argument : {Y : Type 0} (a : Argument Y) (f : Y → Framed X) → ((y : Y) → AsksNone (f y)) → AsksNone (methods.if_argument h frames a f)
  if_argument (Ok y) f k = k y
  if_argument (Err message) f k = none {f = methods.refuses h frames message} tt

  if_title : (a : Argument Title) (f : Title → Framed X) → ((title : Title) → AsksNone (f title)) → AsksNone (methods.if_title h frames a f)
  if_title (Ok title) f k = k title
  if_title (Err message) f k = none {f = methods.comes_to h frames (FrameQuotes message)} tt

  if_entries : (es : Entries) (f : List Arg → Framed X) → ((read : List Arg) → AsksNone (f read)) → AsksNone (methods.if_entries h frames es f)
  if_entries es f k = record { asks = (if_argument (methods.read_args es) f k).asks }

  in_frame : (function : Bytes) (args : List Value) (f : Numbered → Framed X) → ((self : Numbered) → AsksNone (f self)) → AsksNone (methods.in_frame h frames function args f)
  in_frame function args f k = if_argument (methods.a_frame h frames function args) f k

  parent_of : (self : Numbered) (p : Parent) → AsksNone (methods.parent_of h frames self p)
  parent_of self Nobody = none {f = methods.parent_of h frames self Nobody} tt
  parent_of self (Made number) = none {f = methods.parent_of h frames self (Made number)} tt
  parent_of self (Unmade scene) = none {f = methods.parent_of h frames self (Unmade scene)} tt

  argument_table : (t : Option Bytes) → AsksNone (methods.argument_table h frames t)
  argument_table None = none {f = methods.argument_table h frames None} tt
  argument_table (Some text) = none {f = methods.argument_table h frames (Some text)} tt

  get_parent : (args : List Value) → AsksNone (methods.get_parent h frames args)
  get_parent args = in_frame (codes "getParent") args (λ self. methods.parent_of h frames self self.frame.parent) (λ self. parent_of self self.frame.parent)

  -- `frame:expandTemplate`, `frame:preprocess`, `frame:getArgument` and `frame:newChild`, from the last test of their arguments to the first
  abbrev template_read : Numbered → Bytes → Title → List Arg → Framed X
  template_read self text title read = methods.asks h frames (length (title_text title) + bytes_of read) (Template self.frame.scene title (merge_args [] read)) (TemplateAsked text)

  abbrev template_titled : Numbered → Bytes → Entries → Title → Framed X
  template_titled self text entries title = methods.if_entries h frames entries (template_read self text title)

  abbrev template_listed : Numbered → Bytes → Entries → Framed X
  template_listed self text entries = methods.if_title h frames (methods.read_title text TemplateSpace) (template_titled self text entries)

  abbrev template_named : Numbered → ℕ → Bytes → Framed X
  template_named self t text = methods.if_argument h frames (methods.entries_of h (field h (Table t) (codes "args"))) (template_listed self text)

  abbrev template_asked : Numbered → ℕ → Framed X
  template_asked self t = methods.if_argument h frames (methods.a_title_text (field h (Table t) (codes "title"))) (template_named self t)

  expand_template : (args : List Value) → AsksNone (methods.expand_template h frames args)
  expand_template args =
      in_frame (codes "expandTemplate") args (λ self. methods.if_argument h frames (methods.a_request (rest args)) (template_asked self)) (λ self.
      if_argument (methods.a_request (rest args)) (template_asked self) (λ t.
      if_argument (methods.a_title_text (field h (Table t) (codes "title"))) (template_named self t) (λ text.
      if_argument (methods.entries_of h (field h (Table t) (codes "args"))) (template_listed self text) (λ entries.
      if_title (methods.read_title text TemplateSpace) (template_titled self text entries) (λ title.
      if_entries entries (template_read self text title) (λ read. none {f = template_read self text title read} tt))))))

  abbrev text_read : Numbered → Bytes → Framed X
  text_read self text = methods.asks h frames (length text) (Preprocess self.frame.scene text) TextAsked

  preprocess : (args : List Value) → AsksNone (methods.preprocess h frames args)
  preprocess args =
      in_frame (codes "preprocess") args (λ self. methods.if_argument h frames (a_text 2 (codes "preprocess") (methods.text_or_field h frames (codes "text") (rest args))) (text_read self)) (λ self.
      if_argument (a_text 2 (codes "preprocess") (methods.text_or_field h frames (codes "text") (rest args))) (text_read self) (λ text. none {f = text_read self text} tt))

  abbrev argument_read : Numbered → Bytes → Framed X
  argument_read self name = methods.argument_table h frames (arg_named name self.frame.scene.args)

  get_argument : (args : List Value) → AsksNone (methods.get_argument h frames args)
  get_argument args =
      in_frame (codes "getArgument") args (λ self. methods.if_argument h frames (a_text 2 (codes "getArgument") (methods.text_or_field h frames (codes "name") (rest args))) (argument_read self)) (λ self.
      if_argument (a_text 2 (codes "getArgument") (methods.text_or_field h frames (codes "name") (rest args))) (argument_read self) (λ name. argument_table (arg_named name self.frame.scene.args)))

  abbrev child_read : Numbered → Title → List Arg → Framed X
  child_read self title read = methods.child h frames self title read

  abbrev child_titled : Numbered → Entries → Title → Framed X
  child_titled self entries title = methods.if_entries h frames entries (child_read self title)

  abbrev child_listed : Numbered → Option Bytes → Entries → Framed X
  child_listed self text entries = methods.if_title h frames (methods.child_title text self.frame.scene.title) (child_titled self entries)

  abbrev child_named : Numbered → ℕ → Option Bytes → Framed X
  child_named self t text = methods.if_argument h frames (methods.entries_of h (field h (Table t) (codes "args"))) (child_listed self text)

  abbrev child_asked : Numbered → ℕ → Framed X
  child_asked self t = methods.if_argument h frames (methods.an_optional_text (field h (Table t) (codes "title"))) (child_named self t)

  new_child : (args : List Value) → AsksNone (methods.new_child h frames args)
  new_child args =
      in_frame (codes "newChild") args (λ self. methods.if_argument h frames (methods.a_request (rest args)) (child_asked self)) (λ self.
      if_argument (methods.a_request (rest args)) (child_asked self) (λ t.
      if_argument (methods.an_optional_text (field h (Table t) (codes "title"))) (child_named self t) (λ text.
      if_argument (methods.entries_of h (field h (Table t) (codes "args"))) (child_listed self text) (λ entries.
      if_title (methods.child_title text self.frame.scene.title) (child_titled self entries) (λ title.
      if_entries entries (child_read self title) (λ read. none {f = child_read self title read} tt))))))

  abbrev pairs_read : List Value → Framed X
  pairs_read args = methods.comes_to h frames (FrameWalks (field h (first args) (codes "args")))

  argument_pairs : (args : List Value) → AsksNone (methods.argument_pairs h frames args)
  argument_pairs args = in_frame (codes "argumentPairs") args (λ self. pairs_read args) (λ self. none {f = pairs_read args} tt)

  abbrev title_read : Numbered → Framed X
  title_read self = methods.answers h frames (Text (title_text self.frame.scene.title))

  get_title : (args : List Value) → AsksNone (methods.get_title h frames args)
  get_title args = in_frame (codes "getTitle") args title_read (λ self. none {f = title_read self} tt)

  abbrev tag_read : List Value → Framed X
  tag_read args = methods.as_framed h frames (extension_tag (rest args) h)

  frame_extension_tag : (args : List Value) → AsksNone (methods.frame_extension_tag h frames args)
  frame_extension_tag args = in_frame (codes "extensionTag") args (λ self. tag_read args) (λ self. none {f = tag_read args} tt)

  pub needs_no_data : (world : World) (which : Library) (args : List Value) → NeedsNoData (form world which args h frames)
  needs_no_data world FrameGetParent args = (get_parent args).asks
  needs_no_data world FrameExpandTemplate args = (expand_template args).asks
  needs_no_data world FramePreprocess args = (preprocess args).asks
  needs_no_data world FrameGetArgument args = (get_argument args).asks
  needs_no_data world FrameArgumentPairs args = (argument_pairs args).asks
  needs_no_data world FrameNewChild args = (new_child args).asks
  needs_no_data world FrameGetTitle args = (get_title args).asks
  needs_no_data world FrameExtensionTag args = (frame_extension_tag args).asks
  needs_no_data world MwGetCurrentFrame args = tt
  needs_no_data world which args = tt
