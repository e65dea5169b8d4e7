-- PARTS OF METHODS, in the meaning's own words, for what was found so far: `self` is the frame of the method, `given` are the arguments
-- behind it. Each method is one of these behind its frame.
use Rattle.std.specs.Prelude.{◌≡◌, ℕ, ◌+◌, List, [], ◌∷◌, length, Option, Some, None, Ok, Err, codes}
use Rattle.std.specs.Option.{option_map}
use Rattle.mw_frame.specs.WkBaseDeclaredTitleTitle.{Title}
use Rattle.mw_frame.specs.WkBaseDeclaredTitleNamespaceTheVariants.{Template as TemplateSpace}
use Rattle.mw_frame.specs.WkBaseTitles.{title_text}
use Rattle.mw_frame.specs.declared.scene.Arg.{Arg}
use Rattle.mw_frame.specs.declared.scene.Scene.{Scene}
use Rattle.mw_frame.specs.declared.question.Ask.TheVariants.{Template, Preprocess}
use Rattle.mw_frame_texts.specs.LuaHeapProc.{Proc}
use Rattle.mw_frame_texts.specs.LuaHeapValue.{Value, Table}
use Rattle.mw_frame_texts.specs.LuaHeapTable.{Entries}
use Rattle.mw_frame_texts.specs.LuaHeapHeap.{Heap, table_at}
use Rattle.mw_frame_texts.specs.LuaMeaningScope.{Bytes}
use Rattle.mw_frame_texts.specs.LuaMeaningActs.{Frame}
use Rattle.mw_frame_texts.specs.LuaMeaningArguments.{Argument, a_text}
use Rattle.mw_frame_texts.specs.LuaMeaningQuestions.{TemplateAsked, TextAsked}
use Rattle.mw_frame_texts.specs.LuaMeaningMessages.{bad_template_arguments}
use Rattle.mw_frame_texts.specs.LuaMeaningMetatables.{field}
use Rattle.mw_frame_texts.specs.LuaMeaningFrames.{merge_args, arg_named, bytes_of, Numbered}
use Rattle.mw_frame_texts.specs.LuaMeaningFrameMethods.{Framed, if_argument, if_title, if_entries, asks, text_or_field, argument_table, a_request, a_title_text, an_optional_text, entries_of, read_title, child_title, child}
use Rattle.mw_frame_texts.specs.LuaStoreDeclaredIdsTableId.{TableId}
use Rattle.mw_frame_texts.specs.LuaStoreSeen.{StoreView, seen, text_at}
use Rattle.mw_frame_texts.specs.LuaStoreParts.{IsTextOf}
use Rattle.mw_frame_texts.specs.LuaBasicArguments.{text_bytes}
use Rattle.mw_frame_texts.specs.LuaBasicDeclaredTextsTextIn.{TextIn}
use Rattle.mw_frame_texts.specs.MwFramesScenes.{frame_seen}
use Rattle.mw_frame_texts.specs.MwFramesDeclaredScenesSceneFrame.{SceneFrame}
use Rattle.mw_frame_calls.specs.declared.requests.Request.{Request}
use Rattle.mw_frame_calls.specs.declared.requests.TitleRead.{TitleRead}
use Rattle.mw_frame_calls.specs.declared.requests.TitleRead.TheVariants as title

-- a frame with its number
abbrev pub numbered : ℕ → SceneFrame → Numbered
numbered n f = record { number = n; frame = frame_seen f }

-- a title that may be left out: nil, or a text
abbrev pub found_optional : Option (Option TextIn) → Argument (Option Bytes)
found_optional (Some text) = Ok (option_map text_bytes text)
found_optional None = Err bad_template_arguments

-- the scene of a new child
abbrev pub child_scene : SceneFrame → Title → List Arg → Scene
child_scene f title read = record { title = title; args = merge_args [] read; chain = f.scene.chain }

-- WHAT WAS FOUND of a text that is given alone or as a field: the table that has the field, or none
abbrev pub given_or_field : Heap Proc → List Value → Bytes → Option TableId → List Value
given_or_field h given name (Some table) = field h (Table table.at) name ∷ []
given_or_field h given name None = given

-- the table that is given, or the message that there is none
abbrev pub found_request : Option TableId → Argument ℕ
found_request (Some table) = Ok table.at
found_request None = Err bad_template_arguments

-- a title that was read, or the message that quotes the text that is none
abbrev pub title_found : List (List ℕ) → TitleRead → Argument Title
title_found texts (title.Found x) = Ok x
title_found texts (title.Quotes message) = Err (text_at texts message.at)

abbrev pub IfFound : TitleRead → Type 0 → Type 0
IfFound (title.Found x) A = A
IfFound (title.Quotes message) A = Unit {0}

abbrev pub TitleReadOf : StoreView → TitleRead → Type 0
TitleReadOf s (title.Found x) = Unit {0}
TitleReadOf s (title.Quotes message) = IsTextOf s message

-- the two fields of a table that is given
pub record IsRequest (s : StoreView) (given : List Value) (r : Request) : Type 0 where
  pub table : ℕ
  pub found : a_request given ≡ Ok table
  pub title : seen s.texts r.title ≡ field s.heap (Table table) (codes "title")
  pub args : seen s.texts r.args ≡ field s.heap (Table table) (codes "args")

-- the table of which entries are read, or nothing for nil; None where it is neither
abbrev pub entries_in : Heap Proc → Option TableId → Entries
entries_in h (Some table) = (table_at h table.at).entries
entries_in h None = []

abbrev pub found_entries : Heap Proc → Option (Option TableId) → Argument Entries
found_entries h (Some table) = Ok (entries_in h table)
found_entries h None = Err bad_template_arguments

module _ {X : Type 0} (h : Heap X) (frames : List Frame) where
  -- `getArgument` in a scene
  abbrev pub argument_in : Scene → List Value → Framed X
  argument_in scene given =
      if_argument h frames (a_text 2 (codes "getArgument") (text_or_field h frames (codes "name") given)) (λ name.
      argument_table h frames (arg_named name scene.args))

  -- `preprocess` in a scene
  abbrev pub preprocess_in : Scene → List Value → Framed X
  preprocess_in scene given =
      if_argument h frames (a_text 2 (codes "preprocess") (text_or_field h frames (codes "text") given)) (λ text.
      asks h frames (length text) (Preprocess scene text) TextAsked)

  -- `expandTemplate` in a scene
  abbrev pub template_asked : Scene → Bytes → Title → List Arg → Framed X
  template_asked scene text title read = asks h frames (length (title_text title) + bytes_of read) (Template scene title (merge_args [] read)) (TemplateAsked text)

  abbrev pub template_read : Scene → Bytes → Title → Entries → Framed X
  template_read scene text title entries = if_entries h frames entries (λ read. template_asked scene text title read)

  abbrev pub template_titled : Scene → Bytes → Entries → Framed X
  template_titled scene text entries =
      if_title h frames (read_title text TemplateSpace) (λ title.
      template_read scene text title entries)

  abbrev pub template_in : Scene → List Value → Framed X
  template_in scene given =
      if_argument h frames (a_request given) (λ t.
      if_argument h frames (a_title_text (field h (Table t) (codes "title"))) (λ text.
      if_argument h frames (entries_of h (field h (Table t) (codes "args"))) (λ entries.
      template_titled scene text entries)))

  -- `newChild` of a frame
  abbrev pub child_read : Numbered → Title → Entries → Framed X
  child_read self title entries = if_entries h frames entries (λ read. child h frames self title read)

  abbrev pub child_titled : Numbered → Option Bytes → Entries → Framed X
  child_titled self text entries =
      if_title h frames (child_title text self.frame.scene.title) (λ title.
      child_read self title entries)

  abbrev pub child_of : Numbered → List Value → Framed X
  child_of self given =
      if_argument h frames (a_request given) (λ t.
      if_argument h frames (an_optional_text (field h (Table t) (codes "title"))) (λ text.
      if_argument h frames (entries_of h (field h (Table t) (codes "args"))) (λ entries.
      child_titled self text entries)))
