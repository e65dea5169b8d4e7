-- WHAT A RUN ASKS FROM OUTSIDE, AND ITS ANSWERS (Scribunto, Frame object and mw.loadData).
-- Arguments, scenes, jobs and the questions themselves (`Arg`, `Scene`, `Job`, `Ask`) are the types of the crate `mw_frame`.
use Rattle.lua_syntax.specs.WkBaseDeclaredTitleTitle.{Title}
use Rattle.lua_walk.specs.LuaHeapGraph.{Graph}
use Rattle.lua_meaning.specs.Scope.{Bytes}

-- ANSWERS. That an allowance is spent with an answer, the run is told otherwise.
pub data Answer : Type 0 where
  -- a text
  Expanded : (text : Bytes) → Answer
  -- there is no such page or module
  NoPage : Answer
  -- the tables of a data module
  Loaded : (data_ : Graph) → Answer
  -- a data module failed, with this message
  LoadFailed : (message : Bytes) → Answer

-- THE TABLE OF WHAT WAITS for an answer, by name: a machine that runs Lua keeps this name. Some keep the text that the call was given.
-- What each does is said in `Pending`.
pub data Asked : Type 0 where
  -- `frame:expandTemplate` waits for the text of a template
  TemplateAsked : (text : Bytes) → Asked
  -- `frame:preprocess` waits for its text, expanded
  TextAsked : Asked
  -- `mw.loadData` waits for the tables of a data module
  DataAsked : (text : Bytes) (title : Title) → Asked
