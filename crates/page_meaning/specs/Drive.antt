-- RUNS OF LUA WITH THEIR QUESTIONS ANSWERED (Extension:Scribunto; Frame object, mw.loadData). Each reply is computed from what is left at
-- its question, and the run goes on with what the reply leaves.
use Rattle.std.specs.Prelude.{ℕ, zero, suc, List, [], Option, Some, None}
use Rattle.wk_base.specs.declared.title.Title.{Title}
use Rattle.wk_base.specs.declared.left.Left.{Left}
use Rattle.page_run.specs.declared.which.Which.TheVariants.{Steps}
use Rattle.page_run.specs.State.{Reply, Replier, Spent, moment, start}
use Rattle.page_run.specs.Perform.{size, perform}
use Rattle.expand_meaning.specs.MwFrameDeclaredSceneArg.{Arg}
use Rattle.expand_meaning.specs.MwFrameDeclaredSceneScene.{Scene}
use Rattle.expand_meaning.specs.MwFrameDeclaredSceneJob.{Job}
use Rattle.lua_meaning_laws.specs.MwFrameDeclaredQuestionAsk.{Ask}
use Rattle.lua_meaning_laws.specs.MwFrameDeclaredQuestionAskTheVariants.{Template, Preprocess, Data}
use Rattle.expand_meaning.specs.WikiMarkupTrees.{Trees}
use Rattle.expand_meaning.specs.Expand.{thing_text}
use Rattle.expand_meaning.specs.Outcome.{Work as PageWork, Reading, Including, expansion}
use Rattle.lua_meaning_laws.specs.LuaMeaningWorld.{Module}
use Rattle.lua_meaning_laws.specs.LuaMeaningQuestions.{Answer}
use Rattle.lua_meaning_laws.specs.LuaMeaningThings.{meaning_of}
use Rattle.lua_meaning_laws.specs.LuaMeaningHome.{home}
use Rattle.lua_meaning_laws.specs.LuaMeaningStart.{Work, Invoke, DataOf, run_of}
use Rattle.page_meaning.specs.Wiki.{Wiki, setting, world, read}
use Rattle.page_meaning.specs.Told.{Seen, invoked, loaded, expanded, absent}

-- what each run of Lua comes to, from what is left
abbrev pub Runs : Type 0
Runs = Work → Left → Seen

module _ (wiki : Wiki) (page : Title) where
  -- REPLIES, where `runs` says what the runs inside them come to
  module _ (runs : Runs) where
    -- an expansion asks for an invocation
    abbrev pub invocation_reply : Replier Job (List ℕ)
    invocation_reply job l = Some (invoked (runs (Invoke job) l))

    -- a run of Lua asks for an expansion,
    abbrev pub expansion_reply : PageWork → Left → Reply Answer
    expansion_reply work l = expanded (perform (thing_text (setting wiki page)) invocation_reply (expansion work) (start tt l []))

    -- for the text of a template in a frame with these arguments,
    abbrev pub template_reply : Option Trees → Title → Scene → List Arg → Left → Reply Answer
    template_reply (Some trees) title scene args l = expansion_reply (Including trees title record scene { args = args }) l
    template_reply None title scene args l = absent l

    -- and for the tables of a data module
    abbrev pub data_reply : Option Module → Title → Left → Reply Answer
    data_reply (Some m) title l = loaded title l (runs (DataOf title) l)
    data_reply None title l = absent l

    -- THE REPLIES to the three questions
    abbrev pub reply : Ask → Left → Reply Answer
    reply (Template scene title args) l = template_reply (wiki.included title) title scene args l
    reply (Preprocess scene text) l = expansion_reply (Reading (read text) scene) l
    reply (Data title) l = data_reply (wiki.modules title) title l

    abbrev pub replies : Replier Ask Answer
    replies question l = Some (reply question l)

    -- one run, with its questions answered
    abbrev pub one_run : Runs
    one_run work l = perform (meaning_of (world wiki page)) replies (run_of (world wiki page) work) (start home l [])

  -- runs inside one another, at most n deep
  abbrev pub drive_by : ℕ → Runs
  drive_by zero work l = Spent Steps (moment (start {A = Answer} home l []))
  drive_by (suc n) work l = one_run (drive_by n) work l

  -- THE MEANING of a run with its questions answered. Each run takes steps when it starts, so there are fewer runs inside it than steps:
  -- `drive` is one run, whose replies are those of `drive` itself.
  unfoldable pub drive : Runs
  drive work l = drive_by (suc (size l)) work l

  -- AN INVOCATION: the job, the title of the page, the wiki and what is left are all that it depends on
  abbrev pub invoke : Job → Left → Reply (List ℕ)
  invoke job l = invoked (drive (Invoke job) l)

  -- THE LOAD of a data module, evaluated afresh
  abbrev pub load : Title → Left → Reply Answer
  load title l = loaded title l (drive (DataOf title) l)
