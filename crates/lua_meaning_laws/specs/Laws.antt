-- WHAT THE RUN OF A DATA MODULE ASKS (Scribunto, mw.loadData). It has no frame, so it can neither expand a template nor preprocess a
-- text; all that it can ask for is another data module.
use Rattle.std.specs.Prelude.{List}
use Rattle.lua_meaning.specs.WkBaseDeclaredTitleTitle.{Title}
use Rattle.lua_meaning.specs.WkBaseDeclaredLeftLeft.{Left}
use Rattle.lua_meaning.specs.PageRunState.{Reply, Event, Ended, Spent, Asked}
use Rattle.lua_meaning.specs.MwFrameDeclaredQuestionAsk.{Ask}
use Rattle.lua_meaning.specs.MwFrameDeclaredQuestionAskTheVariants.{Template, Preprocess, Data}
use Rattle.lua_meaning.specs.World.{World}
use Rattle.lua_meaning.specs.Questions.{Answer}
use Rattle.lua_meaning.specs.Acts.{State}
use Rattle.lua_meaning.specs.Start.{DataOf, lua}

-- a question for the tables of a data module
abbrev pub IsForData : Ask → Type 0
IsForData (Template scene title arguments) = ⊥
IsForData (Preprocess scene text) = ⊥
IsForData (Data title) = Unit {0}

-- where a run is seen to ask, it asks for data
abbrev pub AsksForData : {O : Type 0} → Event State Ask O → Type 0
AsksForData (Ended outcome moment) = Unit {0}
AsksForData (Spent which moment) = Unit {0}
AsksForData (Asked question moment) = IsForData question

-- In every world, from every allowance and after any replies, the run of a data module asks for data alone.
abbrev pub DataRunsAskForData : Type 0
DataRunsAskForData = (world : World) (title : Title) (left : Left) (replies : List (Reply Answer)) → AsksForData (lua world (DataOf title) left replies)
