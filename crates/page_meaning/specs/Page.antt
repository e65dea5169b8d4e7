-- A PAGE: its text in full, what is left of its allowances, and what its data loads tell.
use Rattle.std.specs.Prelude.{ℕ, ◌+◌, List, []}
use Rattle.wk_base.specs.declared.title.Title.{Title}
use Rattle.wk_base.specs.declared.left.Left.{Left}
use Rattle.page_run.specs.State.{Tally, moment_of, start}
use Rattle.page_run.specs.Perform.{perform}
use Rattle.page_run.specs.Walk.{WalkState, empty_walk, walk}
use Rattle.expand_meaning.specs.WikiMarkupTrees.{Trees}
use Rattle.expand_meaning.specs.Expand.{thing_text}
use Rattle.expand_meaning.specs.Outcome.{Reading, expansion, page_scene, text_in}
use Rattle.page_meaning.specs.Wiki.{Wiki, setting}
use Rattle.page_meaning.specs.Told.{PageSeen}
use Rattle.page_meaning.specs.Drive.{invocation_reply, drive}

-- the walk over the data loads, in order: a completed load of a module whose load completed before is a repeat
abbrev pub walked : Tally → WalkState
walked t = walk t.loads empty_walk

-- KEPT: the charges of the repeats, which need not be evaluated again
abbrev pub kept_in : Tally → ℕ
kept_in t = (walked t).repeat_charges

-- BEGUN: the nodes of Lua that are begun where nothing is evaluated twice, those of invocations and those of fresh loads
abbrev pub begun_in : Tally → ℕ
begun_in t = t.invoked_nodes + (walked t).fresh_nodes

pub record Page : Type 0 where
  pub text : List ℕ
  pub left : Left
  pub repeat_charges : ℕ
  pub begun : ℕ

abbrev pub page_of : PageSeen → Page
page_of e = record { text = text_in e; left = (moment_of e).left; repeat_charges = kept_in (moment_of e).tally; begun = begun_in (moment_of e).tally }

-- the page's own text, expanded in a scene without arguments, with its invocations answered
abbrev pub page_event : Wiki → Title → Trees → Left → PageSeen
page_event wiki title trees full = perform (thing_text (setting wiki title)) (invocation_reply wiki title (drive wiki title)) (expansion (Reading trees (page_scene title))) (start tt full [])

-- THE PAGE of this title, whose own text has these trees
abbrev pub page : Wiki → Title → Trees → Left → Page
page wiki title trees full = page_of (page_event wiki title trees full)
