-- An expander at a point of a run.
use Rattle.std.specs.Prelude.{◌≡◌, ℕ, ◌<◌, ◌≤◌, List, [], ◌∷◌, ◌++◌, Option, Some, None, IsSome, option_map}
use Rattle.page_run.specs.WkBaseDeclaredLeftLeft.{Left}
use Rattle.wiki_pages.specs.WkBaseDeclaredTitleTitle.{Title}
use Rattle.mw_frame.specs.declared.scene.Scene.{Scene}
use Rattle.mw_frame.specs.Scenes.{HaveNames}
use Rattle.wiki_markup.specs.Trees.{Trees}
use Rattle.page_run.specs.Run.{Run, Ends}
use Rattle.page_run.specs.State.{Tally, Gives, Reply}
use Rattle.page_run.specs.Perform.{perform, wait}
use Rattle.wiki_pages.specs.ExpandMeaningPlaces.{trees_at}
use Rattle.expand_texts.specs.ExpandMeaningExpand.{Setting, Page, expand, template_body, thing_text}
use Rattle.expand_texts.specs.ExpandMeaningOutcome.{Work, Reading, Including, next_event, Comes, Asks}
use Rattle.wiki_pages.specs.Pages.{Pages, find_page, direct_in, included_in}
use Rattle.wiki_pages.specs.Forests.{trees_in}
use Rattle.wiki_expand.specs.Points.{wiki_setting, plug, point, run_at, waiting as waiting_in, scene_in, state, Leads}
use Rattle.wiki_expand.specs.declared.frame.Wiki.{Wiki}
use Rattle.wiki_expand.specs.declared.frame.Machine.{Machine}
use Rattle.wiki_expand.specs.Weights.{levels, bodies, allowed}
use Rattle.wiki_expand.specs.Asked.{HasModule}
use Rattle.wiki_expand.specs.declared.frame.Frame.{Frame}
use Rattle.wiki_expand.specs.declared.frame.Pause.{Pause}
use Rattle.wiki_expand.specs.declared.frame.Pause.TheVariants.{Deeper as PausesDeeper, Asks as PausesAsking, Ended as PausesEnded}
use Rattle.wiki_expand.specs.declared.expander.Source.{Source}
use Rattle.wiki_expand.specs.declared.expander.Source.TheVariants.{Page as OfPage, Template as OfTemplate, Text as OfText}
use Rattle.wiki_expand.specs.declared.expander.Move.{Move}
use Rattle.wiki_expand.specs.declared.expander.Move.TheVariants.{Text as Came, Invoke as Invokes}
use Rattle.wiki_expand.specs.declared.expander.Doing.{Doing}
use Rattle.wiki_expand.specs.declared.expander.Doing.TheVariants.{Ready, Begins, Waiting, Over}
use Rattle.wiki_expand.specs.declared.expander.Expander.{Expander}

-- the work of a source, where its title is held
abbrev pub reading : Scene → Trees → Work
reading sc trees = Reading trees sc

abbrev pub including : Title → Scene → Trees → Work
including title sc trees = Including trees title sc

abbrev pub work_of : Pages → Source → Scene → Option Work
work_of pages (OfPage title) sc = option_map (reading sc) (direct_in pages title)
work_of pages (OfTemplate title) sc = option_map (including title sc) (included_in pages title)
work_of pages (OfText text) sc = Some (Reading (trees_at 0 text.nodes) sc)

abbrev pub work_from : Trees → Option Title → Scene → Work
work_from trees None sc = Reading trees sc
work_from trees (Some title) sc = Including trees title sc

abbrev pub work_page : Work → (List ℕ → Page) → Page
work_page (Reading trees sc) k = expand trees sc k
work_page (Including trees title sc) k = template_body trees title sc.args sc k

-- its title is held
abbrev pub IsHeldSource : Pages → Source → Type 0
IsHeldSource pages (OfPage title) = IsSome (find_page pages title)
IsHeldSource pages (OfTemplate title) = IsSome (find_page pages title)
IsHeldSource pages (OfText text) = Unit {0}

-- where an expander expands
abbrev pub setting_of : Expander → Setting
setting_of e = wiki_setting e.wiki

-- constructs and parameters in progress, bodies in progress, and what the nodes and the constructs in progress allow
abbrev pub depth_in : Expander → ℕ
depth_in e = levels e.machine.stack

abbrev pub templates_in : Expander → ℕ
templates_in e = bodies e.machine.stack

abbrev pub allowed_in : Left → Expander → ℕ
allowed_in left e = allowed left e.machine.stack

-- it goes on, it waits for an answer, or it is over
abbrev pub ready : Doing → Type 0
ready (Ready f) = Unit {0}
ready (Begins title trees args) = Unit {0}
ready Waiting = ⊥
ready Over = ⊥

abbrev pub waiting : Doing → Type 0
waiting (Ready f) = ⊥
waiting (Begins title trees args) = ⊥
waiting Waiting = Unit {0}
waiting Over = ⊥

abbrev pub IsReady : Expander → Type 0
IsReady e = ready e.doing

abbrev pub IsWaiting : Expander → Type 0
IsWaiting e = waiting e.doing

-- the run of a work stands here after these replies, whatever replies follow
pub record AtPoint (w : Setting) (p : Page) (work : Work) (first : Left) (given : List (Reply (List ℕ))) (left : Left) : Type 0 where
  pub tally : Tally
  pub goes_on : (more : List (Reply (List ℕ))) → perform (thing_text w) wait p (state left tally more) ≡ next_event w work first (given ++ more)

-- where it goes on
abbrev pub doing_point : Doing → Setting → List Frame → Scene → Option Page
doing_point (Ready f) w fs sc = Some (point w f fs sc)
doing_point (Begins title trees args) w fs sc = Some (template_body (trees_in trees) title args sc (plug w fs sc))
doing_point Waiting w fs sc = None
doing_point Over w fs sc = None

abbrev pub AtIf : Setting → Option Page → Work → Left → List (Reply (List ℕ)) → Left → Type 0
AtIf w (Some p) work first given left = AtPoint w p work first given left
AtIf w None work first given left = ⊥

-- AN EXPANDER STANDS AT THE POINT of a work's run, from these first allowances and after these replies, with so much left.
abbrev pub At : Expander → Work → Left → List (Reply (List ℕ)) → Left → Type 0
At e work first given left = AtIf (setting_of e) (doing_point e.doing (setting_of e) e.machine.stack (scene_in e.machine.scene)) work first given left

-- IT WAITS for a reply to the next question.
abbrev pub Waits : Expander → Work → Left → List (Reply (List ℕ)) → Type 0
Waits e work first given = (r : Reply (List ℕ)) (x : List ℕ) → r.response ≡ Gives x → AtPoint (setting_of e) (waiting_in e.wiki e.machine x) work first (given ++ r ∷ []) r.left

-- a move is the definition's: the text that the run comes to, or the invocation that it asks for, after which it waits
abbrev pub MoveAt : Move → Setting → List Frame → Scene → Work → Left → List (Reply (List ℕ)) → Left → Type 0
MoveAt (Came text) w fs sc work first given left = Comes (next_event w work first given) text left
MoveAt (Invokes job) w fs sc work first given left =
    Asks (next_event w work first given) job left
    × ((r : Reply (List ℕ)) (x : List ℕ) → r.response ≡ Gives x → AtPoint w (plug w fs sc x) work first (given ++ r ∷ []) r.left)

abbrev pub IsMove : Move → Expander → Work → Left → List (Reply (List ℕ)) → Left → Type 0
IsMove m e work first given left = MoveAt m (setting_of e) e.machine.stack (scene_in e.machine.scene) work first given left

-- an invocation's module is held, and no two arguments of its frames have one name
abbrev pub MoveAsks : Pages → Move → Type 0
MoveAsks pages (Came text) = Unit {0}
MoveAsks pages (Invokes job) = HasModule pages job × HaveNames job

-- after a move: it is over and nothing is in progress, or it waits
abbrev pub AfterIs : Move → Doing → List Frame → Type 0
AfterIs (Came text) d fs = (levels fs ≡ 0) × (bodies fs ≡ 0)
AfterIs (Invokes job) d fs = waiting d

abbrev pub IsAfter : Move → Expander → Type 0
IsAfter m e = AfterIs m e.doing e.machine.stack

-- a question takes what is allowed
abbrev pub MoveFalls : Move → ℕ → ℕ → Type 0
MoveFalls (Came text) before after = after ≤ before
MoveFalls (Invokes job) before after = after < before

-- ---- steps up to a pause

abbrev pub Moves : Wiki → Page → Left → Move → Machine → Left → Type 0
Moves w p l (Came x) m l' = Leads (wiki_setting w) p l (Ends x) l' × (m.stack ≡ [])
Moves w p l (Invokes job) m l' = Leads (wiki_setting w) p l (Run.Asks job (waiting_in w m)) l'

abbrev pub Pauses : Wiki → Page → Left → Pause → Machine → Left → Type 0
Pauses w p l (PausesDeeper f) m l' = Leads (wiki_setting w) p l (run_at w m f) l'
Pauses w p l (PausesAsking job) m l' = Leads (wiki_setting w) p l (Run.Asks job (waiting_in w m)) l'
Pauses w p l (PausesEnded x) m l' = Leads (wiki_setting w) p l (Ends x) l' × (m.stack ≡ [])

abbrev pub PauseFalls : ℕ → Pause → List Frame → Left → Type 0
PauseFalls n (PausesDeeper f) fs l = allowed l fs < n
PauseFalls n (PausesAsking job) fs l = allowed l fs < n
PauseFalls n (PausesEnded x) fs l = allowed l fs ≤ n

abbrev pub PauseAsks : Pages → Pause → Type 0
PauseAsks pages (PausesDeeper f) = Unit {0}
PauseAsks pages (PausesAsking job) = HasModule pages job × HaveNames job
PauseAsks pages (PausesEnded x) = Unit {0}

abbrev pub LeadsIf : Setting → Option Page → Left → Page → Left → Type 0
LeadsIf w (Some p) l q l' = Leads w p l q l'
LeadsIf w None l q l' = ⊥

abbrev pub IsDoing : Move → Doing → Type 0
IsDoing (Came text) d = Unit {0}
IsDoing (Invokes job) d = waiting d
