-- What an expander stands for: the rest of its run.
use Rattle.std.specs.Prelude.{◌≡◌, ℕ, ◌+◌, cond, List, [], ◌∷◌, ◌++◌, length, codes, decimal}
use Rattle.wiki_markup.specs.WkBaseSpace.{trim}
use Rattle.page_run.specs.WkBaseDeclaredLeftLeft.{Left}
use Rattle.wiki_pages.specs.WkBaseDeclaredTitleTitle.{Title}
use Rattle.mw_frame.specs.WkBaseDeclaredTitleNamespaceTheVariants.{Module}
use Rattle.wiki_markup.specs.Trees.{Trees}
use Rattle.mw_frame.specs.declared.scene.Arg.{Arg}
use Rattle.mw_frame.specs.declared.scene.Scene.{Scene}
use Rattle.page_run.specs.Run.{Run, TakeBytes, LeaveDepth, LeaveTemplate, Ends, Uses}
use Rattle.page_run.specs.Part.{open_or}
use Rattle.page_run.specs.State.{Tally, Reply, State}
use Rattle.page_run.specs.Perform.{perform, wait}
use Rattle.expand_texts.specs.ExpandMeaningTexts.{node_text, size_text, are_equal}
use Rattle.expand_texts.specs.ExpandMeaningKind.{kind_of, title_named}
use Rattle.wiki_pages.specs.ExpandMeaningPlaces.{part_in, no_part, name_in}
use Rattle.expand_texts.specs.ExpandMeaningExpand.{Setting, Thing, Page, Doing, Given, Looking, onward, expand, all_parts, put, found, arguments, value_or, either, by_name, valueless, after_turn, switch, module_titled, invocation, template_body, by_kind, thing_text}
use Rattle.wiki_pages.specs.Forests.{trees_in, parts}
use Rattle.wiki_pages.specs.Pages.{setting_in}
use Rattle.wiki_expand.specs.declared.frame.Wiki.{Wiki}
use Rattle.wiki_expand.specs.declared.frame.Machine.{Machine}
use Rattle.wiki_expand.specs.declared.frame.Inner.{Inner}
use Rattle.wiki_expand.specs.declared.frame.Walk.{Walk}
use Rattle.wiki_expand.specs.declared.frame.Seen.{Seen}
use Rattle.wiki_expand.specs.declared.frame.Call.{Call}
use Rattle.wiki_expand.specs.declared.frame.Purpose.{Purpose}
use Rattle.wiki_expand.specs.declared.frame.Purpose.TheVariants.{Invoke as ForModule, Template as ForPage}
use Rattle.wiki_expand.specs.declared.frame.Frame.{Frame}
use Rattle.wiki_expand.specs.declared.frame.Frame.TheVariants.{Walk as Walking, Level, Trim, Parameter, First, Written, Compare, Case, Valueless, Function, Unnamed, Name, Value, Body}
use Rattle.wiki_expand.specs.declared.frame.Focus.{Focus}
use Rattle.wiki_expand.specs.declared.frame.Focus.TheVariants.{Walk as Walks, Text as Hands}
use Rattle.wiki_expand.specs.declared.frame.Entry.{Entry}
use Rattle.wiki_expand.specs.declared.frame.Entry.TheVariants.{NoNode, NoLevel, Entered}
use Rattle.wiki_expand.specs.declared.frame.Progress.{Progress}
use Rattle.wiki_expand.specs.declared.frame.Progress.TheVariants.{On, Deeper, Asks}

-- where it expands
abbrev pub wiki_setting : Wiki → Setting
wiki_setting w = setting_in w.pages.now w.page

abbrev pub scene_in : Inner → Scene
scene_in s = record { title = s.title; args = s.args; chain = s.chain }

-- what is left of a walk
abbrev pub ahead : Walk → Trees
ahead s = cond s.named (name_in (trees_in s.rest)) (trees_in s.rest)

abbrev pub seen_in : Seen → Looking
seen_in s = record { met = s.met; waits = s.waits; default = trees_in s.default }

-- what arguments are handed to
abbrev pub finish : Setting → Purpose → Scene → (List ℕ → Page) → List Arg → Page
finish w (ForModule name function) sc k args = invocation (module_titled w (title_named name Module)) name function args sc k
finish w (ForPage title page) sc k args = template_body (trees_in page) title args sc k

-- the parts to come, with these arguments so far
abbrev pub calling : Setting → Call → Given → Scene → (List ℕ → Page) → Page
calling w c g sc k = arguments (parts c.rest) sc g (finish w c.purpose sc k)

abbrev pub given_in : Call → Given
given_in c = record { args = c.args; number = c.number }

abbrev pub unnamed : Call → List ℕ → Given
unnamed c x = record { args = put (decimal c.number) x c.args; number = c.number + 1 }

abbrev pub with_name : Call → List ℕ → List ℕ → Given
with_name c name x = record { args = put name x c.args; number = c.number }

abbrev pub behind_first : List Title → List Title
behind_first [] = []
behind_first (t ∷ ts) = ts

-- a construct or parameter ends with this text
abbrev pub leaving : (List ℕ → Page) → List ℕ → Page
leaving k x = Uses tt LeaveDepth (λ _. Uses tt (TakeBytes (length x)) (λ enough. k (cond enough x size_text)))

-- what a frame makes of a text in a scene, given what waits below
abbrev pub frame : Setting → Frame → (Scene → List ℕ → Page) → Scene → List ℕ → Page
frame w (Walking s) k sc x = onward (ahead s) sc (s.out ++ x) (k sc)
frame w Level k sc x = leaving (k sc) x
frame w Trim k sc x = k sc (trim x)
frame w (Parameter rest) k sc x = value_or (found (trim x) sc.args) x (part_in (parts rest)) sc (leaving (k sc))
frame w (First rest) k sc x = by_kind w (kind_of (no_part (parts rest)) w.page (trim x)) x (parts rest) sc (k sc)
frame w (Written rest) k sc x = all_parts (parts rest) sc x (λ out. k sc (out ++ codes "}}"))
frame w (Compare left rest) k sc x = either (are_equal left.items (trim x)) (parts rest) sc (k sc)
frame w (Case s value) k sc x = by_name s.value.items (trim x) (trees_in value) sc (seen_in s.seen) (λ t. after_turn t (switch s.value.items (parts s.rest) sc) (k sc))
frame w (Valueless s) k sc x = after_turn (valueless s.value.items (trim x) (no_part (parts s.rest)) (seen_in s.seen)) (switch s.value.items (parts s.rest) sc) (k sc)
frame w (Function name rest) k sc x = arguments (parts rest) sc (record { args = []; number = 1 }) (λ args. invocation (module_titled w (title_named name Module)) name (trim x) args sc (k sc))
frame w (Unnamed c) k sc x = calling w c (unnamed c x) sc (k sc)
frame w (Name c value) k sc x = expand (trees_in value) sc (λ v. calling w c (with_name c (trim x) (trim v)) sc (k sc))
frame w (Value c name) k sc x = calling w c (with_name c name (trim x)) sc (k sc)
frame w (Body title args) k sc x = Uses tt LeaveTemplate (λ _. k (record { title = title; args = args; chain = behind_first sc.chain }) x)

-- what all frames make of a text
abbrev pub plug : Setting → List Frame → Scene → List ℕ → Page
plug w [] sc x = Ends x
plug w (f ∷ fs) sc x = frame w f (plug w fs) sc x

abbrev pub focus_on : Focus → Scene → (List ℕ → Page) → Page
focus_on (Walks s) sc k = onward (ahead s) sc s.out k
focus_on (Hands x) sc k = k x

-- THE POINT: the rest of the run
abbrev pub point : Setting → Focus → List Frame → Scene → Page
point w f fs sc = focus_on f sc (plug w fs sc)

abbrev pub state : Left → Tally → List (Reply (List ℕ)) → State (Unit {0}) (List ℕ)
state l t more = record { heap = tt; left = l; in_progress = 0; tally = t; replies = more }

-- a run from here goes on as one from there, whatever was told and whatever replies come
pub record Leads (w : Setting) (p : Page) (l : Left) (q : Page) (l' : Left) : Type 0 where
  pub runs : (t : Tally) (more : List (Reply (List ℕ))) → perform (thing_text w) wait p (state l t more) ≡ perform (thing_text w) wait q (state l' t more)

-- the run at a focus of a machine, and the run in which what waits on top of it goes on with a text
abbrev pub run_at : Wiki → Machine → Focus → Page
run_at w m f = point (wiki_setting w) f m.stack (scene_in m.scene)

abbrev pub resumed : Wiki → Machine → Frame → List ℕ → Page
resumed w m top x = frame (wiki_setting w) top (plug (wiki_setting w) m.stack) (scene_in m.scene) x

-- what waits for the text of a run
abbrev pub waiting : Wiki → Machine → List ℕ → Page
waiting w m x = plug (wiki_setting w) m.stack (scene_in m.scene) x

-- how a step ends
abbrev pub Goes_to : Setting → Page → Left → Progress → List Frame → Scene → Left → Type 0
Goes_to w p l (On f) fs sc l' = Leads w p l (point w f fs sc) l'
Goes_to w p l (Deeper f) fs sc l' = Leads w p l (point w f fs sc) l'
Goes_to w p l (Asks job) fs sc l' = Leads w p l (Run.Asks job (plug w fs sc)) l'

-- ---- opening

-- what comes of opening a thing whose text is made by `m`: the text in its place, or its first part is expanded
abbrev pub Opens_to : Setting → Thing → Doing (List ℕ) → (List ℕ → Page) → Left → Entry → Left → Type 0
Opens_to w t m k l (NoNode x) l' = Leads w (open_or tt node_text t k) l (k x) l'
Opens_to w t m k l (NoLevel x) l' = Leads w (open_or tt node_text t k) l (k x) l'
Opens_to w t m k l Entered l' = Leads w (open_or tt node_text t k) l (m (leaving k)) l'

-- what it takes
abbrev pub Takes_of : Left → Entry → Left → Type 0
Takes_of l (NoNode x) l' = l' ≡ l
Takes_of l (NoLevel x) l' = (l'.nodes + 1 ≡ l.nodes) × (l' ≡ record l { nodes = l'.nodes; bytes = l'.bytes })
Takes_of l Entered l' = (l'.nodes + 1 ≡ l.nodes) × (l'.depth + 1 ≡ l.depth) × (l' ≡ record l { nodes = l'.nodes; depth = l'.depth })

-- A STEP of a machine: how the run goes on
abbrev pub Goes : Wiki → Page → Left → Progress → Machine → Left → Type 0
Goes w p l r m l' = Goes_to (wiki_setting w) p l r m.stack (scene_in m.scene) l'
