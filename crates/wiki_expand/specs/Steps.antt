-- What each function that goes on promises, in one record.
use Rattle.std.specs.Prelude.{◌≡◌, ℕ, ◌<◌, List}
use Rattle.page_run.specs.WkBaseDeclaredLeftLeft.{Left}
use Rattle.mw_frame.specs.declared.scene.Scene.{Scene}
use Rattle.expand_texts.specs.ExpandMeaningExpand.{Setting, Page}
use Rattle.wiki_expand.specs.Points.{plug, point, Goes}
use Rattle.wiki_expand.specs.Weights.{point_weight, Calm, Keeps, Falls}
use Rattle.wiki_expand.specs.Asked.{AsksWell}
use Rattle.wiki_expand.specs.declared.frame.Wiki.{Wiki}
use Rattle.wiki_expand.specs.declared.frame.Machine.{Machine}
use Rattle.wiki_expand.specs.declared.frame.Focus.{Focus}
use Rattle.wiki_expand.specs.declared.frame.Frame.{Frame}
use Rattle.wiki_expand.specs.declared.frame.Progress.{Progress}

-- A STEP of this page's run, from these allowances and with these frames in progress: the run goes on as the definition says, levels are
-- given back when their frames go, less than this weight is to come or less is allowed, and what is asked for is known
pub record StepIs (w : Wiki) (p : Page) (l : Left) (fs : List Frame) (bound allowance : ℕ) (r : Progress) (m : Machine) (l' : Left) : Type 0 where
  pub goes : Goes w p l r m l'
  pub keeps : Keeps l fs l' m.stack
  pub falls : Falls bound allowance r m.stack l'
  pub asks : AsksWell w.pages.now r

-- FRAMES ARE PUT on a stack, and a focus is there: together they stand for this page, no construct or body begins, at most so many
-- chances come, and what is to come weighs less than this
pub record Puts (p : Setting → Scene → (List ℕ → Page) → Page) (n bound : ℕ) (old : List Frame) (f : Focus) (new : List Frame) : Type 0 where
  pub same : (w : Setting) (sc : Scene) → p w sc (plug w old sc) ≡ point w f new sc
  pub calm : Calm n old new
  pub light : point_weight f new < bound
