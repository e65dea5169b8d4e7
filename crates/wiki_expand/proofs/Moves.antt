-- How the points of a run lead to one another.
use Rattle.std.proofs.Common.{◌≡◌, ℕ, ◌+◌, ◌-◌, ◌<◌, ◌≤◌, Bool, true, false, cond, List, length, sym, ap, ◌∙◌, arith}
use Rattle.page_run.specs.WkBaseDeclaredLeftLeft.{Left}
use Rattle.mw_frame.specs.declared.scene.Scene.{Scene}
use Rattle.page_run.specs.Run.{TakeBytes, EnterDepth, LeaveDepth, HasTemplate, EnterTemplate, LeaveTemplate, Uses}
use Rattle.page_run.specs.Perform.{perform, wait}
use Rattle.page_run.specs.Part.{open_or}
use Rattle.page_run.proofs.ReplyLaws.{no_rise-wait}
use Rattle.page_run.proofs.EventLaws.{bytes_are, depth_is, templates_are, opens_is}
use Rattle.expand_texts.specs.ExpandMeaningTexts.{node_text, size_text, depth_text}
use Rattle.expand_texts.specs.ExpandMeaningExpand.{Setting, Page, Thing, Doing, deeper, sized, thing_text}
use Rattle.wiki_expand.specs.Points.{Leads, Goes_to, state, leaving}
use Rattle.wiki_expand.specs.Weights.{Keeps}
use Rattle.wiki_expand.specs.declared.frame.Frame.{Frame}
use Rattle.wiki_expand.specs.declared.frame.Progress.{Progress}
use Rattle.wiki_expand.specs.declared.frame.Progress.TheVariants.{On, Deeper, Asks}

-- no event
pub stays : (w : Setting) (p q : Page) (l : Left) → p ≡ q → Leads w p l q l
stays w p q l e = record { runs = λ t more. ap (λ r. perform (thing_text w) wait r (state l t more)) e }

pub leads_on : (w : Setting) (p q r : Page) (l l1 l2 : Left) → Leads w p l q l1 → Leads w q l1 r l2 → Leads w p l r l2
leads_on w p q r l l1 l2 a b = record { runs = λ t more. a.runs t more ∙ b.runs t more }

-- an equation in front
pub from : (w : Setting) (p q r : Page) (l l1 : Left) → p ≡ q → Leads w q l r l1 → Leads w p l r l1
from w p q r l l1 e a = leads_on w p q r l l l1 (stays w p q l e) a

pub goes_on : (w : Setting) (p q : Page) (l l1 l2 : Left) (r : Progress) (fs : List Frame) (sc : Scene) → Leads w p l q l1 → Goes_to w q l1 r fs sc l2 → Goes_to w p l r fs sc l2
goes_on w p q l l1 l2 (On f) fs sc a b = record { runs = λ t more. a.runs t more ∙ b.runs t more }
goes_on w p q l l1 l2 (Deeper f) fs sc a b = record { runs = λ t more. a.runs t more ∙ b.runs t more }
goes_on w p q l l1 l2 (Asks job) fs sc a b = record { runs = λ t more. a.runs t more ∙ b.runs t more }

at : (w : Setting) (p : Page) (l l' : Left) → l ≡ l' → Leads w p l p l'
at w p l l' e = record { runs = λ t more. ap (λ m. perform (thing_text w) wait p (state m t more)) e }

-- bytes
pub bytes_taken : (w : Setting) (n : ℕ) (f : Bool → Page) (l l' : Left) → n ≤ l.bytes → l' ≡ record l { bytes = l.bytes - n } → Leads w (Uses tt (TakeBytes n) f) l (f true) l'
bytes_taken w n f l l' h e =
    leads_on w _ _ _ l _ l' (record { runs = λ t more. (bytes_are (thing_text w) wait no_rise-wait tt n f (state l t more)).0 h }) (at w (f true) _ l' (sym e))

pub bytes_short : (w : Setting) (n : ℕ) (f : Bool → Page) (l l' : Left) → l.bytes < n → l' ≡ record l { bytes = l.bytes - n } → Leads w (Uses tt (TakeBytes n) f) l (f false) l'
bytes_short w n f l l' h e =
    let none : 0 ≡ l.bytes - n = omega arith in
    leads_on w _ _ _ l _ l' (record { runs = λ t more. (bytes_are (thing_text w) wait no_rise-wait tt n f (state l t more)).1 h }) (at w (f false) _ l' (ap (λ b. record l { bytes = b }) none ∙ sym e))

-- levels
pub level_entered : (w : Setting) (f : Bool → Page) (l l' : Left) → 0 < l.depth → l' ≡ record l { depth = l.depth - 1 } → Leads w (Uses tt EnterDepth f) l (f true) l'
level_entered w f l l' h e =
    leads_on w _ _ _ l _ l' (record { runs = λ t more. (depth_is (thing_text w) wait no_rise-wait tt f (state l t more)).0 h }) (at w (f true) _ l' (sym e))

pub level_none : (w : Setting) (f : Bool → Page) (l : Left) → l.depth ≡ 0 → Leads w (Uses tt EnterDepth f) l (f false) l
level_none w f l h = record { runs = λ t more. (depth_is (thing_text w) wait no_rise-wait tt f (state l t more)).1 h }

pub level_left : (w : Setting) (f : Bool → Page) (l l' : Left) → l' ≡ record l { depth = l.depth + 1 } → Leads w (Uses tt LeaveDepth f) l (f true) l'
level_left w f l l' e =
    leads_on w _ _ _ l _ l' (record { runs = λ t more. (depth_is (thing_text w) wait no_rise-wait tt f (state l t more)).2 }) (at w (f true) _ l' (sym e))

-- bodies
pub body_there : (w : Setting) (f : Bool → Page) (l : Left) → 0 < l.templates → Leads w (Uses tt HasTemplate f) l (f true) l
body_there w f l h = record { runs = λ t more. (templates_are (thing_text w) wait no_rise-wait tt f (state l t more)).0 h }

pub body_not : (w : Setting) (f : Bool → Page) (l : Left) → l.templates ≡ 0 → Leads w (Uses tt HasTemplate f) l (f false) l
body_not w f l h = record { runs = λ t more. (templates_are (thing_text w) wait no_rise-wait tt f (state l t more)).1 h }

pub body_entered : (w : Setting) (f : Bool → Page) (l l' : Left) → 0 < l.templates → l' ≡ record l { templates = l.templates - 1 } → Leads w (Uses tt EnterTemplate f) l (f true) l'
body_entered w f l l' h e =
    leads_on w _ _ _ l _ l' (record { runs = λ t more. (templates_are (thing_text w) wait no_rise-wait tt f (state l t more)).2 h }) (at w (f true) _ l' (sym e))

pub body_none : (w : Setting) (f : Bool → Page) (l : Left) → l.templates ≡ 0 → Leads w (Uses tt EnterTemplate f) l (f false) l
body_none w f l h = record { runs = λ t more. (templates_are (thing_text w) wait no_rise-wait tt f (state l t more)).3 h }

pub body_left : (w : Setting) (f : Bool → Page) (l l' : Left) → l' ≡ record l { templates = l.templates + 1 } → Leads w (Uses tt LeaveTemplate f) l (f true) l'
body_left w f l l' e =
    leads_on w _ _ _ l _ l' (record { runs = λ t more. (templates_are (thing_text w) wait no_rise-wait tt f (state l t more)).4 }) (at w (f true) _ l' (sym e))

-- a thing is opened
pub opened : (w : Setting) (t : Thing) (k : List ℕ → Page) (l l' : Left) → 0 < l.nodes → l' ≡ record l { nodes = l.nodes - 1 } → Leads w (open_or tt node_text t k) l (thing_text w t k) l'
opened w t k l l' h e =
    leads_on w _ _ _ l _ l' (record { runs = λ y more. (opens_is (thing_text w) wait no_rise-wait tt t (k node_text) k (state l y more)).0 h }) (at w (thing_text w t k) _ l' (sym e))

pub not_opened : (w : Setting) (t : Thing) (k : List ℕ → Page) (l : Left) → l.nodes ≡ 0 → Leads w (open_or tt node_text t k) l (k node_text) l
not_opened w t k l h = record { runs = λ y more. (opens_is (thing_text w) wait no_rise-wait tt t (k node_text) k (state l y more)).1 h }

pub not_opened_to : (w : Setting) (t : Thing) (k : List ℕ → Page) (l l' : Left) (x : List ℕ) → l.nodes ≡ 0 → l' ≡ l → x ≡ node_text → Leads w (open_or tt node_text t k) l (k x) l'
not_opened_to w t k l l' x n e i = leads_on w _ _ _ l l l' (not_opened w t k l n) (leads_on w _ _ _ l l l' (stays w _ _ l (ap k (sym i))) (at w (k x) l l' (sym e)))

pub thing_is : (w : Setting) (t : Thing) (m : Doing (List ℕ)) (k : List ℕ → Page) (l : Left) → thing_text w t ≡ sized (deeper m) → Leads w (thing_text w t k) l (sized (deeper m) k) l
thing_is w t m k l e = stays w _ _ l (ap (λ doing. doing k) e)

pub entered_to : (w : Setting) (t : Thing) (m : Doing (List ℕ)) (k : List ℕ → Page) (l l1 l2 : Left) → thing_text w t ≡ sized (deeper m) → 0 < l.nodes → l1 ≡ record l { nodes = l.nodes - 1 } → 0 < l1.depth → l2 ≡ record l1 { depth = l1.depth - 1 } → Leads w (open_or tt node_text t k) l (m (leaving k)) l2
entered_to w t m k l l1 l2 e n i d j =
    leads_on w _ _ _ l l1 l2 (opened w t k l l1 n i) (leads_on w _ _ _ l1 l1 l2 (thing_is w t m k l1 e) (level_entered w _ l1 l2 d j))

pub no_level_to : (w : Setting) (t : Thing) (m : Doing (List ℕ)) (k : List ℕ → Page) (l l1 l2 l3 : Left) (x y : List ℕ) → thing_text w t ≡ sized (deeper m) → 0 < l.nodes → l1 ≡ record l { nodes = l.nodes - 1 } → l1.depth ≡ 0 → l2 ≡ l1 → x ≡ depth_text
    → Leads w (Uses tt (TakeBytes (length x)) (λ enough. k (cond enough x size_text))) l2 (k y) l3 → Leads w (open_or tt node_text t k) l (k y) l3
no_level_to w t m k l l1 l2 l3 x y e n i d j q s =
    leads_on w _ _ _ l l1 l3 (opened w t k l l1 n i)
    (leads_on w _ _ _ l1 l1 l3 (thing_is w t m k l1 e)
    (leads_on w _ _ _ l1 l1 l3 (level_none w _ l1 d)
    (leads_on w _ _ _ l1 l2 l3 (at w (Uses tt (TakeBytes (length depth_text)) (λ enough. k (cond enough depth_text size_text))) l1 l2 (sym j))
    (leads_on w _ _ _ l2 l2 l3 (stays w _ _ l2 (ap (λ z. Uses tt (TakeBytes (length z)) (λ enough. k (cond enough z size_text))) (sym q))) s))))

-- levels over two stretches
pub keeps_on : (l l1 l2 : Left) (fs gs hs : List Frame) → Keeps l fs l1 gs → Keeps l1 gs l2 hs → Keeps l fs l2 hs
keeps_on l l1 l2 fs gs hs a b = (b.0 ∙ a.0, b.1 ∙ a.1, b.2 ∙ a.2, b.3 ∙ a.3)
