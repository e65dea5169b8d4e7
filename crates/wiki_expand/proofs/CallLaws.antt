-- The points of arguments, templates and bodies.
use Rattle.std.proofs.Common.{◌≡◌, ℕ, ◌-◌, ◌<◌, Bool, true, false, List, [], ◌∷◌, Option, Some, None, refl, sym, ap, ◌∙◌}
use Rattle.page_run.specs.WkBaseDeclaredLeftLeft.{Left}
use Rattle.wiki_pages.specs.WkBaseDeclaredTitleTitle.{Title}
use Rattle.wiki_markup.specs.Trees.{Trees}
use Rattle.mw_frame.specs.declared.scene.Arg.{Arg}
use Rattle.mw_frame.specs.declared.scene.Scene.{Scene}
use Rattle.page_run.specs.Run.{HasTemplate, Uses}
use Rattle.page_run.specs.Part.{give}
use Rattle.page_run.specs.Perform.{perform, wait}
use Rattle.expand_texts.specs.ExpandMeaningTexts.{depth_text}
use Rattle.wiki_pages.specs.ExpandMeaningPlaces.{value_in}
use Rattle.expand_texts.specs.ExpandMeaningExpand.{Setting, Page, Doing, choice, expand, onward, argument, arguments, none_given, invocation, is_in, template_body, template, value_or, thing_text}
use Rattle.wiki_pages.specs.Forests.{parts}
use Rattle.wiki_expand.specs.Points.{ahead, leaving, plug, finish, given_in, state, Leads}
use Rattle.wiki_expand.specs.declared.frame.Walk.{Walk}
use Rattle.wiki_expand.specs.declared.frame.Call.{Call}
use Rattle.wiki_expand.specs.declared.frame.Frame.{Frame}
use Rattle.wiki_expand.specs.declared.frame.Frame.TheVariants.{Level, Unnamed, Body}
use Rattle.wiki_expand.proofs.Moves.{leads_on, stays, body_there, body_not, body_entered, body_none, from}
use Rattle.wiki_expand.proofs.PointLaws.{Starts}

pub argument_none : (w : Setting) (sc : Scene) (fs gs : List Frame) (c : Call) (part : Trees) (s : Walk) → None ≡ value_in part → Starts s part → gs ≡ Unnamed c ∷ fs
    → arguments (part ∷ parts c.rest) sc (given_in c) (finish w c.purpose sc (plug w fs sc)) ≡ onward (ahead s) sc s.out (plug w gs sc)
argument_none w sc fs gs c part s e h d =
    ap (λ v. argument v part sc (given_in c) (λ g. arguments (parts c.rest) sc g (finish w c.purpose sc (plug w fs sc)))) (sym e)
    ∙ sym (h sc (plug w gs sc) ∙ ap (λ hs. expand part sc (plug w hs sc)) d)

second : {X : Type 0} (b : Bool) (m n : Doing X) (k : X → Page) → b ≡ false → choice b m n k ≡ n k
second true m n k e = absurd cc
second false m n k e = refl

stays_at : (w : Setting) (p q : Page) (l l' : Left) → p ≡ q → l' ≡ l → Leads w p l q l'
stays_at w p q l l' e i = leads_on w p q q l l l' (stays w p q l e) (record { runs = λ t more. ap (λ m. perform (thing_text w) wait q (state m t more)) (sym i) })

pub body_depth : (w : Setting) (t : Trees) (title : Title) (args : List Arg) (sc : Scene) (k : List ℕ → Page) (l l' : Left) (x : List ℕ) → is_in title sc.chain ≡ false → l.templates ≡ 0 → l' ≡ l → x ≡ depth_text → Leads w (template_body t title args sc k) l (k x) l'
body_depth w t title args sc k l l' x n z i d =
    leads_on w _ _ _ l l l' (stays w _ _ l (second (is_in title sc.chain) _ _ k n)) (leads_on w _ _ _ l l l' (body_none w _ l z) (stays_at w _ _ l l' (ap k (sym d)) i))

pub body_begins : (w : Setting) (t : Trees) (title : Title) (args : List Arg) (sc sc' : Scene) (fs gs : List Frame) (l l' : Left) (s : Walk) → is_in title sc.chain ≡ false → 0 < l.templates → l' ≡ record l { templates = l.templates - 1 } → Starts s t
    → sc' ≡ record { title = title; args = args; chain = title ∷ sc.chain } → gs ≡ Body sc.title sc.args ∷ fs → Leads w (template_body t title args sc (plug w fs sc)) l (onward (ahead s) sc' s.out (plug w gs sc')) l'
body_begins w t title args sc sc' fs gs l l' s n z i h c g =
    leads_on w _ _ _ l l l' (stays w _ _ l (second (is_in title sc.chain) _ _ (plug w fs sc) n))
    (leads_on w _ _ _ l l' l' (body_entered w _ l l' z i)
    (stays w _ _ l' (sym (h sc' (plug w gs sc') ∙ ap (λ hs. expand t sc' (plug w hs sc')) g ∙ ap (λ b. expand t b (plug w (Body sc.title sc.args ∷ fs) b)) c))))

held : (o : Option Trees) (t : Trees) (title : Title) (ps : List Trees) (sc : Scene) (k : List ℕ → Page) → Some t ≡ o → is_in title sc.chain ≡ false
    → template o title ps sc k ≡ Uses tt HasTemplate (λ b. choice b (λ j. arguments ps sc none_given (λ args. template_body t title args sc j)) (give depth_text) k)
held o t title ps sc k e n = ap (λ o. template o title ps sc k) (sym e) ∙ second (is_in title sc.chain) _ _ k n

pub template_depth : (w : Setting) (o : Option Trees) (t : Trees) (title : Title) (ps : List Trees) (sc : Scene) (k : List ℕ → Page) (l : Left) (x : List ℕ) → Some t ≡ o → is_in title sc.chain ≡ false → l.templates ≡ 0 → x ≡ depth_text → Leads w (template o title ps sc k) l (k x) l
template_depth w o t title ps sc k l x e n z d =
    leads_on w _ _ _ l l l (stays w _ _ l (held o t title ps sc k e n)) (leads_on w _ _ _ l l l (body_not w _ l z) (stays w _ _ l (ap k (sym d))))

pub template_begins : (w : Setting) (o : Option Trees) (t : Trees) (title : Title) (ps : List Trees) (sc : Scene) (k : List ℕ → Page) (l : Left) → Some t ≡ o → is_in title sc.chain ≡ false → 0 < l.templates → Leads w (template o title ps sc k) l (arguments ps sc none_given (λ args. template_body t title args sc k)) l
template_begins w o t title ps sc k l e n z = leads_on w _ _ _ l l l (stays w _ _ l (held o t title ps sc k e n)) (body_there w _ l z)

pub template_starts : (w : Setting) (o : Option Trees) (t : Trees) (title : Title) (ps : List Trees) (sc : Scene) (k : List ℕ → Page) (l : Left) (none : List Arg) → none ≡ [] → Some t ≡ o → is_in title sc.chain ≡ false → 0 < l.templates
    → Leads w (template o title ps sc k) l (arguments ps sc (record { args = none; number = 1 }) (λ args. template_body t title args sc k)) l
template_starts w o t title ps sc k l none i e n z =
    leads_on w _ _ _ l l l (template_begins w o t title ps sc k l e n z) (stays w _ _ l (ap (λ given. arguments ps sc (record { args = given; number = 1 }) (λ args. template_body t title args sc k)) (sym i)))

pub function_starts : (w : Setting) (m : Option Title) (name : List ℕ) (ps : List Trees) (sc : Scene) (k : List ℕ → Page) (none : List Arg) (f x : List ℕ) → none ≡ [] → f ≡ x
    → arguments ps sc (record { args = []; number = 1 }) (λ args. invocation m name x args sc k) ≡ arguments ps sc (record { args = none; number = 1 }) (λ args. invocation m name f args sc k)
function_starts w m name ps sc k none f x i e =
    ap (λ given. arguments ps sc (record { args = given; number = 1 }) (λ args. invocation m name x args sc k)) (sym i)
    ∙ ap (λ y. arguments ps sc (record { args = none; number = 1 }) (λ args. invocation m name y args sc k)) (sym e)

-- a parameter with an argument, and one with a default
pub parameter_found : (w : Setting) (sc : Scene) (k : List ℕ → Page) (o : Option (List ℕ)) (v u x : List ℕ) (d : Option Trees) (l l' : Left) (q : Page) → o ≡ Some v → u ≡ v → Leads w (leaving k u) l q l' → Leads w (value_or o x d sc (leaving k)) l q l'
parameter_found w sc k o v u x d l l' q e f h = from w _ _ q l l' (ap (λ o. value_or o x d sc (leaving k)) e ∙ ap (leaving k) (sym f)) h

pub parameter_default : (w : Setting) (sc : Scene) (fs gs : List Frame) (o : Option (List ℕ)) (x : List ℕ) (d : Option Trees) (t : Trees) (s : Walk) (l : Left) → o ≡ None → d ≡ Some t → Starts s t → gs ≡ Level ∷ fs
    → Leads w (value_or o x d sc (leaving (plug w fs sc))) l (onward (ahead s) sc s.out (plug w gs sc)) l
parameter_default w sc fs gs o x d t s l e f h g =
    stays w _ _ l (ap (λ o. value_or o x d sc (leaving (plug w fs sc))) e ∙ ap (λ d. value_or None x d sc (leaving (plug w fs sc))) f
    ∙ sym (h sc (plug w gs sc) ∙ ap (λ hs. expand t sc (plug w hs sc)) g))
