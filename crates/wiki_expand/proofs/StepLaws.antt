-- Steps after one another, and steps that open a construct or a parameter.
use Rattle.std.proofs.Common.{◌≡◌, ℕ, ◌+◌, ◌*◌, ◌<◌, ◌≤◌, List, ◌∷◌, refl, ap, arith}
use Rattle.page_run.specs.WkBaseDeclaredLeftLeft.{Left}
use Rattle.wiki_pages.specs.WkBaseDeclaredTitleTitle.{Title}
use Rattle.mw_frame.specs.declared.scene.Arg.{Arg}
use Rattle.mw_frame.specs.declared.scene.Scene.{Scene}
use Rattle.expand_texts.specs.ExpandMeaningExpand.{Setting, Page}
use Rattle.wiki_pages.specs.Forests.{size}
use Rattle.wiki_expand.specs.Points.{wiki_setting, plug, point, scene_in, waiting, run_at, Leads, Takes_of}
use Rattle.wiki_expand.specs.Weights.{level, levels, body_count, bodies, chances, weights, allowed, point_weight, Keeps, Falls, Calm}
use Rattle.wiki_expand.specs.Steps.{StepIs, Puts}
use Rattle.wiki_pages.specs.declared.forest.Forest.{Forest}
use Rattle.wiki_expand.specs.declared.frame.Wiki.{Wiki}
use Rattle.wiki_expand.specs.declared.frame.Machine.{Machine}
use Rattle.wiki_expand.specs.declared.frame.Walk.{Walk}
use Rattle.wiki_expand.specs.declared.frame.Call.{Call}
use Rattle.wiki_expand.specs.declared.frame.Frame.{Frame}
use Rattle.wiki_expand.specs.declared.frame.Frame.TheVariants.{Walk as Walking, Level, Parameter, First, Unnamed, Body}
use Rattle.wiki_expand.specs.declared.frame.Focus.{Focus}
use Rattle.wiki_expand.specs.declared.frame.Focus.TheVariants.{Walk as Walks, Text as Hands}
use Rattle.wiki_expand.specs.declared.frame.Entry.TheVariants.{NoLevel, Entered}
use Rattle.wiki_expand.specs.declared.frame.Progress.{Progress}
use Rattle.wiki_expand.specs.declared.frame.Progress.TheVariants.{On, Deeper, Asks}
use Rattle.wiki_expand.proofs.Moves.{goes_on, stays, keeps_on}

falls_on : (n n1 a a1 : ℕ) (r : Progress) (fs : List Frame) (l : Left) → n1 ≤ n → a1 ≤ a → Falls n1 a1 r fs l → Falls n a r fs l
falls_on n n1 a a1 (On f) fs l x y h =
    let light : point_weight f fs < n1 = h.0 in
    let few : allowed l fs ≤ a1 = h.1 in
    (omega (arith, x, light), omega (arith, y, few))
falls_on n n1 a a1 (Deeper f) fs l x y h =
    let few : allowed l fs < a1 = h in
    omega (arith, y, few)
falls_on n n1 a a1 (Asks job) fs l x y h =
    let few : allowed l fs < a1 = h in
    omega (arith, y, few)

-- a step behind what leads to it
pub step_on : (w : Wiki) (p q : Page) (l l1 l2 : Left) (fs gs : List Frame) (n n1 a a1 : ℕ) (r : Progress) (m : Machine) → Leads (wiki_setting w) p l q l1 → Keeps l fs l1 gs → n1 ≤ n → a1 ≤ a → StepIs w q l1 gs n1 a1 r m l2 → StepIs w p l fs n a r m l2
step_on w p q l l1 l2 fs gs n n1 a a1 r m h k x y s = record {
  goes = goes_on (wiki_setting w) p q l l1 l2 r m.stack (scene_in m.scene) h s.goes;
  keeps = keeps_on l l1 l2 fs gs m.stack k s.keeps;
  falls = falls_on n n1 a a1 r m.stack l2 x y s.falls;
  asks = s.asks;
}

pub step_from : (w : Wiki) (p q : Page) (l l2 : Left) (fs : List Frame) (n n1 a a1 : ℕ) (r : Progress) (m : Machine) → Leads (wiki_setting w) p l q l → n1 ≤ n → a1 ≤ a → StepIs w q l fs n1 a1 r m l2 → StepIs w p l fs n a r m l2
step_from w p q l l2 fs n n1 a a1 r m h x y s = step_on w p q l l l2 fs fs n n1 a a1 r m h (refl, refl, refl, refl) x y s

-- a step of what stands in a walk, which waits
pub step_inside : (w : Wiki) (p q : Page) (l l2 : Left) (fs gs : List Frame) (s : Walk) (n : ℕ) (r : Progress) (m : Machine) → p ≡ q → gs ≡ Walking s ∷ fs → size s.rest < n → StepIs w q l gs (3 + weights gs) (allowed l gs) r m l2
    → StepIs w p l fs (8 * n + 4 + weights fs) (allowed l fs) r m l2
step_inside w p q l l2 fs gs s n r m e g x h =
    let here : levels gs ≡ 0 + levels fs = ap levels g in
    let within : bodies gs ≡ 0 + bodies fs = ap bodies g in
    let few : chances gs ≡ 0 + chances fs = ap chances g in
    let light : weights gs ≡ 8 * size s.rest + 4 + weights fs = ap weights g in
    step_on w p q l l l2 fs gs (8 * n + 4 + weights fs) (3 + weights gs) (allowed l fs) (allowed l gs) r m (stays (wiki_setting w) p q l e) (omega (arith, here), omega (arith, within), refl, refl) (omega (arith, light, x)) (omega (arith, few)) h

-- a text stands in the place of a thing
pub text_stands : (w : Wiki) (p : Page) (m : Machine) (l l2 : Left) (x : List ℕ) (n a : ℕ) → Leads (wiki_setting w) p l (waiting w m x) l2 → l2 ≡ l → 2 + weights m.stack < n → allowed l m.stack ≤ a → StepIs w p l m.stack n a (On (Hands x)) m l2
text_stands w p m l l2 x n a h e light few =
    let nodes : l2.nodes ≡ l.nodes = ap (λ (k : Left). k.nodes) e in
    record {
      goes = h;
      keeps = (ap (λ (k : Left). k.depth + levels m.stack) e, ap (λ (k : Left). k.templates + bodies m.stack) e, ap (λ (k : Left). k.steps) e, ap (λ (k : Left). k.calls) e);
      falls = (light, omega (arith, nodes, few));
      asks = tt;
    }

pub no_level : (w : Wiki) (p : Page) (m : Machine) (l l2 : Left) (x : List ℕ) (n : ℕ) → Leads (wiki_setting w) p l (waiting w m x) l2 → Takes_of l (NoLevel x) l2 → StepIs w p l m.stack n (allowed l m.stack) (Deeper (Hands x)) m l2
no_level w p m l l2 x n h t =
    let nodes : l2.nodes + 1 ≡ l.nodes = t.0 in
    record {
      goes = h;
      keeps = (ap (λ (k : Left). k.depth + levels m.stack) t.1, ap (λ (k : Left). k.templates + bodies m.stack) t.1, ap (λ (k : Left). k.steps) t.1, ap (λ (k : Left). k.calls) t.1);
      falls = omega (arith, nodes);
      asks = tt;
    }

entered : (w : Wiki) (p : Page) (m m2 : Machine) (l l2 : Left) (f : Focus) (n : ℕ) → Leads (wiki_setting w) p l (run_at w m2 f) l2 → Takes_of l Entered l2 → levels m2.stack ≡ 1 + levels m.stack → bodies m2.stack ≡ bodies m.stack → chances m2.stack ≤ 1 + chances m.stack
    → StepIs w p l m.stack n (allowed l m.stack) (Deeper f) m2 l2
entered w p m m2 l l2 f n h t levels_ bodies_ chances_ =
    let nodes : l2.nodes + 1 ≡ l.nodes = t.0 in
    let depth : l2.depth + 1 ≡ l.depth = t.1 in
    let templates : l2.templates ≡ l.templates = ap (λ (k : Left). k.templates) t.2 in
    record {
      goes = h;
      keeps = (omega (arith, depth, levels_), omega (arith, templates, bodies_), ap (λ (k : Left). k.steps) t.2, ap (λ (k : Left). k.calls) t.2);
      falls = omega (arith, nodes, chances_);
      asks = tt;
    }

pub construct_entered : (w : Wiki) (p : Page) (m m2 : Machine) (l l2 : Left) (f : Focus) (rest : Forest) (hs : List Frame) (n : ℕ) → Leads (wiki_setting w) p l (run_at w m2 f) l2 → Takes_of l Entered l2 → m2.stack ≡ First rest ∷ hs → hs ≡ Level ∷ m.stack
    → StepIs w p l m.stack n (allowed l m.stack) (Deeper f) m2 l2
construct_entered w p m m2 l l2 f rest hs n h t e d =
    let l0 : levels m2.stack ≡ 0 + levels hs = ap levels e in
    let l1 : levels hs ≡ 1 + levels m.stack = ap levels d in
    let b0 : bodies m2.stack ≡ 0 + bodies hs = ap bodies e in
    let b1 : bodies hs ≡ 0 + bodies m.stack = ap bodies d in
    let c0 : chances m2.stack ≡ 1 + chances hs = ap chances e in
    let c1 : chances hs ≡ 0 + chances m.stack = ap chances d in
    entered w p m m2 l l2 f n h t (omega (arith, l0, l1)) (omega (arith, b0, b1)) (omega (arith, c0, c1))

pub parameter_entered : (w : Wiki) (p : Page) (m m2 : Machine) (l l2 : Left) (f : Focus) (rest : Forest) (n : ℕ) → Leads (wiki_setting w) p l (run_at w m2 f) l2 → Takes_of l Entered l2 → m2.stack ≡ Parameter rest ∷ m.stack
    → StepIs w p l m.stack n (allowed l m.stack) (Deeper f) m2 l2
parameter_entered w p m m2 l l2 f rest n h t e =
    let l0 : levels m2.stack ≡ 1 + levels m.stack = ap levels e in
    let b0 : bodies m2.stack ≡ 0 + bodies m.stack = ap bodies e in
    let c0 : chances m2.stack ≡ 0 + chances m.stack = ap chances e in
    entered w p m m2 l l2 f n h t l0 (omega (arith, b0)) (omega (arith, c0))

-- a step that puts frames on the stack, with no event
pub step_calm : (w : Wiki) (p : Page) (m m2 : Machine) (l : Left) (f : Focus) (k n a : ℕ) → p ≡ run_at w m2 f → Calm k m.stack m2.stack → point_weight f m2.stack < n → allowed l m.stack + k ≤ a → StepIs w p l m.stack n a (On f) m2 l
step_calm w p m m2 l f k n a e c light enough =
    let chances_ : chances m2.stack ≤ chances m.stack + k = c.2 in
    record {
      goes = stays (wiki_setting w) p (run_at w m2 f) l e;
      keeps = (ap (λ i. l.depth + i) c.0, ap (λ i. l.templates + i) c.1, refl, refl);
      falls = (light, omega (arith, chances_, enough));
      asks = tt;
    }

-- a parameter: the value of an argument, or its default
pub value_stands : (w : Wiki) (p : Page) (m : Machine) (l l2 : Left) (x : List ℕ) (rest : Forest) → Leads (wiki_setting w) p l (waiting w m x) l2 → l2 ≡ record l { depth = l.depth + 1; bytes = l2.bytes }
    → StepIs w p l (Parameter rest ∷ m.stack) (16 * size rest + 10 + weights m.stack) (allowed l m.stack) (On (Hands x)) m l2
value_stands w p m l l2 x rest h e =
    let depth : l2.depth ≡ l.depth + 1 = ap (λ (k : Left). k.depth) e in
    let templates : l2.templates ≡ l.templates = ap (λ (k : Left). k.templates) e in
    let nodes : l2.nodes ≡ l.nodes = ap (λ (k : Left). k.nodes) e in
    record {
      goes = h;
      keeps = (omega (arith, depth), omega (arith, templates), ap (λ (k : Left). k.steps) e, ap (λ (k : Left). k.calls) e);
      falls = (omega arith, omega (arith, nodes));
      asks = tt;
    }

pub default_stands : (w : Wiki) (p : Page) (m m2 : Machine) (l : Left) (s : Walk) (rest : Forest) → Leads (wiki_setting w) p l (run_at w m2 (Walks s)) l → m2.stack ≡ Level ∷ m.stack → size s.rest ≤ size rest
    → StepIs w p l (Parameter rest ∷ m.stack) (16 * size rest + 10 + weights m.stack) (allowed l m.stack) (On (Walks s)) m2 l
default_stands w p m m2 l s rest h e x =
    let levels_ : levels m2.stack ≡ 1 + levels m.stack = ap levels e in
    let bodies_ : bodies m2.stack ≡ 0 + bodies m.stack = ap bodies e in
    let chances_ : chances m2.stack ≡ 0 + chances m.stack = ap chances e in
    let weights_ : weights m2.stack ≡ 1 + weights m.stack = ap weights e in
    record {
      goes = h;
      keeps = (omega (arith, levels_), omega (arith, bodies_), refl, refl);
      falls = (omega (arith, weights_, x), omega (arith, chances_));
      asks = tt;
    }

-- a step of what waited on top, which has no level and no body in progress
pub resume_as : (w : Wiki) (p : Page) (l l2 : Left) (fs : List Frame) (top : Frame) (n n1 a a1 : ℕ) (r : Progress) (m : Machine) → level top ≡ 0 → body_count top ≡ 0 → n1 ≤ n → a1 ≤ a → StepIs w p l fs n1 a1 r m l2 → StepIs w p l (top ∷ fs) n a r m l2
resume_as w p l l2 fs top n n1 a a1 r m d b x y s = step_on w p p l l l2 (top ∷ fs) fs n n1 a a1 r m (stays (wiki_setting w) p p l refl) (omega (arith, d), omega (arith, b), refl, refl) x y s

pub body_over : (w : Wiki) (p : Page) (fs : List Frame) (m2 : Machine) (l l2 : Left) (x : List ℕ) (title : Title) (args : List Arg) → Leads (wiki_setting w) p l (waiting w m2 x) l2 → l2 ≡ record l { templates = l.templates + 1 } → m2.stack ≡ fs
    → StepIs w p l (Body title args ∷ fs) (2 + (1 + weights fs)) (2 * l.nodes + (0 + chances fs)) (On (Hands x)) m2 l2
body_over w p fs m2 l l2 x title args h e i =
    let depth : l2.depth ≡ l.depth = ap (λ (k : Left). k.depth) e in
    let templates : l2.templates ≡ l.templates + 1 = ap (λ (k : Left). k.templates) e in
    let nodes : l2.nodes ≡ l.nodes = ap (λ (k : Left). k.nodes) e in
    let levels_ : levels m2.stack ≡ levels fs = ap levels i in
    let bodies_ : bodies m2.stack ≡ bodies fs = ap bodies i in
    let chances_ : chances m2.stack ≡ chances fs = ap chances i in
    let weights_ : weights m2.stack ≡ weights fs = ap weights i in
    record {
      goes = h;
      keeps = (omega (arith, depth, levels_), omega (arith, templates, bodies_), ap (λ (k : Left). k.steps) e, ap (λ (k : Left). k.calls) e);
      falls = (omega (arith, weights_), omega (arith, nodes, chances_));
      asks = tt;
    }

-- an argument without a name is put on a stack
pub unnamed_put : (p : Setting → Scene → (List ℕ → Page) → Page) (bound : ℕ) (fs gs : List Frame) (s : Walk) (c : Call) → ((w : Setting) (sc : Scene) → p w sc (plug w fs sc) ≡ point w (Walks s) gs sc) → gs ≡ Unnamed c ∷ fs
    → 8 * size s.rest + 16 * size c.rest + 20 + weights fs < bound → Puts p 1 bound fs (Walks s) gs
unnamed_put p bound fs gs s c same e light =
    let levels_ : levels gs ≡ 0 + levels fs = ap levels e in
    let bodies_ : bodies gs ≡ 0 + bodies fs = ap bodies e in
    let chances_ : chances gs ≡ 1 + chances fs = ap chances e in
    let weights_ : weights gs ≡ 16 * size c.rest + 16 + weights fs = ap weights e in
    record { same = same; calm = (omega (arith, levels_), omega (arith, bodies_), omega (arith, chances_)); light = omega (arith, weights_, light) }
