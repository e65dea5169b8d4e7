-- The points that a construct goes through.
use Rattle.std.proofs.Common.{◌≡◌, ℕ, Bool, true, false, cond, List, ◌∷◌, ◌++◌, refl, sym, ap, ◌∙◌}
use Rattle.wiki_markup.specs.WkBaseSpace.{trim}
use Rattle.page_run.specs.Part.{open_or}
use Rattle.wiki_markup.specs.Trees.{Trees, node}
use Rattle.wiki_markup.specs.Nodes.{Construct as ConstructKind, Parameter as ParameterKind}
use Rattle.expand_texts.specs.ExpandMeaningTexts.{node_text}
use Rattle.mw_frame.specs.declared.scene.Scene.{Scene}
use Rattle.expand_texts.specs.ExpandMeaningKind.{kind_of}
use Rattle.wiki_pages.specs.ExpandMeaningPlaces.{parts_in, part_in, first_in, others_in, no_part, name_in}
use Rattle.expand_texts.specs.ExpandMeaningExpand.{Setting, AConstruct, AParameter, Page, onward, expand, found, value_or, by_kind, construct, parameter}
use Rattle.wiki_pages.specs.Forests.{trees_in, parts}
use Rattle.wiki_expand.specs.Points.{ahead, plug, leaving}
use Rattle.wiki_pages.specs.declared.forest.Forest.{Forest}
use Rattle.wiki_expand.specs.declared.frame.Walk.{Walk}
use Rattle.wiki_expand.specs.declared.frame.Frame.{Frame}
use Rattle.wiki_expand.specs.declared.frame.Frame.TheVariants.{Level, Parameter, First}

-- a walk begins
abbrev pub Starts : Walk → Trees → Type 0
Starts s t = (sc : Scene) (k : List ℕ → Page) → onward (ahead s) sc s.out k ≡ expand t sc k

pub construct_begins : (w : Setting) (sc : Scene) (fs hs gs : List Frame) (inside : List Trees) (first rest : Forest) (s : Walk) → trees_in first ≡ first_in inside → parts rest ≡ others_in inside → Starts s (trees_in first) → gs ≡ First rest ∷ hs → hs ≡ Level ∷ fs → construct w inside sc (leaving (plug w fs sc)) ≡ onward (ahead s) sc s.out (plug w gs sc)
construct_begins w sc fs hs gs inside first rest s f r h e d = sym (
    h sc (plug w gs sc)
    ∙ ap (λ hs. expand (trees_in first) sc (plug w hs sc)) (e ∙ ap (λ gs. First rest ∷ gs) d)
    ∙ ap (λ t. expand t sc (plug w (First rest ∷ Level ∷ fs) sc)) f
    ∙ ap (λ ps. expand (first_in inside) sc (λ x. by_kind w (kind_of (no_part ps) w.page (trim x)) x ps sc (plug w (Level ∷ fs) sc))) r)

pub parameter_begins : (w : Setting) (sc : Scene) (fs gs : List Frame) (inside : List Trees) (first rest : Forest) (s : Walk) → trees_in first ≡ first_in inside → parts rest ≡ others_in inside → Starts s (trees_in first) → gs ≡ Parameter rest ∷ fs → parameter inside sc (leaving (plug w fs sc)) ≡ onward (ahead s) sc s.out (plug w gs sc)
parameter_begins w sc fs gs inside first rest s f r h e = sym (
    h sc (plug w gs sc)
    ∙ ap (λ hs. expand (trees_in first) sc (plug w hs sc)) e
    ∙ ap (λ t. expand t sc (plug w (Parameter rest ∷ fs) sc)) f
    ∙ ap (λ ps. expand (first_in inside) sc (λ x. value_or (found (trim x) sc.args) x (part_in ps) sc (leaving (plug w fs sc)))) r)

-- a construct or a parameter in a walk
walk_by : (named : Bool) (inside rest : Trees) (sc : Scene) (out : List ℕ) (k : List ℕ → Page) → onward (cond named (name_in (node ConstructKind inside rest)) (node ConstructKind inside rest)) sc out k ≡ open_or tt node_text (AConstruct (parts_in inside) sc) (λ x. onward (cond named (name_in rest) rest) sc (out ++ x) k)
walk_by true inside rest sc out k = refl
walk_by false inside rest sc out k = refl

pub walk_construct : (named : Bool) (t inside rest : Trees) (sc : Scene) (out : List ℕ) (k : List ℕ → Page) → t ≡ node ConstructKind inside rest → onward (cond named (name_in t) t) sc out k ≡ open_or tt node_text (AConstruct (parts_in inside) sc) (λ x. onward (cond named (name_in rest) rest) sc (out ++ x) k)
walk_construct named t inside rest sc out k e = ap (λ t. onward (cond named (name_in t) t) sc out k) e ∙ walk_by named inside rest sc out k

walk_past : (named : Bool) (inside rest : Trees) (sc : Scene) (out : List ℕ) (k : List ℕ → Page) → onward (cond named (name_in (node ParameterKind inside rest)) (node ParameterKind inside rest)) sc out k ≡ open_or tt node_text (AParameter (parts_in inside) sc) (λ x. onward (cond named (name_in rest) rest) sc (out ++ x) k)
walk_past true inside rest sc out k = refl
walk_past false inside rest sc out k = refl

pub walk_parameter : (named : Bool) (t inside rest : Trees) (sc : Scene) (out : List ℕ) (k : List ℕ → Page) → t ≡ node ParameterKind inside rest → onward (cond named (name_in t) t) sc out k ≡ open_or tt node_text (AParameter (parts_in inside) sc) (λ x. onward (cond named (name_in rest) rest) sc (out ++ x) k)
walk_parameter named t inside rest sc out k e = ap (λ t. onward (cond named (name_in t) t) sc out k) e ∙ walk_past named inside rest sc out k
