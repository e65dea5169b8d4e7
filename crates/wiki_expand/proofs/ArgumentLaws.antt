-- The value of an argument that has a name.
use Rattle.std.proofs.Common.{◌≡◌, ℕ, ◌+◌, ◌*◌, List, ◌∷◌, sym, ap, ◌∙◌, arith}
use Rattle.wiki_markup.specs.WkBaseSpace.{trim}
use Rattle.mw_frame.specs.declared.scene.Scene.{Scene}
use Rattle.wiki_markup.specs.Trees.{Trees}
use Rattle.expand_texts.specs.ExpandMeaningExpand.{Setting, expand}
use Rattle.wiki_pages.specs.Forests.{size}
use Rattle.wiki_expand.specs.Points.{plug, point, calling, with_name}
use Rattle.wiki_expand.specs.Weights.{levels, bodies, chances, weights}
use Rattle.wiki_expand.specs.Steps.{Puts}
use Rattle.wiki_expand.specs.declared.frame.Walk.{Walk}
use Rattle.wiki_expand.specs.declared.frame.Call.{Call}
use Rattle.wiki_expand.specs.declared.frame.Frame.{Frame}
use Rattle.wiki_expand.specs.declared.frame.Frame.TheVariants.{Value}
use Rattle.wiki_expand.specs.declared.frame.Focus.TheVariants.{Walk as Walks}
use Rattle.wiki_expand.proofs.PointLaws.{Starts}

value_begins : (w : Setting) (sc : Scene) (fs gs : List Frame) (c : Call) (value : Trees) (s : Walk) (name x : List ℕ) → Starts s value → gs ≡ Value c name ∷ fs → name ≡ x
    → expand value sc (λ v. calling w c (with_name c x (trim v)) sc (plug w fs sc)) ≡ point w (Walks s) gs sc
value_begins w sc fs gs c value s name x h d e =
    ap (λ y. expand value sc (λ v. calling w c (with_name c y (trim v)) sc (plug w fs sc))) (sym e)
    ∙ sym (h sc (plug w gs sc) ∙ ap (λ hs. expand value sc (plug w hs sc)) d)

pub value_put : (fs gs : List Frame) (c : Call) (value : Trees) (s : Walk) (name x : List ℕ) (n : ℕ) → Starts s value → gs ≡ Value c name ∷ fs → name ≡ x → size s.rest ≡ n
    → Puts (λ w sc k. expand value sc (λ v. calling w c (with_name c x (trim v)) sc k)) 1 (16 * size c.rest + 8 * n + 21 + weights fs) fs (Walks s) gs
value_put fs gs c value s name x n h d e i =
    let levels_ : levels gs ≡ 0 + levels fs = ap levels d in
    let bodies_ : bodies gs ≡ 0 + bodies fs = ap bodies d in
    let chances_ : chances gs ≡ 1 + chances fs = ap chances d in
    let weights_ : weights gs ≡ 16 * size c.rest + 16 + weights fs = ap weights d in
    record {
      same = λ w sc. value_begins w sc fs gs c value s name x h d e;
      calm = (omega (arith, levels_), omega (arith, bodies_), omega (arith, chances_));
      light = omega (arith, weights_, i);
    }
