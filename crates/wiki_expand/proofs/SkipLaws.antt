-- A `#switch` that goes on behind parts that cannot decide.
use Rattle.std.proofs.Common.{◌≡◌, ℕ, ◌+◌, ◌≤◌, false, List, refl, sym, ap, ◌∙◌, arith}
use Rattle.wiki_markup.specs.Trees.{Trees}
use Rattle.mw_frame.specs.declared.scene.Scene.{Scene}
use Rattle.expand_texts.specs.ExpandMeaningExpand.{Setting, Page, switch}
use Rattle.wiki_pages.specs.Forests.{trees_in, parts, size, option_size}
use Rattle.wiki_pages.specs.CaseTables.{fresh}
use Rattle.wiki_pages.specs.Furthers.{default_or, known, LeadsTo}
use Rattle.wiki_pages.specs.declared.forest.Forest.{Forest}
use Rattle.wiki_pages.specs.declared.passing.Further.{Further}
use Rattle.wiki_expand.specs.Points.{plug, seen_in}
use Rattle.wiki_expand.specs.Skips.{SkipsTo}
use Rattle.wiki_expand.specs.Steps.{Puts}
use Rattle.wiki_expand.specs.declared.frame.Frame.{Frame}
use Rattle.wiki_expand.specs.declared.frame.Focus.{Focus}
use Rattle.wiki_expand.specs.declared.frame.Switch.{Switch}

pub stays_here : (s : Switch) → SkipsTo s s
stays_here s = record { same = λ sc k. refl; light = omega arith }

fresh_is : (s : Switch) → s.seen.met ≡ false → s.seen.waits ≡ false → seen_in s.seen ≡ fresh (trees_in s.seen.default)
fresh_is s m w = λ i. record { met = m i; waits = w i; default = trees_in s.seen.default }

known_is : (new : Switch) (f : Further) (d : Trees) → new.seen.met ≡ f.met → new.seen.waits ≡ f.waits → trees_in new.seen.default ≡ default_or f.default d → seen_in new.seen ≡ known f d
known_is new f d m w t = λ i. record { met = m i; waits = w i; default = t i }

pub skipped : (old new : Switch) (f : Further) → old.seen.met ≡ false → old.seen.waits ≡ false → LeadsTo old.value.items old.rest f
    → new.value.items ≡ old.value.items → new.rest ≡ f.rest → new.seen.met ≡ f.met → new.seen.waits ≡ f.waits
    → trees_in new.seen.default ≡ default_or f.default (trees_in old.seen.default) → size new.seen.default ≤ option_size f.default + size old.seen.default → SkipsTo old new
skipped old new f m w leads v r i j t s = record {
  same = λ sc k.
      ap (λ l. switch old.value.items (parts old.rest) sc l k) (fresh_is old m w)
      ∙ leads.same (trees_in old.seen.default) sc k
      ∙ sym (ap (λ x. switch x (parts new.rest) sc (seen_in new.seen) k) v
      ∙ ap (λ (g : Forest). switch old.value.items (parts g) sc (seen_in new.seen) k) r
      ∙ ap (λ l. switch old.value.items (parts f.rest) sc l k) (known_is new f (trees_in old.seen.default) i j t));
  light =
      let left : size new.rest ≡ size f.rest = ap size r in
      let less : size f.rest + option_size f.default ≤ size old.rest = leads.light in
      omega (arith, left, less, s);
}

-- what is put for other pages that come to the same
pub puts_from : (p q : Setting → Scene → (List ℕ → Page) → Page) (n bound less : ℕ) (old new : List Frame) (f : Focus) → ((w : Setting) (sc : Scene) (k : List ℕ → Page) → p w sc k ≡ q w sc k) → less ≤ bound → Puts q n less old f new → Puts p n bound old f new
puts_from p q n bound less old new f e x h = record { same = λ w sc. e w sc (plug w old sc) ∙ h.same w sc; calm = h.calm; light = omega (arith, x, h.light) }
