-- A `#switch` that goes on behind parts that cannot decide.
use Rattle.std.specs.Prelude.{◌≡◌, ℕ, ◌+◌, ◌*◌, ◌≤◌, List}
use Rattle.mw_frame.specs.declared.scene.Scene.{Scene}
use Rattle.expand_texts.specs.ExpandMeaningExpand.{Page, switch}
use Rattle.wiki_pages.specs.Forests.{parts, size}
use Rattle.wiki_expand.specs.Points.{seen_in}
use Rattle.wiki_expand.specs.declared.frame.Switch.{Switch}

-- for its value the parts to come, with what is known, come to the same, and less of them is to be gone through
pub record SkipsTo (old new : Switch) : Type 0 where
  pub same : (sc : Scene) (k : List ℕ → Page) → switch old.value.items (parts old.rest) sc (seen_in old.seen) k ≡ switch new.value.items (parts new.rest) sc (seen_in new.seen) k
  pub light : 16 * size new.rest + 8 * size new.seen.default ≤ 16 * size old.rest + 8 * size old.seen.default
