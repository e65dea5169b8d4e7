-- What waits for the replacement of a match stays the same in a later store.
use Rattle.std.proofs.Common.{◌≡◌, ap, sym, subst, refl, arith, ℕ, ◌≤◌, ◌<◌, List, length, Option}
use Rattle.lua_meaning.specs.Gsub.{ByFunction}
use Rattle.lua_store.specs.declared.ids.TextId.{TextId}
use Rattle.lua_store.specs.Seen.{StoreView, text_at}
use Rattle.lua_store.specs.Parts.{IsTextOf, IsLater}
use Rattle.lua_store.proofs.Later.{of-later, seen-later}
use Rattle.lua_replacing.specs.declared.job.Replacer.{Replacer}
use Rattle.lua_replacing.specs.declared.job.Replacer.TheVariants as replacer
use Rattle.lua_replacing.specs.declared.job.Replacing.{Replacing}
use Rattle.lua_replacing.specs.Seen.{replacer_seen, replacing_seen, ReplacerOf, StandWithin, ReplacingOf}

module _ (s t : StoreView) (l : IsLater s t) where
  text_later : (id : TextId) → IsTextOf s id → IsTextOf t id
  text_later id h = omega (arith, h, l.texts.length_)

  replacer_later : (r : Replacer) → ReplacerOf s r → ReplacerOf t r
  replacer_later (replacer.Table id) h = omega (arith, h, l.tables)
  replacer_later (replacer.Function f) h = of-later s t l f h

  replacer_stays : (r : Replacer) → ReplacerOf s r → replacer_seen t.texts r ≡ replacer_seen s.texts r
  replacer_stays (replacer.Table id) h = refl
  replacer_stays (replacer.Function f) h = ap ByFunction (seen-later s t l f h)

  pub replacing_later : (w : Replacing) → ReplacingOf s w → ReplacingOf t w
  replacing_later w h =
      ((text_later w.job.subject h.0.0, replacer_later w.job.by h.0.1), subst (λ text. StandWithin (length text) w.far.next) (sym (l.texts.same w.job.subject.at h.0.0)) h.1)

  pub replacing_stays : (w : Replacing) → ReplacingOf s w → replacing_seen t.texts w ≡ replacing_seen s.texts w
  replacing_stays w h = rw (l.texts.same w.job.subject.at h.0.0, replacer_stays w.job.by h.0.1) refl
