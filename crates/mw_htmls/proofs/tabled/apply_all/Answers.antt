use Rattle.std.proofs.Common.{◌∙◌, ◌++◌, ◌∷◌, [], ap, sym, arith, take}
use Rattle.std.proofs.lemmas.List.{take_more}
use Rattle.mw_html.specs.LuaHeapHeap.{markup_at, set_markup_in}
use Rattle.lua_strings.proofs.LuaStoreLater.{later-itself, later-then}
use Rattle.mw_htmls.specs.Setters.{all_set}
use Rattle.mw_htmls.proofs.Tables.{set_none, set_more}
use Rattle.mw_htmls.proofs.tabled.apply_all.Goals as goal

pub each-init : goal.each-init
each-init c = (c.requires, set_none c.args.store.now.heap c.args.id.at, later-itself c.args.store.now)

pub apply-requires : goal.apply-requires
apply-requires c = c.each.invariant.0

pub each-preserved : goal.each-preserved
each-preserved c =
    let i = c.each.invariant in
    let s = c.args.store.now in
    let xs = c.args.settings.now in
    let at = c.each.setting-index in
    let x = c.setting-item.result in
    let le = c.apply.ensures.later.markup in
    let of = i.0 in (
      omega (arith, of, le),
      set_more c.args.setter s.heap c.each.store.heap c.apply.new.store.heap c.args.id.at (take at xs) x c.requires i.1 c.in_ok-apply.ensures.set
          ∙ ap (λ y. set_markup_in s.heap c.args.id.at (all_set c.args.setter (take at xs ++ y ∷ []) (markup_at s.heap c.args.id.at))) c.setting-item.is
          ∙ ap (λ ys. set_markup_in s.heap c.args.id.at (all_set c.args.setter ys (markup_at s.heap c.args.id.at))) (sym (take_more xs at x c.each-test.true)),
      later-then s c.each.store c.apply.new.store i.2 c.apply.ensures.later,
    )
