use Rattle.std.proofs.Common.{◌∙◌, ap, arith, map}
use Rattle.lua_strings.specs.LuaHeapProc.{Proc}
use Rattle.mw_html.specs.LuaHeapHeap.{Heap, markup_at, set_markup_in}
use Rattle.lua_strings.specs.LuaMeaningHtmlNodes.{styles_of}
use Rattle.lua_strings.specs.LuaStoreSeen.{StoreView, seen_style}
use Rattle.mw_htmls.specs.Nodes.{bytes_in, styles_set}
use Rattle.mw_htmls.proofs.Settled.{one_text_seen, one_text_is}
use Rattle.mw_htmls.proofs.settings.set_all_styles.Goals as goal

pub put_styles-requires-clause-id : goal.put_styles-requires-clause-id
put_styles-requires-clause-id c = let le = c.text_if_any.ensures.later.markup in omega (arith, c.requires, le)

pub put_styles-requires-clause-styles : goal.put_styles-requires-clause-styles
put_styles-requires-clause-styles c = rw c.in_ok-styles.ensures (one_text_is c.text_if_any.new.store c.in_ok-kept.kept c.in_ok-kept.ensures.of)

pub returns-clause-set : goal.returns-clause-set
returns-clause-set c =
    let s = c.args.store.now in
    let u = c.text_if_any.new.store in
    let m = c.args.id.at in
    let is = ap (map (seen_style u.texts)) c.in_ok-styles.ensures ∙ one_text_seen u.texts c.in_ok-kept.kept ∙ ap styles_of c.in_ok-kept.ensures.there in
    ap (λ (x : StoreView). x.heap) c.put_styles.ensures.put ∙ ap (λ xs. set_markup_in u.heap m (styles_set xs (markup_at u.heap m))) is
    ∙ ap (λ (h : Heap Proc). set_markup_in h m (styles_set (styles_of (bytes_in c.args.text)) (markup_at h m))) c.text_if_any.ensures.heap
