use Rattle.std.proofs.Common.{◌≡◌, ◌∙◌, ap, sym, refl, rules, subst, [], ◌∷◌, map, Ok, append-nil}
use Rattle.std.specs.Prelude.{codes}
use Rattle.mw_ustrings.specs.LuaMeaningArguments.{a_text}
use Rattle.mw_ustrings.specs.LuaStoreSeen.{seen}
use Rattle.mw_ustrings.proofs.LuaStoreLater.{later-itself}
use Rattle.mw_ustrings.specs.LuaBasicArguments.{text_bytes}
use Rattle.mw_ustrings.specs.LuaBasicSeen.{values_seen, AllOf}
use Rattle.mw_ustrings.specs.LuaMeaningTexts.{items_of}
use Rattle.mw_texts.proofs.ItemLists.{onto, none_yet, item_read, item_refused}
use Rattle.mw_texts.proofs.listing.the_items.Goals as goal

pub each-init : goal.each-init
each-init c = (refl, c.requires, rw c.new-items.ensures (none_yet (items_of (values_seen c.args.store.now.texts c.args.values.now))))

pub a_text-requires : goal.a_text-requires
a_text-requires c = rw c.each.invariant.0 ((subst (AllOf c.args.store.now) c.in-Some.ensures c.each.invariant.1).0, tt)

pub each-preserved : goal.each-preserved
each-preserved c =
    let s = c.args.store.now in
    let i = c.each.invariant in
    let found = rw i.0 at c.in-Ok.ensures.found in
    let more = items_of (values_seen s.texts c.in-Some.more.now) in
    let so = ap (λ xs. onto (map text_bytes c.each.items) (items_of (values_seen s.texts xs))) (sym c.in-Some.ensures) ∙ i.2 in (
      c.in-Ok.ensures.same ∙ i.0,
      (subst (AllOf s) c.in-Some.ensures i.1).1,
      item_read c.each.items c.push.new.self c.in-Ok.item (a_text 1 (codes "listToText") (seen s.texts c.in-Some.value ∷ [])) more _ c.in_ok-push-in-Ok.ensures.ok found so,
    )

pub returns-in-Err-clause-refused : goal.returns-in-Err-clause-refused
returns-in-Err-clause-refused c =
    let s = c.args.store.now in
    let i = c.each.invariant in
    let none = rw i.0 at c.in-Err.ensures.refused in
    let more = items_of (values_seen s.texts c.in-Some.more.now) in
    let so = ap (λ xs. onto (map text_bytes c.each.items) (items_of (values_seen s.texts xs))) (sym c.in-Some.ensures) ∙ i.2 in
    item_refused (map text_bytes c.each.items) (a_text 1 (codes "listToText") (seen s.texts c.in-Some.value ∷ [])) more _ s c.a_text.new.store _ none so

pub returns-in-Err-clause-later : goal.returns-in-Err-clause-later
returns-in-Err-clause-later c = rw c.each.invariant.0 at c.a_text.ensures.later

pub returns-in_err-push-in-Ok-clause-later : goal.returns-in_err-push-in-Ok-clause-later
returns-in_err-push-in-Ok-clause-later c = rw (c.in-Ok.ensures.same ∙ c.each.invariant.0) (later-itself c.args.store.now)

pub returns-clause-found : goal.returns-clause-found
returns-clause-found c =
    let texts = c.args.store.now.texts in
    let none : c.each.left.now ≡ [] = search rules in
    sym c.each.invariant.2 ∙ ap (λ xs. onto (map text_bytes c.each.items) (items_of (values_seen texts xs))) none ∙ ap Ok (append-nil (map text_bytes c.each.items))

pub returns-clause-same : goal.returns-clause-same
returns-clause-same c = c.each.invariant.0

pub returns-clause-later : goal.returns-clause-later
returns-clause-later c = rw c.each.invariant.0 (later-itself c.args.store.now)
