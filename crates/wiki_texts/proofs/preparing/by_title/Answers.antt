use Rattle.std.proofs.Common.{◌≡◌, ◌∙◌, refl, sym, ap, ℕ, ◌+◌, ◌++◌, ◌∷◌, [], List, length, subst}
use Rattle.std.proofs.lemmas.List.{length_push}
use Rattle.std.proofs.lemmas.Iterator.Adapters.{YieldsList-from_vec}
use Rattle.std.proofs.lemmas.Iterator.Consumers.{YieldsList-turn, YieldsList-end}
use Rattle.wiki_pages.specs.Pages.{Pages}
use Rattle.wiki_texts.specs.declared.prepared.Prepared.{Prepared}
use Rattle.wiki_texts.proofs.PreparedLaws.{nothing_held, one_held, all_held, AreHeld, inside, this_one, at_end}
use Rattle.wiki_texts.proofs.preparing.by_title.Goals as goal

pub loop-done-init : goal.loop-done-init
loop-done-init c = (refl, rw (c.new-map.ensures, c.new-modules.ensures) (nothing_held c.args.pages.now))

pub bounds-pages-at : goal.bounds-pages-at
bounds-pages-at c =
    let gives = c.into_iter-done-iterator.ensures.into_iter_gives in
    let items : List Prepared = c.args.prepared in
    let turn = YieldsList-turn (YieldsList-from_vec items (gives.0 ∙ c.into_vec-done-items.ensures) (gives.1 ∙ c.into_vec-done-items.result.ok.0 ∙ ap length c.into_vec-done-items.ensures)) c.loop-done.yielded c.loop-done.done-iterator c.loop-done.yielded_by c.next.result c.next.new.self c.in-Some.done c.in-Some.is c.next.ensures.steps in
    inside c.args.pages.now items c.loop-done.at _ c.requires c.loop-done.invariant.0 turn.0

pub add-requires : goal.add-requires
add-requires c =
    let gives = c.into_iter-done-iterator.ensures.into_iter_gives in
    let items : List Prepared = c.args.prepared in
    let turn = YieldsList-turn (YieldsList-from_vec items (gives.0 ∙ c.into_vec-done-items.ensures) (gives.1 ∙ c.into_vec-done-items.result.ok.0 ∙ ap length c.into_vec-done-items.ensures)) c.loop-done.yielded c.loop-done.done-iterator c.loop-done.yielded_by c.next.result c.next.new.self c.in-Some.done c.in-Some.is c.next.ensures.steps in
    this_one c.args.pages.now items c.loop-done.at _ c.index-pages-at.result c.in-Some.done c.requires c.loop-done.invariant.0 turn c.index-pages-at.is

pub loop-done-preserved : goal.loop-done-preserved
loop-done-preserved c =
    let gives = c.into_iter-done-iterator.ensures.into_iter_gives in
    let items : List Prepared = c.args.prepared in
    let turn = YieldsList-turn (YieldsList-from_vec items (gives.0 ∙ c.into_vec-done-items.ensures) (gives.1 ∙ c.into_vec-done-items.result.ok.0 ∙ ap length c.into_vec-done-items.ensures)) c.loop-done.yielded c.loop-done.done-iterator c.loop-done.yielded_by c.next.result c.next.new.self c.in-Some.done c.in-Some.is c.next.ensures.steps in
    let pages = c.args.pages.now in
    let at : ℕ = c.loop-done.at in
    let more : length (c.loop-done.yielded ++ c.in-Some.done ∷ []) ≡ length c.loop-done.yielded + 1 = length_push c.loop-done.yielded c.in-Some.done in
    let place : at + 1 ≡ length (c.loop-done.yielded ++ c.in-Some.done ∷ []) = ap (λ (n : ℕ). n + 1) c.loop-done.invariant.0 ∙ sym more in
    let longer : AreHeld pages (at + 1) c.add.new.map c.add.new.modules =
    subst (λ (m : Pages). AreHeld pages (at + 1) m c.add.new.modules) (sym c.in_ok-add.ensures.pages)
    (one_held pages at c.index-pages-at.result c.loop-done.map c.loop-done.modules c.add.new.modules (inside pages items at _ c.requires c.loop-done.invariant.0 turn.0) c.index-pages-at.is c.loop-done.invariant.1 c.in_ok-add.ensures.code) in
    (place, longer)

pub returns-clause-pages : goal.returns-clause-pages
returns-clause-pages c =
    let gives = c.into_iter-done-iterator.ensures.into_iter_gives in
    let items : List Prepared = c.args.prepared in
    let end = YieldsList-end (YieldsList-from_vec items (gives.0 ∙ c.into_vec-done-items.ensures) (gives.1 ∙ c.into_vec-done-items.result.ok.0 ∙ ap length c.into_vec-done-items.ensures)) c.loop-done.yielded c.loop-done.done-iterator c.loop-done.yielded_by c.next.result c.next.new.self c.in-None.is c.next.ensures.steps in
    (all_held c.args.pages.now c.loop-done.at c.loop-done.map c.loop-done.modules c.loop-done.invariant.1 (at_end c.args.pages.now items c.loop-done.at _ c.requires c.loop-done.invariant.0 end.1)).0

pub returns-clause-code : goal.returns-clause-code
returns-clause-code c =
    let gives = c.into_iter-done-iterator.ensures.into_iter_gives in
    let items : List Prepared = c.args.prepared in
    let end = YieldsList-end (YieldsList-from_vec items (gives.0 ∙ c.into_vec-done-items.ensures) (gives.1 ∙ c.into_vec-done-items.result.ok.0 ∙ ap length c.into_vec-done-items.ensures)) c.loop-done.yielded c.loop-done.done-iterator c.loop-done.yielded_by c.next.result c.next.new.self c.in-None.is c.next.ensures.steps in
    (all_held c.args.pages.now c.loop-done.at c.loop-done.map c.loop-done.modules c.loop-done.invariant.1 (at_end c.args.pages.now items c.loop-done.at _ c.requires c.loop-done.invariant.0 end.1)).1
