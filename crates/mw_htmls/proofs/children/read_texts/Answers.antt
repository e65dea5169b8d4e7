use Rattle.std.proofs.Common.{◌≡◌, ap, subst, sym, rules, [], map}
use Rattle.lua_strings.specs.LuaMeaningHtml.{texts_from}
use Rattle.lua_strings.specs.LuaStoreSeen.{seen}
use Rattle.lua_strings.specs.LuaBasicArguments.{text_bytes}
use Rattle.lua_strings.specs.LuaBasicSeen.{values_seen, AllOf}
use Rattle.lua_strings.proofs.Numbered.{behind, behind-none, all-read}
use Rattle.mw_htmls.proofs.Texts.{text_ends, text_read, text_missing}
use Rattle.mw_htmls.proofs.children.read_texts.Goals as goal

pub values-init : goal.values-init
values-init c = rw c.new-texts.ensures (c.requires, behind-none _)

pub text_in-requires : goal.text_in-requires
text_in-requires c = (subst (AllOf c.args.store.now) c.in-Some.ensures c.values.invariant.0).0

pub returns-then-is_nil : goal.returns-then-is_nil
returns-then-is_nil c =
    let texts = c.args.store.now.texts in
    let whole = texts_from 2 (values_seen texts c.args.given.now) in
    let e = subst (λ vs. behind (map text_bytes c.values.texts) (texts_from c.values.n (values_seen texts vs)) ≡ whole) c.in-Some.ensures c.values.invariant.1 in
    text_ends (map text_bytes c.values.texts) c.values.n (seen texts c.in-Some.value) (values_seen texts c.in-Some.more.now) whole (sym (c.if-is_nil.ensures texts)) e

pub returns-in_default-2 : goal.returns-in_default-2
returns-in_default-2 c =
    let texts = c.args.store.now.texts in
    let whole = texts_from 2 (values_seen texts c.args.given.now) in
    let more = values_seen texts c.in-Some.more.now in
    let e = subst (λ vs. behind (map text_bytes c.values.texts) (texts_from c.values.n (values_seen texts vs)) ≡ whole) c.in-Some.ensures c.values.invariant.1 in
    rw (ap (values_seen texts) c.in-Some.ensures) (text_missing (map text_bytes c.values.texts) c.values.n (seen texts c.in-Some.value) more whole (sym (c.if-is_nil.ensures texts)) _ c.in_ok-text.ensures c.in_default-2.is e)

pub values-preserved : goal.values-preserved
values-preserved c =
    let s = c.args.store.now in
    let all = subst (AllOf s) c.in-Some.ensures c.values.invariant.0 in
    let whole = texts_from 2 (values_seen s.texts c.args.given.now) in
    let e = subst (λ vs. behind (map text_bytes c.values.texts) (texts_from c.values.n (values_seen s.texts vs)) ≡ whole) c.in-Some.ensures c.values.invariant.1 in (
      all.1,
      text_read c.values.texts c.push.new.self c.values.n c.in_ok-n.n (seen s.texts c.in-Some.value) (values_seen s.texts c.in-Some.more.now) whole c.in-Some-2.text (sym (c.if-is_nil.ensures s.texts)) _ c.in_ok-text.ensures c.in-Some-2.is c.in_ok-n.ensures c.in_ok-push.ensures.ok e,
    )

pub returns : goal.returns
returns c =
    let texts = c.args.store.now.texts in
    let none : c.values.rest.now ≡ [] = search rules in
    let whole = texts_from 2 (values_seen texts c.args.given.now) in
    all-read (map text_bytes c.values.texts) whole (subst (λ vs. behind (map text_bytes c.values.texts) (texts_from c.values.n (values_seen texts vs)) ≡ whole) none c.values.invariant.1)
