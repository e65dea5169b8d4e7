use Rattle.std.proofs.Common.{◌∙◌, ap, sym, None}
use Rattle.std.specs.Option.{option_map}
use Rattle.lua_replacing.specs.LuaMeaningGsub.{by_text}
use Rattle.lua_iterators.specs.LuaBasicSeen.{values_seen}
use Rattle.lua_replacing.specs.Seen.{replacer_seen}
use Rattle.lua_gsubs.specs.Given.{or_text, replacer_in}
use Rattle.lua_gsubs.specs.Table.{alphabet_of}
use Rattle.lua_gsubs.proofs.GivenArguments.{replacement_is, refuses_as, text_refused}
use Rattle.lua_gsubs.proofs.arguments.a_replacement.Goals as goal

pub returns-in-Some-clause-found : goal.returns-in-Some-clause-found
returns-in-Some-clause-found c =
    let texts = c.args.store.now.texts in
    let a = alphabet_of c.args.which in
    let vs = values_seen texts c.args.given.now in
    replacement_is a vs ∙ ap (λ v. or_text a vs (replacer_in v)) (sym (c.first.ensures.value texts)) ∙ ap (or_text a vs) (c.replacer_of.ensures.replacer texts ∙ ap (option_map (replacer_seen texts)) c.in-Some.is)

pub returns-in-Ok-clause-found : goal.returns-in-Ok-clause-found
returns-in-Ok-clause-found c =
    let texts = c.args.store.now.texts in
    let a = alphabet_of c.args.which in
    let vs = values_seen texts c.args.given.now in
    replacement_is a vs ∙ ap (λ v. or_text a vs (replacer_in v)) (sym (c.first.ensures.value texts)) ∙ ap (or_text a vs) (c.replacer_of.ensures.replacer texts ∙ ap (option_map (replacer_seen texts)) c.in-None.is) ∙ ap by_text c.in-Ok.ensures.found

pub returns-in-Err-clause-refused : goal.returns-in-Err-clause-refused
returns-in-Err-clause-refused c =
    let texts = c.args.store.now.texts in
    let a = alphabet_of c.args.which in
    let vs = values_seen texts c.args.given.now in
    refuses_as (or_text a vs None) _ c.args.store.now c.a_gsub_text.new.store c.in-Err.stop
    (sym (replacement_is a vs ∙ ap (λ v. or_text a vs (replacer_in v)) (sym (c.first.ensures.value texts)) ∙ ap (or_text a vs) (c.replacer_of.ensures.replacer texts ∙ ap (option_map (replacer_seen texts)) c.in-None.is)))
    (text_refused _ c.args.store.now c.a_gsub_text.new.store c.in-Err.stop c.in-Err.ensures.refused)

pub returns-in-Some-clause-by : goal.returns-in-Some-clause-by
returns-in-Some-clause-by c = c.in-Some.ensures.of c.args.store.now (c.first.ensures.of c.args.store.now c.requires)
