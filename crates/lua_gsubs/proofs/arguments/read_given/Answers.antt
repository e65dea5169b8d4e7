use Rattle.std.proofs.Common.{◌≡◌, ◌∙◌, ap, sym, refl, rules, ℕ, Ok, Err, to_z, of_z, w64}
use Rattle.std.specs.Prelude.{codes}
use Rattle.std.proofs.lemmas.Result.{err_from_is_err_and}
use Rattle.lua_iterators.specs.LuaMeaningValues.{rest}
use Rattle.lua_iterators.specs.LuaMeaningArguments.{Argument, number_or}
use Rattle.lua_replacing.specs.LuaMeaningGsub.{Given, text_in_alphabet, a_replacement, all_of}
use Rattle.lua_iterators.specs.LuaBasicArguments.{text_bytes}
use Rattle.lua_iterators.specs.LuaBasicSeen.{values_seen}
use Rattle.lua_gsubs.specs.Given.{by_seen}
use Rattle.lua_gsubs.specs.Table.{alphabet_of}
use Rattle.lua_gsubs.proofs.GivenArguments.{stops_here, stops_behind, found_then, refuses_as}
use Rattle.lua_gsubs.proofs.arguments.read_given.Goals as goal

pub returns-in_err-subject-clause-refused : goal.returns-in_err-subject-clause-refused
returns-in_err-subject-clause-refused c =
    let q = err_from_is_err_and c.from_residual.result c.from_residual.ensures.1 in
    let s = c.args.store.now in
    rw (q.1 ∙ ap Err q.2) (stops_here _ _ s c.a_gsub_text.new.store c.in_err-subject.field-0.0 c.in_err-subject.ensures.refused)

pub a_gsub_text-requires-2 : goal.a_gsub_text-requires-2
a_gsub_text-requires-2 c = rw c.in_ok-subject.ensures.same (c.rest-others.ensures.of c.args.store.now c.requires)

pub returns-in_err-pattern-clause-refused : goal.returns-in_err-pattern-clause-refused
returns-in_err-pattern-clause-refused c =
    let q = err_from_is_err_and c.from_residual-in_err-pattern.result c.from_residual-in_err-pattern.ensures.1 in
    let s = c.args.store.now in
    let a = alphabet_of c.args.which in
    let vs = values_seen s.texts c.args.args.now in
    let none = rw c.in_ok-subject.ensures.same at c.in_err-pattern.ensures.refused in
    rw (q.1 ∙ ap Err q.2) (stops_behind _ (text_in_alphabet a 1 vs) (text_bytes c.in_ok-subject.subject) _ s c.a_gsub_text-2.new.store c.in_err-pattern.field-0.0 c.in_ok-subject.ensures.found refl
    (stops_here _ _ s c.a_gsub_text-2.new.store c.in_err-pattern.field-0.0 (refuses_as _ (text_in_alphabet a 2 (rest vs)) s c.a_gsub_text-2.new.store c.in_err-pattern.field-0.0 (ap (text_in_alphabet a 2) (c.rest-others.ensures.values s.texts)) none)))

pub a_replacement-requires : goal.a_replacement-requires
a_replacement-requires c = rw (c.in_ok-pattern.ensures.same ∙ c.in_ok-subject.ensures.same) (c.rest-more.ensures.of c.args.store.now (c.rest-others.ensures.of c.args.store.now c.requires))

pub returns-in_err-by-clause-refused : goal.returns-in_err-by-clause-refused
returns-in_err-by-clause-refused c =
    let q = err_from_is_err_and c.from_residual-in_err-by.result c.from_residual-in_err-by.ensures.1 in
    let s = c.args.store.now in
    let t = c.a_replacement.new.store in
    let a = alphabet_of c.args.which in
    let vs = values_seen s.texts c.args.args.now in
    let e = c.in_err-by.field-0.0 in
    let at_two = c.rest-others.ensures.values s.texts in
    let at_three = c.rest-more.ensures.values s.texts ∙ ap rest at_two in
    let pattern = rw c.in_ok-subject.ensures.same at c.in_ok-pattern.ensures.found in
    let none = rw (c.in_ok-pattern.ensures.same ∙ c.in_ok-subject.ensures.same) at c.in_err-by.ensures.refused in
    rw (q.1 ∙ ap Err q.2) (stops_behind _ (text_in_alphabet a 1 vs) (text_bytes c.in_ok-subject.subject) _ s t e c.in_ok-subject.ensures.found refl
    (stops_behind _ (text_in_alphabet a 2 (rest vs)) (text_bytes c.in_ok-pattern.pattern) _ s t e pattern (ap (text_in_alphabet a 2) at_two)
    (stops_here _ _ s t e (refuses_as _ (a_replacement a (rest (rest vs))) s t e (ap (a_replacement a) at_three) none))))

pub a_limit-requires : goal.a_limit-requires
a_limit-requires c =
    rw (c.in_ok-by.ensures.same ∙ c.in_ok-pattern.ensures.same ∙ c.in_ok-subject.ensures.same) (c.rest.ensures.of c.args.store.now (c.rest-more.ensures.of c.args.store.now (c.rest-others.ensures.of c.args.store.now c.requires)))

pub returns-in_err-limit-clause-refused : goal.returns-in_err-limit-clause-refused
returns-in_err-limit-clause-refused c =
    let q = err_from_is_err_and c.from_residual-in_err-limit.result c.from_residual-in_err-limit.ensures.1 in
    let s = c.args.store.now in
    let t = c.a_limit.new.store in
    let a = alphabet_of c.args.which in
    let vs = values_seen s.texts c.args.args.now in
    let e = c.in_err-limit.field-0.0 in
    let two = c.in_ok-pattern.ensures.same ∙ c.in_ok-subject.ensures.same in
    let three = c.in_ok-by.ensures.same ∙ two in
    let at_two = c.rest-others.ensures.values s.texts in
    let at_three = c.rest-more.ensures.values s.texts ∙ ap rest at_two in
    let at_four = c.rest.ensures.values s.texts ∙ ap rest at_three in
    let pattern = rw c.in_ok-subject.ensures.same at c.in_ok-pattern.ensures.found in
    let by = rw two at c.in_ok-by.ensures.found in
    let none = rw (three, c.as_slice.ensures) at c.in_err-limit.ensures.refused in
    rw (q.1 ∙ ap Err q.2) (stops_behind _ (text_in_alphabet a 1 vs) (text_bytes c.in_ok-subject.subject) _ s t e c.in_ok-subject.ensures.found refl
    (stops_behind _ (text_in_alphabet a 2 (rest vs)) (text_bytes c.in_ok-pattern.pattern) _ s t e pattern (ap (text_in_alphabet a 2) at_two)
    (stops_behind _ (a_replacement a (rest (rest vs))) (by_seen s.texts c.in_ok-by.by) _ s t e by (ap (a_replacement a) at_three)
    (stops_here _ _ s t e (refuses_as _ (number_or (all_of (text_bytes c.in_ok-subject.subject)) 4 (codes "gsub") (rest (rest (rest vs)))) s t e (ap (number_or (all_of (text_bytes c.in_ok-subject.subject)) 4 (codes "gsub")) at_four) none)))))

pub returns-clause-found : goal.returns-clause-found
returns-clause-found c =
    let s = c.args.store.now in
    let a = alphabet_of c.args.which in
    let vs = values_seen s.texts c.args.args.now in
    let two = c.in_ok-pattern.ensures.same ∙ c.in_ok-subject.ensures.same in
    let three = c.in_ok-by.ensures.same ∙ two in
    let at_two = c.rest-others.ensures.values s.texts in
    let at_three = c.rest-more.ensures.values s.texts ∙ ap rest at_two in
    let at_four = c.rest.ensures.values s.texts ∙ ap rest at_three in
    let pattern = rw c.in_ok-subject.ensures.same at c.in_ok-pattern.ensures.found in
    let by = rw two at c.in_ok-by.ensures.found in
    let whole : to_z w64 (of_z w64 c.in_ok-limit.limit) ≡ c.in_ok-limit.limit = search rules in
    let most = rw whole at c.count_of.ensures in
    let limit = rw (three, c.as_slice.ensures) at c.in_ok-limit.ensures.found in
    found_then _ (text_in_alphabet a 1 vs) (text_bytes c.in_ok-subject.subject) _ _ c.in_ok-subject.ensures.found refl
    (found_then _ (text_in_alphabet a 2 (rest vs)) (text_bytes c.in_ok-pattern.pattern) _ _ pattern (ap (text_in_alphabet a 2) at_two)
    (found_then _ (a_replacement a (rest (rest vs))) (by_seen s.texts c.in_ok-by.by) _ _ by (ap (a_replacement a) at_three)
    (found_then _ (number_or (all_of (text_bytes c.in_ok-subject.subject)) 4 (codes "gsub") (rest (rest (rest vs)))) c.in_ok-limit.limit _ _ limit (ap (number_or (all_of (text_bytes c.in_ok-subject.subject)) 4 (codes "gsub")) at_four)
    (ap (λ (n : ℕ). (let g : Given = record { subject = text_bytes c.in_ok-subject.subject; pattern = text_bytes c.in_ok-pattern.pattern; by = by_seen s.texts c.in_ok-by.by; limit = n } in (let r : Argument Given = Ok g in r))) (sym most)))))

pub returns-clause-by : goal.returns-clause-by
returns-clause-by c = let by = rw (c.in_ok-pattern.ensures.same ∙ c.in_ok-subject.ensures.same) at c.in_ok-by.ensures.by in by
