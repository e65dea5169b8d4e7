use Rattle.std.proofs.Common.{rules, ◌≡◌, ◌∙◌, ℕ, List, ◌++◌, subst}
use Rattle.std.specs.Fmt.{signed_decimal}
use Rattle.std.specs.Prelude.{IfOk}
use Rattle.lua_modules.specs.LuaSlotsPoints as point
use Rattle.lua_modules.specs.LuaStackSeen.{values_seen, joined_seen}
use Rattle.lua_modules.specs.LuaStateSeen.{slots_of, frames_of}
use Rattle.lua_modules.specs.LuaStateMakes.{Makes}
use Rattle.lua_runs.proofs.answers.with_plain.Goals as goal

pub returns-in-Text : goal.returns-in-Text
returns-in-Text c = λ l. rw c.in-Text.is (c.follow.ensures l)

pub returns-in-Nil : goal.returns-in-Nil
returns-in-Nil c = λ l. rw c.in-Nil.is (c.follow_made-in-Nil.ensures l)

pub returns-in-Table : goal.returns-in-Table
returns-in-Table c = λ l. rw c.in-Table.is (c.follow_made-in-Table.ensures l)

pub returns-in-Closure : goal.returns-in-Closure
returns-in-Closure c = λ l. rw c.in-Closure.is (c.follow_made-in-Closure.ensures l)

pub returns-in-Builtin : goal.returns-in-Builtin
returns-in-Builtin c = λ l. rw c.in-Builtin.is (c.follow_made-in-Builtin.ensures l)

pub returns-in-Markup : goal.returns-in-Markup
returns-in-Markup c = λ l. rw c.in-Markup.is (c.follow_made-in-Markup.ensures l)

pub returns-in_ok-digits-in-Number : goal.returns-in_ok-digits-in-Number
returns-in_ok-digits-in-Number c = λ l.
    let digits : c.in_ok-digits-in-Number.digits.items ≡ signed_decimal c.in-Number.n = search rules in
    rw c.in-Number.is
    (subst (λ (b : List ℕ). IfOk c.follow_made.result (λ r. Makes c.args.store.now c.args.state.now l c.follow_made.new.store c.args.state.now l
    (point.Now (point.Texts (values_seen c.args.store.now.texts c.args.values) (joined_seen c.args.store.now.texts c.args.before ++ b) (frames_of c.args.store.now c.args.state.now)) (slots_of c.args.store.now c.args.state.now)) r))
    (c.as_slice-text.ensures.value ∙ digits) (c.follow_made.ensures l))

pub returns-in-Bool-true : goal.returns-in-Bool-true
returns-in-Bool-true c = λ l. rw (c.in-Bool-true.is, c.in-Bool-true.field-0-test) (c.follow_made-in-Bool-true.ensures l)

pub returns-in-Bool-false : goal.returns-in-Bool-false
returns-in-Bool-false c = λ l. rw (c.in-Bool-false.is, c.in-Bool-false.field-0-test) (c.follow_made-in-Bool-false.ensures l)
