use Rattle.std.proofs.Common.{◌≡◌, ◌∙◌, ◌≤◌, ◌<◌, ◌-◌, ap, arith, rules}
use Rattle.std.specs.Option.{option_map}
use Rattle.lua_stack.specs.Seen.{level_seen}
use Rattle.lua_stack.proofs.LevelLemmas.{first, beyond, behind, level_source}
use Rattle.lua_stack.proofs.activation.level_above.Goals as goal

pub returns-then-level-eq1-clause-place : goal.returns-then-level-eq1-clause-place
returns-then-level-eq1-clause-place c =
    let one : c.args.level ≡ 1 = search (arith, rules) in
    λ s. first s c.args.stack.now c.args.newest.now c.args.line c.args.level c.requires.newest one

pub returns-then-level-newest-clause-place : goal.returns-then-level-newest-clause-place
returns-then-level-newest-clause-place c =
    let two : 2 ≤ c.args.level = search (arith, rules) in
    let far : c.args.newest.now.reach ≤ c.args.level - 2 = search (arith, rules) in
    λ s. beyond s c.args.stack.now c.args.newest.now c.args.line c.args.level c.requires.newest c.requires.known two far

pub returns-clause-of : goal.returns-clause-of
returns-clause-of c = λ s h. level_source s c.args.stack.now (c.args.level - 2) (c.args.level - 1) c.caller.result h c.caller.ensures

pub returns-clause-place : goal.returns-clause-place
returns-clause-place c =
    let two : 2 ≤ c.args.level = search (arith, rules) in
    let near : c.args.level - 2 < c.args.newest.now.reach = search (arith, rules) in
    λ s. ap (option_map (level_seen s.texts)) c.caller.ensures ∙ behind s c.args.stack.now c.args.newest.now c.args.line c.args.level c.requires.newest c.requires.known two near
