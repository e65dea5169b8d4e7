use Rattle.std.proofs.Common.{◌<◌, ◌≤◌, ◌+◌, length, ◌-◌, ◌*◌}
use Rattle.lua_syntax.specs.View.{expr_view}
use Rattle.lua_reading.proofs.levels.Climb.{Climbs}
use Rattle.lua_reading.proofs.levels.Suffixes.{Chain}
use Rattle.lua_reading.proofs.lists.ExpressionLists.{Listed}
use Rattle.lua_reading.proofs.lists.Fields.{Fielded}
use Rattle.lua_reading.specs.Parsing.{Below}
use Rattle.lua_reading.proofs.statements.Arms.{ArmsRead}
use Rattle.lua_reading.specs.LuaGrammarTokens.{class_at}
use Rattle.lua_reading.specs.Parsing.{goes_after}
use Rattle.lua_reading.proofs.statements.Blocks.{BlockRead}
use Rattle.lua_reading.proofs.statements.SimpleExits.{TargetsRead}
use Rattle.lua_parser.proofs.+parser.Given as goal

abbrev pub decreases-blocks::block : goal.decreases-blocks::block
decreases-blocks::block l = 32 * (length l.toks.now - l.i) + 30

abbrev pub decreases-blocks::body : goal.decreases-blocks::body
decreases-blocks::body l = 32 * (length l.toks.now - l.i) + 31

abbrev pub decreases-exprs::boxed : goal.decreases-exprs::boxed
decreases-exprs::boxed l = 32 * (length l.toks.now - l.i) + 14

abbrev pub decreases-exprs::exp : goal.decreases-exprs::exp
decreases-exprs::exp l = 32 * (length l.toks.now - l.i) + 13

abbrev pub decreases-exprs::lambda : goal.decreases-exprs::lambda
decreases-exprs::lambda l = 32 * (length l.toks.now - l.i) + 4

abbrev pub decreases-exprs::operand : goal.decreases-exprs::operand
decreases-exprs::operand l = 32 * (length l.toks.now - l.i) + 12

abbrev pub decreases-exprs::unary : goal.decreases-exprs::unary
decreases-exprs::unary l = 32 * (length l.toks.now - l.i) + 4

abbrev pub decreases-prefixes::arguments : goal.decreases-prefixes::arguments
decreases-prefixes::arguments l = 32 * (length l.toks.now - l.i) + 9

abbrev pub decreases-prefixes::exprs : goal.decreases-prefixes::exprs
decreases-prefixes::exprs l = 32 * (length l.toks.now - l.i) + 15

abbrev pub decreases-prefixes::prefix : goal.decreases-prefixes::prefix
decreases-prefixes::prefix l = 32 * (length l.toks.now - l.i) + 11

abbrev pub decreases-prefixes::primary : goal.decreases-prefixes::primary
decreases-prefixes::primary l = 32 * (length l.toks.now - l.i) + 10

abbrev pub decreases-prefixes::suffix : goal.decreases-prefixes::suffix
decreases-prefixes::suffix l = 32 * (length l.toks.now - l.i) + 10

abbrev pub decreases-tables::field : goal.decreases-tables::field
decreases-tables::field l = 32 * (length l.toks.now - l.i) + 15

abbrev pub decreases-tables::fields : goal.decreases-tables::fields
decreases-tables::fields l = 32 * (length l.toks.now - l.i) + 16

abbrev pub decreases-tables::keyed : goal.decreases-tables::keyed
decreases-tables::keyed l = 32 * (length l.toks.now - l.i) + 14

abbrev pub decreases-tables::named : goal.decreases-tables::named
decreases-tables::named l = 32 * (length l.toks.now - l.i) + 14

abbrev pub decreases-tables::item : goal.decreases-tables::item
decreases-tables::item l = 32 * (length l.toks.now - l.i) + 14

abbrev pub decreases-tables::table : goal.decreases-tables::table
decreases-tables::table l = 32 * (length l.toks.now - l.i) + 8

abbrev pub invariant-exprs::exp-climb : goal.invariant-exprs::exp-climb
invariant-exprs::exp-climb l = Climbs l.toks l.context l.least l.i (expr_view l.left) l.end l.height

abbrev pub decreases-exprs::exp-climb : goal.decreases-exprs::exp-climb
decreases-exprs::exp-climb l = length l.toks - l.end

abbrev pub invariant-prefixes::prefix-chain : goal.invariant-prefixes::prefix-chain
invariant-prefixes::prefix-chain l = Chain l.toks l.context l.i (expr_view l.left) l.end l.height

abbrev pub decreases-prefixes::prefix-chain : goal.decreases-prefixes::prefix-chain
decreases-prefixes::prefix-chain l = length l.toks - l.end

abbrev pub invariant-prefixes::exprs-list : goal.invariant-prefixes::exprs-list
invariant-prefixes::exprs-list l = (l.at < length l.toks) × (l.i ≤ l.at) × Below l.height l.context.above × Listed l.toks l.context l.i l.tree l.at l.height

abbrev pub decreases-prefixes::exprs-list : goal.decreases-prefixes::exprs-list
decreases-prefixes::exprs-list l = length l.toks - l.at

abbrev pub invariant-tables::fields-fields : goal.invariant-tables::fields-fields
invariant-tables::fields-fields l = (l.end < length l.toks) × (l.i ≤ l.end) × Below l.height l.context.above × Fielded l.toks l.context l.i l.tree l.end l.height

abbrev pub decreases-tables::fields-fields : goal.decreases-tables::fields-fields
decreases-tables::fields-fields l = length l.toks - l.end

-- statements

abbrev pub decreases-stats::statement : goal.decreases-stats::statement
decreases-stats::statement l = 32 * (length l.toks.now - l.i) + 29

abbrev pub decreases-stats::do_block : goal.decreases-stats::do_block
decreases-stats::do_block l = 32 * (length l.toks.now - l.i) + 27

abbrev pub decreases-stats::while_loop : goal.decreases-stats::while_loop
decreases-stats::while_loop l = 32 * (length l.toks.now - l.i) + 27

abbrev pub decreases-stats::repeat_loop : goal.decreases-stats::repeat_loop
decreases-stats::repeat_loop l = 32 * (length l.toks.now - l.i) + 27

abbrev pub decreases-locals::return_stat : goal.decreases-locals::return_stat
decreases-locals::return_stat l = 32 * (length l.toks.now - l.i) + 27

abbrev pub decreases-locals::local : goal.decreases-locals::local
decreases-locals::local l = 32 * (length l.toks.now - l.i) + 28

abbrev pub decreases-locals::local_function : goal.decreases-locals::local_function
decreases-locals::local_function l = 32 * (length l.toks.now - l.i) + 27

abbrev pub decreases-locals::local_names : goal.decreases-locals::local_names
decreases-locals::local_names l = 32 * (length l.toks.now - l.i) + 27

abbrev pub decreases-loops::for_loop : goal.decreases-loops::for_loop
decreases-loops::for_loop l = 32 * (length l.toks.now - l.i) + 27

abbrev pub decreases-loops::count_loop : goal.decreases-loops::count_loop
decreases-loops::count_loop l = 32 * (length l.toks.now - l.i) + 26

abbrev pub decreases-loops::each_loop : goal.decreases-loops::each_loop
decreases-loops::each_loop l = 32 * (length l.toks.now - l.i) + 26

abbrev pub decreases-loops::loop_body : goal.decreases-loops::loop_body
decreases-loops::loop_body l = 32 * (length l.toks.now - l.i) + 28

abbrev pub decreases-conditions::if_stat : goal.decreases-conditions::if_stat
decreases-conditions::if_stat l = 32 * (length l.toks.now - l.i) + 27

abbrev pub decreases-conditions::arms : goal.decreases-conditions::arms
decreases-conditions::arms l = 32 * (length l.toks.now - l.i) + 26

abbrev pub invariant-conditions::arms-arms : goal.invariant-conditions::arms-arms
invariant-conditions::arms-arms l = (l.i ≤ l.at) × ArmsRead l.toks l.context l.i l.tree l.at l.height

abbrev pub decreases-conditions::arms-arms : goal.decreases-conditions::arms-arms
decreases-conditions::arms-arms l = length l.toks - l.at

abbrev pub decreases-assignments::simple : goal.decreases-assignments::simple
decreases-assignments::simple l = 32 * (length l.toks.now - l.i) + 27

abbrev pub decreases-assignments::assignment : goal.decreases-assignments::assignment
decreases-assignments::assignment l = 32 * (length l.toks.now - l.i) + 26

abbrev pub decreases-functions::named_function : goal.decreases-functions::named_function
decreases-functions::named_function l = 32 * (length l.toks.now - l.i) + 27

abbrev pub invariant-blocks::block-stats : goal.invariant-blocks::block-stats
invariant-blocks::block-stats l = BlockRead l.toks l.context l.i l.tree l.end l.height

abbrev pub decreases-blocks::block-stats : goal.decreases-blocks::block-stats
decreases-blocks::block-stats l = length l.toks - l.end

abbrev pub invariant-assignments::assignment-targets : goal.invariant-assignments::assignment-targets
invariant-assignments::assignment-targets l = TargetsRead l.toks l.fn.context (goes_after (class_at l.toks l.i)) l.i l.tree l.end l.height

abbrev pub decreases-assignments::assignment-targets : goal.decreases-assignments::assignment-targets
decreases-assignments::assignment-targets l = length l.toks - l.end
