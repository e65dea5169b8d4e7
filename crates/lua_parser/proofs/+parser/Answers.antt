use Rattle.std.proofs.Common.{rules, arith, [], ◌<◌, length, sym, ap, ◌∙◌, refl, inl, inr}
use Rattle.std.proofs.lemmas.Result.{err_from_is_err_and}
use Rattle.lua_reading.proofs.pieces.Steps.{unexpected, too_deep}
use Rattle.lua_reading.proofs.levels.Levels.{mark-not_eof}
use Rattle.lua_reading.proofs.levels.Climb.{begin}
use Rattle.lua_reading.proofs.expressions.Atoms.{operand_deep, left_can, unary_starts, table_starts, function_starts}
use Rattle.lua_reading.proofs.lists.ExpressionLists.{name_starts, paren_starts, primary_node, primary_opens, no_primary, open_apart, no_args, text_deep}
use Rattle.lua_reading.proofs.lists.Fields.{key_deep}
use Rattle.lua_reading.proofs.pieces.Kinds.{args_opens}
use Rattle.lua_reading.proofs.expressions.Exits.{more_after, is_class, isn't, operand_fault, finish_read, low_read, deep_read, right_fault, more_read, prefix_answer, unary_fault, unary_read, name_not_eof, left_paren_not_eof, right_paren_not_eof, left_brace_not_eof, left_bracket_not_eof, right_bracket_not_eof, colon_not_eof, dot_not_eof, assign_not_eof, function_not_eof, sign_not_eof}
use Rattle.lua_reading.proofs.expressions.MoreExits.{lambda_fault, lambda_read, table_fault, table_unclosed, table_read, name_read, paren_fault, paren_unclosed, paren_read, dot_fault, dot_read, bracket_fault, bracket_unclosed, bracket_read, colon_no_name, colon_fault, colon_read, call_fault, primary_fault, chain_begin_read, chain_end_read, chain_deep_read, chain_fault_read, chain_more_read, exps_fault, exps_end_read, exps_more_read, fields_fault, fields_end_read, fields_last_read, fields_more_read}
use Rattle.lua_reading.proofs.expressions.ArgExits.{empty_args, args_fault, args_unclosed, args_read, alone_answer, alone_fault, text_reading, bracket_key_fault, bracket_key_unclosed, bracket_key_alone, bracket_value_fault, bracket_value_read, key_value_fault, key_value_read, item_fault, item_read, under_low, seven_low, less_room, climbs_high, chain_high, prefix_form_of, same_line, other_line, two_more, is_separator}
use Rattle.lua_parser.proofs.lemmas.ParameterExits.{body_no_open, body_params_fault, body_no_close, body_block_fault, fun_no_end, body_read, function_high}
use Rattle.lua_reading.specs.LuaGrammarDeclaredTokenClassTheVariants.{Do, While, Repeat, Return, Until, Local, Name, Assign, Function, For, In, Comma, Then, If, Else}
use Rattle.lua_reading.specs.Parsing.{last_goes, block_goes}
use Rattle.lua_reading.proofs.statements.Begins.{behind_word}
use Rattle.lua_reading.proofs.statements.Split.{do_starts, while_starts, repeat_starts, return_starts}
use Rattle.lua_reading.proofs.statements.PlainExits.{read_is, read_not, under_fits, in_loop_fits, deep, do_fault, do_no_end, do_stands, while_test_fault, while_no_do, while_fault, while_no_end, while_stands, repeat_fault, repeat_no_until, repeat_test_fault, repeat_stands, return_none, return_fault, return_stands, all_reading, all_failed, exp_reading, exp_failed, block_reading, block_failed}
use Rattle.lua_reading.proofs.statements.Forms.{local_starts, for_starts, if_starts}
use Rattle.lua_reading.proofs.statements.FormExits.{fun_reading, fun_failed, local_fun_unnamed, third_inside, local_fun_fault, local_fun_stands, local_unnamed, local_names_fault, local_names_stand, local_values_fault, local_stands, do_reading, do_failed}
use Rattle.lua_reading.proofs.statements.ForExits.{loop_no_do, loop_fault, loop_no_end, loop_stands, for_unnamed, count_from_fault, count_no_comma, count_to_fault, count_to, count_body_fault, count_stands, count_by_fault, step_body_fault, step_stands, each_names_fault, each_named, each_no_in, each_values_fault, each_body_fault, each_stands}
use Rattle.lua_reading.proofs.statements.Arms.{arm_test_fault, arm_no_then, arm_body_fault, arm_more, arm_last, arms_reading, arms_failed, if_fault, if_stands, if_no_end, else_fault, else_no_end, else_stands}
use Rattle.lua_reading.specs.StatAnswers.{closing}
use Rattle.lua_reading.proofs.statements.Blocks.{block_start, stat_fault, block_more, block_last_stat, block_done, default_stat, no_stat}
use Rattle.lua_reading.proofs.statements.SimpleExits.{prefix_reading, prefix_failed, call_is, call_not, var_is, var_not, simple_deep, simple_fault, simple_not, simple_call, targets_first, target_none, target_fault, target_not, target_more, values_fault, assign_stands}
use Rattle.lua_reading.proofs.functions.NamedSteps.{named_deep, named_fault, named_body_fault, named_stands, head_reading, head_failed, under_room, twice_fits, twice, body_failed, body_reading, named_is}
use Rattle.lua_parser.proofs.+parser.Goals as goal

-- expressions

pub exprs::exp-returns-in_err-first : goal.exprs::exp-returns-in_err-first
exprs::exp-returns-in_err-first t c =
    let p = err_from_is_err_and c.from_residual.result c.from_residual.ensures.1 in
    rw (p.1, p.2) (operand_fault _ c.args.context _ _ _ c.requires.levels c.in_err-first.ensures)

pub exprs::exp-climb-init : goal.exprs::exp-climb-init
exprs::exp-climb-init t c = begin _ c.args.context _ _ _ _ _ c.requires.levels c.in_ok-first.ensures

pub exprs::exp-returns-in_default : goal.exprs::exp-returns-in_default
exprs::exp-returns-in_default t c = finish_read _ c.args.context _ _ _ _ _ _ c.requires.levels c.climb.invariant c.class_at.ensures c.in_default.ensures

pub exprs::exp-returns-then-level_of-least : goal.exprs::exp-returns-then-level_of-least
exprs::exp-returns-then-level_of-least t c = low_read _ c.args.context _ _ _ _ _ _ _ _ c.requires.levels c.climb.invariant c.class_at.ensures c.in-Some.ensures c.level_of.ensures c.if-level_of-least.true

pub exprs::exp-returns-then-context-height-gt200 : goal.exprs::exp-returns-then-context-height-gt200
exprs::exp-returns-then-context-height-gt200 t c = rw c.fault_at.ensures (deep_read _ c.args.context _ _ _ _ _ _ _ _ c.requires.levels c.climb.invariant c.class_at.ensures c.in-Some.ensures c.level_of.ensures c.if-level_of-least.false c.if-context-height-gt200.true)

pub exprs::exp-exp-requires : goal.exprs::exp-exp-requires
exprs::exp-exp-requires t c = (omega (arith, c.decreases, c.climb.invariant.grows, c.climb.invariant.inside), (c.requires.ended, (more_after _ _ _ c.requires.ended c.climb.invariant.inside (is_class _ _ _ _ c.class_at.ensures c.in-Some.ensures) (mark-not_eof _), (seven_low _ _ c.right_level_of.ensures, under_low _ _ c.under.ensures (less_room _ _ c.if-context-height-gt200.false)))))

pub exprs::exp-returns-in_err-right : goal.exprs::exp-returns-in_err-right
exprs::exp-returns-in_err-right t c =
    let p = err_from_is_err_and c.from_residual-in_err-right.result c.from_residual-in_err-right.ensures.1 in
    rw (p.1, p.2) (right_fault _ c.args.context _ _ _ _ _ _ _ _ _ _ _ c.requires.levels c.climb.invariant c.class_at.ensures c.in-Some.ensures c.level_of.ensures c.if-level_of-least.false c.if-context-height-gt200.false c.right_level_of.ensures c.under.ensures c.in_err-right.ensures)

pub exprs::exp-climb-preserved : goal.exprs::exp-climb-preserved
exprs::exp-climb-preserved t c = climbs_high _ c.args.context _ _ _ _ _ _ c.max-height.ensures (more_read _ c.args.context _ _ _ _ _ _ _ _ _ _ _ _ _ _ _ c.requires.levels c.climb.invariant c.class_at.ensures c.in-Some.ensures c.level_of.ensures c.if-level_of-least.false c.if-context-height-gt200.false c.right_level_of.ensures c.under.ensures c.in_ok-right.ensures c.line_at.ensures (rw c.in_ok-held.ensures.ok at c.in_ok-left.ensures.ok))

pub exprs::boxed-exp-requires : goal.exprs::boxed-exp-requires
exprs::boxed-exp-requires t c = (omega (arith, c.decreases), (c.requires.ended, (c.requires.inside, (omega arith, c.requires.high))))

pub exprs::boxed-returns-in_err-read : goal.exprs::boxed-returns-in_err-read
exprs::boxed-returns-in_err-read t c =
    let p = err_from_is_err_and c.from_residual.result c.from_residual.ensures.1 in
    rw (p.1, p.2) c.in_err-read.ensures

pub exprs::boxed-returns : goal.exprs::boxed-returns
exprs::boxed-returns t c = rw c.in_ok-tree.ensures.ok c.in_ok-read.ensures

pub exprs::lambda-returns-then-context-gt200 : goal.exprs::lambda-returns-then-context-gt200
exprs::lambda-returns-then-context-gt200 t c = rw c.fault_at.ensures (operand_deep _ c.args.context _ c.requires.inside c.if-context-gt200.true (left_can c.args.context (function_starts _ c.args.context _ c.requires.begins)))

pub exprs::lambda-body-requires : goal.exprs::lambda-body-requires
exprs::lambda-body-requires t c = (omega (arith, c.decreases, c.requires.inside), (c.requires.ended, (more_after _ _ _ c.requires.ended c.requires.inside c.requires.begins function_not_eof, under_low _ _ c.under.ensures c.if-context-gt200.false)))

pub exprs::lambda-returns-in_err-function : goal.exprs::lambda-returns-in_err-function
exprs::lambda-returns-in_err-function t c =
    let p = err_from_is_err_and c.from_residual.result c.from_residual.ensures.1 in
    rw (p.1, p.2) (lambda_fault _ c.args.context _ _ _ c.requires.begins c.if-context-gt200.false c.under.ensures c.in_err-function.ensures)

pub exprs::lambda-returns : goal.exprs::lambda-returns
exprs::lambda-returns t c = lambda_read _ c.args.context _ _ _ _ _ _ _ c.requires.begins c.if-context-gt200.false c.under.ensures c.in_ok-function.ensures c.line_at.ensures c.function-tree.ensures

pub exprs::operand-returns-in-Name : goal.exprs::operand-returns-in-Name
exprs::operand-returns-in-Name t c = prefix_answer _ c.args.context _ _ (prefix_form_of _ _ _ c.class_at.ensures c.in-Name.is) c.prefix.ensures

pub exprs::unary-returns-then-context-gt200 : goal.exprs::unary-returns-then-context-gt200
exprs::unary-returns-then-context-gt200 t c = rw c.fault_at.ensures (operand_deep _ c.args.context _ c.requires.inside c.if-context-gt200.true (left_can c.args.context (unary_starts _ c.args.context _ _ c.requires.sign)))

pub exprs::unary-exp-requires : goal.exprs::unary-exp-requires
exprs::unary-exp-requires t c = (omega (arith, c.decreases, c.requires.inside), (c.requires.ended, (more_after _ _ _ c.requires.ended c.requires.inside c.requires.sign (sign_not_eof _), (omega arith, under_low _ _ c.under.ensures c.if-context-gt200.false))))

pub exprs::unary-returns-in_err-inner : goal.exprs::unary-returns-in_err-inner
exprs::unary-returns-in_err-inner t c =
    let p = err_from_is_err_and c.from_residual.result c.from_residual.ensures.1 in
    rw (p.1, p.2) (unary_fault _ c.args.context _ _ _ _ c.requires.sign c.if-context-gt200.false c.under.ensures c.in_err-inner.ensures)

pub exprs::unary-returns : goal.exprs::unary-returns
exprs::unary-returns t c = unary_read _ c.args.context _ _ _ _ _ _ _ _ c.requires.sign c.if-context-gt200.false c.under.ensures c.in_ok-inner.ensures c.line_at.ensures c.in_ok-tree.ensures.ok

pub tables::table-returns-then-context-gt200 : goal.tables::table-returns-then-context-gt200
tables::table-returns-then-context-gt200 t c = rw c.fault_at.ensures (operand_deep _ c.args.context _ c.requires.inside c.if-context-gt200.true (left_can c.args.context (table_starts _ c.args.context _ c.requires.begins)))

pub tables::table-fields-requires : goal.tables::table-fields-requires
tables::table-fields-requires t c = (omega (arith, c.decreases, c.requires.inside), (c.requires.ended, (more_after _ _ _ c.requires.ended c.requires.inside c.requires.begins left_brace_not_eof, under_low _ _ c.under.ensures c.if-context-gt200.false)))

pub tables::table-returns-in_err-inner : goal.tables::table-returns-in_err-inner
tables::table-returns-in_err-inner t c =
    let p = err_from_is_err_and c.from_residual.result c.from_residual.ensures.1 in
    rw (p.1, p.2) (table_fault _ c.args.context _ _ _ c.requires.begins c.if-context-gt200.false c.under.ensures c.in_err-inner.ensures)

pub tables::table-returns-in_default : goal.tables::table-returns-in_default
tables::table-returns-in_default t c = rw c.fault_at-in_default.ensures (table_unclosed _ c.args.context _ _ _ _ _ c.requires.begins c.if-context-gt200.false c.under.ensures c.in_ok-inner.ensures (isn't _ _ _ _ c.class_at.ensures c.in_default.not-RightBrace))

pub tables::table-returns : goal.tables::table-returns
tables::table-returns t c = table_read _ c.args.context _ _ _ _ _ _ _ c.requires.ended c.requires.begins c.if-context-gt200.false c.under.ensures c.in_ok-inner.ensures (is_class _ _ _ _ c.class_at.ensures c.in-RightBrace.is) c.line_at.ensures c.table-tree.ensures

pub prefixes::prefix-returns-in_err-first : goal.prefixes::prefix-returns-in_err-first
prefixes::prefix-returns-in_err-first t c =
    let p = err_from_is_err_and c.from_residual.result c.from_residual.ensures.1 in
    rw (p.1, p.2) (primary_fault _ c.args.context _ _ c.in_err-first.ensures)

pub prefixes::prefix-chain-init : goal.prefixes::prefix-chain-init
prefixes::prefix-chain-init t c = chain_begin_read _ c.args.context _ _ _ _ c.in_ok-first.ensures

pub prefixes::prefix-returns-then-not-is_suffix : goal.prefixes::prefix-returns-then-not-is_suffix
prefixes::prefix-returns-then-not-is_suffix t c = chain_end_read _ c.args.context _ _ _ _ _ _ c.chain.invariant c.class_at.ensures c.is_suffix.ensures c.if-not-is_suffix.true

pub prefixes::prefix-returns-then-context-height-gt200 : goal.prefixes::prefix-returns-then-context-height-gt200
prefixes::prefix-returns-then-context-height-gt200 t c = rw c.fault_at.ensures (chain_deep_read _ c.args.context _ _ _ _ _ _ c.chain.invariant c.class_at.ensures c.is_suffix.ensures c.if-not-is_suffix.false c.if-context-height-gt200.true)

pub prefixes::prefix-returns-in_err-next : goal.prefixes::prefix-returns-in_err-next
prefixes::prefix-returns-in_err-next t c =
    let p = err_from_is_err_and c.from_residual-in_err-next.result c.from_residual-in_err-next.ensures.1 in
    rw (p.1, p.2) (chain_fault_read _ c.args.context _ _ _ _ _ _ _ c.chain.invariant c.class_at.ensures c.is_suffix.ensures c.if-not-is_suffix.false c.if-context-height-gt200.false (rw c.in_ok-held.ensures.ok at c.in_err-next.ensures))

pub prefixes::prefix-chain-preserved : goal.prefixes::prefix-chain-preserved
prefixes::prefix-chain-preserved t c = chain_high _ c.args.context _ _ _ _ _ c.max-height.ensures (chain_more_read _ c.args.context _ _ _ _ _ _ _ _ _ c.chain.invariant c.class_at.ensures c.is_suffix.ensures c.if-not-is_suffix.false c.if-context-height-gt200.false (rw c.in_ok-held.ensures.ok at c.in_ok-next.ensures))

pub prefixes::primary-returns-then-context-gt200 : goal.prefixes::primary-returns-then-context-gt200
prefixes::primary-returns-then-context-gt200 t c = rw c.fault_at.ensures (too_deep (name_starts _ c.args.context _ (is_class _ _ _ _ c.class_at.ensures c.in-Name.is)) (primary_node _ c.args.context _) (primary_opens _ c.args.context) c.requires.inside c.if-context-gt200.true)

pub prefixes::primary-returns-then-context-gt200-2 : goal.prefixes::primary-returns-then-context-gt200-2
prefixes::primary-returns-then-context-gt200-2 t c = rw c.fault_at-then-context-gt200-2.ensures (too_deep (paren_starts _ c.args.context _ (is_class _ _ _ _ c.class_at.ensures c.in-LeftParen.is)) (primary_node _ c.args.context _) (primary_opens _ c.args.context) c.requires.inside c.if-context-gt200-2.true)

pub prefixes::primary-exp-requires : goal.prefixes::primary-exp-requires
prefixes::primary-exp-requires t c = (omega (arith, c.decreases, c.requires.inside), (c.requires.ended, (more_after _ _ _ c.requires.ended c.requires.inside (is_class _ _ _ _ c.class_at.ensures c.in-LeftParen.is) left_paren_not_eof, (omega arith, under_low _ _ c.under.ensures c.if-context-gt200-2.false))))

pub prefixes::primary-returns-in_err-inner-in-LeftParen : goal.prefixes::primary-returns-in_err-inner-in-LeftParen
prefixes::primary-returns-in_err-inner-in-LeftParen t c =
    let p = err_from_is_err_and c.from_residual-in_err-inner-in-LeftParen.result c.from_residual-in_err-inner-in-LeftParen.ensures.1 in
    rw (p.1, p.2) (paren_fault _ c.args.context _ _ _ (is_class _ _ _ _ c.class_at.ensures c.in-LeftParen.is) c.if-context-gt200-2.false c.under.ensures c.in_err-inner-in-LeftParen.ensures)

pub prefixes::primary-returns-in_default-class_at : goal.prefixes::primary-returns-in_default-class_at
prefixes::primary-returns-in_default-class_at t c = rw c.fault_at-in_default-class_at.ensures (paren_unclosed _ c.args.context _ _ _ _ _ (is_class _ _ _ _ c.class_at.ensures c.in-LeftParen.is) c.if-context-gt200-2.false c.under.ensures c.in_ok-inner-in-LeftParen.ensures (isn't _ _ _ _ c.class_at-in-LeftParen.ensures c.in_default-class_at.not-RightParen))

pub prefixes::primary-returns-in_ok-copy_at-in-Name : goal.prefixes::primary-returns-in_ok-copy_at-in-Name
prefixes::primary-returns-in_ok-copy_at-in-Name t c = name_read _ c.args.context _ _ _ _ c.requires.ended c.requires.inside (is_class _ _ _ _ c.class_at.ensures c.in-Name.is) c.if-context-gt200.false c.line_at.ensures c.in_ok-copy_at-in-Name.ensures c.name-tree.ensures

pub prefixes::primary-returns-in_ok-tree-in-LeftParen : goal.prefixes::primary-returns-in_ok-tree-in-LeftParen
prefixes::primary-returns-in_ok-tree-in-LeftParen t c = paren_read _ c.args.context _ _ _ _ _ _ _ c.requires.ended (is_class _ _ _ _ c.class_at.ensures c.in-LeftParen.is) c.if-context-gt200-2.false c.under.ensures c.in_ok-inner-in-LeftParen.ensures (is_class _ _ _ _ c.class_at-in-LeftParen.ensures c.in-RightParen.is) c.line_at-in-LeftParen.ensures c.in_ok-tree-in-LeftParen.ensures.ok

pub prefixes::primary-returns-in_default : goal.prefixes::primary-returns-in_default
prefixes::primary-returns-in_default t c = rw c.fault_at-in_default.ensures (unexpected (no_primary _ c.args.context _ (isn't _ _ _ _ c.class_at.ensures c.in_default.not-Name) (isn't _ _ _ _ c.class_at.ensures c.in_default.not-LeftParen)) (primary_opens _ c.args.context) c.requires.inside)

pub tables::item-returns-in_err-value : goal.tables::item-returns-in_err-value
tables::item-returns-in_err-value t c =
    let p = err_from_is_err_and c.from_residual.result c.from_residual.ensures.1 in
    rw (p.1, p.2) (item_fault _ c.args.context _ _ c.requires.no_bracket c.requires.no_key c.in_err-value.ensures)

pub tables::item-returns : goal.tables::item-returns
tables::item-returns t c = item_read _ c.args.context _ _ _ _ _ c.requires.no_bracket c.requires.no_key c.in_ok-value.ensures (c.item.ensures _)

pub prefixes::exprs-returns-in_err-next : goal.prefixes::exprs-returns-in_err-next
prefixes::exprs-returns-in_err-next t c =
    let p = err_from_is_err_and c.from_residual-in_err-next.result c.from_residual-in_err-next.ensures.1 in
    rw (p.1, p.2) (exps_fault _ c.args.context _ _ _ _ _ c.list.invariant.3 c.list.invariant.2 c.in_err-next.ensures)

pub prefixes::exprs-returns-in_default : goal.prefixes::exprs-returns-in_default
prefixes::exprs-returns-in_default t c = exps_end_read _ c.args.context _ _ _ _ _ _ _ _ _ c.list.invariant.3 c.list.invariant.1 c.list.invariant.2 c.in_ok-next.ensures (isn't _ _ _ _ c.class_at.ensures c.in_default.not-Comma) c.in_ok-push.ensures.ok c.max-height.ensures

pub prefixes::exprs-list-preserved : goal.prefixes::exprs-list-preserved
prefixes::exprs-list-preserved t c = exps_more_read _ c.args.context _ _ _ _ _ _ _ _ _ c.requires.ended c.list.invariant.3 c.list.invariant.1 c.list.invariant.2 c.in_ok-next.ensures (is_class _ _ _ _ c.class_at.ensures c.in-Comma.is) c.in_ok-push.ensures.ok c.max-height.ensures

pub tables::fields-returns-in-RightBrace : goal.tables::fields-returns-in-RightBrace
tables::fields-returns-in-RightBrace t c = fields_end_read _ c.args.context _ _ _ _ c.fields.invariant.0 c.fields.invariant.1 c.fields.invariant.2 c.fields.invariant.3 (is_class _ _ _ _ c.class_at.ensures c.in-RightBrace.is)

pub tables::fields-returns-in_err-next : goal.tables::fields-returns-in_err-next
tables::fields-returns-in_err-next t c =
    let p = err_from_is_err_and c.from_residual.result c.from_residual.ensures.1 in
    rw (p.1, p.2) (fields_fault _ c.args.context _ _ _ _ _ c.fields.invariant.3 c.fields.invariant.2 (isn't _ _ _ _ c.class_at.ensures c.in_default.not-RightBrace) c.in_err-next.ensures)

pub tables::fields-fields-preserved : goal.tables::fields-fields-preserved
tables::fields-fields-preserved t c = fields_more_read _ c.args.context _ _ _ _ _ _ _ _ _ c.requires.ended c.fields.invariant.1 c.fields.invariant.2 c.fields.invariant.3 (isn't _ _ _ _ c.class_at.ensures c.in_default.not-RightBrace) c.in_ok-next.ensures (is_separator _ _ _ c.class_at-in-fields.ensures c.in-Comma.is) c.in_ok-push.ensures.ok c.max-height.ensures

pub tables::fields-returns-in_default-class_at : goal.tables::fields-returns-in_default-class_at
tables::fields-returns-in_default-class_at t c = fields_last_read _ c.args.context _ _ _ _ _ _ _ _ _ c.fields.invariant.2 c.fields.invariant.3 (isn't _ _ _ _ c.class_at.ensures c.in_default.not-RightBrace) c.in_ok-next.ensures (isn't _ _ _ _ c.class_at-in-fields.ensures c.in_default-class_at.not-Comma) (isn't _ _ _ _ c.class_at-in-fields.ensures c.in_default-class_at.not-Semicolon) c.in_ok-push.ensures.ok c.max-height.ensures

pub prefixes::suffix-key_name-requires-clause-inside : goal.prefixes::suffix-key_name-requires-clause-inside
prefixes::suffix-key_name-requires-clause-inside t c = more_after _ _ _ c.requires.ended c.requires.inside (is_class _ _ _ _ c.class_at.ensures c.in-Dot.is) dot_not_eof

pub prefixes::suffix-returns-in_err-key-in-Dot : goal.prefixes::suffix-returns-in_err-key-in-Dot
prefixes::suffix-returns-in_err-key-in-Dot t c =
    let p = err_from_is_err_and c.from_residual.result c.from_residual.ensures.1 in
    rw (p.1, p.2) (dot_fault _ c.args.context _ _ _ _ (is_class _ _ _ _ c.class_at.ensures c.in-Dot.is) c.requires.high c.under.ensures c.in_err-key-in-Dot.ensures)

pub prefixes::suffix-exp-requires : goal.prefixes::suffix-exp-requires
prefixes::suffix-exp-requires t c = (omega (arith, c.decreases, c.requires.inside), (c.requires.ended, (more_after _ _ _ c.requires.ended c.requires.inside (is_class _ _ _ _ c.class_at.ensures c.in-LeftBracket.is) left_bracket_not_eof, (omega arith, under_low _ _ c.under-in-LeftBracket.ensures c.requires.high))))

pub prefixes::suffix-returns-in_err-key-in-LeftBracket : goal.prefixes::suffix-returns-in_err-key-in-LeftBracket
prefixes::suffix-returns-in_err-key-in-LeftBracket t c =
    let p = err_from_is_err_and c.from_residual-in_err-key-in-LeftBracket.result c.from_residual-in_err-key-in-LeftBracket.ensures.1 in
    rw (p.1, p.2) (bracket_fault _ c.args.context _ _ _ _ (is_class _ _ _ _ c.class_at.ensures c.in-LeftBracket.is) c.requires.high c.under-in-LeftBracket.ensures c.in_err-key-in-LeftBracket.ensures)

pub prefixes::suffix-returns-in_default-class_at : goal.prefixes::suffix-returns-in_default-class_at
prefixes::suffix-returns-in_default-class_at t c = rw c.fault_at.ensures (bracket_unclosed _ c.args.context _ _ _ _ _ _ (is_class _ _ _ _ c.class_at.ensures c.in-LeftBracket.is) c.requires.high c.under-in-LeftBracket.ensures c.in_ok-key-in-LeftBracket.ensures (isn't _ _ _ _ c.class_at-in-LeftBracket.ensures c.in_default-class_at.not-RightBracket))

pub prefixes::suffix-class_at-requires-in-Colon : goal.prefixes::suffix-class_at-requires-in-Colon
prefixes::suffix-class_at-requires-in-Colon t c = more_after _ _ _ c.requires.ended c.requires.inside (is_class _ _ _ _ c.class_at.ensures c.in-Colon.is) colon_not_eof

pub prefixes::suffix-returns-in_default-class_at-2 : goal.prefixes::suffix-returns-in_default-class_at-2
prefixes::suffix-returns-in_default-class_at-2 t c = rw c.fault_at-in_default-class_at-2.ensures (colon_no_name _ c.args.context _ _ (more_after _ _ _ c.requires.ended c.requires.inside (is_class _ _ _ _ c.class_at.ensures c.in-Colon.is) colon_not_eof) (is_class _ _ _ _ c.class_at.ensures c.in-Colon.is) c.requires.high (isn't _ _ _ _ c.class_at-in-Colon.ensures c.in_default-class_at-2.not-Name))

pub prefixes::suffix-copy_at-requires : goal.prefixes::suffix-copy_at-requires
prefixes::suffix-copy_at-requires t c = more_after _ _ _ c.requires.ended c.requires.inside (is_class _ _ _ _ c.class_at.ensures c.in-Colon.is) colon_not_eof

pub prefixes::suffix-arguments-requires : goal.prefixes::suffix-arguments-requires
prefixes::suffix-arguments-requires t c = (omega (arith, c.decreases, c.requires.inside), (c.requires.ended, (two_more _ _ _ c.requires.ended (more_after _ _ _ c.requires.ended c.requires.inside (is_class _ _ _ _ c.class_at.ensures c.in-Colon.is) colon_not_eof) (is_class _ _ _ _ c.class_at-in-Colon.ensures c.in-Name.is) name_not_eof, (omega arith, under_low _ _ c.under-in-Colon.ensures c.requires.high))))

pub prefixes::suffix-returns-in_err-args-in-Colon : goal.prefixes::suffix-returns-in_err-args-in-Colon
prefixes::suffix-returns-in_err-args-in-Colon t c =
    let p = err_from_is_err_and c.from_residual-in_err-args-in-Colon.result c.from_residual-in_err-args-in-Colon.ensures.1 in
    rw (p.1, p.2) (colon_fault _ c.args.context _ _ _ _ (is_class _ _ _ _ c.class_at.ensures c.in-Colon.is) (is_class _ _ _ _ c.class_at-in-Colon.ensures c.in-Name.is) c.requires.high c.under-in-Colon.ensures c.in_err-args-in-Colon.ensures)

pub prefixes::suffix-arguments-requires-in_default : goal.prefixes::suffix-arguments-requires-in_default
prefixes::suffix-arguments-requires-in_default t c = (omega (arith, c.decreases, c.requires.inside), (c.requires.ended, (c.requires.inside, (c.requires.begun, under_low _ _ c.under-in_default.ensures c.requires.high))))

pub prefixes::suffix-returns-in_err-args-in_default : goal.prefixes::suffix-returns-in_err-args-in_default
prefixes::suffix-returns-in_err-args-in_default t c =
    let p = err_from_is_err_and c.from_residual-in_err-args-in_default.result c.from_residual-in_err-args-in_default.ensures.1 in
    rw (p.1, p.2) (call_fault _ c.args.context _ _ _ _ c.requires.goes (isn't _ _ _ _ c.class_at.ensures c.in_default.not-Dot) (isn't _ _ _ _ c.class_at.ensures c.in_default.not-LeftBracket) (isn't _ _ _ _ c.class_at.ensures c.in_default.not-Colon) c.requires.high c.under-in_default.ensures c.in_err-args-in_default.ensures)

pub prefixes::suffix-returns-in_ok-index-in-Dot : goal.prefixes::suffix-returns-in_ok-index-in-Dot
prefixes::suffix-returns-in_ok-index-in-Dot t c = dot_read _ c.args.context _ _ _ _ _ _ _ _ (is_class _ _ _ _ c.class_at.ensures c.in-Dot.is) c.requires.high c.under.ensures c.in_ok-key-in-Dot.ensures c.line_at-line.ensures c.in_ok-index-in-Dot.ensures.ok

pub prefixes::suffix-returns-in_ok-index-in-LeftBracket : goal.prefixes::suffix-returns-in_ok-index-in-LeftBracket
prefixes::suffix-returns-in_ok-index-in-LeftBracket t c = bracket_read _ c.args.context _ _ _ _ _ _ _ _ c.requires.ended (is_class _ _ _ _ c.class_at.ensures c.in-LeftBracket.is) c.requires.high c.under-in-LeftBracket.ensures c.in_ok-key-in-LeftBracket.ensures (is_class _ _ _ _ c.class_at-in-LeftBracket.ensures c.in-RightBracket.is) c.line_at-line.ensures c.in_ok-index-in-LeftBracket.ensures.ok

pub prefixes::suffix-returns-in_ok-args-in-Colon : goal.prefixes::suffix-returns-in_ok-args-in-Colon
prefixes::suffix-returns-in_ok-args-in-Colon t c = colon_read _ c.args.context _ _ _ _ _ _ _ _ _ (is_class _ _ _ _ c.class_at.ensures c.in-Colon.is) (is_class _ _ _ _ c.class_at-in-Colon.ensures c.in-Name.is) c.requires.high c.under-in-Colon.ensures c.in_ok-args-in-Colon.ensures c.line_at-line.ensures c.in_ok-name-in-Colon.ensures c.method.ensures

pub prefixes::arguments-returns-then-line_at-end_line_at : goal.prefixes::arguments-returns-then-line_at-end_line_at
prefixes::arguments-returns-then-line_at-end_line_at t c = rw c.fault_at.ensures (open_apart _ c.args.context _ c.requires.inside (is_class _ _ _ _ c.class_at.ensures c.in-LeftParen.is) (other_line _ _ _ _ c.requires.begun c.line_at.ensures c.end_line_at.ensures c.if-line_at-end_line_at.true))

pub prefixes::arguments-class_at-requires-in-LeftParen : goal.prefixes::arguments-class_at-requires-in-LeftParen
prefixes::arguments-class_at-requires-in-LeftParen t c = (more_after _ _ _ c.requires.ended c.requires.inside (is_class _ _ _ _ c.class_at.ensures c.in-LeftParen.is) left_paren_not_eof)

pub prefixes::arguments-returns-in-RightParen : goal.prefixes::arguments-returns-in-RightParen
prefixes::arguments-returns-in-RightParen t c = rw c.new.ensures (empty_args _ c.args.context _ c.requires.ended (is_class _ _ _ _ c.class_at.ensures c.in-LeftParen.is) (same_line _ _ _ _ c.requires.begun c.line_at.ensures c.end_line_at.ensures c.if-line_at-end_line_at.false) (more_after _ _ _ c.requires.ended c.requires.inside (is_class _ _ _ _ c.class_at.ensures c.in-LeftParen.is) left_paren_not_eof) (is_class _ _ _ _ c.class_at-in-LeftParen.ensures c.in-RightParen.is))

pub prefixes::arguments-exprs-requires : goal.prefixes::arguments-exprs-requires
prefixes::arguments-exprs-requires t c = (omega (arith, c.decreases, c.requires.inside), (c.requires.ended, ((more_after _ _ _ c.requires.ended c.requires.inside (is_class _ _ _ _ c.class_at.ensures c.in-LeftParen.is) left_paren_not_eof), c.requires.high)))

pub prefixes::arguments-returns-in_err-args-in-LeftParen : goal.prefixes::arguments-returns-in_err-args-in-LeftParen
prefixes::arguments-returns-in_err-args-in-LeftParen t c =
    let p = err_from_is_err_and c.from_residual.result c.from_residual.ensures.1 in
    rw (p.1, p.2) (args_fault _ c.args.context _ _ (is_class _ _ _ _ c.class_at.ensures c.in-LeftParen.is) (same_line _ _ _ _ c.requires.begun c.line_at.ensures c.end_line_at.ensures c.if-line_at-end_line_at.false) (isn't _ _ _ _ c.class_at-in-LeftParen.ensures c.in_default-class_at.not-RightParen) c.in_err-args-in-LeftParen.ensures)

pub prefixes::arguments-returns-in_default-class_at-2 : goal.prefixes::arguments-returns-in_default-class_at-2
prefixes::arguments-returns-in_default-class_at-2 t c = rw c.fault_at-in_default-class_at-2.ensures (args_unclosed _ c.args.context _ _ _ _ (is_class _ _ _ _ c.class_at.ensures c.in-LeftParen.is) (same_line _ _ _ _ c.requires.begun c.line_at.ensures c.end_line_at.ensures c.if-line_at-end_line_at.false) (isn't _ _ _ _ c.class_at-in-LeftParen.ensures c.in_default-class_at.not-RightParen) c.in_ok-args-in-LeftParen.ensures (isn't _ _ _ _ c.class_at-in-LeftParen-2.ensures c.in_default-class_at-2.not-RightParen))

pub prefixes::arguments-returns-in-RightParen-class_at : goal.prefixes::arguments-returns-in-RightParen-class_at
prefixes::arguments-returns-in-RightParen-class_at t c = args_read _ c.args.context _ _ _ _ c.requires.ended (is_class _ _ _ _ c.class_at.ensures c.in-LeftParen.is) (same_line _ _ _ _ c.requires.begun c.line_at.ensures c.end_line_at.ensures c.if-line_at-end_line_at.false) (isn't _ _ _ _ c.class_at-in-LeftParen.ensures c.in_default-class_at.not-RightParen) c.in_ok-args-in-LeftParen.ensures (is_class _ _ _ _ c.class_at-in-LeftParen-2.ensures c.in-RightParen-class_at.is)

pub prefixes::arguments-returns-in_err-arg-in-LeftBrace : goal.prefixes::arguments-returns-in_err-arg-in-LeftBrace
prefixes::arguments-returns-in_err-arg-in-LeftBrace t c =
    let p = err_from_is_err_and c.from_residual-in_err-arg-in-LeftBrace.result c.from_residual-in_err-arg-in-LeftBrace.ensures.1 in
    rw (p.1, p.2) (alone_fault _ c.args.context _ _ (is_class _ _ _ _ c.class_at.ensures c.in-LeftBrace.is) c.in_err-arg-in-LeftBrace.ensures)

pub prefixes::arguments-returns-in_ok-arg-in-LeftBrace : goal.prefixes::arguments-returns-in_ok-arg-in-LeftBrace
prefixes::arguments-returns-in_ok-arg-in-LeftBrace t c = alone_answer _ c.args.context _ _ _ (inr (is_class _ _ _ _ c.class_at.ensures c.in-LeftBrace.is)) c.in_ok-arg-in-LeftBrace.ensures c.alone.ensures

pub prefixes::arguments-returns-then-context-gt200 : goal.prefixes::arguments-returns-then-context-gt200
prefixes::arguments-returns-then-context-gt200 t c = rw c.fault_at-then-context-gt200.ensures (text_deep _ c.args.context _ c.requires.inside (is_class _ _ _ _ c.class_at.ensures c.in-Text.is) c.if-context-gt200.true)

pub prefixes::arguments-returns-in_ok-copy_at-in-Text : goal.prefixes::arguments-returns-in_ok-copy_at-in-Text
prefixes::arguments-returns-in_ok-copy_at-in-Text t c = alone_answer _ c.args.context _ _ _ (inl (is_class _ _ _ _ c.class_at.ensures c.in-Text.is)) (text_reading _ c.args.context _ _ _ _ c.requires.ended c.requires.inside (is_class _ _ _ _ c.class_at.ensures c.in-Text.is) c.if-context-gt200.false c.line_at-in-Text.ensures c.in_ok-copy_at-in-Text.ensures c.text-tree.ensures) c.alone-in-Text.ensures

pub prefixes::arguments-returns-in_default : goal.prefixes::arguments-returns-in_default
prefixes::arguments-returns-in_default t c = rw c.fault_at-in_default.ensures (unexpected (no_args _ c.args.context _ (isn't _ _ _ _ c.class_at.ensures c.in_default.not-LeftParen) (isn't _ _ _ _ c.class_at.ensures c.in_default.not-Text) (isn't _ _ _ _ c.class_at.ensures c.in_default.not-LeftBrace)) (args_opens _ c.args.context) c.requires.inside)

pub tables::field-keyed-requires : goal.tables::field-keyed-requires
tables::field-keyed-requires t c = (omega (arith, c.decreases), (c.requires.ended, (c.requires.inside, (is_class _ _ _ _ c.class_at.ensures c.in-LeftBracket.is, c.requires.high))))

pub tables::field-named-requires : goal.tables::field-named-requires
tables::field-named-requires t c = (omega (arith, c.decreases), (c.requires.ended, (more_after _ _ _ c.requires.ended c.requires.inside (is_class _ _ _ _ c.class_at.ensures c.in-Name.is) name_not_eof, (is_class _ _ _ _ c.class_at.ensures c.in-Name.is, (is_class _ _ _ _ c.class_at-in-Name.ensures c.in-Assign.is, c.requires.high)))))

pub tables::keyed-exp-requires : goal.tables::keyed-exp-requires
tables::keyed-exp-requires t c = (omega (arith, c.decreases, c.requires.inside), (c.requires.ended, (more_after _ _ _ c.requires.ended c.requires.inside c.requires.begins left_bracket_not_eof, (omega arith, c.requires.high))))

pub tables::keyed-returns-in_err-key : goal.tables::keyed-returns-in_err-key
tables::keyed-returns-in_err-key t c =
    let p = err_from_is_err_and c.from_residual.result c.from_residual.ensures.1 in
    rw (p.1, p.2) (bracket_key_fault _ c.args.context _ _ c.requires.begins c.in_err-key.ensures)

pub tables::keyed-returns-in_default : goal.tables::keyed-returns-in_default
tables::keyed-returns-in_default t c = rw c.fault_at.ensures (bracket_key_unclosed _ c.args.context _ _ _ _ c.requires.begins c.in_ok-key.ensures (isn't _ _ _ _ c.class_at.ensures c.in_default.not-RightBracket))

pub tables::keyed-class_at-requires-2 : goal.tables::keyed-class_at-requires-2
tables::keyed-class_at-requires-2 t c = (more_after _ _ _ c.requires.ended c.in_ok-key.ensures.reading.inside (is_class _ _ _ _ c.class_at.ensures c.in-RightBracket.is) right_bracket_not_eof)

pub tables::keyed-returns-in_default-class_at : goal.tables::keyed-returns-in_default-class_at
tables::keyed-returns-in_default-class_at t c = rw c.fault_at-in_default-class_at.ensures (bracket_key_alone _ c.args.context _ _ _ _ c.requires.begins c.in_ok-key.ensures (is_class _ _ _ _ c.class_at.ensures c.in-RightBracket.is) (more_after _ _ _ c.requires.ended c.in_ok-key.ensures.reading.inside (is_class _ _ _ _ c.class_at.ensures c.in-RightBracket.is) right_bracket_not_eof) (isn't _ _ _ _ c.class_at-2.ensures c.in_default-class_at.not-Assign))

pub tables::keyed-exp-requires-2 : goal.tables::keyed-exp-requires-2
tables::keyed-exp-requires-2 t c = (omega (arith, c.decreases, c.requires.inside, c.in_ok-key.ensures.grows, c.in_ok-key.ensures.reading.inside), (c.requires.ended, (two_more _ _ _ c.requires.ended (more_after _ _ _ c.requires.ended c.in_ok-key.ensures.reading.inside (is_class _ _ _ _ c.class_at.ensures c.in-RightBracket.is) right_bracket_not_eof) (is_class _ _ _ _ c.class_at-2.ensures c.in-Assign.is) assign_not_eof, (omega arith, c.requires.high))))

pub tables::keyed-returns-in_err-value : goal.tables::keyed-returns-in_err-value
tables::keyed-returns-in_err-value t c =
    let p = err_from_is_err_and c.from_residual-in_err-value.result c.from_residual-in_err-value.ensures.1 in
    rw (p.1, p.2) (bracket_value_fault _ c.args.context _ _ _ _ _ c.requires.begins c.in_ok-key.ensures (is_class _ _ _ _ c.class_at.ensures c.in-RightBracket.is) (is_class _ _ _ _ c.class_at-2.ensures c.in-Assign.is) c.in_err-value.ensures)

pub tables::keyed-returns : goal.tables::keyed-returns
tables::keyed-returns t c = bracket_value_read _ c.args.context _ _ _ _ _ _ _ _ _ c.requires.begins c.in_ok-key.ensures (is_class _ _ _ _ c.class_at.ensures c.in-RightBracket.is) (is_class _ _ _ _ c.class_at-2.ensures c.in-Assign.is) c.in_ok-value.ensures c.max.ensures (c.pair.ensures _)

pub tables::field-class_at-requires-in-Name : goal.tables::field-class_at-requires-in-Name
tables::field-class_at-requires-in-Name t c = (more_after _ _ _ c.requires.ended c.requires.inside (is_class _ _ _ _ c.class_at.ensures c.in-Name.is) name_not_eof)

pub tables::named-returns-then-context-gt200 : goal.tables::named-returns-then-context-gt200
tables::named-returns-then-context-gt200 t c = rw c.fault_at.ensures (key_deep _ c.args.context _ (omega (arith, c.requires.inside)) c.requires.begins c.if-context-gt200.true)

pub tables::named-exp-requires : goal.tables::named-exp-requires
tables::named-exp-requires t c = (omega (arith, c.decreases, c.requires.inside), (c.requires.ended, (two_more _ _ _ c.requires.ended c.requires.inside c.requires.assign assign_not_eof, (omega arith, c.requires.high))))

pub tables::named-returns-in_err-value : goal.tables::named-returns-in_err-value
tables::named-returns-in_err-value t c =
    let p = err_from_is_err_and c.from_residual-in_err-value.result c.from_residual-in_err-value.ensures.1 in
    rw (p.1, p.2) (key_value_fault _ c.args.context _ _ c.requires.begins c.requires.assign c.requires.inside c.if-context-gt200.false c.in_err-value.ensures)

pub tables::named-returns : goal.tables::named-returns
tables::named-returns t c = key_value_read _ c.args.context _ _ _ _ _ _ _ _ _ c.requires.begins c.requires.assign c.requires.inside c.if-context-gt200.false c.in_ok-value.ensures c.max.ensures c.line_at.ensures c.in_ok-name.ensures c.text-key.ensures (c.pair.ensures _)

pub blocks::body-returns-in_default : goal.blocks::body-returns-in_default
blocks::body-returns-in_default t c = rw c.fault_at.ensures (body_no_open c.args.method _ c.args.context _ c.requires.inside (isn't _ _ _ _ c.class_at.ensures c.in_default.not-LeftParen))

pub blocks::body-params-requires-clause-inside : goal.blocks::body-params-requires-clause-inside
blocks::body-params-requires-clause-inside t c = more_after _ _ _ c.requires.ended c.requires.inside (is_class _ _ _ _ c.class_at.ensures c.in-LeftParen.is) left_paren_not_eof

pub blocks::body-returns-in_err-list : goal.blocks::body-returns-in_err-list
blocks::body-returns-in_err-list t c =
    let p = err_from_is_err_and c.from_residual.result c.from_residual.ensures.1 in
    rw (p.1, p.2) (body_params_fault c.args.method _ c.args.context _ _ (is_class _ _ _ _ c.class_at.ensures c.in-LeftParen.is) (c.in_err-list.ensures c.args.context.above))

pub blocks::body-returns-in_default-class_at : goal.blocks::body-returns-in_default-class_at
blocks::body-returns-in_default-class_at t c = rw c.fault_at-in_default-class_at.ensures (body_no_close c.args.method _ c.args.context _ _ _ _ (is_class _ _ _ _ c.class_at.ensures c.in-LeftParen.is) (c.in_ok-list.ensures c.args.context.above) (isn't _ _ _ _ c.class_at-2.ensures c.in_default-class_at.not-RightParen))

pub blocks::body-block-requires : goal.blocks::body-block-requires
blocks::body-block-requires t c = (omega (arith, c.decreases, c.requires.inside, (c.in_ok-list.ensures c.args.context.above).ordered, (c.in_ok-list.ensures c.args.context.above).inside), (c.requires.ended, (more_after _ _ _ c.requires.ended (c.in_ok-list.ensures c.args.context.above).inside (is_class _ _ _ _ c.class_at-2.ensures c.in-RightParen.is) right_paren_not_eof, function_high c.args.context _ _ c.in_function.ensures c.requires.high)))

pub blocks::body-returns-in_err-inner : goal.blocks::body-returns-in_err-inner
blocks::body-returns-in_err-inner t c =
    let p = err_from_is_err_and c.from_residual-in_err-inner.result c.from_residual-in_err-inner.ensures.1 in
    rw (p.1, p.2) (body_block_fault c.args.method _ c.args.context _ _ _ _ _ _ (is_class _ _ _ _ c.class_at.ensures c.in-LeftParen.is) (c.in_ok-list.ensures c.args.context.above) (is_class _ _ _ _ c.class_at-2.ensures c.in-RightParen.is) c.in_function.ensures c.in_err-inner.ensures)

pub blocks::body-returns-in_default-class_at-2 : goal.blocks::body-returns-in_default-class_at-2
blocks::body-returns-in_default-class_at-2 t c = rw c.fault_at-in_default-class_at-2.ensures (fun_no_end c.args.method _ c.args.context _ _ _ _ _ _ _ _ (is_class _ _ _ _ c.class_at.ensures c.in-LeftParen.is) (c.in_ok-list.ensures c.args.context.above) (is_class _ _ _ _ c.class_at-2.ensures c.in-RightParen.is) c.in_function.ensures c.in_ok-inner.ensures (isn't _ _ _ _ c.class_at-3.ensures c.in_default-class_at-2.not-End))

pub blocks::body-returns : goal.blocks::body-returns
blocks::body-returns t c = body_read c.args.method _ c.args.context _ _ _ _ _ _ _ _ _ _ c.requires.ended (is_class _ _ _ _ c.class_at.ensures c.in-LeftParen.is) c.in_ok-list.ensures (is_class _ _ _ _ c.class_at-2.ensures c.in-RightParen.is) c.in_function.ensures c.in_ok-inner.ensures (is_class _ _ _ _ c.class_at-3.ensures c.in-End.is) c.in_ok-names.ensures.ok c.body_of.ensures

pub blocks::body-class_at-requires-2 : goal.blocks::body-class_at-requires-2
blocks::body-class_at-requires-2 t c = (c.in_ok-list.ensures 0).inside

pub blocks::body-overflow_add-list : goal.blocks::body-overflow_add-list
blocks::body-overflow_add-list t c =
    let within : c.in_ok-list.list.end < length c.args.toks.now = (c.in_ok-list.ensures 0).inside in search rules

-- statements
pub stats::do_block-returns-then-context-gt200 : goal.stats::do_block-returns-then-context-gt200
stats::do_block-returns-then-context-gt200 t c = rw c.fault_at.ensures (deep c.args.context (do_starts _ c.args.context _ _ c.requires.begins) c.requires.inside c.if-context-gt200.true)

pub stats::do_block-block-requires : goal.stats::do_block-block-requires
stats::do_block-block-requires t c =
    let next = behind_word _ _ Do c.requires.ended c.requires.inside c.requires.begins refl in
    (omega (arith, next, c.decreases), (c.requires.ended, (next, under_fits _ c.args.context c.under.ensures c.if-context-gt200.false)))

pub stats::do_block-returns-in_err-body : goal.stats::do_block-returns-in_err-body
stats::do_block-returns-in_err-body t c =
    let p = err_from_is_err_and c.from_residual.result c.from_residual.ensures.1 in
    rw (p.1, p.2) (do_fault _ _ _ _ _ c.requires.begins c.if-context-gt200.false c.under.ensures c.in_err-body.ensures)

pub stats::do_block-returns-in_default : goal.stats::do_block-returns-in_default
stats::do_block-returns-in_default t c =
    rw c.fault_at-in_default.ensures (do_no_end _ _ _ _ c.requires.begins c.if-context-gt200.false c.under.ensures c.in_ok-body.ensures (read_not c.class_at.ensures c.in_default.not-End))

pub stats::do_block-returns : goal.stats::do_block-returns
stats::do_block-returns t c =
    rw (c.do_block-tree.ensures, c.line_at.ensures) (do_stands _ _ _ _ c.requires.ended c.requires.begins c.if-context-gt200.false c.under.ensures c.in_ok-body.ensures (read_is c.class_at.ensures c.in-End.is))

pub stats::while_loop-returns-then-context-gt200 : goal.stats::while_loop-returns-then-context-gt200
stats::while_loop-returns-then-context-gt200 t c = rw c.fault_at.ensures (deep c.args.context (while_starts _ c.args.context _ _ c.requires.begins) c.requires.inside c.if-context-gt200.true)

pub stats::while_loop-boxed-requires : goal.stats::while_loop-boxed-requires
stats::while_loop-boxed-requires t c =
    let next = behind_word _ _ While c.requires.ended c.requires.inside c.requires.begins refl in
    (omega (arith, next, c.decreases), (c.requires.ended, (next, under_fits _ c.args.context c.under.ensures c.if-context-gt200.false)))

pub stats::while_loop-returns-in_err-test : goal.stats::while_loop-returns-in_err-test
stats::while_loop-returns-in_err-test t c =
    let p = err_from_is_err_and c.from_residual.result c.from_residual.ensures.1 in
    rw (p.1, p.2) (while_test_fault _ _ _ _ _ c.requires.begins c.if-context-gt200.false c.under.ensures c.in_err-test.ensures)

pub stats::while_loop-returns-in_default : goal.stats::while_loop-returns-in_default
stats::while_loop-returns-in_default t c =
    rw c.fault_at-in_default.ensures (while_no_do _ _ _ _ c.requires.begins c.if-context-gt200.false c.under.ensures c.in_ok-test.ensures (read_not c.class_at.ensures c.in_default.not-Do))

pub stats::while_loop-block-requires : goal.stats::while_loop-block-requires
stats::while_loop-block-requires t c =
    let s = c.in_ok-test.ensures in
    let next = behind_word _ _ Do c.requires.ended s.reading.inside (read_is c.class_at.ensures c.in-Do.is) refl in
    (omega (arith, next, s.grows, c.decreases), (c.requires.ended, (next, in_loop_fits _ c.args.context c.in_loop.ensures c.if-context-gt200.false)))

pub stats::while_loop-returns-in_err-body : goal.stats::while_loop-returns-in_err-body
stats::while_loop-returns-in_err-body t c =
    let p = err_from_is_err_and c.from_residual-in_err-body.result c.from_residual-in_err-body.ensures.1 in
    rw (p.1, p.2) (while_fault _ _ _ _ _ c.requires.begins c.if-context-gt200.false c.under.ensures c.in_ok-test.ensures (read_is c.class_at.ensures c.in-Do.is) c.in_loop.ensures c.in_err-body.ensures)

pub stats::while_loop-returns-in_default-class_at : goal.stats::while_loop-returns-in_default-class_at
stats::while_loop-returns-in_default-class_at t c =
    rw c.fault_at-in_default-class_at.ensures (while_no_end _ _ _ _ c.requires.begins c.if-context-gt200.false c.under.ensures c.in_ok-test.ensures (read_is c.class_at.ensures c.in-Do.is) c.in_loop.ensures c.in_ok-body.ensures (read_not c.class_at-2.ensures c.in_default-class_at.not-End))

pub stats::while_loop-returns : goal.stats::while_loop-returns
stats::while_loop-returns t c =
    rw c.while_loop-tree.ensures (rw (c.into_inner.ensures, c.line_at.ensures, c.max.ensures) (while_stands _ _ _ _ c.requires.ended c.requires.begins c.if-context-gt200.false c.under.ensures c.in_ok-test.ensures (read_is c.class_at.ensures c.in-Do.is) c.in_loop.ensures c.in_ok-body.ensures (read_is c.class_at-2.ensures c.in-End.is)))

pub stats::repeat_loop-returns-then-context-gt200 : goal.stats::repeat_loop-returns-then-context-gt200
stats::repeat_loop-returns-then-context-gt200 t c = rw c.fault_at.ensures (deep c.args.context (repeat_starts _ c.args.context _ _ c.requires.begins) c.requires.inside c.if-context-gt200.true)

pub stats::repeat_loop-block-requires : goal.stats::repeat_loop-block-requires
stats::repeat_loop-block-requires t c =
    let next = behind_word _ _ Repeat c.requires.ended c.requires.inside c.requires.begins refl in
    (omega (arith, next, c.decreases), (c.requires.ended, (next, in_loop_fits _ c.args.context c.in_loop.ensures c.if-context-gt200.false)))

pub stats::repeat_loop-returns-in_err-body : goal.stats::repeat_loop-returns-in_err-body
stats::repeat_loop-returns-in_err-body t c =
    let p = err_from_is_err_and c.from_residual.result c.from_residual.ensures.1 in
    rw (p.1, p.2) (repeat_fault _ _ _ _ _ c.requires.begins c.if-context-gt200.false c.in_loop.ensures c.in_err-body.ensures)

pub stats::repeat_loop-returns-in_default : goal.stats::repeat_loop-returns-in_default
stats::repeat_loop-returns-in_default t c =
    rw c.fault_at-in_default.ensures (repeat_no_until _ _ _ _ c.requires.begins c.if-context-gt200.false c.in_loop.ensures c.in_ok-body.ensures (read_not c.class_at.ensures c.in_default.not-Until))

pub stats::repeat_loop-exp-requires : goal.stats::repeat_loop-exp-requires
stats::repeat_loop-exp-requires t c =
    let s = c.in_ok-body.ensures in
    let next = behind_word _ _ Until c.requires.ended s.inside (read_is c.class_at.ensures c.in-Until.is) refl in
    (omega (arith, next, s.ordered, c.decreases), (c.requires.ended, (next, (omega arith, under_fits _ c.args.context c.under.ensures c.if-context-gt200.false))))

pub stats::repeat_loop-returns-in_err-test : goal.stats::repeat_loop-returns-in_err-test
stats::repeat_loop-returns-in_err-test t c =
    let p = err_from_is_err_and c.from_residual-in_err-test.result c.from_residual-in_err-test.ensures.1 in
    rw (p.1, p.2) (repeat_test_fault _ _ _ _ c.requires.begins c.if-context-gt200.false c.in_loop.ensures c.in_ok-body.ensures (read_is c.class_at.ensures c.in-Until.is) c.under.ensures c.in_err-test.ensures)

pub stats::repeat_loop-returns : goal.stats::repeat_loop-returns
stats::repeat_loop-returns t c =
    rw (c.repeat_loop-tree.ensures, c.line_at.ensures, c.max.ensures) (repeat_stands _ _ _ c.requires.begins c.if-context-gt200.false c.in_loop.ensures c.in_ok-body.ensures (read_is c.class_at.ensures c.in-Until.is) c.under.ensures c.in_ok-test.ensures)

pub locals::return_stat-returns-then-context-gt200 : goal.locals::return_stat-returns-then-context-gt200
locals::return_stat-returns-then-context-gt200 t c = rw c.fault_at.ensures (deep c.args.context (return_starts _ c.args.context _ _ c.requires.begins) c.requires.inside c.if-context-gt200.true)

pub locals::return_stat-class_at-requires : goal.locals::return_stat-class_at-requires
locals::return_stat-class_at-requires t c = behind_word _ _ Return c.requires.ended c.requires.inside c.requires.begins refl

pub locals::return_stat-returns-then-not-goes_on_return : goal.locals::return_stat-returns-then-not-goes_on_return
locals::return_stat-returns-then-not-goes_on_return t c =
    rw (c.return_stat.ensures, c.line_at.ensures, c.new.ensures) (return_none _ _ _ c.requires.ended c.requires.inside c.requires.begins c.if-context-gt200.false (ap last_goes (sym c.class_at.ensures) ∙ sym c.goes_on_return.ensures ∙ c.if-not-goes_on_return.true))

pub locals::return_stat-exprs-requires : goal.locals::return_stat-exprs-requires
locals::return_stat-exprs-requires t c =
    let next = behind_word _ _ Return c.requires.ended c.requires.inside c.requires.begins refl in
    (omega (arith, next, c.decreases), (c.requires.ended, (next, under_fits _ c.args.context c.under.ensures c.if-context-gt200.false)))

pub locals::return_stat-returns-in_err-values : goal.locals::return_stat-returns-in_err-values
locals::return_stat-returns-in_err-values t c =
    let p = err_from_is_err_and c.from_residual.result c.from_residual.ensures.1 in
    rw (p.1, p.2) (return_fault _ _ _ _ c.requires.begins c.if-context-gt200.false (ap last_goes (sym c.class_at.ensures) ∙ sym c.goes_on_return.ensures ∙ c.if-not-goes_on_return.false) c.under.ensures c.in_err-values.ensures)

pub locals::return_stat-returns : goal.locals::return_stat-returns
locals::return_stat-returns t c =
    rw (c.return_stat-2.ensures, c.line_at-2.ensures) (return_stands _ _ _ c.requires.begins c.if-context-gt200.false (ap last_goes (sym c.class_at.ensures) ∙ sym c.goes_on_return.ensures ∙ c.if-not-goes_on_return.false) c.under.ensures c.in_ok-values.ensures)

pub locals::local-class_at-requires : goal.locals::local-class_at-requires
locals::local-class_at-requires t c = behind_word _ _ Local c.requires.ended c.requires.inside c.requires.begins refl

pub locals::local_function-returns-then-context-gt200 : goal.locals::local_function-returns-then-context-gt200
locals::local_function-returns-then-context-gt200 t c = rw c.fault_at.ensures (deep c.args.context (local_starts _ c.args.context _ _ c.requires.begins) c.requires.inside c.if-context-gt200.true)

pub locals::local_function-class_at-requires : goal.locals::local_function-class_at-requires
locals::local_function-class_at-requires t c = third_inside _ _ c.requires.ended c.requires.inside c.requires.begins c.requires.next

pub locals::local_function-returns-in_default : goal.locals::local_function-returns-in_default
locals::local_function-returns-in_default t c =
    rw c.fault_at-in_default.ensures (local_fun_unnamed _ c.args.context _ _ c.requires.ended c.requires.inside c.if-context-gt200.false c.requires.begins c.requires.next (read_not c.class_at.ensures c.in_default.not-Name))

pub locals::local_function-body-requires : goal.locals::local_function-body-requires
locals::local_function-body-requires t c =
    let third = third_inside _ _ c.requires.ended c.requires.inside c.requires.begins c.requires.next in
    let next = behind_word _ _ Name c.requires.ended third (read_is c.class_at.ensures c.in-Name.is) refl in
    (omega (arith, next, c.decreases), (c.requires.ended, (omega (arith, next), under_fits _ c.args.context c.under.ensures c.if-context-gt200.false)))

pub locals::local_function-returns-in_err-function : goal.locals::local_function-returns-in_err-function
locals::local_function-returns-in_err-function t c =
    let p = err_from_is_err_and c.from_residual-in_err-function.result c.from_residual-in_err-function.ensures.1 in
    rw (p.1, p.2) (local_fun_fault _ c.args.context _ _ _ c.if-context-gt200.false c.requires.begins c.requires.next (read_is c.class_at.ensures c.in-Name.is) (fun_failed _ _ _ _ _ c.under.ensures c.in_err-function.ensures))

pub locals::local_function-returns : goal.locals::local_function-returns
locals::local_function-returns t c =
    rw (c.local_function-tree.ensures, c.line_at.ensures, c.in_ok-name.ensures) (local_fun_stands _ c.args.context _ _ c.if-context-gt200.false c.requires.begins c.requires.next (read_is c.class_at.ensures c.in-Name.is) (fun_reading c.under.ensures c.in_ok-function.ensures))

pub locals::local_names-returns-then-context-gt200 : goal.locals::local_names-returns-then-context-gt200
locals::local_names-returns-then-context-gt200 t c = rw c.fault_at.ensures (deep c.args.context (local_starts _ c.args.context _ _ c.requires.begins) c.requires.inside c.if-context-gt200.true)

pub locals::local_names-class_at-requires : goal.locals::local_names-class_at-requires
locals::local_names-class_at-requires t c = behind_word _ _ Local c.requires.ended c.requires.inside c.requires.begins refl

pub locals::local_names-returns-in_default : goal.locals::local_names-returns-in_default
locals::local_names-returns-in_default t c =
    rw c.fault_at-in_default.ensures (local_unnamed _ c.args.context _ _ c.requires.ended c.requires.inside c.if-context-gt200.false c.requires.begins c.requires.plain (read_not c.class_at.ensures c.in_default.not-Name))

pub locals::local_names-returns-in_err-named : goal.locals::local_names-returns-in_err-named
locals::local_names-returns-in_err-named t c =
    let p = err_from_is_err_and c.from_residual.result c.from_residual.ensures.1 in
    rw (p.1, p.2) (local_names_fault _ c.args.context _ _ c.if-context-gt200.false c.requires.begins c.requires.plain (read_is c.class_at.ensures c.in-Name.is) c.in_err-named.ensures)

pub locals::local_names-returns-in_default-class_at : goal.locals::local_names-returns-in_default-class_at
locals::local_names-returns-in_default-class_at t c =
    let n = c.in_ok-named.ensures in
    rw (c.local-tree.ensures, c.line_at.ensures, c.new.ensures) (local_names_stand _ c.args.context _ c.if-context-gt200.false c.requires.begins c.requires.plain (read_is c.class_at.ensures c.in-Name.is) n.1 n.2 (read_not c.class_at-2.ensures c.in_default-class_at.not-Assign))

pub locals::local_names-exprs-requires : goal.locals::local_names-exprs-requires
locals::local_names-exprs-requires t c =
    let n = c.in_ok-named.ensures in
    let next = behind_word _ _ Assign c.requires.ended n.2.inside (read_is c.class_at-2.ensures c.in-Assign.is) refl in
    (omega (arith, next, n.2.ordered, c.decreases), (c.requires.ended, (next, under_fits _ c.args.context c.under.ensures c.if-context-gt200.false)))

pub locals::local_names-returns-in_err-values : goal.locals::local_names-returns-in_err-values
locals::local_names-returns-in_err-values t c =
    let n = c.in_ok-named.ensures in
    let p = err_from_is_err_and c.from_residual-in_err-values.result c.from_residual-in_err-values.ensures.1 in
    rw (p.1, p.2) (local_values_fault _ c.args.context _ _ c.if-context-gt200.false c.requires.begins c.requires.plain (read_is c.class_at.ensures c.in-Name.is) n.2 (read_is c.class_at-2.ensures c.in-Assign.is) (all_failed _ _ _ _ _ c.under.ensures c.in_err-values.ensures))

pub locals::local_names-returns : goal.locals::local_names-returns
locals::local_names-returns t c =
    let n = c.in_ok-named.ensures in
    rw (c.local-tree-2.ensures, c.line_at-2.ensures) (local_stands _ c.args.context _ c.if-context-gt200.false c.requires.begins c.requires.plain (read_is c.class_at.ensures c.in-Name.is) n.1 n.2 (read_is c.class_at-2.ensures c.in-Assign.is) (all_reading c.under.ensures c.in_ok-values.ensures))

pub locals::local_function-copy_at-requires : goal.locals::local_function-copy_at-requires
locals::local_function-copy_at-requires t c = third_inside _ _ c.requires.ended c.requires.inside c.requires.begins c.requires.next

pub locals::local_names-names-requires-clause-inside : goal.locals::local_names-names-requires-clause-inside
locals::local_names-names-requires-clause-inside t c = behind_word _ _ Local c.requires.ended c.requires.inside c.requires.begins refl

pub loops::for_loop-returns-then-context-gt200 : goal.loops::for_loop-returns-then-context-gt200
loops::for_loop-returns-then-context-gt200 t c = rw c.fault_at.ensures (deep c.args.context (for_starts _ c.args.context _ _ c.requires.begins) c.requires.inside c.if-context-gt200.true)

pub loops::for_loop-class_at-requires : goal.loops::for_loop-class_at-requires
loops::for_loop-class_at-requires t c = behind_word _ _ For c.requires.ended c.requires.inside c.requires.begins refl

pub loops::for_loop-returns-in_default : goal.loops::for_loop-returns-in_default
loops::for_loop-returns-in_default t c =
    rw c.fault_at-in_default.ensures (for_unnamed _ c.args.context _ _ c.requires.ended c.requires.inside c.if-context-gt200.false c.requires.begins (read_not c.class_at.ensures c.in_default.not-Name))

pub loops::loop_body-returns-in_default : goal.loops::loop_body-returns-in_default
loops::loop_body-returns-in_default t c = rw c.fault_at.ensures (loop_no_do _ c.args.context _ c.requires.inside (read_not c.class_at.ensures c.in_default.not-Do))

pub loops::loop_body-block-requires : goal.loops::loop_body-block-requires
loops::loop_body-block-requires t c =
    let next = behind_word _ _ Do c.requires.ended c.requires.inside (read_is c.class_at.ensures c.in-Do.is) refl in
    (omega (arith, next, c.decreases), (c.requires.ended, (next, c.requires.high)))

pub loops::loop_body-returns-in_err-body : goal.loops::loop_body-returns-in_err-body
loops::loop_body-returns-in_err-body t c =
    let p = err_from_is_err_and c.from_residual.result c.from_residual.ensures.1 in
    rw (p.1, p.2) (loop_fault _ c.args.context _ _ (read_is c.class_at.ensures c.in-Do.is) c.in_err-body.ensures)

pub loops::loop_body-returns-in_default-class_at : goal.loops::loop_body-returns-in_default-class_at
loops::loop_body-returns-in_default-class_at t c =
    rw c.fault_at-in_default-class_at.ensures (loop_no_end _ c.args.context _ (read_is c.class_at.ensures c.in-Do.is) c.in_ok-body.ensures (read_not c.class_at-2.ensures c.in_default-class_at.not-End))

pub loops::loop_body-returns : goal.loops::loop_body-returns
loops::loop_body-returns t c =
    loop_stands _ c.args.context _ c.requires.ended (read_is c.class_at.ensures c.in-Do.is) c.in_ok-body.ensures (read_is c.class_at-2.ensures c.in-End.is)

pub loops::each_loop-returns-in_err-named : goal.loops::each_loop-returns-in_err-named
loops::each_loop-returns-in_err-named t c =
    let p = err_from_is_err_and c.from_residual.result c.from_residual.ensures.1 in
    rw (p.1, p.2) (each_names_fault _ c.args.context _ _ _ c.requires.room c.requires.begins c.requires.name c.requires.plain c.in_err-named.ensures)

pub loops::each_loop-returns-in_default : goal.loops::each_loop-returns-in_default
loops::each_loop-returns-in_default t c =
    let n = c.in_ok-named.ensures in
    let r = each_named _ c.args.context _ _ c.requires.room c.requires.begins c.requires.name c.requires.plain n.1 n.2 in
    rw c.fault_at.ensures (each_no_in r (read_not c.class_at.ensures c.in_default.not-In))

pub loops::each_loop-exprs-requires : goal.loops::each_loop-exprs-requires
loops::each_loop-exprs-requires t c =
    let n = c.in_ok-named.ensures in
    let next = behind_word _ _ In c.requires.ended n.2.inside (read_is c.class_at.ensures c.in-In.is) refl in
    (omega (arith, next, n.2.ordered, c.decreases), (c.requires.ended, (next, under_fits _ c.args.context c.under.ensures c.requires.room)))

pub loops::each_loop-returns-in_err-values : goal.loops::each_loop-returns-in_err-values
loops::each_loop-returns-in_err-values t c =
    let n = c.in_ok-named.ensures in
    let r = each_named _ c.args.context _ _ c.requires.room c.requires.begins c.requires.name c.requires.plain n.1 n.2 in
    let p = err_from_is_err_and c.from_residual-in_err-values.result c.from_residual-in_err-values.ensures.1 in
    rw (p.1, p.2) (each_values_fault _ r (read_is c.class_at.ensures c.in-In.is) (all_failed _ _ _ _ _ c.under.ensures c.in_err-values.ensures))

pub loops::each_loop-loop_body-requires : goal.loops::each_loop-loop_body-requires
loops::each_loop-loop_body-requires t c =
    let n = c.in_ok-named.ensures in
    let v = c.in_ok-values.ensures in
    (omega (arith, v.reading.inside, v.grows, n.2.ordered, c.decreases), (c.requires.ended, (v.reading.inside, in_loop_fits _ c.args.context c.in_loop.ensures c.requires.room)))

pub loops::each_loop-returns-in_err-body : goal.loops::each_loop-returns-in_err-body
loops::each_loop-returns-in_err-body t c =
    let n = c.in_ok-named.ensures in
    let r = each_named _ c.args.context _ _ c.requires.room c.requires.begins c.requires.name c.requires.plain n.1 n.2 in
    let p = err_from_is_err_and c.from_residual-in_err-body.result c.from_residual-in_err-body.ensures.1 in
    rw (p.1, p.2) (each_body_fault _ r (read_is c.class_at.ensures c.in-In.is) (all_reading c.under.ensures c.in_ok-values.ensures) (do_failed _ _ _ _ _ c.in_loop.ensures c.in_err-body.ensures))

pub loops::each_loop-returns : goal.loops::each_loop-returns
loops::each_loop-returns t c =
    let n = c.in_ok-named.ensures in
    let r = each_named _ c.args.context _ _ c.requires.room c.requires.begins c.requires.name c.requires.plain n.1 n.2 in
    rw (c.each-tree.ensures, c.line_at.ensures, c.max-all.ensures) (each_stands r (read_is c.class_at.ensures c.in-In.is) (all_reading c.under.ensures c.in_ok-values.ensures) (do_reading c.in_loop.ensures c.in_ok-body.ensures))

pub conditions::if_stat-returns-then-context-gt200 : goal.conditions::if_stat-returns-then-context-gt200
conditions::if_stat-returns-then-context-gt200 t c = rw c.fault_at.ensures (deep c.args.context (if_starts _ c.args.context _ _ c.requires.begins) c.requires.inside c.if-context-gt200.true)

pub conditions::if_stat-arms-requires : goal.conditions::if_stat-arms-requires
conditions::if_stat-arms-requires t c =
    let next = behind_word _ _ If c.requires.ended c.requires.inside c.requires.begins refl in
    (omega (arith, next, c.decreases), (c.requires.ended, (next, under_fits _ c.args.context c.under-inner.ensures c.if-context-gt200.false)))

pub conditions::if_stat-returns-in_err-tested : goal.conditions::if_stat-returns-in_err-tested
conditions::if_stat-returns-in_err-tested t c =
    let p = err_from_is_err_and c.from_residual.result c.from_residual.ensures.1 in
    rw (p.1, p.2) (if_fault _ c.args.context _ _ _ c.if-context-gt200.false c.requires.begins (arms_failed _ _ _ _ _ c.under-inner.ensures c.in_err-tested.ensures))

pub conditions::if_stat-returns-in-End : goal.conditions::if_stat-returns-in-End
conditions::if_stat-returns-in-End t c =
    rw (c.if_stat-tree.ensures, c.line_at.ensures) (if_stands _ c.args.context _ _ c.requires.ended c.if-context-gt200.false c.requires.begins (arms_reading c.under-inner.ensures c.in_ok-tested.ensures) (read_is c.class_at.ensures c.in-End.is))

pub conditions::arms-returns-in_err-test : goal.conditions::arms-returns-in_err-test
conditions::arms-returns-in_err-test t c =
    let p = err_from_is_err_and c.from_residual-in_err-test.result c.from_residual-in_err-test.ensures.1 in
    rw (p.1, p.2) (arm_test_fault _ c.arms.invariant.1 c.in_err-test.ensures)

pub conditions::arms-returns-in_default : goal.conditions::arms-returns-in_default
conditions::arms-returns-in_default t c = rw c.fault_at.ensures (arm_no_then c.arms.invariant.1 c.in_ok-test.ensures (read_not c.class_at.ensures c.in_default.not-Then))

pub conditions::arms-block-requires : goal.conditions::arms-block-requires
conditions::arms-block-requires t c =
    let s = c.in_ok-test.ensures in
    let next = behind_word _ _ Then c.requires.ended s.reading.inside (read_is c.class_at.ensures c.in-Then.is) refl in
    (omega (arith, next, s.grows, c.arms.invariant.0, c.decreases), (c.requires.ended, (next, c.requires.high)))

pub conditions::arms-returns-in_err-body : goal.conditions::arms-returns-in_err-body
conditions::arms-returns-in_err-body t c =
    let p = err_from_is_err_and c.from_residual-in_err-body.result c.from_residual-in_err-body.ensures.1 in
    rw (p.1, p.2) (arm_body_fault _ c.arms.invariant.1 c.in_ok-test.ensures (read_is c.class_at.ensures c.in-Then.is) c.in_err-body.ensures)

pub conditions::arms-returns-in_default-class_at : goal.conditions::arms-returns-in_default-class_at
conditions::arms-returns-in_default-class_at t c =
    arm_last _ _ _ c.arms.invariant.0 c.arms.invariant.1 c.in_ok-test.ensures (read_is c.class_at.ensures c.in-Then.is) c.in_ok-body.ensures (read_not c.class_at-in-arms.ensures c.in_default-class_at.not-Elseif) c.arm-made.ensures c.in_ok-push.ensures.ok (omega (arith, c.max-two.ensures, c.max-height.ensures))

pub conditions::arms-arms-preserved : goal.conditions::arms-arms-preserved
conditions::arms-arms-preserved t c =
    let r = arm_more _ _ _ c.requires.ended c.arms.invariant.1 c.in_ok-test.ensures (read_is c.class_at.ensures c.in-Then.is) c.in_ok-body.ensures (read_is c.class_at-in-arms.ensures c.in-Elseif.is) c.arm-made.ensures c.in_ok-push.ensures.ok (omega (arith, c.max-two.ensures, c.max-height.ensures)) in
    (r.left.ordered, r)

pub conditions::if_stat-block-requires : goal.conditions::if_stat-block-requires
conditions::if_stat-block-requires t c =
    let s = c.in_ok-tested.ensures in
    let next = behind_word _ _ Else c.requires.ended s.reading.inside (read_is c.class_at.ensures c.in-Else.is) refl in
    (omega (arith, next, s.grows, c.decreases), (c.requires.ended, (next, under_fits _ c.args.context c.under-inner.ensures c.if-context-gt200.false)))

pub conditions::if_stat-returns-in_err-other-in-Else : goal.conditions::if_stat-returns-in_err-other-in-Else
conditions::if_stat-returns-in_err-other-in-Else t c =
    let p = err_from_is_err_and c.from_residual-in_err-other-in-Else.result c.from_residual-in_err-other-in-Else.ensures.1 in
    rw (p.1, p.2) (else_fault _ c.args.context _ _ _ c.if-context-gt200.false c.requires.begins (arms_reading c.under-inner.ensures c.in_ok-tested.ensures) (read_is c.class_at.ensures c.in-Else.is) (block_failed _ _ _ _ _ c.under-inner.ensures c.in_err-other-in-Else.ensures))

pub conditions::if_stat-returns-in_default-class_at : goal.conditions::if_stat-returns-in_default-class_at
conditions::if_stat-returns-in_default-class_at t c =
    rw c.fault_at-in_default-class_at.ensures (else_no_end _ c.args.context _ _ c.if-context-gt200.false c.requires.begins (arms_reading c.under-inner.ensures c.in_ok-tested.ensures) (read_is c.class_at.ensures c.in-Else.is) (block_reading c.under-inner.ensures c.in_ok-other-in-Else.ensures) (read_not c.class_at-in-Else.ensures c.in_default-class_at.not-End))

pub conditions::if_stat-returns-in-End-class_at : goal.conditions::if_stat-returns-in-End-class_at
conditions::if_stat-returns-in-End-class_at t c =
    rw (c.if_else-tree.ensures, c.line_at-in-Else.ensures, c.max-all.ensures) (else_stands _ c.args.context _ _ c.requires.ended c.if-context-gt200.false c.requires.begins (arms_reading c.under-inner.ensures c.in_ok-tested.ensures) (read_is c.class_at.ensures c.in-Else.is) (block_reading c.under-inner.ensures c.in_ok-other-in-Else.ensures) (read_is c.class_at-in-Else.ensures c.in-End-class_at.is))

pub conditions::if_stat-returns-in_default : goal.conditions::if_stat-returns-in_default
conditions::if_stat-returns-in_default t c =
    rw c.fault_at-in_default.ensures (if_no_end _ c.args.context _ _ c.if-context-gt200.false c.requires.begins (arms_reading c.under-inner.ensures c.in_ok-tested.ensures) (read_not c.class_at.ensures c.in_default.not-End) (read_not c.class_at.ensures c.in_default.not-Else))

pub loops::for_loop-class_at-requires-2 : goal.loops::for_loop-class_at-requires-2
loops::for_loop-class_at-requires-2 t c =
    let next = behind_word _ _ For c.requires.ended c.requires.inside c.requires.begins refl in
    let third = behind_word _ _ Name c.requires.ended next (read_is c.class_at.ensures c.in-Name.is) refl in
    omega (arith, third)

pub loops::for_loop-count_loop-requires : goal.loops::for_loop-count_loop-requires
loops::for_loop-count_loop-requires t c =
    let next = behind_word _ _ For c.requires.ended c.requires.inside c.requires.begins refl in
    let third = behind_word _ _ Name c.requires.ended next (read_is c.class_at.ensures c.in-Name.is) refl in
    (omega (arith, c.decreases), (c.requires.ended, (omega (arith, third), (c.requires.begins, (read_is c.class_at.ensures c.in-Name.is, (read_is c.class_at-2.ensures c.in-Assign.is, c.if-context-gt200.false))))))

pub loops::for_loop-each_loop-requires : goal.loops::for_loop-each_loop-requires
loops::for_loop-each_loop-requires t c =
    let next = behind_word _ _ For c.requires.ended c.requires.inside c.requires.begins refl in
    (omega (arith, c.decreases), (c.requires.ended, (next, (c.requires.begins, (read_is c.class_at.ensures c.in-Name.is, (read_not c.class_at-2.ensures c.in_default-class_at.not-Assign, c.if-context-gt200.false))))))

pub loops::count_loop-boxed-requires : goal.loops::count_loop-boxed-requires
loops::count_loop-boxed-requires t c =
    let next = behind_word _ _ Assign c.requires.ended c.requires.inside c.requires.assign refl in
    (omega (arith, next, c.decreases), (c.requires.ended, (omega (arith, next), under_fits _ c.args.context c.under-inner.ensures c.requires.room)))

pub loops::count_loop-returns-in_err-from : goal.loops::count_loop-returns-in_err-from
loops::count_loop-returns-in_err-from t c =
    let p = err_from_is_err_and c.from_residual-in_err-from.result c.from_residual-in_err-from.ensures.1 in
    rw (p.1, p.2) (count_from_fault _ c.args.context _ _ _ c.requires.room c.requires.begins c.requires.name c.requires.assign (exp_failed _ _ _ _ _ _ c.under-inner.ensures c.in_err-from.ensures))

pub loops::count_loop-returns-in_default : goal.loops::count_loop-returns-in_default
loops::count_loop-returns-in_default t c =
    rw c.fault_at.ensures (count_no_comma _ c.args.context _ _ c.requires.room c.requires.begins c.requires.name c.requires.assign (exp_reading c.under-inner.ensures c.in_ok-from.ensures) (read_not c.class_at.ensures c.in_default.not-Comma))

pub loops::count_loop-boxed-requires-2 : goal.loops::count_loop-boxed-requires-2
loops::count_loop-boxed-requires-2 t c =
    let s = c.in_ok-from.ensures in
    let next = behind_word _ _ Comma c.requires.ended s.reading.inside (read_is c.class_at.ensures c.in-Comma.is) refl in
    (omega (arith, next, s.grows, c.decreases), (c.requires.ended, (next, under_fits _ c.args.context c.under-inner.ensures c.requires.room)))

pub loops::count_loop-returns-in_err-to : goal.loops::count_loop-returns-in_err-to
loops::count_loop-returns-in_err-to t c =
    let p = err_from_is_err_and c.from_residual-in_err-to.result c.from_residual-in_err-to.ensures.1 in
    rw (p.1, p.2) (count_to_fault _ c.args.context _ _ _ c.requires.room c.requires.begins c.requires.name c.requires.assign (exp_reading c.under-inner.ensures c.in_ok-from.ensures) (read_is c.class_at.ensures c.in-Comma.is) (exp_failed _ _ _ _ _ _ c.under-inner.ensures c.in_err-to.ensures))

pub loops::count_loop-boxed-requires-in-Comma-class_at : goal.loops::count_loop-boxed-requires-in-Comma-class_at
loops::count_loop-boxed-requires-in-Comma-class_at t c =
    let s = c.in_ok-from.ensures in
    let u = c.in_ok-to.ensures in
    let next = behind_word _ _ Comma c.requires.ended u.reading.inside (read_is c.class_at-2.ensures c.in-Comma-class_at.is) refl in
    (omega (arith, next, s.grows, u.grows, c.decreases), (c.requires.ended, (next, under_fits _ c.args.context c.under-inner.ensures c.requires.room)))

pub loops::count_loop-returns-in_err-by : goal.loops::count_loop-returns-in_err-by
loops::count_loop-returns-in_err-by t c =
    let r = count_to _ c.args.context _ _ c.requires.room c.requires.begins c.requires.name c.requires.assign (exp_reading c.under-inner.ensures c.in_ok-from.ensures) (read_is c.class_at.ensures c.in-Comma.is) (exp_reading c.under-inner.ensures c.in_ok-to.ensures) in
    let p = err_from_is_err_and c.from_residual-in_err-by.result c.from_residual-in_err-by.ensures.1 in
    rw (p.1, p.2) (count_by_fault _ r (read_is c.class_at-2.ensures c.in-Comma-class_at.is) (exp_failed _ _ _ _ _ _ c.under-inner.ensures c.in_err-by.ensures))

pub loops::count_loop-returns-in_err-body : goal.loops::count_loop-returns-in_err-body
loops::count_loop-returns-in_err-body t c =
    let r = count_to _ c.args.context _ _ c.requires.room c.requires.begins c.requires.name c.requires.assign (exp_reading c.under-inner.ensures c.in_ok-from.ensures) (read_is c.class_at.ensures c.in-Comma.is) (exp_reading c.under-inner.ensures c.in_ok-to.ensures) in
    let p = err_from_is_err_and c.from_residual-in_err-body.result c.from_residual-in_err-body.ensures.1 in
    rw (p.1, p.2) (step_body_fault _ r (read_is c.class_at-2.ensures c.in-Comma-class_at.is) (exp_reading c.under-inner.ensures c.in_ok-by.ensures) (do_failed _ _ _ _ _ c.in_loop-inside_loop.ensures c.in_err-body.ensures))

pub loops::count_loop-returns-in-Comma-class_at : goal.loops::count_loop-returns-in-Comma-class_at
loops::count_loop-returns-in-Comma-class_at t c =
    let r = count_to _ c.args.context _ _ c.requires.room c.requires.begins c.requires.name c.requires.assign (exp_reading c.under-inner.ensures c.in_ok-from.ensures) (read_is c.class_at.ensures c.in-Comma.is) (exp_reading c.under-inner.ensures c.in_ok-to.ensures) in
    rw (c.count_by-tree.ensures, c.line_at-line.ensures, c.in_ok-name.ensures, c.max-all.ensures, c.max-three.ensures, c.max-two.ensures) (step_stands r (read_is c.class_at-2.ensures c.in-Comma-class_at.is) (exp_reading c.under-inner.ensures c.in_ok-by.ensures) (do_reading c.in_loop-inside_loop.ensures c.in_ok-body.ensures))

pub loops::count_loop-returns-in_err-body-2 : goal.loops::count_loop-returns-in_err-body-2
loops::count_loop-returns-in_err-body-2 t c =
    let r = count_to _ c.args.context _ _ c.requires.room c.requires.begins c.requires.name c.requires.assign (exp_reading c.under-inner.ensures c.in_ok-from.ensures) (read_is c.class_at.ensures c.in-Comma.is) (exp_reading c.under-inner.ensures c.in_ok-to.ensures) in
    let p = err_from_is_err_and c.from_residual-in_err-body-2.result c.from_residual-in_err-body-2.ensures.1 in
    rw (p.1, p.2) (count_body_fault _ r (read_not c.class_at-2.ensures c.in_default-class_at.not-Comma) (do_failed _ _ _ _ _ c.in_loop-inside_loop.ensures c.in_err-body-2.ensures))

pub loops::count_loop-returns : goal.loops::count_loop-returns
loops::count_loop-returns t c =
    let r = count_to _ c.args.context _ _ c.requires.room c.requires.begins c.requires.name c.requires.assign (exp_reading c.under-inner.ensures c.in_ok-from.ensures) (read_is c.class_at.ensures c.in-Comma.is) (exp_reading c.under-inner.ensures c.in_ok-to.ensures) in
    rw (c.count-tree.ensures, c.line_at.ensures, c.in_ok-name.ensures, c.max-all-2.ensures, c.max-two.ensures) (count_stands r (read_not c.class_at-2.ensures c.in_default-class_at.not-Comma) (do_reading c.in_loop-inside_loop.ensures c.in_ok-body-2.ensures))

pub blocks::block-stats-init : goal.blocks::block-stats-init
blocks::block-stats-init t c = rw c.in_ok-tree.ensures (block_start _ c.args.context _ c.requires.inside)

pub blocks::block-returns-then-not-goes_on_block : goal.blocks::block-returns-then-not-goes_on_block
blocks::block-returns-then-not-goes_on_block t c =
    rw c.block_of-tree.ensures (block_done c.stats.invariant (ap block_goes (sym c.class_at-first.ensures) ∙ sym c.goes_on_block.ensures ∙ c.if-not-goes_on_block.true))

pub blocks::block-statement-requires : goal.blocks::block-statement-requires
blocks::block-statement-requires t c =
    let r = c.stats.invariant in
    (omega (arith, r.left.ordered, r.inside, c.decreases), (c.requires.ended, (r.inside, c.requires.high)))

pub blocks::block-returns-in_err-stat : goal.blocks::block-returns-in_err-stat
blocks::block-returns-in_err-stat t c =
    let p = err_from_is_err_and c.from_residual-in_err-stat.result c.from_residual-in_err-stat.ensures.1 in
    rw (p.1, p.2) (stat_fault _ c.stats.invariant (ap block_goes (sym c.class_at-first.ensures) ∙ sym c.goes_on_block.ensures ∙ c.if-not-goes_on_block.false) c.in_err-stat.ensures)

pub blocks::block-returns-then-closes : goal.blocks::block-returns-then-closes
blocks::block-returns-then-closes t c =
    rw c.block_of-tree-then-closes.ensures (block_last_stat _ _ _ _ c.stats.invariant (ap block_goes (sym c.class_at-first.ensures) ∙ sym c.goes_on_block.ensures ∙ c.if-not-goes_on_block.false) c.in_ok-stat.ensures c.behind-end.ensures.place c.behind-end.ensures.within (ap closing (sym c.class_at-first.ensures) ∙ sym c.closes.ensures ∙ c.if-closes.true) c.in_ok-push.ensures.ok c.max-height.ensures)

pub blocks::block-stats-preserved : goal.blocks::block-stats-preserved
blocks::block-stats-preserved t c =
    block_more _ _ _ _ c.stats.invariant (ap block_goes (sym c.class_at-first.ensures) ∙ sym c.goes_on_block.ensures ∙ c.if-not-goes_on_block.false) c.in_ok-stat.ensures c.behind-end.ensures.place c.behind-end.ensures.within (ap closing (sym c.class_at-first.ensures) ∙ sym c.closes.ensures ∙ c.if-closes.false) c.in_ok-push.ensures.ok c.max-height.ensures

pub stats::statement-returns-in_default : goal.stats::statement-returns-in_default
stats::statement-returns-in_default t c =
    let d = c.in_default in
    rw c.fault_at.ensures (no_stat _ c.args.context _ _ _ c.class_at.ensures (default_stat _ d.not-Do d.not-While d.not-Repeat d.not-If d.not-For d.not-Local d.not-Return d.not-Break d.not-Function d.not-Name d.not-LeftParen) c.requires.inside)

pub assignments::simple-returns-then-context-gt200 : goal.assignments::simple-returns-then-context-gt200
assignments::simple-returns-then-context-gt200 t c = rw c.fault_at.ensures (simple_deep _ c.args.context _ _ c.requires.begins c.requires.inside c.if-context-gt200.true)

pub assignments::simple-prefix-requires : goal.assignments::simple-prefix-requires
assignments::simple-prefix-requires t c = (omega (arith, c.decreases), (c.requires.ended, (c.requires.inside, under_fits _ c.args.context c.under.ensures c.if-context-gt200.false)))

pub assignments::simple-returns-in_err-first : goal.assignments::simple-returns-in_err-first
assignments::simple-returns-in_err-first t c =
    let p = err_from_is_err_and c.from_residual.result c.from_residual.ensures.1 in
    rw (p.1, p.2) (simple_fault _ c.args.context _ _ _ c.if-context-gt200.false c.requires.begins (prefix_failed _ _ _ _ _ c.under.ensures c.in_err-first.ensures))

pub assignments::simple-returns-then-is_call : goal.assignments::simple-returns-then-is_call
assignments::simple-returns-then-is_call t c =
    rw (c.call_stat-tree.ensures, c.line_at.ensures) (simple_call _ c.args.context _ _ c.if-context-gt200.false c.requires.begins (prefix_reading c.under.ensures c.in_ok-first.ensures) (call_is _ (sym c.is_call.ensures ∙ c.if-is_call.true)))

pub assignments::simple-returns-then-not-is_var : goal.assignments::simple-returns-then-not-is_var
assignments::simple-returns-then-not-is_var t c =
    rw c.fault_at-then-not-is_var.ensures (simple_not _ c.args.context _ _ c.if-context-gt200.false c.requires.begins (prefix_reading c.under.ensures c.in_ok-first.ensures) (call_not _ (sym c.is_call.ensures ∙ c.if-is_call.false)) (var_not _ (sym c.is_var.ensures ∙ c.if-not-is_var.true)))

pub assignments::simple-assignment-requires : goal.assignments::simple-assignment-requires
assignments::simple-assignment-requires t c =
    (omega (arith, c.decreases), (c.requires.ended, (c.requires.inside, (c.requires.begins, (c.if-context-gt200.false, (prefix_reading c.under.ensures c.in_ok-first.ensures, var_is _ (sym c.is_var.ensures ∙ c.if-not-is_var.false)))))))

pub assignments::assignment-targets-init : goal.assignments::assignment-targets-init
assignments::assignment-targets-init t c = rw c.in_ok-one.ensures (targets_first _ c.args.context _ _ _ [] _ c.requires.room c.requires.begins c.requires.read c.requires.var refl refl)

pub assignments::assignment-exprs-requires : goal.assignments::assignment-exprs-requires
assignments::assignment-exprs-requires t c =
    let r = c.targets.invariant in
    let next = behind_word _ _ Assign c.requires.ended r.inside (read_is c.class_at.ensures c.in-Assign.is) refl in
    (omega (arith, next, r.grows, c.decreases), (c.requires.ended, (next, under_fits _ c.args.context c.under-inner.ensures c.requires.room)))

pub assignments::assignment-returns-in_err-values-in-Assign : goal.assignments::assignment-returns-in_err-values-in-Assign
assignments::assignment-returns-in_err-values-in-Assign t c =
    let p = err_from_is_err_and c.from_residual-in_err-values-in-Assign.result c.from_residual-in_err-values-in-Assign.ensures.1 in
    rw (p.1, p.2) (values_fault _ c.requires.begins c.targets.invariant (read_is c.class_at.ensures c.in-Assign.is) (all_failed _ _ _ _ _ c.under-inner.ensures c.in_err-values-in-Assign.ensures))

pub assignments::assignment-returns-in_default : goal.assignments::assignment-returns-in_default
assignments::assignment-returns-in_default t c =
    rw c.fault_at-in_default.ensures (target_none c.targets.invariant (read_not c.class_at.ensures c.in_default.not-Assign) (read_not c.class_at.ensures c.in_default.not-Comma))

pub assignments::assignment-class_at-requires : goal.assignments::assignment-class_at-requires
assignments::assignment-class_at-requires t c = c.targets.invariant.inside

pub assignments::assignment-returns-in-Assign : goal.assignments::assignment-returns-in-Assign
assignments::assignment-returns-in-Assign t c =
    rw (c.assign-stat.ensures, c.line_at.ensures, c.max-all.ensures) (assign_stands c.requires.begins c.targets.invariant (read_is c.class_at.ensures c.in-Assign.is) (all_reading c.under-inner.ensures c.in_ok-values-in-Assign.ensures))

pub assignments::assignment-prefix-requires : goal.assignments::assignment-prefix-requires
assignments::assignment-prefix-requires t c =
    let r = c.targets.invariant in
    let next = behind_word _ _ Comma c.requires.ended r.inside (read_is c.class_at.ensures c.in-Comma.is) refl in
    (omega (arith, next, r.grows, c.decreases), (c.requires.ended, (next, under_fits _ c.args.context c.under-inner.ensures c.requires.room)))

pub assignments::assignment-returns-in_err-next-in-Comma : goal.assignments::assignment-returns-in_err-next-in-Comma
assignments::assignment-returns-in_err-next-in-Comma t c =
    let p = err_from_is_err_and c.from_residual-in_err-next-in-Comma.result c.from_residual-in_err-next-in-Comma.ensures.1 in
    rw (p.1, p.2) (target_fault _ c.targets.invariant (read_is c.class_at.ensures c.in-Comma.is) (prefix_failed _ _ _ _ _ c.under-inner.ensures c.in_err-next-in-Comma.ensures))

pub assignments::assignment-returns-then-not-is_var : goal.assignments::assignment-returns-then-not-is_var
assignments::assignment-returns-then-not-is_var t c =
    rw c.fault_at.ensures (target_not c.targets.invariant (read_is c.class_at.ensures c.in-Comma.is) (prefix_reading c.under-inner.ensures c.in_ok-next-in-Comma.ensures) (var_not _ (sym c.is_var.ensures ∙ c.if-not-is_var.true)))

pub assignments::assignment-targets-preserved : goal.assignments::assignment-targets-preserved
assignments::assignment-targets-preserved t c =
    target_more _ _ _ c.targets.invariant (read_is c.class_at.ensures c.in-Comma.is) (prefix_reading c.under-inner.ensures c.in_ok-next-in-Comma.ensures) (var_is _ (sym c.is_var.ensures ∙ c.if-not-is_var.false)) c.in_ok-push-in-Comma.ensures.ok c.max-height.ensures

pub functions::named_function-returns-then-context-gt200 : goal.functions::named_function-returns-then-context-gt200
functions::named_function-returns-then-context-gt200 t c = rw c.fault_at.ensures (named_deep _ c.args.context _ _ c.requires.begins c.requires.inside c.if-context-gt200.true)

pub functions::named_function-path-requires-clause-inside : goal.functions::named_function-path-requires-clause-inside
functions::named_function-path-requires-clause-inside t c = behind_word _ _ Function c.requires.ended c.requires.inside c.requires.begins refl

pub functions::named_function-path-requires-clause-room : goal.functions::named_function-path-requires-clause-room
functions::named_function-path-requires-clause-room t c = under_room _ c.args.context c.under-inner.ensures c.if-context-gt200.false

pub functions::named_function-returns-in_err-head : goal.functions::named_function-returns-in_err-head
functions::named_function-returns-in_err-head t c =
    let p = err_from_is_err_and c.from_residual.result c.from_residual.ensures.1 in
    rw (p.1, p.2) (named_fault _ c.args.context _ _ _ c.if-context-gt200.false c.requires.begins (head_failed _ _ _ _ _ c.under-inner.ensures c.in_err-head.ensures))

pub functions::named_function-body-requires : goal.functions::named_function-body-requires
functions::named_function-body-requires t c =
    let s = c.in_ok-head.ensures in
    (omega (arith, s.grows, s.reading.inside, c.decreases), (c.requires.ended, (s.reading.inside, twice_fits _ _ c.args.context c.under-deep.ensures c.under-inner.ensures c.if-context-gt200.false)))

pub functions::named_function-returns-in_err-function : goal.functions::named_function-returns-in_err-function
functions::named_function-returns-in_err-function t c =
    let p = err_from_is_err_and c.from_residual-in_err-function.result c.from_residual-in_err-function.ensures.1 in
    rw (p.1, p.2) (named_body_fault _ c.args.context _ _ _ c.if-context-gt200.false c.requires.begins (head_reading c.under-inner.ensures c.in_ok-head.ensures) (body_failed _ _ _ c.args.context _ _ (twice _ _ c.args.context c.under-deep.ensures c.under-inner.ensures) c.in_err-function.ensures))

pub functions::named_function-returns : goal.functions::named_function-returns
functions::named_function-returns t c =
    rw (named_is c.assign-tree.ensures c.in_ok-targets.ensures.ok c.in_ok-values.ensures.ok c.function-value.ensures c.line_at-line.ensures, c.max-all.ensures) (named_stands _ c.args.context _ _ c.if-context-gt200.false c.requires.begins (head_reading c.under-inner.ensures c.in_ok-head.ensures) (body_reading _ _ _ c.args.context _ (twice _ _ c.args.context c.under-deep.ensures c.under-inner.ensures) c.in_ok-function.ensures))
