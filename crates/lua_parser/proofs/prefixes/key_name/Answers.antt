use Rattle.lua_reading.proofs.pieces.Steps.{unexpected, too_deep}
use Rattle.lua_reading.proofs.pieces.Kinds.{name_opens}
use Rattle.lua_reading.proofs.lists.ExpressionLists.{key_starts, key_node, no_key}
use Rattle.lua_reading.proofs.expressions.Exits.{is_class, isn't, key_read}
use Rattle.lua_parser.proofs.prefixes.key_name.Goals as goal

pub returns-in_default : goal.returns-in_default
returns-in_default c = rw c.fault_at.ensures (unexpected (no_key _ c.args.context _ (isn't _ _ _ _ c.class_at.ensures c.in_default.not-Name)) (name_opens _ c.args.context) c.requires.inside)

pub returns-then-context-gt200 : goal.returns-then-context-gt200
returns-then-context-gt200 c = rw c.fault_at-then-context-gt200.ensures (too_deep (key_starts _ c.args.context _ (is_class _ _ _ _ c.class_at.ensures c.in-Name.is)) (key_node _ c.args.context _) (name_opens _ c.args.context) c.requires.inside c.if-context-gt200.true)

pub returns : goal.returns
returns c = key_read _ c.args.context _ _ _ _ c.requires.ended c.requires.inside (is_class _ _ _ _ c.class_at.ensures c.in-Name.is) c.if-context-gt200.false c.line_at.ensures c.in_ok-copy_at.ensures c.text-tree.ensures
