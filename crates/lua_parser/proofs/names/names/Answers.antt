use Rattle.std.proofs.Common.{refl}
use Rattle.lua_reading.specs.LuaGrammarDeclaredTokenClassTheVariants.{Comma}
use Rattle.lua_reading.proofs.statements.Begins.{behind_word}
use Rattle.lua_reading.proofs.statements.PlainExits.{read_is, read_not}
use Rattle.lua_reading.proofs.lists.Names.{names_first, names_next, names_done, names_fail}
use Rattle.lua_parser.proofs.names.names.Goals as goal

pub names-init : goal.names-init
names-init c = names_first _ _ _ _ _ c.requires.ended c.requires.inside c.requires.begins c.in_ok-first.ensures c.in_ok-tree.ensures c.in_ok-push.ensures.ok

pub returns-in_default : goal.returns-in_default
returns-in_default c =
    let r = c.names.invariant in
    (r.0, r.1, names_done _ _ _ _ r.2 r.3 (read_not c.class_at.ensures c.in_default.not-Comma))

pub class_at-requires-in-names : goal.class_at-requires-in-names
class_at-requires-in-names c =
    let r = c.names.invariant in
    behind_word _ _ Comma c.requires.ended r.3 (read_is c.class_at.ensures c.in-Comma.is) refl

pub returns-in_default-class_at : goal.returns-in_default-class_at
returns-in_default-class_at c =
    let r = c.names.invariant in
    rw c.fault_at.ensures (names_fail _ _ _ _ c.requires.ended r.2 r.3 (read_is c.class_at.ensures c.in-Comma.is) (read_not c.class_at-in-names.ensures c.in_default-class_at.not-Name))

pub copy_at-requires-in-names : goal.copy_at-requires-in-names
copy_at-requires-in-names c =
    let r = c.names.invariant in
    behind_word _ _ Comma c.requires.ended r.3 (read_is c.class_at.ensures c.in-Comma.is) refl

pub names-preserved : goal.names-preserved
names-preserved c =
    let r = c.names.invariant in
    names_next _ _ _ _ _ _ c.requires.ended r (read_is c.class_at.ensures c.in-Comma.is) (read_is c.class_at-in-names.ensures c.in-Name.is) c.in_ok-next.ensures c.in_ok-push-2.ensures.ok
