use Rattle.std.proofs.Common.{refl}
use Rattle.lua_syntax.specs.View.{chunk_view}
use Rattle.wiki_lint.proofs.linting.lint.Goals as goal

pub returns-in-Ok-of_module : goal.returns-in-Ok-of_module
returns-in-Ok-of_module c =
    let chunk = c.in-Ok.field-0 in
    ((chunk_view chunk, (chunk, refl, c.in-Ok.ensures)), c.in-Ok-of_module.ensures)
