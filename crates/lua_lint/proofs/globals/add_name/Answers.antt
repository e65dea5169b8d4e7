use Rattle.std.proofs.Common.{◌∙◌, ap, ℕ, List}
use Rattle.std.specs.BTreeSet.{insert_key}
use Rattle.lua_uses.specs.Modules.{by_bytes}
use Rattle.lua_lint.specs.Reading.{names_in}
use Rattle.lua_lint.proofs.ReadingLemmas.{added}
use Rattle.lua_lint.proofs.globals.add_name.Goals as goal

pub returns-in-Ok : goal.returns-in-Ok
returns-in-Ok c =
    ap names_in c.in-Ok.ensures.keys
    ∙ added c.args.names.now.keys c.as_slice.result
    ∙ ap (λ (name : List ℕ). insert_key by_bytes (names_in c.args.names.now.keys) name) c.as_slice.ensures
