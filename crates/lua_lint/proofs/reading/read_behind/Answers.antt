use Rattle.std.proofs.Common.{◌∙◌, ◌++◌, ◌∷◌, [], ap}
use Rattle.lua_uses.specs.Modules.{Read}
use Rattle.lua_lint.specs.Reading.{reads_seen}
use Rattle.lua_lint.proofs.ReadingLemmas.{read_more}
use Rattle.lua_lint.proofs.reading.read_behind.Goals as goal

pub returns-clause-all : goal.returns-clause-all
returns-clause-all c =
    ap reads_seen c.in_ok-push.ensures.ok
    ∙ read_more c.args.all.now c.in_ok-read_on.field-0
    ∙ ap (λ (r : Read). reads_seen c.args.all.now ++ r ∷ []) c.in_ok-read_on.ensures.read
