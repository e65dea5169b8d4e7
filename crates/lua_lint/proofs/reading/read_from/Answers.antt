use Rattle.std.proofs.Common.{◌≡◌, ◌∙◌, ℕ, List, [], ◌∷◌, sym, ap, map, length, rules}
use Rattle.std.proofs.lemmas.List.{length-map}
use Rattle.std.proofs.lemmas.Result.{IfOk-weaker}
use Rattle.lua_uses.specs.Modules.{reach, read_at}
use Rattle.lua_lint.specs.Reading.{named_seen, modules_seen}
use Rattle.lua_lint.proofs.reading.read_from.Goals as goal

pub returns : goal.returns
returns c =
    let modules = modules_seen c.args.modules.now in
    let root = c.args.root in
    let keys : c.reach.new.seen.keys ≡ root ∷ [] = search rules in
    IfOk-weaker c.gathered.result _ _ (λ rs e. e
    ∙ ap (λ (s : List ℕ). map (read_at modules) (reach modules (length c.args.modules.now) 0 s)) keys
    ∙ ap (λ (n : ℕ). map (read_at modules) (reach modules n 0 (root ∷ []))) (sym (length-map c.args.modules.now named_seen))) c.gathered.ensures
