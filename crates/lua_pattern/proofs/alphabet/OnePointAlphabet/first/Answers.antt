use Rattle.std.proofs.Common.{◌≡◌, ℕ, ◌<◌, ◌+◌, ◌-◌, List, length, take, drop, sym, ap, ◌∙◌, length-drop}
use Rattle.std.proofs.Math.Seq.{take-length}
use Rattle.lua_pattern.specs.Texts.{later_bytes}
use Rattle.lua_pattern.specs.Lawful.{point_cut}
use Rattle.lua_pattern.proofs.alphabet.OnePointAlphabet.first.Goals as goal

pub returns-in-len1-up : goal.returns-in-len1-up
returns-in-len1-up c =
    let lt : 0 < length c.args.text.now = c.requires in
    let rest : List ℕ = drop 1 c.args.text.now in
    let whole : take (length c.args.text.now - 1) rest ≡ rest = ap (λ n. take n rest) (sym (length-drop 1 c.args.text.now)) ∙ take-length rest in
    point_cut c.args.text.now c.decode_lossy.result.0 (1 + c.count_later.result) lt c.decode_lossy.ensures.char
    (ap (λ n. 1 + n) (c.count_later.ensures.value ∙ ap later_bytes whole))
