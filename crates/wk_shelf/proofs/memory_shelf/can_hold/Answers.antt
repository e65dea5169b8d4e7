use Rattle.std.proofs.Common.{◌≡◌, ◌∙◌, ◌+◌, ◌-◌, suc, ℕ, sym, arith, subst, drop, take, length, map, false, not, ◌&&◌}
use Rattle.std.proofs.lemmas.Grind.{common_steps}
use Rattle.std.specs.List.{list_any}
use Rattle.std.specs.Str.{is_utf8}
use Rattle.wk_shelf.specs.MemoryFiles.{file_of, same_place}
use Rattle.wk_shelf.proofs.FileLemmas.{refused_at}
use Rattle.wk_shelf.proofs.memory_shelf.can_hold.Goals as goal

pub returns-then-not-is_new : goal.returns-then-not-is_new
returns-then-not-is_new c =
    let f = c.index-files-at.result in
    let Refused : ℕ → Type 0 = λ n. (is_utf8 f.name && not (list_any (same_place (file_of f)) (map file_of (drop n c.args.files.now)))) ≡ false in
    let n = c.loop-at.at - 1 + 1 in
    let rest : take (length c.args.files.now - n) (drop n c.args.files.now) ≡ drop n c.args.files.now = grind (arith, common_steps) in
    let here : Refused (c.loop-at.at - 1 + 1) = rw rest at (sym c.is_new.ensures ∙ c.if-not-is_new.true) in
    let next : c.loop-at.at - 1 + 1 ≡ suc (c.loop-at.at - 1) = omega arith in
    refused_at (c.loop-at.at - 1) f c.args.files.now (omega arith) c.index-files-at.is (subst Refused next here)
