-- A function whose code is gone over from no register on.
use Rattle.std.proofs.Common.{◌≡◌, ◌∙◌, Bool, true, ◌↔◌, sym, ap, List, []}
use Rattle.lua_code.specs.LuaSlotsCode.{CBlock, CProto}
use Rattle.lua_cells.specs.declared.registers.Registers.{Registers}
use Rattle.lua_cells.specs.Cells.{HasNoIdleCell}
use Rattle.lua_cells.specs.Registers.{opened, scoped, block_gone, function_gone}
use Rattle.lua_cells.proofs.CellLaws.{function, function_needed}

abbrev begun : Registers
begun = record { idle = []; needed = true }

pub of_function : (p : CProto) (flags : List Bool) (b : CBlock) (r s : Registers) → flags ≡ p.flags → b ≡ p.body → s ≡ begun → r ≡ scoped (λ t. block_gone b (opened flags t)) s → (r.needed ≡ true) ↔ HasNoIdleCell p
of_function p flags b r s e f g h =
    let same : r ≡ function_gone p = h ∙ ap (λ k. scoped (λ t. block_gone b (opened flags t)) k) g ∙ ap (λ c. scoped (λ t. block_gone c (opened flags t)) begun) f ∙ ap (λ fs. scoped (λ t. block_gone p.body (opened fs t)) begun) e in
    let needed : r.needed ≡ (function_gone p).needed = ap (λ k. k.needed) same in
    (λ t. function p (sym needed ∙ t), λ n. needed ∙ function_needed p n)
