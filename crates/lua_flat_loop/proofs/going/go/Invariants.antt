use Rattle.lua_flat_loop.proofs.Looping.{Going}
use Rattle.lua_flat_loop.proofs.going.go.Given as goal

-- operations have led here
abbrev pub invariant-steps : goal.invariant-steps
invariant-steps l = Going
    (record { store = l.fn.store; modules = l.fn.modules; globals = l.fn.globals; regs = l.fn.regs; acts = l.fn.acts; purse = l.fn.purse; at = l.fn.begin })
    (record { store = l.fn.store; modules = l.fn.modules; globals = l.fn.globals; regs = l.regs; acts = l.fn.acts; purse = l.fn.purse; at = l.at })
    l.code
