use Rattle.std.proofs.Common.{refl}
use Rattle.lua_stack.specs.declared.register.Slot.TheVariants as slot
use Rattle.lua_stack.proofs.PlaceLemmas.{set_seen}
use Rattle.lua_stack.proofs.Stay.{registers_later}
use Rattle.lua_stack.proofs.register.write.Goals as goal

pub returns-in-Register-clause-written : goal.returns-in-Register-clause-written
returns-in-Register-clause-written c = rw (c.in-Register.is, c.set.ensures, set_seen c.args.store.now.texts c.args.regs.now c.in-Register.at (slot.Plain c.args.value)) refl

pub returns-in-Cell-clause-of : goal.returns-in-Cell-clause-of
returns-in-Cell-clause-of c = registers_later c.args.store.now c.set_in.new.store c.set_in.ensures.later c.args.regs.now c.requires.registers

pub returns-in-Captured-clause-of : goal.returns-in-Captured-clause-of
returns-in-Captured-clause-of c = registers_later c.args.store.now c.set_in-in-Captured.new.store c.set_in-in-Captured.ensures.later c.args.regs.now c.requires.registers
