use Rattle.std.proofs.Common.{◌≡◌, ◌-◌, suc, arith}
use Rattle.interpreter.proofs.SameRegisters.{more_same, on_both}
use Rattle.interpreter.proofs.placing.+are_same_registers.Goals as goal

pub returns : goal.returns
returns t c =
    let n = c.args.count in
    let w = c.args.width in
    let is : w ≡ suc (w - 1) = omega arith in
    on_both c.are_same_registers.result _ _
    (λ h k lt. more_same n w (w - 1) k c.args.left.now c.args.right.now c.registers_behind-left.result.now c.registers_behind-right.result.now is c.registers_behind-left.ensures
    c.registers_behind-right.ensures (c.if-not-is_same_register.ensures k lt) (h k lt))
    c.are_same_registers.ensures
