-- A scratch may be sent to another thread.
use denote.Param.Send.{IsSend, sendable}
use Rattle.std.proofs.Crossing.{crosses}
use Rattle.numeric.proofs.op.Comparison.TheSendSync as comparison
use Rattle.numeric.proofs.op.Op.TheSendSync as op
use Rattle.numeric.proofs.ty.Ty.TheSendSync as ty
use Rattle.interpreter.proofs.code.Code.TheLaws.TheKnot as code
use Rattle.interpreter.proofs.sizes.Size.TheSendSync as size
use Rattle.interpreter.proofs.state.State.TheSendSync as state
use Rattle.interpreter.proofs.symbols.Symbols.TheSendSync as symbols
use Rattle.interpreter.specs.contracts.code.Code as Code
use Rattle.interpreter.specs.contracts.line_codes.LineCode as LineCode
use Rattle.interpreter.specs.contracts.scratch.Scratch as Scratch

code_field_send : IsSend (Code.the_field).row
code_field_send = search (sendable, crosses, comparison.the_field_send, op.the_field_send, ty.the_field_send, code.crosses) depth 20 fits 100000

line_field_send : IsSend (LineCode.the_field).row
line_field_send = search (sendable, crosses, code_field_send) depth 20 fits 100000

pub scratch_field_send : IsSend (Scratch.the_field).row
scratch_field_send = search (sendable, crosses, line_field_send, size.the_field_send, state.the_field_send, symbols.the_send) depth 40 fits 100000
