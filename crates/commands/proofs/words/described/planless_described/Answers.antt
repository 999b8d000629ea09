use Rattle.commands.specs.Line.{compare_line, compile_line, explain_line, format_line, plain_line, planless, program, scheduled}
use Rattle.commands.proofs.words.described.planless_described.Goals as goal

pub returns : goal.returns
returns c =
    let plain = c.with_command-line.ensures program plain_line c.program_described.ensures c.plain_described.ensures in
    let format = c.with_command-line-2.ensures _ format_line plain c.format_described.ensures in
    let compile = c.with_command-line-3.ensures planless compile_line format c.compile_described.ensures in
    let compare = c.with_command-line-4.ensures _ compare_line compile c.compare_described.ensures in
    c.with_command.ensures scheduled explain_line compare c.explain_described.ensures
