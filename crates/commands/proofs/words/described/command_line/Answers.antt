use Rattle.commands.specs.Line.{computed, cut, draw_line, replay_line, run_line}
use Rattle.commands.proofs.words.described.command_line.Goals as goal

pub returns : goal.returns
returns c =
    let run = c.with_command-line.ensures cut run_line c.cut_described.ensures c.run_described.ensures in
    let replay = c.with_command-line-2.ensures _ replay_line run c.replay_described.ensures in
    c.with_command.ensures computed draw_line replay c.draw_described.ensures
