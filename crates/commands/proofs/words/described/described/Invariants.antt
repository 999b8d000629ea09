use Rattle.std.proofs.Common.{◌≡◌, drop, map, false}
use Rattle.clap.specs.Words.{app_of, new_app}
use Rattle.clap.specs.declared.builder.command.Command.TheViews.{out-Command}
use Rattle.commands.specs.Described.{with_needed}
use Rattle.commands.proofs.words.described.described.Given as goal

abbrev pub invariant-loop-told : goal.invariant-loop-told
invariant-loop-told l = record {
  line : with_needed (app_of l.command) (map (λ word. word.0.now) (drop l.told-index l.words)) ≡ with_needed (new_app l.name) (map (λ word. word.0.now) l.words);
  local : (out-Command l.command).has_globals ≡ false;
}
