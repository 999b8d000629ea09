use Rattle.std.proofs.Common.{◌≡◌, ◌∙◌, ap, subst, List, map}
use Rattle.std.proofs.lemmas.Result.{IfOk-weaker}
use Rattle.clap.specs.Words.{App, FailsBy, Text, fault_of, is_simple, is_simple_and_free, subcommand_of, subcommand_rows_of}
use Rattle.commands.proofs.Named.{line_is_free, line_is_simple}
use Rattle.commands.specs.Line.{line}
use Rattle.commands.proofs.words.matches_in.Goals as goal

pub returns-clause-fails : goal.returns-clause-fails
returns-clause-fails c =
    let words : List Text = map (λ word. word.now) c.args.words.now in
    let Fails : App → Type 0 = λ app. FailsBy (fault_of app words) c.try_get_matches_from_mut.result in
    subst Fails c.in_ok-command.ensures.0 (c.try_get_matches_from_mut.ensures.kinds (ap is_simple_and_free c.in_ok-command.ensures.0 ∙ line_is_free))

pub returns-clause-found : goal.returns-clause-found
returns-clause-found c =
    let words : List Text = map (λ word. word.now) c.args.words.now in
    let found_at : App → _ = λ app. subcommand_of app words in
    IfOk-weaker c.try_get_matches_from_mut.result _ (λ m. subcommand_rows_of m ≡ found_at line)
    (λ m all. (all.2 (ap is_simple c.in_ok-command.ensures.0 ∙ line_is_simple)).1 ∙ ap found_at c.in_ok-command.ensures.0) c.try_get_matches_from_mut.ensures.ok
