-- What a command is described as.
use Rattle.std.specs.Prelude.{◌≡◌, List, [], ◌∷◌, false}
use Rattle.clap.specs.declared.builder.arg.Arg.{Arg}
use Rattle.clap.specs.declared.builder.command.Command.{Command}
use Rattle.clap.specs.declared.builder.command.Command.TheViews.{out-Command}
use Rattle.clap.specs.Words.{App, Rule, Text, app_of, rule_of, with_rule}
use Rattle.commands.specs.Line.{needed}

-- a command with these rules, and no word of its own that counts in commands below it
abbrev pub IsDescribed : App → Command → Type 0
IsDescribed a command = (app_of command ≡ a) × ((out-Command command).has_globals ≡ false)

-- a word under this rule, which counts in its own command alone
abbrev pub IsRule : Rule → Arg → Type 0
IsRule r word = (rule_of word ≡ r) × (word.global ≡ false)

-- a command with words that have to be there, of these names, behind its others
abbrev pub with_needed : App → List Text → App
with_needed a [] = a
with_needed a (name ∷ names) = with_needed (with_rule a (needed name)) names
