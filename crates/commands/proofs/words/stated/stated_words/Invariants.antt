use Rattle.std.proofs.Common.{◌≡◌, ◌++◌, map, drop}
use Rattle.commands.specs.Line.{stated}
use Rattle.commands.proofs.LeftWords.{left_of}
use Rattle.commands.proofs.words.stated.stated_words.Given as goal

abbrev pub invariant-loop-word : goal.invariant-loop-word
invariant-loop-word l = map (λ word. word.now) l.kept.items ++ left_of l.are_names (map (λ word. word.now) (drop l.word-index l.words)) ≡ stated (map (λ word. word.now) l.words)
