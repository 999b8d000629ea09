use Rattle.std.proofs.Common.{◌≡◌, sym, ap, ◌∙◌}
use Rattle.algo.specs.Saying.{says}
use Rattle.printer.proofs.laws.texts_say_one.Goals as goal

pub returns : goal.returns
returns c text a b first second = first.said ∙ ap says (second.only first.file first.found) ∙ sym second.said
