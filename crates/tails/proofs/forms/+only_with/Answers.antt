use Rattle.std.proofs.Common.{sym, ◌∙◌}
use Rattle.tails.proofs.Joined.{only_first_in, only_twice_in}
use Rattle.tails.proofs.forms.+only_with.Goals as goal

pub returns-then-forms_have : goal.returns-then-forms_have
returns-then-forms_have t c =
    only_twice_in c.args.symbol c.args.forms.now c.first-item.result c.in-len1-up.len_at_least c.first-item.is
    (sym c.form_has.ensures ∙ c.if-form_has.true) (sym c.forms_have.ensures ∙ c.if-forms_have.true)

pub returns-else-forms_have : goal.returns-else-forms_have
returns-else-forms_have t c =
    only_first_in c.args.symbol c.args.forms.now c.first-item.result c.in-len1-up.len_at_least c.first-item.is
    (sym c.form_has.ensures ∙ c.if-form_has.true) (sym c.forms_have.ensures ∙ c.if-forms_have.false)
