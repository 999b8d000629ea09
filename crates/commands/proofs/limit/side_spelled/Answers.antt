use Rattle.std.proofs.Common.{◌≡◌, ◌∙◌, ℕ, true, false, sym, subst}
use Rattle.std.specs.Str.{bytes_eq}
use Rattle.spelling.specs.Words.Spelling.{count_text}
use Rattle.commands.proofs.Sides.{none_parsed, not_that, parsed_small, spelled}
use Rattle.commands.proofs.limit.side_spelled.Goals as goal

pub returns-in-Ok : goal.returns-in-Ok
returns-in-Ok c =
    let Is : ℕ → Type 0 = λ n. bytes_eq (count_text n) c.args.text.now ≡ true in
    spelled c.in-Ok.number c.args.text.now (parsed_small c.args.text.now c.parse.result c.in-Ok.number c.parse.ensures.value.0 c.in-Ok.is)
    (subst Is c.from.ensures (sym c.is_spelled.ensures ∙ c.if-is_spelled.true))

pub returns-in_default : goal.returns-in_default
returns-in_default c =
    let Is : ℕ → Type 0 = λ n. bytes_eq (count_text n) c.args.text.now ≡ false in
    not_that c.args.text.now c.parse.result c.in-Ok.number c.parse.ensures.value.0 c.in-Ok.is
    (subst Is c.from.ensures (sym c.is_spelled.ensures ∙ c.if-is_spelled.false))

pub returns-in_default-2 : goal.returns-in_default-2
returns-in_default-2 c = none_parsed c.args.text.now c.parse.result c.in_default.field-0 c.parse.ensures.value.0 c.in_default.is
