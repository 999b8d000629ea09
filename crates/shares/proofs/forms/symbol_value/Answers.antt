use Rattle.std.proofs.Common.{◌≡◌, ◌∙◌, ◌+◌, ◌<◌, ◌≤◌, ◌^◌, ℤ, List, length, get_or, take, rules, w64, SFits, pos, ap, sym, subst, arith}
use Rattle.std.specs.Prelude.{◌==◌, if◌then◌else◌}
use Rattle.std.proofs.lemmas.Int.{to_z-of_z}
use Rattle.std.proofs.lemmas.List.{take_all, take_more}
use Rattle.lin.specs.Forms.{IsWithin}
use Rattle.plan.specs.Symbols.{Symbols}
use Rattle.plan.specs.Certificate.Cells.{grid_symbols}
use Rattle.shares.specs.declared.forms.Value.{Value}
use Rattle.shares.specs.Lets.{symbols_at}
use Rattle.shares.proofs.Values.{symbol_small_at, valued_push}
use Rattle.shares.proofs.forms.symbol_value.Goals as goal

abbrev none : Value
none = record { symbol = 0; value = pos 0 }

pub loop-value-preserved : goal.loop-value-preserved
loop-value-preserved c =
    let vs = c.args.lets.now in
    let k = c.loop-value.value-index in
    let x : Value = get_or vs k none in
    let i = c.args.symbol in
    let fits : SFits w64 c.value_or-found.result = search rules in
    to_z-of_z w64 c.value_or-found.result fits ∙ c.value_or-found.ensures ∙ ap (λ (z : ℤ). if i == x.symbol then x.value else z) c.loop-value.invariant
    ∙ sym (ap (λ (s : Symbols). s.value i) (ap (symbols_at c.args.at.now) (take_more vs k none c.loop-value-test.true) ∙ valued_push (take k vs) x (grid_symbols c.args.at.now)))

pub returns-clause-small : goal.returns-clause-small
returns-clause-small c =
    let vs = c.args.lets.now in
    let i = c.args.symbol in
    let whole = take_all c.loop-value.value-index vs (omega (arith, c.loop-value-test.false)) in
    subst (IsWithin (2 ^ 20)) (sym (c.loop-value.invariant ∙ ap (λ (ys : List Value). (symbols_at c.args.at.now ys).value i) whole)) (symbol_small_at c.args.at.now vs i c.requires.at c.requires.lets)
