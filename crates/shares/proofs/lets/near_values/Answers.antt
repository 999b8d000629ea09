use Rattle.std.proofs.Common.{◌≡◌, ◌∙◌, ◌+◌, ◌++◌, ◌∷◌, [], ◌^◌, ◌<◌, ℤ, List, true, length, drop, ap, sym, subst, arith, rules}
use Rattle.std.specs.Int.{w64}
use Rattle.std.proofs.lemmas.Int.{to_z-of_z}
use Rattle.std.proofs.lemmas.List.{get_or-map, length-map}
use Rattle.std.proofs.lemmas.List.Elements.{All-get_or, All-push}
use Rattle.lin.specs.Forms.{IsWithin}
use Rattle.plan.specs.Symbols.{bind}
use Rattle.plan.specs.Certificate.Cells.{grid_symbols}
use Rattle.soundness.specs.Around.{picked}
use Rattle.shares.specs.declared.forms.Value.{Value}
use Rattle.shares.specs.Boxes.{AreLimited}
use Rattle.shares.specs.Lets.{Naming, AreNear, ValuesAreSmall, named, naming_of, namings_of, symbols_at}
use Rattle.shares.proofs.Near.{named_next, near_next, near_before}
use Rattle.shares.proofs.Values.{valued_push}
use Rattle.shares.proofs.lets.near_values.Goals as goal

pub picked_at-value-requires-clause-limits : goal.picked_at-value-requires-clause-limits
picked_at-value-requires-clause-limits c =
    let xs = c.args.lets.now in let i = c.loop-line.line-index in let d = c.line-item.result in
    let less : i < length xs = c.loop-line-test.true in
    let long = length-map xs naming_of in
    let L : Naming → Type 0 = λ x. AreLimited x.forms in
    subst L (get_or-map naming_of xs i d (naming_of d) less ∙ ap naming_of (sym c.line-item.is)) (All-get_or L (namings_of xs) i (naming_of d) (omega (arith, less, long)) c.requires.limits)

pub loop-line-preserved : goal.loop-line-preserved
loop-line-preserved c =
    let at = c.args.at.now in
    let xs = c.args.lets.now in let i = c.loop-line.line-index in let d = c.line-item.result in
    let less : i < length xs = c.loop-line-test.true in
    let old = c.loop-line.values.items in
    let s = symbols_at at old in
    let new : Value = record { symbol = d.symbol; value = c.picked_at-value.result } in
    let value : new.value ≡ picked d.pick d.forms.now s = c.picked_at-value.ensures ∙ ap (λ (vs : List Value). picked d.pick d.forms.now (symbols_at at vs)) c.deref.ensures.value in
    let passed = to_z-of_z w64 c.picked_at-value.result (first_of (search rules, assumption c)) in
    let near : IsWithin (2 ^ 20) new.value = subst (IsWithin (2 ^ 20)) passed (c.is_near.ensures.0 c.if-not-is_near.false) in
    let later = namings_of (drop (i + 1) xs) in
    let items = c.in_ok-push.ensures.items ∙ ap (λ (z : ℤ). old ++ record { symbol = d.symbol; value = z } ∷ []) passed in
    let pushed = ap (symbols_at at) items ∙ valued_push old new (grid_symbols at) ∙ ap (λ (z : ℤ). bind s d.symbol z true) value in
    record {
      symbols = ap (named later) pushed ∙ sym (named_next xs i d less c.line-item.is s) ∙ c.loop-line.invariant.symbols;
      small = subst ValuesAreSmall (sym items) (All-push (λ (v : Value). IsWithin (2 ^ 20) v.value) old new c.loop-line.invariant.small near);
      near = (
        (λ rest. c.loop-line.invariant.near.0 (near_before xs i d less c.line-item.is s (subst (IsWithin (2 ^ 20)) value near) (subst (AreNear later) pushed rest))),
        (λ all. subst (AreNear later) (sym pushed) (near_next xs i d less c.line-item.is s (c.loop-line.invariant.near.1 all)).1),
      );
    }
