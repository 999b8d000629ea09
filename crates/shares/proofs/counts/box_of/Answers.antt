use Rattle.std.proofs.Common.{◌≡◌, ◌∙◌, List, ap, sym, subst}
use Rattle.plan.specs.Symbols.{Symbols}
use Rattle.plan.specs.Certificate.Cells.{grid_symbols}
use Rattle.shares.specs.declared.lets.Naming.{Naming as Held}
use Rattle.shares.specs.declared.forms.Value.{Value}
use Rattle.shares.specs.Boxes.{sides}
use Rattle.shares.specs.Lets.{AreNear, NamingsAreLimited, ValuesAreSmall, named, namings_of, symbols_at}
use Rattle.shares.proofs.counts.box_of.Goals as goal

pub values_at-requires-clause-limits : goal.values_at-requires-clause-limits
values_at-requires-clause-limits c = subst (λ (ks : List Held). NamingsAreLimited (namings_of ks)) (sym c.deref.ensures.value) c.requires.lets

pub values_at-requires-clause-near : goal.values_at-requires-clause-near
values_at-requires-clause-near c = subst (λ (ks : List Held). AreNear (namings_of ks) (grid_symbols c.args.at.now)) (sym c.deref.ensures.value) c.requires.near

pub box_by-requires-clause-lets : goal.box_by-requires-clause-lets
box_by-requires-clause-lets c = subst ValuesAreSmall (sym c.deref-2.ensures.value) c.in_ok-values.ensures.small

pub returns : goal.returns
returns c =
    let region = c.args.line.now.region.now in
    c.in_ok-sides.ensures.sides ∙ ap (λ (vs : List Value). sides (symbols_at c.args.at.now vs) region) c.deref-2.ensures.value
    ∙ ap (λ (s : Symbols). sides s region) c.in_ok-values.ensures.symbols
    ∙ ap (λ (ks : List Held). sides (named (namings_of ks) (grid_symbols c.args.at.now)) region) c.deref.ensures.value
