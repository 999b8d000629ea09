use Rattle.std.proofs.Common.{rules, ◌≡◌, length, map, Some, Result, Err, refl, sym, ap, subst, ◌∙◌}
use Rattle.std.specs.Prelude.{slice_get}
use Rattle.std.specs.Option.{option_map}
use Rattle.std.proofs.lemmas.Option.{slice_get_past, slice_get_read}
use Rattle.tree.specs.Term.{term_of}
use Rattle.plan.specs.declared.stmt.Stmt.{Stmt}
use Rattle.plan.specs.View.{coordinate_of, statement_of}
use Rattle.sched.specs.declared.stop.Stop.{Stop}
use Rattle.sched.specs.Limited.{Gives, TellsIf}
use Rattle.blocks.specs.Planned.{have_indices}
use Rattle.blocks.specs.Bodies.{AreCoordinates}
use Rattle.blocks.specs.Loading.{load_of}
use Rattle.blocks.specs.Placed.{owner_seen}
use Rattle.sched.specs.Placed.{store_in}
use Rattle.blocks.proofs.Nested.{store_made, store_unindexed, store_unknown}
use Rattle.blocks.proofs.parts.store_in.Goals as goal

pub returns : goal.returns
returns c =
    let o = owner_seen c.args.owner.now in
    let fs = c.args.owner.now.root.now.formulas.now in
    let d = c.args.definition in
    let f = c.in-Some.formula.now in
    let ls = map load_of c.args.loads.now in
    let xs = map (λ x. x.now) c.deref.result.now in
    let cs = map coordinate_of c.in_ok-coordinates.coordinates.items in
    let is : slice_get fs d ≡ Some f = slice_get_read fs (length fs) d f refl c.in-Some.ensures.lookup.3.0 c.in-Some.ensures.lookup.1 in
    let are : AreCoordinates ls xs c.args.at.now (map (option_map term_of) f.at.items) cs =
    subst (λ l. AreCoordinates ls xs c.args.at.now (map (option_map term_of) l) cs) c.deref-2.ensures.value c.in_ok-coordinates.ensures.made in
    store_made o ls d fs f c.args.at.now xs c.in_ok-coordinates.coordinates.items (term_of c.in_ok-value.value) refl is
    (ap (map (λ x. x.now)) c.deref.ensures.value ∙ c.in_ok-variables.ensures) are c.in_ok-value.ensures

pub returns-in_default : goal.returns-in_default
returns-in_default c =
    let fs = c.args.owner.now.root.now.formulas.now in
    store_unknown (owner_seen c.args.owner.now) (map load_of c.args.loads.now) c.args.definition fs c.args.at.now refl (slice_get_past fs c.args.definition c.in_default.ensures.lookup.3)

pub returns-in_err-coordinates : goal.returns-in_err-coordinates
returns-in_err-coordinates c =
    let o = owner_seen c.args.owner.now in
    let fs = c.args.owner.now.root.now.formulas.now in
    let d = c.args.definition in
    let f = c.in-Some.formula.now in
    let ls = map load_of c.args.loads.now in
    let at = c.args.at.now in
    let xs = map (λ x. x.now) c.deref.result.now in
    let e = c.in_err-coordinates.field-0.0 in
    let stop : c.from_residual-in_err-coordinates.result ≡ Err e = search rules in
    let is : slice_get fs d ≡ Some f = slice_get_read fs (length fs) d f refl c.in-Some.ensures.lookup.3.0 c.in-Some.ensures.lookup.1 in
    let told : TellsIf {X = Stmt} (Err e) (have_indices xs at (map (option_map term_of) f.at.items)) =
    subst (λ l. TellsIf {X = Stmt} (Err e) (have_indices xs at (map (option_map term_of) l))) c.deref-2.ensures.value c.in_err-coordinates.ensures.told in
    let none : Gives {X = Stmt} (Err e) statement_of (store_in o ls d at) =
    store_unindexed Stmt e statement_of o ls d fs f at xs refl is (ap (map (λ x. x.now)) c.deref.ensures.value ∙ c.in_ok-variables.ensures) told in
    subst (λ (r : Result Stmt Stop). Gives r statement_of (store_in o ls d at)) (sym stop) none
