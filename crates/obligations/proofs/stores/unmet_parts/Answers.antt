use Rattle.std.proofs.Common.{◌≡◌, List, ◌∷◌, ◌++◌, ◌^◌, ◌-◌, min, map, Bool, Option, None, sym, ap, ◌∙◌, subst}
use Rattle.std.specs.Prelude.{IfOk, flat_map}
use Rattle.lin.specs.declared.span.Span1.{Span1}
use Rattle.soundness.specs.declared.outline.refusals.code.Flaw.{Flaw}
use Rattle.soundness.specs.declared.outline.refusals.code.K.TheVariants.{K4}
use Rattle.tree.specs.Term.{term_of}
use Rattle.soundness.specs.Obligations.{coordinate_loads, target_span, obligation, seated, places_of, is_begun, claimed, Obligation, Named, OutOfBuffer, NotClaimed}
use Rattle.soundness.specs.Shown.{shows}
use Rattle.soundness.specs.Binders.View.{binders_of}
use Rattle.soundness.specs.Outline.View.{outline_in}
use Rattle.obligations.specs.Asked.{first_unmet, unless}
use Rattle.obligations.specs.Loads.{asked_by_store, coordinates_of, known_in, loads_in, may_in, meets_in, names_in, variable_spans}
use Rattle.obligations.proofs.Asking.{asks_nest}
use Rattle.obligations.proofs.Unmet.{go_one, go_append}
use Rattle.obligations.proofs.stores.unmet_parts.Goals as goal

pub returns : goal.returns
returns g c =
    let O = outline_in c.args.judge.now.outlined.now in
    let R = g.B.Bounds.rules c.args.judge.now.bounds.now in
    let N = g.T.NestTests.nests c.args.judge.now.tests.now in
    let P = c.args.judge.now.part in
    let r = c.args.reads.now in
    let K = known_in r in
    let e = term_of c.args.value.now in
    let places = map (target_span O R K (names_in r) c.args.left.now) (coordinates_of r.at.now) in
    let is : c.in_ok-places.places ≡ places = c.in_ok-places.ensures in
    let here : c.as_slice.result.now ≡ places = c.as_slice.ensures ∙ is in
    let there : c.as_slice-2.result.now ≡ places = c.as_slice-2.ensures ∙ is in
    let reads : List Span1 → List Obligation = λ xs. flat_map (coordinate_loads O R r.line K (may_in O R r) (meets_in O R r) (names_in r) c.args.left.now) (coordinates_of r.at.now) ++ loads_in O R r (xs ++ variable_spans O R c.args.over.now) e in
    let room = c.in_ok-seated.ensures ∙ (λ i. shows R N (binders_of (c.deref.ensures.value i)) (seated O R (c.places_of-room.ensures i) (here i))) in
    let first : unless P K4 (min r.line (2 ^ 32 - 1)) (shows R N K.binders (seated O R (places_of K.buffers r.buffer) places)) ≡ None =
    sym (c.in_default.ensures ∙ ap (λ (b : Bool). unless P K4 (min r.line (2 ^ 32 - 1)) b) room) in
    let second : asks_nest O R N P r.line K r.buffer r.function.now places r.definition ≡ None =
    sym (c.in_ok-flaw.ensures ∙ ap (λ (xs : List Span1). asks_nest O R N P r.line K r.buffer r.function.now xs r.definition) there) ∙ c.in_default-2.is in
    let nest = obligation O R NotClaimed r.line K (Named (is_begun O R K r.buffer r.function.now r.definition)) ∷ claimed O R r.line K r.buffer r.function.now r.definition places in
    let all : first_unmet R N P (asked_by_store O R r c.args.over.now c.args.left.now e) ≡ first_unmet R N P (reads c.in_ok-places.places) =
    go_one R N P (obligation O R OutOfBuffer r.line K (seated O R (places_of K.buffers r.buffer) places)) (nest ++ reads places) first
    ∙ go_append R N P nest (reads places) second ∙ ap (λ (xs : List Span1). first_unmet R N P (reads xs)) (sym is) in
    subst (λ (o : Option Flaw). IfOk c.unmet_reads.result (λ flaw. flaw ≡ o)) (sym all) c.unmet_reads.ensures
