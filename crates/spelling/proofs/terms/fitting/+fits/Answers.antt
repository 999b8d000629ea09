use Rattle.std.proofs.Common.{◌≡◌, true, false, ap, sym, ◌∙◌}
use Rattle.tree.specs.Term.{term_of, list_terms, indices, Call}
use Rattle.tree.proofs.Rows.{term_of-call}
use Rattle.spelling.specs.Terms.Fitting as spec
use Rattle.spelling.proofs.Rows.{fit_next, fit_stops}
use Rattle.spelling.proofs.terms.fitting.+fits.Goals as goal

pub all_fit-returns-then-not-fits_within : goal.all_fit-returns-then-not-fits_within
all_fit-returns-then-not-fits_within t c =
    let none : spec.fits_within (term_of c.index-item.result) c.args.brackets ≡ false = cc in
    fit_stops c.args.at.now c.loop-index.index-index c.args.brackets c.index-item.result _ c.loop-index-test.true c.index-item.is c.loop-index.invariant none

pub all_fit-loop-index-preserved : goal.all_fit-loop-index-preserved
all_fit-loop-index-preserved t c =
    let one : spec.fits_within (term_of c.index-item.result) c.args.brackets ≡ true = cc in
    fit_next c.args.at.now c.loop-index.index-index c.args.brackets c.index-item.result _ c.loop-index-test.true c.index-item.is c.loop-index.invariant one

pub fits_within-returns-in-Call : goal.fits_within-returns-in-Call
fits_within-returns-in-Call t c =
    c.fits_call.ensures
    ∙ ap (λ e. spec.fits_within e c.args.brackets)
    ((λ i. Call (c.as_bytes-in-Call.ensures.value i) (indices (list_terms (c.deref.ensures.value i)))) ∙ sym (term_of-call c.in-Call.name c.in-Call.at c.in-Call.span) ∙ ap term_of (sym c.in-Call.is))
