use Rattle.lin.proofs.TermLemmas.{filter-canonical}
use Rattle.lin.proofs.form.Lin.without.Goals as goal

pub invariant_of-result : goal.invariant_of-result
invariant_of-result c = rw (c.in_ok-terms.ensures, c.deref.ensures) (filter-canonical _ _ c.self.invariant)
