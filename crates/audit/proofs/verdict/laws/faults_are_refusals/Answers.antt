use Rattle.audit.proofs.OfVerdict.Faults.{faults_refused}
use Rattle.audit.proofs.verdict.laws.faults_are_refusals.Goals as goal

pub returns : goal.returns
returns c = faults_refused (record {
  apart = c.groups_are_apart.ensures;
  silent = c.shown_is_nothing_told.ensures;
  shares = c.faults_have_no_shares.ensures;
})
