-- What the checker tells of a plan whose schedule splits loops once at most is a limit.
use Rattle.std.proofs.Common.{◌≡◌, ℕ, suc, List, [], ◌∷◌, Some, refl, ap, ◌∙◌, inl, inr, ◌⊎◌}
use Rattle.std.specs.Prelude.{slice_get}
use Rattle.std.specs.List.{AllByRecursion}
use Rattle.meaning.specs.Algorithm.{Algorithm}
use Rattle.plan.specs.Plan.{Group}
use Rattle.plan.specs.View.{group_of, plan_of}
use Rattle.plan.specs.Certificate.Certificate.{certificate_of}
use Rattle.soundness.specs.Given.{outline_of}
use Rattle.soundness.specs.Nests.Laws.{domains_of}
use Rattle.rules.specs.Bounding.Rules.{rules_of}
use Rattle.headline.specs.Numbers.{has_point}
use Rattle.headline.proofs.Lists.{from_map}
use Rattle.tails.specs.Windows.Nests.{slid_nests}
use Rattle.tails.specs.Windows.Shown.{IsShown}
use Rattle.sched.specs.Schedule.{Schedule}
use Rattle.lower.specs.Stored.{stored_functions}
use Rattle.completeness.specs.Parted.{KeepsInner, InnersAreKept}
use Rattle.completeness.specs.Laws.{AreSplitOnce, AreLinesTold, Stands}
use Rattle.completeness.specs.Owed.{AreGridsFew, AreSymbolsFew, AreClaimsNear}
use Rattle.completeness.specs.Fitting.{SplitsOnce}
use Rattle.completeness.specs.Told.{SplitsPlainly, LimitsAloneAreTold}
use Rattle.completeness.proofs.Shared.{shared, limits as shares_limits, heads}
use Rattle.completeness.proofs.CertLimits.{certificate_limits}
use Rattle.completeness.proofs.OnlyLimits.{told}
use Rattle.completeness.proofs.Served.{made_at}
use Rattle.completeness.proofs.FewLines.{lines_told, grids_few, symbols_few}
use Rattle.completeness.proofs.NamesRead.{named_no_load}
use Rattle.completeness.proofs.NearClaims.{claims_near}
use Rattle.completeness.proofs.StoreLaw.{near_blocked_owed}
use Rattle.completeness.proofs.BlockStores.{slid_take}
use Rattle.completeness.specs.Filled.{IsShownElsewhere}

each_at : {A : Type 0} (P : A → Type 0) (xs : List A) → ((i : ℕ) (x : A) → slice_get xs i ≡ Some x → P x) → AllByRecursion P xs
each_at P [] h = tt
each_at P (x ∷ xs) h = (h 0 x refl, each_at P xs (λ i y e. h (suc i) y e))

module _ (a : Algorithm) (s : Schedule) (fills : SplitsPlainly a s) where
  inners : InnersAreKept a s
  inners = each_at (λ g. KeepsInner g.placed.loops g.placed.cuts) (stored_functions a s) (λ i g at. (fills.once i g at).inners)

  pub splits_once : SplitsOnce a s
  splits_once = record { whole = fills.whole; once = fills.once }

  once : AllByRecursion (λ g. AreSplitOnce g.placed.cuts) (stored_functions a s)
  once = each_at (λ g. AreSplitOnce g.placed.cuts) (stored_functions a s) (λ i g at. (fills.once i g at).once)

pub limits_alone : LimitsAloneAreTold
limits_alone a s l well legal small regions groups fills named =
    let p = plan_of l.plan in
    let c = certificate_of l.certificate in
    let stands : Stands a p c = shared a s l well legal small regions groups fills.whole (inners a s fills) in
    record {
      head = λ line. heads a p c line stands;
      groups = told a s l well legal small regions groups fills.whole (named_no_load a named) lines_stand (once a s fills);
      shown = λ n g at. shown_at n g at;
      lines = lines_stand;
      certificate = certificate_limits a s l well legal small (regions fills.whole).0 fills.whole groups (splits_once a s fills).once stands.lines;
      shares = λ f. shares_limits a p c f stands;
      output = λ n g at is q within. ap (λ (o : _). has_point o q) at ∙ stands.output.inside n g at is q within;
    }
  where
    lines_stand : AreLinesTold (plan_of l.plan)
    lines_stand = lines_told a s l well legal small (regions fills.whole).0 fills.whole groups (splits_once a s fills).once

    grids : AreGridsFew (plan_of l.plan)
    grids = grids_few a s l well legal small (regions fills.whole).0 fills.whole groups (splits_once a s fills).once

    symbols : AreSymbolsFew (plan_of l.plan)
    symbols = symbols_few a s l well legal small (regions fills.whole).0 fills.whole groups (splits_once a s fills).once

    near : AreClaimsNear (certificate_of l.certificate)
    near = claims_near a s l well legal small (regions fills.whole).0 fills.whole groups (splits_once a s fills).once

    shown_at : (n : ℕ) (g : Group) → slice_get (plan_of l.plan).groups n ≡ Some g →
        IsShown (rules_of a (plan_of l.plan) (certificate_of l.certificate) n) a (plan_of l.plan) (certificate_of l.certificate) n g
        ⊎ IsShownElsewhere a (plan_of l.plan) (certificate_of l.certificate) n g
    shown_at n g at =
        let p = plan_of l.plan in
        let c = certificate_of l.certificate in
        let x = from_map group_of l.plan.groups.items n g at in
        let me = made_at a s l well legal small (regions fills.whole).0 fills.whole groups n x.0 x.1 in
        elim (near_blocked_owed a s l well legal small regions groups fills.whole (named_no_load a named) lines_stand grids symbols near n g at me.stored me.is
        (fills.once n me.stored me.is) me.formulas me.defined me.laid me.found
        (fills.near n me.stored me.is me.formulas me.defined me.laid me.found)) [
          | inl shown ↦ inl (shown (slid_nests (outline_of p c n g) (rules_of a p c n) (domains_of a)) (slid_take a p c n g))
          | inr elsewhere ↦ inr elsewhere
        ]
