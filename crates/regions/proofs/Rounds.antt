-- How often a region is asked again.
use Rattle.std.proofs.Common.{◌≡◌, ℕ, ◌+◌, Bool, true, false, if◌then◌else◌, List, Option, Some, None, refl, ap, ◌∙◌, add-one}
use Rattle.meaning.specs.Algorithm.{Algorithm}
use Rattle.sched.specs.declared.numbers.Extent.{Extent}
use Rattle.sched.specs.Standing.{◌>>=◌}
use Rattle.regions.specs.declared.regions.Ends.{Ends}
use Rattle.sched.specs.Stored.{FormulaText, StoredText}
use Rattle.sched.specs.Around.{head_scope}
use Rattle.sched.specs.Regions.{LaidText}
use Rattle.regions.specs.Regions.{add_all_own, region_of, same_region, over, closed}

module _ (a : Algorithm) (g : StoredText) (fs : List FormulaText) (n : ℕ) (reach : List (Option Ends)) (l : LaidText) where
  abbrev asked : Option (List (Option Ends))
  asked = add_all_own a g (head_scope l.skeleton) 0 fs l.skeleton.nests reach

  abbrev laid_wider : ℕ → List (Option Ends) → List Extent → Bool → Option LaidText
  laid_wider k wide region is = if is then Some l else over g fs region >>= closed a g fs k wide

  abbrev with_region : ℕ → List (Option Ends) → Option (List Extent) → Option LaidText
  with_region k wide o = o >>= λ region. laid_wider k wide region (same_region l.region region)

  abbrev with_reach : ℕ → Option (List (Option Ends)) → Option LaidText
  with_reach k o = o >>= λ wide. with_region k wide (region_of g.subject.is_root wide)

  next : (k : ℕ) → n ≡ k + 1 → closed a g fs n reach l ≡ with_reach k asked
  next k e = rw (e, add-one) refl

  pub no_round : n ≡ 0 → closed a g fs n reach l ≡ Some l
  no_round e = rw (e) refl

  pub not_called : (k : ℕ) → n ≡ k + 1 → add_all_own a g (head_scope l.skeleton) 0 fs l.skeleton.nests reach ≡ None → closed a g fs n reach l ≡ None
  not_called k e h = next k e ∙ ap (with_reach k) h

  pub not_bounded : (k : ℕ) (wide : List (Option Ends)) → n ≡ k + 1 → add_all_own a g (head_scope l.skeleton) 0 fs l.skeleton.nests reach ≡ Some wide
      → region_of g.subject.is_root wide ≡ None → closed a g fs n reach l ≡ None
  not_bounded k wide e h f = next k e ∙ ap (with_reach k) h ∙ ap (with_region k wide) f

  with_found : (k : ℕ) (wide : List (Option Ends)) (region : List Extent) (is : Bool) → n ≡ k + 1 → asked ≡ Some wide → region_of g.subject.is_root wide ≡ Some region → same_region l.region region ≡ is
      → closed a g fs n reach l ≡ laid_wider k wide region is
  with_found k wide region is e h f s = next k e ∙ ap (with_reach k) h ∙ ap (with_region k wide) f ∙ ap (laid_wider k wide region) s

  pub same : (k : ℕ) (wide : List (Option Ends)) (region : List Extent) → n ≡ k + 1 → add_all_own a g (head_scope l.skeleton) 0 fs l.skeleton.nests reach ≡ Some wide
      → region_of g.subject.is_root wide ≡ Some region → same_region l.region region ≡ true → closed a g fs n reach l ≡ Some l
  same k wide region e h f s = with_found k wide region true e h f s

  pub not_laid : (k : ℕ) (wide : List (Option Ends)) (region : List Extent) → n ≡ k + 1 → add_all_own a g (head_scope l.skeleton) 0 fs l.skeleton.nests reach ≡ Some wide
      → region_of g.subject.is_root wide ≡ Some region → same_region l.region region ≡ false → over g fs region ≡ None → closed a g fs n reach l ≡ None
  not_laid k wide region e h f s o = with_found k wide region false e h f s ∙ ap (λ p. p >>= closed a g fs k wide) o

  pub wider : (k : ℕ) (wide : List (Option Ends)) (region : List Extent) (m : LaidText) → n ≡ k + 1 → add_all_own a g (head_scope l.skeleton) 0 fs l.skeleton.nests reach ≡ Some wide
      → region_of g.subject.is_root wide ≡ Some region → same_region l.region region ≡ false → over g fs region ≡ Some m → closed a g fs n reach l ≡ closed a g fs k wide m
  wider k wide region m e h f s o = with_found k wide region false e h f s ∙ ap (λ p. p >>= closed a g fs k wide) o
