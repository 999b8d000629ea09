-- Windows that some loop of the plan keeps.
use Rattle.std.proofs.Common.{◌≡◌, ℕ, zero, suc, ◌+◌, ◌≤◌, List, [], ◌∷◌, drop, length, Bool, false, Option, Some, None, sym, ap, ◌∙◌, add-one}
use Rattle.std.proofs.Math.ListN.{drop_of_length-le}
use Rattle.std.specs.Prelude.{slice_get, ◌||◌}
use Rattle.plan.specs.Plan.{Group, Plan}
use Rattle.plan.specs.Lines.{body_line}
use Rattle.plan.specs.declared.certificate.cert.Window.{Window}
use Rattle.plan.specs.Certificate.Certificate.{Certificate}
use Rattle.soundness.specs.Given.{outline_of}
use Rattle.soundness.specs.Outline.Kept.{keeps}
use Rattle.soundness.specs.Outline.View.{certificate_in, group_in, number_in, outline_in, plan_in}
use Rattle.soundness.specs.declared.outline.outlined.Outlined.{Outlined}
use Rattle.validation.specs.Certificate.Certificate.{groups_keep}

none_is : {A : Type 0} (x : A) (e : None ≡ Some x) → ⊥
none_is x e = cc

the_first : {A : Type 0} (x y : A) (xs : List A) → Some y ≡ Some x → y ∷ xs ≡ x ∷ xs
the_first {A} x y xs e = ap or_y e
  where
    or_y : Option A → List A
    or_y None = y ∷ xs
    or_y (Some z) = z ∷ xs

-- the elements from one on
dropped : {A : Type 0} (xs : List A) (n : ℕ) (x : A) → slice_get xs n ≡ Some x → drop n xs ≡ x ∷ drop (suc n) xs
dropped [] n x e = absurd (none_is x e)
dropped (y ∷ ys) zero x e = the_first x y ys e
dropped (y ∷ ys) (suc n) x e = dropped ys n x e

module _ (p : Plan) (c : Certificate) (w : Window) where
  -- the groups from this one on
  pub kept_next : (o : Outlined) (gs : List Group) (n : ℕ) (kept : Bool) → plan_in o ≡ p → certificate_in o ≡ c → number_in o ≡ n → slice_get gs n ≡ Some (group_in o)
      → kept ≡ keeps (outline_in o) w (group_in o).body (body_line (plan_in o) (number_in o)) → groups_keep p c w n (drop n gs) ≡ (kept || groups_keep p c w (n + 1) (drop (n + 1) gs))
  kept_next o gs n kept plans certificates numbers is e =
      let g = group_in o in
      let here : keeps (outline_of p c n g) w g.body (body_line p n) ≡ kept =
      sym (e ∙ (λ j. keeps (outline_of (plans j) (certificates j) (numbers j) g) w g.body (body_line (plans j) (numbers j)))) in
      ap (groups_keep p c w n) (dropped gs n g is)
      ∙ ap (λ (b : Bool). b || groups_keep p c w (n + 1) (drop (suc n) gs)) here
      ∙ ap (λ (m : ℕ). kept || groups_keep p c w (n + 1) (drop m gs)) (sym (add-one n))

  -- no more groups
  pub kept_none : (gs : List Group) (n : ℕ) → length gs ≤ n → groups_keep p c w n (drop n gs) ≡ false
  kept_none gs n h = ap (groups_keep p c w n) (drop_of_length-le gs h)
