-- Whether a group of a plan is that of a function.
use Rattle.std.proofs.Common.{◌≡◌, ℕ, suc, List, [], ◌∷◌, map, All, get_or, Bool, true, false, refl, sym, ap, ◌∙◌, subst, arith, string_bytes}
use Rattle.std.proofs.lemmas.Bool.{false≢true}
use Rattle.std.proofs.lemmas.List.Elements.{All-map}
use Rattle.std.proofs.lemmas.List.Folds.{list_any_at}
use Rattle.std.specs.Prelude.{◌||◌}
use Rattle.std.specs.List.{list_any}
use Rattle.meaning.specs.Names.{same_name}
use Rattle.plan.specs.declared.plan.Group.{Group as CodeGroup}
use Rattle.plan.specs.Plan.{Group}
use Rattle.plan.specs.View.{group_of}
use Rattle.soundness.proofs.Refines.{name_refl, name_true}

pub no_group : (gs : List CodeGroup) (name : List ℕ) → list_any (λ g. same_name (string_bytes g.function) name) gs ≡ false
    → All (λ (g : Group). ¬ (g.function ≡ name)) (map group_of gs)
no_group gs name h =
    All-map (λ (g : Group). ¬ (g.function ≡ name)) group_of gs (λ k d less e. absurd (false≢true
    (sym h ∙ list_any_at (λ g. same_name (string_bytes g.function) name) gs k d less
    (subst (λ (v : List ℕ). same_name (string_bytes (get_or gs k d).function) v ≡ true) e (name_refl (string_bytes (get_or gs k d).function))))))

pub some_group : (gs : List CodeGroup) (name : List ℕ) → list_any (λ g. same_name (string_bytes g.function) name) gs ≡ true
    → All (λ (g : Group). ¬ (g.function ≡ name)) (map group_of gs) → ⊥
some_group [] name h all = false≢true h
some_group (g ∷ gs) name h all = by (same_name (string_bytes g.function) name) refl (some_group gs name)
  where
    rest : List CodeGroup → Bool
    rest = list_any (λ x. same_name (string_bytes x.function) name)

    by : (b : Bool) → same_name (string_bytes g.function) name ≡ b → (rest gs ≡ true → All (λ (x : Group). ¬ (x.function ≡ name)) (map group_of gs) → ⊥) → ⊥
    by true e more = all 0 (group_of g) (omega arith) (name_true (string_bytes g.function) name e)
    by false e more = more (ap (λ (b : Bool). b || rest gs) (sym e) ∙ h) (λ k d less. all (suc k) d (omega (arith, less)))
