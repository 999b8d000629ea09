-- What a store's coordinates are, part by part.
use Rattle.std.proofs.Common.{◌≡◌, ℕ, List, [], ◌∷◌, ◌++◌, map, Bool, true, false, Option, Some, None, refl, sym, ap, ◌∙◌}
use Rattle.std.specs.Prelude.{◌==◌, ◌&&◌, if◌then◌else◌}
use Rattle.std.specs.List.{list_all}
use Rattle.tree.specs.Term.{Term}
use Rattle.lin.specs.Forms.{Form}
use Rattle.lin.specs.Search.{is_empty}
use Rattle.meaning.specs.Names.{same_name}
use Rattle.plan.specs.Plan.{Index, At, Found, Coordinate}
use Rattle.plan.specs.Semantics.Actions.{Setting}
use Rattle.plan.specs.Certificate.Certificate.{Claim}
use Rattle.soundness.specs.declared.binders.binder.Binder.{Binder as BinderHeld}
use Rattle.soundness.specs.Obligations.{is_form}
use Rattle.soundness.specs.Binders.View.{binder_of, binders_of}
use Rattle.soundness.specs.Nests.Tests.{left_of, over_of}
use Rattle.tails.specs.Apart.{form_of}
use Rattle.tails.specs.Stored.{pure_forms}
use Rattle.tails.specs.SplitMaps.{FormsAre}

and_swap : (a b c : Bool) → (a && (b && c)) ≡ (b && (a && c))
and_swap true b c = refl
and_swap false true c = refl
and_swap false false c = refl

and_false : (b : Bool) → (b && false) ≡ false
and_false true = refl
and_false false = refl

pub all_of_last : {A : Type 0} (p : A → Bool) (xs : List A) (x : A) → list_all p (xs ++ x ∷ []) ≡ (p x && list_all p xs)
all_of_last p [] x = refl
all_of_last p (y ∷ xs) x = ap (λ b. p y && b) (all_of_last p xs x) ∙ and_swap (p y) (p x) (list_all p xs)

pub binders_more : (xs : List BinderHeld) (x : BinderHeld) → binders_of (xs ++ x ∷ []) ≡ binder_of x ∷ binders_of xs
binders_more [] x = refl
binders_more (y ∷ xs) x = ap (λ l. l ++ binder_of y ∷ []) (binders_more xs x)

form_is : (i : Index) (l : Form) (c : Coordinate) → c.index ≡ i → i ≡ At l → is_form c ≡ true
form_is i l c p q = ap (λ (j : Index). is_form (record { variable = c.variable; index = j })) (p ∙ q)

pub forms_more : (c : Coordinate) (cs : List Coordinate) (l : Form) (fs : List Form) → c.index ≡ At l → FormsAre cs fs → FormsAre (c ∷ cs) (l ∷ fs)
forms_more c cs l fs is rest = (
  ap (λ (j : Index). is_form (record { variable = c.variable; index = j }) && list_all is_form cs) is ∙ rest.0,
  ap (λ (j : Index). form_of (record { variable = c.variable; index = j }) ∷ map form_of cs) is ∙ ap (λ gs. l ∷ gs) rest.1,
)

pub not_form : (c : Coordinate) (cs : List Coordinate) (e : Term) → c.index ≡ Found e → list_all is_form (c ∷ cs) ≡ false
not_form c cs e is = ap (λ (j : Index). is_form (record { variable = c.variable; index = j }) && list_all is_form cs) is

pub not_forms : (c : Coordinate) (cs : List Coordinate) → list_all is_form cs ≡ false → list_all is_form (c ∷ cs) ≡ false
not_forms c cs h = ap (λ b. is_form c && b) h ∙ and_false (is_form c)

-- ---- a store of a pure definition

abbrev chosen : Bool → Bool → Bool → Bool → List Form → Option (List Form)
chosen x y z v fs = if x && (y && (z && v)) then Some fs else None

not_chosen : (x y z v : Bool) (fs : List Form) → v ≡ false → chosen x y z v fs ≡ None
not_chosen true true true v fs h = ap (λ w. if w then Some fs else None) h
not_chosen true true false v fs h = refl
not_chosen true false z v fs h = refl
not_chosen false y z v fs h = refl

module _ (setting : Setting) (claim : Claim) (b : ℕ) (at : List Coordinate) where
  -- there are reduction variables
  pub over_is_not : is_empty (over_of setting b at) ≡ false → None ≡ pure_forms setting claim b at
  over_is_not h =
      sym (not_chosen (claim.definition == 0) (same_name (setting.buffer_function b) claim.function) (list_all is_form (left_of setting b at)) (is_empty (over_of setting b at))
      (map form_of (left_of setting b at)) h)
