-- A fetch of the claim's region gives the function's last definition there.
use Rattle.std.proofs.Common.{◌≡◌, ℕ, Bool, true, false, List, [], ◌∷◌, map, Option, Some, None, refl, sym, ap, ◌∙◌, subst, inl, inr}
use Rattle.std.specs.Prelude.{ℤ, ◌==◌, ◌&&◌, if◌then◌else◌, flat_map}
use Rattle.std.specs.List.{list_all}
use Rattle.lin.specs.declared.span.Span1.{Span1}
use Rattle.meaning.specs.Names.{same_name, same_point}
use Rattle.plan.specs.declared.stmt.Places.{Places}
use Rattle.plan.specs.Plan.{Fetch}
use Rattle.plan.specs.Symbols.{Symbols, turns, points, InRegion}
use Rattle.plan.specs.Rooms.{room}
use Rattle.plan.specs.Semantics.Actions.{Setting, Action, Take}
use Rattle.plan.specs.Certificate.Certificate.{Claim}
use Rattle.soundness.specs.Origins.{Given}
use Rattle.soundness.specs.Claims.{In, written, ClearOf, status_after}
use Rattle.soundness.specs.Obligations.{LieIn, Binder, Respects, Rules, Suited}
use Rattle.soundness.specs.Shown.{are_within, are_seated}
use Rattle.soundness.proofs.Folds.{near_apart}
use Rattle.soundness.proofs.Forms.{region_lies, point_lies}
use Rattle.soundness.proofs.Learned.{point_refl}
use Rattle.soundness.proofs.Refines.{eq_refl, eq_true, and_parts, name_true}
use Rattle.soundness.proofs.Shown.{all_seats}
use Rattle.soundness.proofs.Written.{in_append_left, in_append_right}
use Rattle.soundness.specs.Nests.Tests.{has_ends, fold_holds, is_fetched}
use Rattle.soundness.proofs.Coordinates.{in_mapped, turn_has, all_inside}
use Rattle.soundness.proofs.Near.{near_spans}
use Rattle.soundness.proofs.Touched.{touched, status_touched, written_touched}
use Rattle.soundness.proofs.Visits.{visit}

in_turns : {A B : Type 0} (g : A → List B) (y : B) (x : A) (xs : List A) → In x xs → In y (g x) → In y (flat_map g xs)
in_turns g y x [] m n = absurd m
in_turns g y x (w ∷ ws) (inl e) n = in_append_left y (g w) (flat_map g ws) (subst (λ u. In y (g u)) e n)
in_turns g y x (w ∷ ws) (inr m) n = in_append_right y (g w) (flat_map g ws) (in_turns g y x ws m n)

points_have : (s : Symbols) (xs : List Span1) (p : List ℤ) → list_all has_ends xs ≡ true → LieIn s xs p → In p (points s xs)
points_have s [] [] h l = inl refl
points_have s [] (z ∷ zs) h l = absurd l
points_have s (x ∷ xs) [] h l = absurd l
points_have s (x ∷ xs) (z ∷ zs) h l =
    let a = and_parts (has_ends x) (list_all has_ends xs) h in
    in_turns (λ q. map (λ w. w ∷ q) (turns s x)) (z ∷ zs) zs (points s xs) (points_have s xs zs a.1 l.1) (in_mapped (λ w. w ∷ zs) z (turns s x) (turn_has s x z a.0 l.0))

touched_takes : (b c : ℕ) (f : List ℕ) (ps : List (List ℤ)) → (c == b) ≡ true → touched b (map (Take c f) ps) ≡ map (Take c f) ps
touched_takes b c f [] h = refl
touched_takes b c f (p ∷ ps) h = ap (λ v. if v then Take c f p ∷ touched b (map (Take c f) ps) else touched b (map (Take c f) ps)) h ∙ ap (λ xs. Take c f p ∷ xs) (touched_takes b c f ps h)

takes_write : (b : ℕ) (f : List ℕ) (x : List ℤ) (ps : List (List ℤ)) → In x (written b (map (Take b f) ps)) → In x ps
takes_write b f x [] m = m
takes_write b f x (p ∷ ps) m = of (b == b) m (takes_write b f x ps)
  where
    of : (v : Bool) → In x (if v then p ∷ written b (map (Take b f) ps) else written b (map (Take b f) ps)) → (In x (written b (map (Take b f) ps)) → In x ps) → In x (p ∷ ps)
    of true (inl e) rest = inl e
    of true (inr n) rest = inr (rest n)
    of false n rest = inr (rest n)

either_same : (v : Bool) (o : Option ℕ) → (if v then o else o) ≡ o
either_same true o = refl
either_same false o = refl

module _ (given : Given) (b : ℕ) (f : List ℕ) (p : List ℤ) where
  takes_stay : (xs : List (List ℤ)) → status_after given b p (map (Take b f) xs) (Some (given.all_steps f)) ≡ Some (given.all_steps f)
  takes_stay [] = refl
  takes_stay (x ∷ xs) = ap (status_after given b p (map (Take b f) xs)) (either_same ((b == b) && same_point x p) (Some (given.all_steps f))) ∙ takes_stay xs

  takes_make : (xs : List (List ℤ)) (st : Option ℕ) → In p xs → status_after given b p (map (Take b f) xs) st ≡ Some (given.all_steps f)
  takes_make [] st m = absurd m
  takes_make (x ∷ xs) st (inr m) = takes_make xs _ m
  takes_make (x ∷ xs) st (inl e) =
      ap (λ v. status_after given b p (map (Take b f) xs) (if v && same_point x p then Some (given.all_steps f) else st)) (eq_refl b)
      ∙ ap (λ v. status_after given b p (map (Take b f) xs) (if v then Some (given.all_steps f) else st)) (ap (same_point x) e ∙ point_refl x)
      ∙ takes_stay xs

module _ (given : Given) (rules : Rules) (suited : Suited given rules) (bs : List Binder) (s : Symbols) (r : Respects bs s) where
  abbrev S : Setting
  S = given.outline.setting

  pub fetched_made : (claim : Claim) (places : List Places) (c g : ℕ) (region : List Span1) (todo : List Action) → (c == claim.buffer) ≡ true → is_fetched S rules bs claim places [] (Fetch c g region) ≡ true →
      touched claim.buffer todo ≡ visit S claim.buffer (Fetch c g region) s → (p : List ℤ) → InRegion s claim.region p →
      (status_after given claim.buffer p todo None ≡ Some (given.steps claim.function claim.definition)) × ClearOf (Some (map (room s) places)) p (written claim.buffer todo)
  fetched_made claim places c g region todo own h same p inside =
      let b = claim.buffer in
      let f = claim.function in
      let h1 = and_parts (same_name (S.group_function g) f) _ h in
      let h2 = and_parts (claim.definition == rules.last f) _ h1.1 in
      let h3 = and_parts (list_all has_ends region) _ h2.1 in
      let h4 = and_parts (are_within rules bs claim.region region) _ h3.1 in
      let h5 = and_parts (fold_holds rules bs region places) (are_seated rules bs region places) h4.1 in
      let lie = all_inside given rules suited bs s r claim.region region h4.0 p (region_lies s claim.region p inside) in
      let has = points_have s region p h3.0 lie in
      let name : S.group_function g ≡ f = name_true (S.group_function g) f h1.0 in
      let buffer : c ≡ b = eq_true c b own in
      let takes : touched b todo ≡ map (Take b f) (points s region) =
      same ∙ touched_takes b c (S.group_function g) (points s region) own ∙ (λ j. map (Take (buffer j) (name j)) (points s region)) in
      let all : given.all_steps f ≡ given.steps f claim.definition = sym (suited.whole f) ∙ ap (given.steps f) (sym (eq_true claim.definition (rules.last f) h2.0)) in
      let seat = all_seats rules bs s (λ x y k. suited.ordered bs x y s k r) region places h5.1 p lie in (
        status_touched given b p todo None ∙ ap (λ xs. status_after given b p xs None) takes ∙ takes_make given b f p (points s region) None has ∙ ap Some all,
        λ x m e.
            let taken : In x (points s region) = takes_write b f x (points s region) (subst (In x) (written_touched b todo ∙ ap (written b) takes) m) in
            near_apart (map (room s) places) p x (near_spans given rules suited bs s r region places p x h5.0 lie (point_lies s region x taken)) seat e,
      )
