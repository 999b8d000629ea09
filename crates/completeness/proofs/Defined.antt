-- What the nests of whole functions store are the algorithm's definitions, with the calls of unstored functions put in.
use Rattle.std.proofs.Common.{◌≡◌, ℕ, ◌<◌, zero, suc, ◌+◌, Bool, true, false, ◌||◌, List, [], ◌∷◌, ◌++◌, length, ◌^◌}
use Rattle.std.proofs.Common.{map, take, drop, Option, Some, None, refl, sym, ap, ◌∙◌, subst, arith}
use Rattle.std.specs.Prelude.{◌==◌, ◌&&◌, not, pos, if◌then◌else◌, slice_get, MatchOption}
use Rattle.std.specs.List.{AllByRecursion, list_all, list_any}
use Rattle.std.specs.Option.{option_map}
use Rattle.std.proofs.lemmas.List.Elements.{recursion_from_All}
use Rattle.numeric.specs.declared.ty.Ty.{Ty}
use Rattle.numeric.specs.declared.ty.Ty.TheVariants.{I32}
use Rattle.tree.specs.Term.{Term}
use Rattle.tree.specs.Typing.{type_of}
use Rattle.tree.specs.Substitution.{with_calls}
use Rattle.lin.specs.Forms.{Form}
use Rattle.lin.proofs.TermLemmas.{all_weaker}
use Rattle.plan.specs.declared.certificate.cert.Claim.{Claim as CodeClaim}
use Rattle.plan.specs.Plan.{Index, At, Found, Coordinate, Group, Plan}
use Rattle.plan.specs.Certificate.Certificate.{Certificate, claim_of}
use Rattle.meaning.specs.Algorithm.{Range, Change, Function, Algorithm}
use Rattle.meaning.specs.Names.{is_among}
use Rattle.meaning.specs.Conditions.{IsAlgorithm, is_variable, callable, names_in}
use Rattle.meaning.specs.Inlining.Laws.{HasType, KeepsItsSide}
use Rattle.meaning.specs.Inlining.PutIn.{put_in, calls_updates}
use Rattle.meaning.proofs.Back.{update_is}
use Rattle.meaning.proofs.Own.{definition_typed, put_in_keeps_type, sides_keep}
use Rattle.soundness.specs.Given.{outline_of}
use Rattle.soundness.specs.Obligations.{is_form, has_form}
use Rattle.soundness.proofs.Refines.{eq_refl}
use Rattle.sched.specs.declared.skeleton.Known.{Known}
use Rattle.sched.specs.Skeleton.{BodyText, NestText, is_missing, variables_at, ranges_at}
use Rattle.sched.specs.Standing.{◌>>=◌, form_named}
use Rattle.validation.specs.Groups.Wrong.{IsPutIn, IsLeft, AreLeft, IsDefinition}
use Rattle.validation.specs.Stored.Definitions.{parts_of, Step, definition_in, stored_in}
use Rattle.validation.specs.Stored.Stored.{as_read}
use Rattle.sched.specs.Stored.{FormulaText}
use Rattle.blocks.specs.Stored.{put, left_put, lefts_put, pure_put, change_put, changes_put, formulas_put, is_small}
use Rattle.regions.specs.Regions.{missing_from, bodies_from}
use Rattle.sched.specs.Around.{names_with, ranges_of}
use Rattle.sched.specs.Loading.{Loads, as_load}
use Rattle.sched.specs.Bodies.{first_left, other_lefts}
use Rattle.blocks.specs.Bodies.{IsIndex, AreCoordinates, IsStored}
use Rattle.blocks.proofs.Laying.{bound, same}
use Rattle.completeness.specs.Laws.{NamesNoLoad}
use Rattle.completeness.proofs.Standing.{HasShape}
use Rattle.completeness.proofs.ReadBack.{AreClaims, read_back}

-- ---- definitions with the calls put in

pub put_is : (a : Algorithm) (st : List Bool) (d v : Term) → put a st d ≡ Some v → (calls_updates a st d ≡ false) × (put_in a st d ≡ v)
put_is a st d v e = of (calls_updates a st d) (is_small (put_in a st d)) refl e
  where
    of : (b c : Bool) → calls_updates a st d ≡ b → (if not b && c then Some (put_in a st d) else None) ≡ Some v → (calls_updates a st d ≡ false) × (put_in a st d ≡ v)
    of false true t q = (t, same (put_in a st d) v q)
    of false false t q = absurd (cc q)
    of true c t q = absurd (cc q)

-- the pure definition, and that of an update
pub first_put : (a : Algorithm) (st : List Bool) (xs : List (List ℕ)) (e : Term) (us : List Change) (fs : List FormulaText) (f : FormulaText) → formulas_put a st xs e us ≡ Some fs →
    slice_get fs 0 ≡ Some f → pure_put a st xs e ≡ Some f
first_put a st xs e us fs f h at =
    let b = bound (pure_put a st xs e) (λ f. changes_put a st xs us >>= λ fs. Some (f ∷ fs)) fs h in
    let c = bound (changes_put a st xs us) (λ fs. Some (b.value ∷ fs)) fs b.comes in
    b.is ∙ ap (λ (gs : List FormulaText). slice_get gs 0) (same (b.value ∷ c.value) fs c.comes) ∙ at

pub record IsUpdatePut (a : Algorithm) (st : List Bool) (xs : List (List ℕ)) (us : List Change) (i : ℕ) (f : FormulaText) : Type 0 where
  pub change : Change
  pub at : slice_get us i ≡ Some change
  pub is : change_put a st xs change ≡ Some f

changes_at : (a : Algorithm) (st : List Bool) (xs : List (List ℕ)) (us : List Change) (fs : List FormulaText) (i : ℕ) (f : FormulaText) → changes_put a st xs us ≡ Some fs → slice_get fs i ≡ Some f →
    IsUpdatePut a st xs us i f
changes_at a st xs [] fs i f h at = absurd (no (ap (λ (gs : List FormulaText). slice_get gs i) (same [] fs h) ∙ at))
  where
    no : None ≡ Some f → ⊥
    no q = cc
changes_at a st xs (u ∷ us) fs i f h at =
    let b = bound (change_put a st xs u) (λ f. changes_put a st xs us >>= λ fs. Some (f ∷ fs)) fs h in
    let c = bound (changes_put a st xs us) (λ fs. Some (b.value ∷ fs)) fs b.comes in
    of b.value b.is c.value i (ap (λ (gs : List FormulaText). slice_get gs i) (same (b.value ∷ c.value) fs c.comes) ∙ at) (λ j q. changes_at a st xs us c.value j f c.is q)
  where
    of : (g : FormulaText) → change_put a st xs u ≡ Some g → (gs : List FormulaText) (i : ℕ) → slice_get (g ∷ gs) i ≡ Some f → ((j : ℕ) → slice_get gs j ≡ Some f → IsUpdatePut a st xs us j f) →
        IsUpdatePut a st xs (u ∷ us) i f
    of g is gs zero q rest = record { change = u; at = refl; is = is ∙ ap (λ (y : FormulaText). Some y) (same g f q) }
    of g is gs (suc j) q rest = let w = rest j q in record { change = w.change; at = w.at; is = w.is }

pub other_put : (a : Algorithm) (st : List Bool) (xs : List (List ℕ)) (e : Term) (us : List Change) (fs : List FormulaText) (i : ℕ) (f : FormulaText) → formulas_put a st xs e us ≡ Some fs →
    slice_get fs (suc i) ≡ Some f → IsUpdatePut a st xs us i f
other_put a st xs e us fs i f h at =
    let b = bound (pure_put a st xs e) (λ f. changes_put a st xs us >>= λ fs. Some (f ∷ fs)) fs h in
    let c = bound (changes_put a st xs us) (λ fs. Some (b.value ∷ fs)) fs b.comes in
    changes_at a st xs us c.value i f c.is (ap (λ (gs : List FormulaText). slice_get gs (suc i)) (same (b.value ∷ c.value) fs c.comes) ∙ at)

-- a dimension is missed where the left index is not the variable
pub missing_at : (os : List (Option Term)) (d j : ℕ) (e : Term) → slice_get os j ≡ Some (Some e) → list_any (λ x. x == d + j) (missing_from d os) ≡ true
missing_at [] d j e q = absurd (cc q)
missing_at (None ∷ os) d zero e q = absurd (cc q)
missing_at (None ∷ os) d (suc j) e q = (let next : (d + 1) + j ≡ d + suc j = omega arith in ap (λ (m : ℕ). list_any (λ x. x == m) (missing_from (d + 1) os)) (sym next) ∙ missing_at os (d + 1) j e q)
missing_at (Some v ∷ os) d zero e q =
    let none : d ≡ d + 0 = omega arith in
    let here : (d == d + 0) ≡ true = ap (λ (m : ℕ). d == m) (sym none) ∙ eq_refl d in
    ap (λ (b : Bool). b || list_any (λ x. x == d + 0) (missing_from (d + 1) os)) here
missing_at (Some v ∷ os) d (suc j) e q =
    let next : (d + 1) + j ≡ d + suc j = omega arith in
    of (d == d + suc j) (ap (λ (m : ℕ). list_any (λ x. x == m) (missing_from (d + 1) os)) (sym next) ∙ missing_at os (d + 1) j e q)
  where
    of : (b : Bool) → list_any (λ x. x == d + suc j) (missing_from (d + 1) os) ≡ true → (b || list_any (λ x. x == d + suc j) (missing_from (d + 1) os)) ≡ true
    of true h = refl
    of false h = h

pub record HasMissing (us : List Change) (d : ℕ) (fs : List FormulaText) (j : ℕ) (b : BodyText) : Type 0 where
  pub formula : FormulaText
  pub at : slice_get fs j ≡ Some formula
  pub missing : b.missing ≡ missing_from 0 formula.at

pub body_missing : (us : List Change) (d : ℕ) (xs : List (List ℕ)) (fs : List FormulaText) (j : ℕ) (b : BodyText) → slice_get (bodies_from us d xs fs) j ≡ Some b → HasMissing us d fs j b
body_missing us d xs [] j b e = absurd (cc e)
body_missing us d xs (f ∷ fs) zero b e = record { formula = f; at = refl; missing = ap (λ (y : BodyText). y.missing) (sym (same _ b e)) }
body_missing us d xs (f ∷ fs) (suc j) b e =
    let w = body_missing us (d + 1) (drop (length (ranges_of us d)) xs) fs j b e in record { formula = w.formula; at = w.at; missing = w.missing }

-- ---- coordinates

module _ (ms : Loads) where
  index_form : (o : Option Form) (left : Option Term) (i : Index) → left ≡ None → IsIndex ms o left i → has_form i ≡ true
  index_form (Some f) left (At g) e h = refl
  index_form (Some f) left (Found t) e h = absurd h
  index_form None left (At g) e h = absurd h
  index_form None None (Found t) e h = absurd h
  index_form None (Some v) (Found t) e h = absurd (cc e)

  first_none : (lefts : List (Option Term)) → AllByRecursion (λ o. o ≡ None) lefts → first_left lefts ≡ None
  first_none [] h = refl
  first_none (o ∷ lefts) h = h.0

  others_none : (lefts : List (Option Term)) → AllByRecursion (λ o. o ≡ None) lefts → AllByRecursion (λ o. o ≡ None) (other_lefts lefts)
  others_none [] h = tt
  others_none (o ∷ lefts) h = h.1

  forms_at : (xs : List (List ℕ)) (os : List (Option Form)) (lefts : List (Option Term)) (cs : List Coordinate) → AllByRecursion (λ o. o ≡ None) lefts → AreCoordinates ms xs os lefts cs →
      list_all is_form cs ≡ true
  forms_at xs [] lefts [] none h = refl
  forms_at xs [] lefts (c ∷ cs) none h = absurd h
  forms_at [] (o ∷ os) lefts cs none h = absurd h
  forms_at (x ∷ xs) (o ∷ os) lefts [] none h = absurd h
  forms_at (x ∷ xs) (o ∷ os) lefts (c ∷ cs) none h =
      ap (λ (b : Bool). b && list_all is_form cs) (index_form o (first_left lefts) c.index (first_none lefts none) h.1) ∙ forms_at xs os (other_lefts lefts) cs (others_none lefts none) h.2

abbrev no_left : List ℕ → Option Term
no_left x = None

all_none : (xs : List (List ℕ)) → AllByRecursion (λ (o : Option Term). o ≡ None) (map no_left xs)
all_none [] = tt
all_none (x ∷ xs) = (refl, all_none xs)

-- ---- stores

module _ (a : Algorithm) (well : IsAlgorithm a) (free : NamesNoLoad a) (p : Plan) (c : Certificate) (n : ℕ) (g : Group) (input : p.input.name ≡ a.input) (items : List CodeClaim)
    (are : c.claims ≡ map claim_of items) (few : length items < 2 ^ 64) (st : List Bool) (marks : stored_in a p ≡ st) (ms : Loads) (loads : AreClaims items ms) where
  abbrev Typed : Term → Type 0
  Typed d = (known : List ℕ → Bool) × (t : Ty) × HasType a known t d

  put_so : (d v e : Term) → Typed d → put a st d ≡ Some v → e ≡ with_calls (as_load ms) v → IsPutIn a p (outline_of p c n g) d e
  put_so d v e typed h is =
      let k = put_is a st d v h in
      let of_type : type_of typed.0 (callable a a.functions) v ≡ Some typed.1 = ap (type_of typed.0 (callable a a.functions)) (sym k.1) ∙ put_in_keeps_type a well st typed.0 typed.1 d typed.2 in
      record {
        plain = ap (λ (m : List Bool). calls_updates a m d) marks ∙ k.0;
        same = ap (as_read (outline_of p c n g)) is ∙ read_back a free p c n g input items are few ms loads typed.0 typed.1 v of_type ∙ sym k.1 ∙ ap (λ (m : List Bool). put_in a m d) (sym marks);
      }

  left_so : (x : List ℕ) (e : Term) (o : Option Form) (left : Option Term) (i : Index) → Typed e → left_put a st x e ≡ Some left → ((v : Term) → left ≡ Some v → o ≡ None) → IsIndex ms o left i →
      IsLeft a p (outline_of p c n g) x e i
  left_so x e o left i typed h gone index = of (is_variable x e) refl h
    where
      variable : (o : Option Form) (left : Option Term) (i : Index) → is_variable x e ≡ true → left ≡ None → IsIndex ms o left i → IsLeft a p (outline_of p c n g) x e i
      variable (Some f) left (At q) t none k = t
      variable (Some f) left (Found d) t none k = absurd k
      variable None left (At q) t none k = absurd k
      variable None None (Found d) t none k = absurd k
      variable None (Some v) (Found d) t none k = absurd (cc none)

      found : (v : Term) (o : Option Form) (i : Index) → is_variable x e ≡ false → put a st e ≡ Some v → o ≡ None → IsIndex ms o (Some v) i → IsLeft a p (outline_of p c n g) x e i
      found v (Some f) i t made none k = absurd (cc none)
      found v None (At q) t made none k = absurd k
      found v None (Found d) t made none k = (t, put_so e v d typed made k)

      of : (b : Bool) → is_variable x e ≡ b → (if b then Some None else (put a st e >>= λ i. Some (Some i))) ≡ Some left → IsLeft a p (outline_of p c n g) x e i
      of true t q = variable o left i t (sym (same None left q)) index
      of false t q =
          let b = bound (put a st e) (λ i. Some (Some i)) left q in
          let is : Some b.value ≡ left = same (Some b.value) left b.comes in
          found b.value o i t b.is (gone b.value (sym is)) (subst (λ (y : Option Term). IsIndex ms o y i) (sym is) index)

  lefts_so : (b : BodyText) (ks : List Known) (names : List (List ℕ)) (os : List (Option Form)) (d : ℕ) (xs : List (List ℕ)) (es : List Term) (lefts : List (Option Term)) (cs : List Coordinate) →
      ((j : ℕ) (v : Term) → slice_get lefts j ≡ Some (Some v) → is_missing b (d + j) ≡ true) → lefts_put a st xs es ≡ Some lefts → length es ≡ length xs → AllByRecursion Typed es →
      AreCoordinates ms (xs ++ names) (variables_at b d xs ks ++ os) lefts cs →
      AreLeft a p (outline_of p c n g) xs es (take (length xs) cs) × (list_all is_form (drop (length xs) cs) ≡ true)
  lefts_so b ks names os d [] [] lefts cs gone h long typed k =
      (tt, forms_at ms names os lefts cs (subst (AllByRecursion (λ o. o ≡ None)) (same [] lefts h) tt) k)
  lefts_so b ks names os d [] (e ∷ es) lefts cs gone h long typed k = absurd (omega (arith, long))
  lefts_so b ks names os d (x ∷ xs) [] lefts cs gone h long typed k = absurd (omega (arith, long))
  lefts_so b ks names os d (x ∷ xs) (e ∷ es) lefts cs gone h long typed k =
      let m = bound (left_put a st x e) (λ o. lefts_put a st xs es >>= λ os. Some (o ∷ os)) lefts h in
      let r = bound (lefts_put a st xs es) (λ os. Some (m.value ∷ os)) lefts m.comes in
      let is : m.value ∷ r.value ≡ lefts = same (m.value ∷ r.value) lefts r.comes in
      let gone_here = subst (λ (ys : List (Option Term)). (j : ℕ) (v : Term) → slice_get ys j ≡ Some (Some v) → is_missing b (d + j) ≡ true) (sym is) gone in
      let here = subst (λ (ys : List (Option Term)). AreCoordinates ms ((x ∷ xs) ++ names) (variables_at b d (x ∷ xs) ks ++ os) ys cs) (sym is) k in
      of m.value r.value m.is gone_here cs here
      (λ ds q. lefts_so b ks names os (d + 1) xs es r.value ds
      (λ j v w. let next : d + suc j ≡ (d + 1) + j = omega arith in ap (is_missing b) (sym next) ∙ gone_here (suc j) v w) r.is (omega (arith, long)) typed.1 q)
    where
      first : (left : Option Term) (rest : List (Option Term)) → ((j : ℕ) (v : Term) → slice_get (left ∷ rest) j ≡ Some (Some v) → is_missing b (d + j) ≡ true) → (v : Term) → left ≡ Some v →
          (if is_missing b d then None else form_named ks x) ≡ None
      first left rest gone v e =
          let none : d + 0 ≡ d = omega arith in
          ap (λ (t : Bool). if t then None else form_named ks x) (ap (is_missing b) (sym none) ∙ gone 0 v (ap (λ (o : Option Term). Some o) e))

      of : (left : Option Term) (rest : List (Option Term)) → left_put a st x e ≡ Some left → ((j : ℕ) (v : Term) → slice_get (left ∷ rest) j ≡ Some (Some v) → is_missing b (d + j) ≡ true) →
          (cs : List Coordinate) → AreCoordinates ms ((x ∷ xs) ++ names) (variables_at b d (x ∷ xs) ks ++ os) (left ∷ rest) cs →
          ((ds : List Coordinate) → AreCoordinates ms (xs ++ names) (variables_at b (d + 1) xs ks ++ os) rest ds →
          AreLeft a p (outline_of p c n g) xs es (take (length xs) ds) × (list_all is_form (drop (length xs) ds) ≡ true)) →
          AreLeft a p (outline_of p c n g) (x ∷ xs) (e ∷ es) (take (suc (length xs)) cs) × (list_all is_form (drop (suc (length xs)) cs) ≡ true)
      of left rest made gone [] k more = absurd k
      of left rest made gone (y ∷ ds) k more =
          let w = more ds k.2 in
          ((left_so x e (if is_missing b d then None else form_named ks x) left y.index typed.0 made (first left rest gone) k.1, w.0), w.1)

  -- ---- a nest's store

  module _ (place : ℕ) (f : Function) (at : slice_get a.functions place ≡ Some f) (fs : List FormulaText) (defined : formulas_put a st f.variables f.value f.changes ≡ Some fs)
      (names : List (List ℕ)) where
    pub of_definition : (d : ℕ) (w : NestText) → HasShape f.variables (bodies_from f.changes 0 names fs) d w → (cs : List Coordinate) (e : Term) (u : FormulaText) → slice_get fs d ≡ Some u →
        IsStored ms (names_with f.variables f.changes d) w cs e u → MatchOption (definition_in (Some (parts_of f)) d) ⊥ (λ q. IsDefinition a p (outline_of p c n g) q cs e)
    of_definition zero w shape cs e u there h =
        let first = first_put a st f.variables f.value f.changes fs u defined there in
        let b = bound (put a st f.value) (λ v. Some (record { at = map (λ x. None) f.variables; value = v })) u first in
        let is = same (record { at = map (λ x. None) f.variables; value = b.value }) u b.comes in
        let none : AllByRecursion (λ o. o ≡ None) u.at = subst (λ (y : FormulaText). AllByRecursion (λ o. o ≡ None) y.at) is (all_none f.variables) in (
          forms_at ms (names_with f.variables f.changes 0) w.at u.at cs none h.at,
          put_so f.value b.value e (is_among f.variables, f.ty, definition_typed a well place f at) b.is (h.value ∙ ap (λ (y : FormulaText). with_calls (as_load ms) y.value) (sym is)),
        )
    of_definition (suc i) w shape cs e u there h =
        let o = other_put a st f.variables f.value f.changes fs i u defined there in
        let y = o.change in
        let m = bound (lefts_put a st f.variables y.at) (λ at. put a st y.value >>= λ v. Some (record { at = at; value = v })) u o.is in
        let r = bound (put a st y.value) (λ v. Some (record { at = m.value; value = v })) u m.comes in
        let is = same (record { at = m.value; value = r.value }) u r.comes in
        let sides = sides_keep a [] well place f at (λ q. pos 0) st i y o.at in
        let right : Typed y.value = (is_among (names_in f y), f.ty, sides.right.has_type) in
        let lefts : AllByRecursion Typed y.at =
        all_weaker (KeepsItsSide a st _ (names_in f y) I32) Typed (λ t k. (is_among (names_in f y), I32, k.has_type)) y.at (recursion_from_All _ y.at sides.left) in
        let q = body_missing f.changes 0 names fs (suc i) shape.body shape.at in
        let formula : q.formula ≡ u = same q.formula u (sym q.at ∙ there) in
        let missing : shape.body.missing ≡ missing_from 0 m.value = q.missing ∙ ap (λ (z : FormulaText). missing_from 0 z.at) (formula ∙ sym is) in
        let gone : (j : ℕ) (v : Term) → slice_get m.value j ≡ Some (Some v) → is_missing shape.body (0 + j) ≡ true =
        λ j v k. ap (λ (l : List ℕ). list_any (λ x. x == 0 + j) l) missing ∙ missing_at m.value 0 j v k in
        let long : length y.at ≡ length f.variables = (update_is a place f well at i y o.at).places in
        let ranges : ranges_of f.changes (suc i) ≡ y.ranges = ap (λ (z : Option Change). elim z [ Some u ↦ u.ranges | None ↦ [] ]) o.at in
        let one = subst (λ (rs : List Range). AreCoordinates ms (f.variables ++ map (λ (d : Range). d.variable) rs) w.at u.at cs) ranges h.at in
        let two = subst (λ (z : NestText). AreCoordinates ms (f.variables ++ map (λ (d : Range). d.variable) y.ranges) z.at u.at cs) shape.is one in
        let three = subst (λ (z : FormulaText). AreCoordinates ms (f.variables ++ map (λ (d : Range). d.variable) y.ranges)
        (variables_at shape.body 0 f.variables shape.standing.known ++ ranges_at shape.body.ranges shape.standing.known) z.at cs) (sym is) two in
        let left = lefts_so shape.body shape.standing.known (map (λ (d : Range). d.variable) y.ranges) (ranges_at shape.body.ranges shape.standing.known) 0 f.variables y.at
        m.value cs gone m.is long lefts three in
        subst (λ (z : Option Change). MatchOption (option_map (Step (parts_of f)) z) ⊥ (λ q. IsDefinition a p (outline_of p c n g) q cs e)) (sym o.at)
        (left.0, (left.1, put_so y.value r.value e right r.is (h.value ∙ ap (λ (z : FormulaText). with_calls (as_load ms) z.value) (sym is))))
